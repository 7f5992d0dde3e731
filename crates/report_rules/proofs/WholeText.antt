-- The report is one of four texts, to the last byte; 10 is given exactly where flights stand and none has levels.
-- Assumes nothing.
use mathlib.Core.{Path.◌≡◌, Path.refl, Path.sym, Path.ap, Path.subst, Path.◌∙◌, Bool.cond, Bool.◌&&◌}
use mathlib.Core.{Logic.◌⊎◌, Logic.⊎_elim, List.List, List.[], List.◌∷◌, List.◌++◌, List.append_assoc}
use Prim.Native.Nat.{ℕ, zero, suc, ◌+◌, ◌≤◌, ◌<◌}
use native.Mathlib.Omega.{arith}
use lib.{Dec.leb, ListN.length, ListN.get_or}
use borrow.Author.Tests.{leb-true}
use Rattle.refusal.specs.Range.{all_within}
use Rattle.refusal.proofs.Laws.{and_left, and_right}
use Rattle.movement.specs.Limits.{max_days, max_limit}
use Rattle.text.specs.Sheet.{ended, refused_text}
use Rattle.text.specs.{Line.lines_of, Field.count_of, Field.joined_by, Index.listing, Number.shown, Number.show_number}
use Rattle.text.specs.Spelled.{bytes}
use Rattle.std.specs.Prelude.{Option, Some, None}
use Rattle.text.proofs.{Digits.either, Fields.join_count_all, Indices.length_listing}
use Rattle.book_rules.specs.Columns.{Book}
use Rattle.book_rules.specs.History.{Held, Movement, has_levels, Made, empty_book, booked}
use Rattle.book_rules.specs.History.Held.{none, holds}
use Rattle.load_rules.specs.Load.{book_load}
use Rattle.load_rules.specs.Refusals.{InRange, DaysInRange, NoneHeld, NoneComputed, LoadNumbers}
use Rattle.load_rules.specs.Afresh.{load_after}
use Rattle.load_rules.proofs.CountedOnce.{counted_once}
use Rattle.register.specs.{Cell.cells_of, Row.eight_from, Header.header_of, Header.limits_header}
use Rattle.register.specs.declared.cell.Table.TheVariants as table
use Rattle.register.specs.LimitsFile.{LimitsFile}
use Rattle.register.specs.LimitsFile.{judged_limits, second_limits, headed_limits, limits_of}
use Rattle.report_steps.specs.Booking.{register_calls}
use Rattle.report_steps.proofs.Bookings.{register_booked}
use Rattle.report_text.specs.Text.{header_line, point_fields, point_line, points_text}
use Rattle.report_text.specs.Text.{book_refusal, book_text}
use Rattle.report_text.proofs.Judging.{none_judged, one_refused, all_answered}
use Rattle.report_rules.specs.Report.{book_rows, report_of}
use Rattle.report_rules.specs.Flights.{how_many, computed, book_in, standing_in}
use Rattle.report_rules.specs.WholeText.{crlf, refusal_bytes, read_in, flights, Whole, WholeText}
use Rattle.report_rules.proofs.Answers.{reading_refused, reading_reported, register_text_lem, report_refused}
use Rattle.report_rules.proofs.{Answers.report_accepted, LimitsFits.limits_fit_lem, AllCount.all_count}
use Rattle.report_rules.proofs.{Printed.fields_free, Printed.listing_at, Flights.all_stand_lem}
use Rattle.report_rules.proofs.Says.{book_points, points_lines, report_says}

-- Texts

refusal_bytes_lem : (number n : ℕ) → refused_text number n ≡ refusal_bytes number n
unfolding refused_text ended joined_by
refusal_bytes_lem number n = ap (λ (t : List ℕ). bytes "refused," ++ t)
    (append_assoc (show_number number) (44 ∷ show_number n) crlf)

ten_bytes : refusal_bytes 10 0 ≡ bytes "refused,10,0" ++ crlf
unfolding shown
ten_bytes = refl

-- lines end in CRLF, the last one too
pub record Ended (text : List ℕ) : Type 0 where
  pub before : List ℕ
  pub is : text ≡ before ++ crlf

pub last_ended : (l : List ℕ) (ls : List (List ℕ)) → Ended (ended (l ∷ ls))
unfolding ended
last_ended l [] = record { before = l; is = refl }
last_ended l (m ∷ ls) =
    let r = last_ended m ls in
    record {
      before = l ++ (crlf ++ r.before);
      is = ap (λ (t : List ℕ). l ++ (crlf ++ t)) r.is ∙ sym (append_assoc l (crlf ++ r.before) crlf);
    }

-- the days of limits.csv that is accepted

judged_days : (n : ℕ) (v : List ℕ) → (judged_limits n v).refusal ≡ 0 → DaysInRange (judged_limits n v).days
unfolding judged_limits
judged_days n v z =
    let least = leb 1 (get_or v 0 0) in
    let most = leb (get_or v 0 0) max_days in
    either (least && most)
    (λ fit. either (all_within max_limit (eight_from 1 v))
    (λ low. rw (fit, low) (
      leb-true 1 (get_or v 0 0) (and_left least most fit),
      leb-true (get_or v 0 0) 366 (and_right least most fit),
    ))
    (λ high. absurd (omega (arith, rw (fit, high) at z))))
    (λ off. absurd (omega (arith, rw off at z)))

headed_days : (r : Option ℕ) (second : List ℕ) (lines : ℕ) → (headed_limits r second lines).refusal ≡ 0
    → DaysInRange (headed_limits r second lines).days
unfolding second_limits
headed_days None second lines z = absurd (omega arith)
headed_days (Some n) second lines z =
    either (cells_of table.LimitsFile (1 + n) second).read
    (λ on. either (leb lines 2)
    (λ two. rw (on, two) (judged_days n (cells_of table.LimitsFile (1 + n) second).values (rw (on, two) at z)))
    (λ more. absurd (omega (arith, rw (on, more) at z))))
    (λ off. absurd (omega (arith, rw off at z)))

limits_days : (s : List ℕ) → (limits_of s).refusal ≡ 0 → DaysInRange (limits_of s).days
unfolding limits_of
limits_days s z = headed_days (header_of limits_header 4 (get_or (lines_of s) 0 [])) (get_or (lines_of s) 1 [])
    (length (lines_of s)) z

-- movements without levels

held_none : (h : Held) → ◌≡◌ {A = ℕ} (cond (has_levels h) 1 0) 0 → h ≡ none
unfolding has_levels
held_none none e = refl
held_none (holds ls) e = absurd (omega arith)

none_held : (ms : List Movement) → how_many computed ms ≡ 0 → NoneHeld ms
unfolding how_many
none_held [] z i h = absurd (omega arith)
none_held (m ∷ ms) z zero h = held_none m.held (omega arith)
none_held (m ∷ ms) z (suc i) h = none_held ms (omega arith) i (omega arith)

bare_none : (h : Held) → h ≡ none → ◌≡◌ {A = ℕ} (cond (has_levels h) 1 0) 0
unfolding has_levels
bare_none h e = rw e refl

held_many : (ms : List Movement) → NoneHeld ms → how_many computed ms ≡ 0
unfolding how_many
held_many [] h = refl
held_many (m ∷ ms) h = omega (
  arith,
  bare_none m.held (h 0 (omega arith)),
  held_many ms (λ i l. h (suc i) (omega arith)),
)

-- limits.csv and register are accepted
module _ (limits register : List ℕ) (fine : (limits_of limits).refusal ≡ 0)
    (accepted : (read_in limits register).refusal ≡ 0) where
  abbrev l : LimitsFile
  l = limits_of limits

  abbrev p : ℕ
  p = (limits_of limits).points

  abbrev b : Book
  b = book_in (limits_of limits).points register

  abbrev cs : List Made
  cs = register_calls (limits_of limits).points (empty_book (limits_of limits).points book_rows) register

  made : b ≡ booked (empty_book p book_rows) cs
  made = register_booked p (empty_book p book_rows) register

  -- at each point all flights count, so that its refusal is that of the whole book
  numbers : (point : ℕ) → point < p
      → LoadNumbers (InRange p book_rows point) (DaysInRange l.days) (NoneComputed (standing_in p register))
      (book_load p point b l.days).refused
  numbers point h =
      subst (λ (k : Book). LoadNumbers (InRange p book_rows point) (DaysInRange l.days)
      (NoneComputed (standing_in p register)) (book_load p point k l.days).refused) (sym made)
      (subst (λ (ms : List Movement). LoadNumbers (InRange p book_rows point) (DaysInRange l.days)
      (NoneComputed ms) (load_after p book_rows point cs l.days).refused) ((all_count p register).all point h)
      (counted_once p point book_rows cs l.days).refusals)

  in_range_rule : (point : ℕ) → point < p → InRange p book_rows point
  in_range_rule point h =
      let fit = limits_fit_lem limits fine in
      record { points = (fit.some, fit.few); rows = (omega arith, omega arith); there = h }

  ten_given : 1 ≤ length (flights limits register) → how_many computed (flights limits register) ≡ 0
      → book_refusal l b ≡ 10
  ten_given some z =
      let stand = all_stand_lem p register accepted in
      let first : 0 < p = omega (arith, (limits_fit_lem limits fine).some) in
      let ten : (book_load p 0 b l.days).refused ≡ 10 =
      (numbers 0 first).ten.1 (
        in_range_rule 0 first,
        (
          limits_days limits fine,
          record {
            stand = omega (arith, stand.count);
            none_held = none_held (standing_in p register) (stand.each computed ∙ z);
          },
        ),
      ) in
      one_refused p l.days b 0 p (none_judged p l.days b) (λ e. absurd (omega (arith, ten, e))) first ∙ ten

  none_given_rule : (length (flights limits register) ≡ 0) ⊎ (1 ≤ how_many computed (flights limits register))
      → book_refusal l b ≡ 0
  none_given_rule either_way =
      let stand = all_stand_lem p register accepted in
      all_answered p l.days b p
      (λ point h. (numbers point h).answered.1 (
        in_range_rule point h,
        (
          limits_days limits fine,
          λ n. ⊎_elim
              (λ z. absurd (omega (arith, n.stand, stand.count)))
              (λ some. absurd (omega (arith, held_many (standing_in p register) n.none_held, stand.each computed)))
              either_way,
        ),
      ))

  book_text_rule : report_of limits register ≡ book_text l b
  book_text_rule =
      report_accepted book_text limits register fine
      ∙ sym (register_text_lem book_text l register (read_in limits register) refl)
      ∙ reading_reported book_text l (read_in limits register) accepted

  ten_text : book_refusal l b ≡ 10 → book_text l b ≡ refused_text 10 0
  unfolding book_text
  ten_text e = rw e refl

  pub ten_whole : 1 ≤ length (flights limits register) → how_many computed (flights limits register) ≡ 0
      → report_of limits register ≡ bytes "refused,10,0" ++ crlf
  ten_whole some z = book_text_rule ∙ ten_text (ten_given some z) ∙ refusal_bytes_lem 10 0 ∙ ten_bytes

  points_text_rule : book_refusal l b ≡ 0 → report_of limits register ≡ ended (header_line ∷ listing (point_line l b) p)
  unfolding points_text
  points_text_rule z = book_text_rule ∙ book_points l b z

  points_are : book_refusal l b ≡ 0 → lines_of (report_of limits register) ≡ header_line ∷ listing (point_line l b) p
  points_are z = ap lines_of (book_text_rule ∙ book_points l b z) ∙ points_lines l b

  six_fields : (point : ℕ) → count_of 44 (point_line l b point) ≡ 5
  unfolding point_line
  six_fields point =
      let load = book_load p point b l.days in
      let limit = get_or l.limits point 0 in
      omega (
        arith,
        join_count_all 44 (point_fields point limit load) (fields_free 44 (omega arith) point limit load)
            (omega arith),
      )

  pub points_whole : book_refusal l b ≡ 0 → Whole p (report_of limits register)
  points_whole z =
      let last = last_ended header_line (listing (point_line l b) p) in
      record {
        lines = ap length (points_are z) ∙ omega (arith, length_listing (point_line l b) p);
        six = λ point h. ap (λ (ls : List (List ℕ)). count_of 44 (get_or ls (suc point) [])) (points_are z)
            ∙ ap (count_of 44) (listing_at (point_line l b) [] p point h) ∙ six_fields point;
        before = last.before;
        ended = points_text_rule z ∙ last.is;
      }

pub whole_text : (limits register : List ℕ) → WholeText limits register
whole_text limits register =
    let l = limits_of limits in
    let s = read_in limits register in
    record {
      by_limits = λ ne. report_refused book_text limits register ne ∙ refusal_bytes_lem l.refusal l.line;
      by_register = λ fine ne. report_accepted book_text limits register fine
          ∙ sym (register_text_lem book_text l register s refl)
          ∙ reading_refused book_text l s ne ∙ refusal_bytes_lem s.refusal s.line;
      ten = λ fine accepted some z. ten_whole limits register fine accepted some z;
      points = λ fine accepted either_way.
          let z = none_given_rule limits register fine accepted either_way in
          (report_says limits register fine accepted z, points_whole limits register fine accepted z);
    }
