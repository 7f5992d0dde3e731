-- No flight drops out of the report: what it prints at each point, read back from its bytes, is what its register has.
-- Assumes nothing.
use mathlib.Core.{Path.◌≡◌, Path.refl, Path.sym, Path.ap, Path.subst, Path.◌∙◌, Bool.not}
use mathlib.Core.List.{List, [], ◌∷◌}
use Prim.Native.Nat.{ℕ, zero, suc, ◌≤◌, ◌<◌}
use native.Mathlib.Omega.{arith}
use lib.ListN.{length, get_or}
use borrow.Author.Tests.{lt-ltb, le-ltb}
use Rattle.level.specs.declared.Level.{Level}
use Rattle.level.specs.declared.Level.TheVariants.{BelowZero, At}
use Rattle.level.specs.Level.{level_given, level_value, verdict_of}
use Rattle.book_rules.specs.{Columns.Book, History.Movement, History.Made, History.empty_book, History.booked}
use Rattle.load_rules.specs.{Load.book_load, Afresh.CountsEach, Afresh.load_after}
use Rattle.load_rules.proofs.CountedOnce.{counted_once}
use Rattle.text.specs.{Line.lines_of, Field.count_of, Field.field_of, Index.listing, Number.show_number}
use Rattle.text.specs.{Number.show_level}
use Rattle.text.specs.Spelled.{bytes}
use Rattle.text.proofs.{Fields.Free, Indices.length_listing}
use Rattle.register.specs.LimitsFile.{LimitsFile}
use Rattle.register.specs.LimitsFile.{limits_of}
use Rattle.report_steps.specs.{Reading.registered, Booking.register_calls}
use Rattle.report_steps.proofs.Bookings.{register_booked}
use Rattle.report_text.specs.Text.{header_line, level_text, verdict_text, point_fields, point_line}
use Rattle.report_text.specs.Text.{points_text, book_refusal, book_text}
use Rattle.report_text.specs.Totals as totals
use Rattle.report_text.proofs.Judging.{point_answered}
use Rattle.report_rules.specs.Report.{book_rows, report_of}
use Rattle.report_rules.specs.Flights.{rows_in, flights_in, how_many, computed, book_in, standing_in, printed}
use Rattle.report_rules.specs.Flights.{level_at, ReportSays}
use Rattle.report_rules.proofs.Answers.{reading_reported, register_text_lem, report_accepted}
use Rattle.report_rules.proofs.{Flights.all_stand_lem, AllCount.all_count}
use Rattle.text.proofs.Sheets.{lines_ended}
use Rattle.report_rules.proofs.Printed.{header_unbroken, field_at, line_unbroken, listing_at}
use Rattle.report_rules.proofs.Counting.{computed_printed, missing_printed, both}

-- where nothing is refused, the text is the header and a line for each point
pub book_points : (l : LimitsFile) (b : Book) → book_refusal l b ≡ 0 → book_text l b ≡ points_text l b
unfolding book_text
book_points l b z = rw z refl

-- the lines of that text
points_free : (l : LimitsFile) (b : Book) → Free 13 (header_line ∷ listing (point_line l b) l.points)
unfolding point_line
points_free l b zero h = header_unbroken
points_free l b (suc i) h =
    let less : i < l.points = omega (arith, length_listing (point_line l b) l.points) in
    ap (count_of 13) (listing_at (point_line l b) [] l.points i less)
    ∙ line_unbroken i (get_or l.limits i 0) (book_load l.points i b l.days)

pub points_lines : (l : LimitsFile) (b : Book)
    → lines_of (points_text l b) ≡ header_line ∷ listing (point_line l b) l.points
unfolding points_text
points_lines l b = lines_ended (header_line ∷ listing (point_line l b) l.points) (points_free l b)

-- a level and a verdict in words
text_given : (x : Level) → level_given x ≡ 1 → level_text x ≡ show_level (level_value x)
text_given BelowZero e = absurd (omega arith)
text_given (At n) e = refl

text_below : (x : Level) → level_given x ≡ 0 → level_text x ≡ bytes "below"
text_below BelowZero e = refl
text_below (At n) e = absurd (omega arith)

text_over : (x : Level) (limit : ℕ) → level_given x ≡ 1 → limit < level_value x
    → verdict_text (verdict_of x limit) ≡ bytes "over"
text_over BelowZero limit e m = absurd (omega arith)
text_over (At n) limit e m = rw (lt-ltb limit n m) refl

text_within : (x : Level) (limit : ℕ) → level_value x ≤ limit
    → verdict_text (verdict_of x limit) ≡ bytes "within"
text_within BelowZero limit m = refl
text_within (At n) limit m = rw (le-ltb limit n m) refl

text_none : (x : Level) (limit : ℕ) → level_given x ≡ 0 → verdict_text (verdict_of x limit) ≡ bytes "within"
text_none BelowZero limit e = refl
text_none (At n) limit e = absurd (omega arith)

module _ (limits register : List ℕ) (fine : (limits_of limits).refusal ≡ 0)
    (accepted : (registered (limits_of limits).points (empty_book (limits_of limits).points book_rows) register
    ).refusal ≡ 0)
    (reported : book_refusal (limits_of limits) (book_in (limits_of limits).points register) ≡ 0) where
  abbrev l : LimitsFile
  l = limits_of limits

  abbrev p : ℕ
  p = (limits_of limits).points

  abbrev b : Book
  b = book_in (limits_of limits).points register

  abbrev cs : List Made
  cs = register_calls (limits_of limits).points (empty_book (limits_of limits).points book_rows) register

  text_is_rule : report_of limits register ≡ points_text l b
  text_is_rule =
      report_accepted book_text limits register fine
      ∙ sym (register_text_lem book_text l register (registered p (empty_book p book_rows) register) refl)
      ∙ reading_reported book_text l (registered p (empty_book p book_rows) register) accepted
      ∙ book_points l b reported

  lines_are : lines_of (report_of limits register) ≡ header_line ∷ listing (point_line l b) p
  lines_are = ap lines_of text_is_rule ∙ points_lines l b

  -- each point is answered, and counts all that stands
  made : b ≡ booked (empty_book p book_rows) cs
  made = register_booked p (empty_book p book_rows) register

  answered : (point : ℕ) → point < p → (book_load p point (booked (empty_book p book_rows) cs) l.days).refused
      ≡ 0
  answered point h = rw made at (point_answered p l.days b p point reported h)

  counts : (point : ℕ) → point < p
      → CountsEach (book_load p point b l.days) point (standing_in p register) l.days
  counts point h =
      subst (λ (k : Book). CountsEach (book_load p point k l.days) point (standing_in p register) l.days)
      (sym made)
      (subst (λ (ms : List Movement). CountsEach (load_after p book_rows point cs l.days) point ms l.days)
      ((all_count p register).all point h)
      ((counted_once p point book_rows cs l.days).counts (answered point h)))

  field : (point k : ℕ) → point < p → k < 6
      → printed (report_of limits register) point k
      ≡ get_or (point_fields point (get_or l.limits point 0) (book_load p point b l.days)) k []
  unfolding point_line
  field point k h six =
      ap (λ (ls : List (List ℕ)). field_of 44 k (get_or ls (suc point) [])) lines_are
      ∙ ap (field_of 44 k) (listing_at (point_line l b) [] p point h)
      ∙ field_at point (get_or l.limits point 0) (book_load p point b l.days) k six

  -- the flights computed, and those without levels, of the load at each point
  with_levels_rule : (point : ℕ) → point < p
      → totals.all_computed (book_load p point b l.days).counts ≡ how_many computed (flights_in p (rows_in register))
  with_levels_rule point h =
      computed_printed p book_rows point l.days cs (book_load p point b l.days) (counts point h)
      ∙ (all_stand_lem p register accepted).each computed

  without : (point : ℕ) → point < p
      → totals.all_missing (book_load p point b l.days).counts
      ≡ how_many (λ m. not (computed m)) (flights_in p (rows_in register))
  without point h =
      missing_printed p book_rows point l.days cs (book_load p point b l.days) (counts point h)
      ∙ (all_stand_lem p register accepted).each (λ m. not (computed m))

  pub report_says : ReportSays limits register
  report_says =
      record {
        header = ap (λ (ls : List (List ℕ)). get_or ls 0 []) lines_are;
        lines = ap length lines_are ∙ omega (arith, length_listing (point_line l b) p);
        points = λ point h.
            record {
              number = field point 0 h (omega arith);
              rounded = λ e. field point 1 h (omega arith) ∙ text_given (level_at l register point) e;
              below = λ e. field point 1 h (omega arith) ∙ text_below (level_at l register point) e;
              limit = field point 2 h (omega arith);
              over = λ e m. field point 3 h (omega arith)
                  ∙ text_over (level_at l register point) (get_or l.limits point 0) e m;
              within = λ m. field point 3 h (omega arith)
                  ∙ text_within (level_at l register point) (get_or l.limits point 0) m;
              none = λ e. field point 3 h (omega arith)
                  ∙ text_none (level_at l register point) (get_or l.limits point 0) e;
              with_levels_rule = field point 4 h (omega arith) ∙ ap show_number (with_levels_rule point h);
              without = field point 5 h (omega arith) ∙ ap show_number (without point h);
            };
        adds_up = both (flights_in p (rows_in register));
      }
