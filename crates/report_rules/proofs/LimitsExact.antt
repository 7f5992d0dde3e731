-- limits.csv, by what its lines spell. Assumes nothing.
use mathlib.Core.Path.{◌≡◌, refl, sym, ap, ◌∙◌}
use mathlib.Core.{Bool.true, Bool.false, Bool.cond, Bool.◌&&◌, Bool.and-false, Logic.◌⊎◌, Logic.⊎_elim}
use mathlib.Core.List.{List, [], ◌∷◌, ◌++◌}
use Prim.Native.Nat.{ℕ, zero, suc, ◌+◌, ◌-◌, ◌≤◌, ◌<◌}
use native.Mathlib.Omega.{arith}
use lib.{Dec.eqb, Dec.leb, ListN.length, ListN.get_or, ListN.replicate, ListN.get_or-eq_default, Seq.get_or-append-add}
use borrow.Author.Tests.{eq-eqb, eqb-true, le-leb, lt-leb, leb-true, leb-false}
use Rattle.refusal.specs.Range.{all_within}
use Rattle.refusal.proofs.{Laws.and_left, Laws.and_right, Ranges.within_at}
use Rattle.movement.specs.Limits.{max_days, max_limit}
use Rattle.text.specs.{Line.lines_of, Field.count_of, Field.field_of, Index.every, Index.listing}
use Rattle.text.specs.Number.{is_got, value_of, level_of, show_whole, show_level}
use Rattle.std.specs.Prelude.{Option, Some, None}
use Rattle.text.proofs.Digits.{either, whole_small, got_value}
use Rattle.text.proofs.{Exact.whole_exact, Exact.level_exact, Exact.level_small, Shown.whole_back, Shown.level_back}
use Rattle.text.proofs.Indices.{every_each, every_all, length_listing}
use Rattle.register.specs.{Cell.limits_cell, Cell.cell_at, Cell.got_at, Cell.value_at, Cell.cells_of, Row.eight_from}
use Rattle.register.specs.Header.{header_of, limits_header}
use Rattle.register.specs.declared.cell.Table.TheVariants as table
use Rattle.register.specs.LimitsFile.{LimitsFile}
use Rattle.register.specs.LimitsFile.{refused_limits, judged_limits, second_limits, headed_limits, limits_of}
use Rattle.report_rules.specs.LimitsSpelled.{Headed, Valued, RefusedAt, Accepted, LimitsExactly}
use Rattle.report_rules.proofs.{Printed.listing_at, Printed.value_at_rule, Headers.header_is, Headers.is_header_lem}

-- Lists

none_past_lem : (f : ℕ → ℕ) (n i : ℕ) → n ≤ i → get_or (listing f n) i 0 ≡ 0
none_past_lem f n i h = get_or-eq_default (listing f n) 0 (rw (length_listing f n) h)

zeros_at : (m i : ℕ) → get_or {A = ℕ} (replicate m 0) i 0 ≡ 0
zeros_at zero i = refl
zeros_at (suc m) zero = refl
zeros_at (suc m) (suc i) = zeros_at m i

zeros_past : (f : ℕ → ℕ) (n m i : ℕ) → n ≤ i → get_or (listing f n ++ replicate m 0) i 0 ≡ 0
zeros_past f n m i h =
    let e : i ≡ length (listing f n) + (i - n) = omega (arith, length_listing f n) in
    ap (λ k. get_or (listing f n ++ replicate m 0) k 0) e ∙ get_or-append-add (listing f n) (replicate m 0) (i - n) 0
    ∙ zeros_at m (i - n)

-- Cells of the second line

-- all values of a line that is read
abbrev values : ℕ → List ℕ → List ℕ
values n line = listing (value_at table.LimitsFile line) (1 + n) ++ replicate (13 - (1 + n)) 0

cell_day : (t : List ℕ) (v : ℕ) → limits_cell 0 t ≡ Some v → (t ≡ show_whole v) × (v < 10000000)
unfolding limits_cell
cell_day t v e = (whole_exact t v e, whole_small t v e)

limit_cell : (i : ℕ) (t : List ℕ) → limits_cell (1 + i) t ≡ level_of t
unfolding limits_cell
limit_cell i t = let e : 1 + i ≡ suc i = omega arith in rw e refl

cell_limit : (i : ℕ) (t : List ℕ) (v : ℕ) → limits_cell (1 + i) t ≡ Some v
    → (t ≡ show_level v) × (v < 100000)
cell_limit i t v e = let f : level_of t ≡ Some v = sym (limit_cell i t) ∙ e in (level_exact t v f, level_small t v f)

-- a line that is read is spelled so
module _ (n : ℕ) (line : List ℕ) (few : n ≤ 8)
    (fine : (eqb (count_of 44 line + 1) (1 + n) && every (got_at table.LimitsFile line) (1 + n)) ≡ true) where
  got : (k : ℕ) → k < 1 + n → cell_at table.LimitsFile line k ≡ Some (value_at table.LimitsFile line k)
  got k h =
      got_value (cell_at table.LimitsFile line k)
      (every_each (got_at table.LimitsFile line) k (1 + n) h (and_right (eqb (count_of 44 line + 1) (1 + n))
      (every (got_at table.LimitsFile line) (1 + n)) fine))

  held : (i : ℕ) → i < n → get_or (eight_from 1 (values n line)) i 0 ≡ value_at table.LimitsFile line (1 + i)
  unfolding eight_from
  held i h =
      listing_at (λ j. get_or (values n line) (1 + j) 0) 0 8 i (omega arith)
      ∙ value_at_rule (value_at table.LimitsFile line) (1 + n) (replicate (13 - (1 + n)) 0) (1 + i) (omega arith)

  fine_spelled : Valued n (value_at table.LimitsFile line 0) (eight_from 1 (values n line)) line
  fine_spelled =
      let day = cell_day (field_of 44 0 line) (value_at table.LimitsFile line 0) (got 0 (omega arith)) in
      record {
        fields = omega (
          arith,
          eqb-true (count_of 44 line + 1) (1 + n) (and_left (eqb (count_of 44 line + 1) (1 + n))
              (every (got_at table.LimitsFile line) (1 + n)) fine),
        );
        days= = day.0;
        seven = day.1;
        limit = λ i h. rw (held i h) (cell_limit i (field_of 44 (1 + i) line) (value_at table.LimitsFile line (1 + i))
            (got (1 + i) (omega arith))).0;
        three = λ i h. rw (held i h) (cell_limit i (field_of 44 (1 + i) line) (value_at table.LimitsFile line (1 + i))
            (got (1 + i) (omega arith))).1;
      }

read_spelled : (n : ℕ) (line : List ℕ) → n ≤ 8 → (cells_of table.LimitsFile (1 + n) line).read ≡ true
    → Valued n (value_at table.LimitsFile line 0) (eight_from 1 (values n line)) line
unfolding cells_of
read_spelled n line few e =
    either (eqb (count_of 44 line + 1) (1 + n) && every (got_at table.LimitsFile line) (1 + n))
    (λ fine. fine_spelled n line few fine)
    (λ bad. let z : false ≡ true = rw bad at e in let y : ◌≡◌ {A = ℕ} 0 1 = cc in absurd (omega arith))

-- and a line that is spelled so is read
module _ (n d : ℕ) (ls line : List ℕ) (few : n ≤ 8) (v : Valued n d ls line) where
  cell_is : (k : ℕ) → k < 1 + n → is_got (cell_at table.LimitsFile line k) ≡ true
  unfolding limits_cell
  cell_is zero h = rw (v.days=, whole_back d v.seven) refl
  cell_is (suc i) h =
      let e : suc i ≡ 1 + i = omega arith in
      let read : level_of (field_of 44 (1 + i) line) ≡ Some (get_or ls i 0) =
      rw (v.limit i (omega arith)) (level_back (get_or ls i 0) (v.three i (omega arith))) in
      rw (e, read) refl

  day_is : value_at table.LimitsFile line 0 ≡ d
  unfolding limits_cell
  day_is = rw (v.days=, whole_back d v.seven) refl

  limit_is : (i : ℕ) → i < n → value_at table.LimitsFile line (1 + i) ≡ get_or ls i 0
  limit_is i h =
      let read : level_of (field_of 44 (1 + i) line) ≡ Some (get_or ls i 0) =
      rw (v.limit i h) (level_back (get_or ls i 0) (v.three i h)) in
      ap value_of (limit_cell i (field_of 44 (1 + i) line) ∙ read)

  read_are : ((cells_of table.LimitsFile (1 + n) line).read ≡ true)
      × ((cells_of table.LimitsFile (1 + n) line).values ≡ values n line)
  unfolding cells_of
  read_are =
      rw (
        eq-eqb (count_of 44 line + 1) (1 + n) (omega (arith, v.fields)),
        every_all (got_at table.LimitsFile line) (1 + n) cell_is,
      ) (refl, refl)

  -- its limits, as they are judged
  limits_are : (i : ℕ) → i < n → get_or (eight_from 1 (values n line)) i 0 ≡ get_or ls i 0
  unfolding eight_from
  limits_are i h =
      listing_at (λ j. get_or (values n line) (1 + j) 0) 0 8 i (omega arith)
      ∙ value_at_rule (value_at table.LimitsFile line) (1 + n) (replicate (13 - (1 + n)) 0) (1 + i) (omega arith)
      ∙ limit_is i h

  -- nothing stands behind the last
  past : (i : ℕ) → n ≤ i → get_or (eight_from 1 (values n line)) i 0 ≡ 0
  unfolding eight_from
  past i h =
      either (leb 8 i)
      (λ yes. none_past_lem (λ j. get_or (values n line) (1 + j) 0) 8 i (leb-true 8 i yes))
      (λ no. let less = leb-false 8 i no in
      listing_at (λ j. get_or (values n line) (1 + j) 0) 0 8 i (omega arith)
      ∙ zeros_past (value_at table.LimitsFile line) (1 + n) (13 - (1 + n)) (1 + i) (omega arith))

  day_at : get_or (values n line) 0 0 ≡ d
  day_at = value_at_rule (value_at table.LimitsFile line) (1 + n) (replicate (13 - (1 + n)) 0) 0 (omega arith) ∙ day_is

-- Judged in order

pub within_all : (top : ℕ) (xs : List ℕ) → ((i : ℕ) → get_or xs i 0 ≤ top) → all_within top xs ≡ true
unfolding all_within
within_all top [] h = refl
within_all top (x ∷ xs) h = rw (le-leb x top (h 0)) (within_all top xs (λ i. h (suc i)))

headed_by : (text : List ℕ) (n : ℕ) → Headed n (get_or (lines_of text) 0 [])
    → limits_of text ≡ second_limits n (get_or (lines_of text) 1 []) (length (lines_of text))
unfolding limits_of
headed_by text n h =
    rw (is_header_lem limits_header 4 (get_or (lines_of text) 0 []) n refl h.some h.few h.spelled) refl

second_by : (n d lines : ℕ) (ls line : List ℕ) → n ≤ 8 → Valued n d ls line
    → second_limits n line lines ≡ cond (leb lines 2) (judged_limits n (values n line)) (refused_limits 16 3)
unfolding second_limits
second_by n d lines ls line few v = rw ((read_are n d ls line few v).0, (read_are n d ls line few v).1) refl

-- the days and the limits of a line that is spelled so
module _ (n d : ℕ) (ls line : List ℕ) (few : n ≤ 8) (v : Valued n d ls line) where
  judged_eleven : (d ≡ 0) ⊎ (366 < d) → judged_limits n (values n line) ≡ refused_limits 11 2
  unfolding judged_limits
  judged_eleven out = rw (day_at n d ls line few v, days_off out) refl
    where
      days_off : (d ≡ 0) ⊎ (366 < d) → (leb 1 d && leb d max_days) ≡ false
      days_off = ⊎_elim (λ z. rw z refl) (λ h. rw (lt-leb d 366 h) (and-false (leb 1 d)))

  fits : (1 ≤ d) × (d ≤ 366) → (leb 1 d && leb d max_days) ≡ true
  fits h = rw (le-leb 1 d h.0, le-leb d 366 h.1) refl

  judged_fifteen : (1 ≤ d) × (d ≤ 366) → (i : ℕ) → i < n → 12000 < get_or ls i 0
      → judged_limits n (values n line) ≡ refused_limits 15 2
  unfolding judged_limits
  judged_fifteen h i l over =
      either (all_within max_limit (eight_from 1 (values n line)))
      (λ yes. absurd (omega (
        arith,
        within_at max_limit (eight_from 1 (values n line)) i yes,
        limits_are n d ls line few v i l,
      )))
      (λ no. rw (day_at n d ls line few v, fits h, no) refl)

  judged_fine : (1 ≤ d) × (d ≤ 366) → ((i : ℕ) → i < n → get_or ls i 0 ≤ 12000)
      → Accepted (judged_limits n (values n line)) n d ls
  unfolding judged_limits
  judged_fine h low =
      rw (fits_here, within_all max_limit (eight_from 1 (values n line)) each)
      (record {
        refusal = refl;
        points = refl;
        days= = day_at n d ls line few v;
        limits= =
            limits_are n d ls line few v;
      })
    where
      fits_here : (leb 1 (get_or (values n line) 0 0) && leb (get_or (values n line) 0 0) max_days) ≡ true
      fits_here = rw (day_at n d ls line few v) (fits h)

      each : (i : ℕ) → get_or (eight_from 1 (values n line)) i 0 ≤ 12000
      each i =
          either (leb n i)
          (λ yes. rw (past n d ls line few v i (leb-true n i yes)) (omega arith))
          (λ no. let less = leb-false n i no in rw (limits_are n d ls line few v i less) (low i less))

-- where no header is read, and where no values are
headless : (r : Option ℕ) (second : List ℕ) (lines : ℕ) → ((n : ℕ) → r ≡ Some n → ⊥)
    → headed_limits r second lines ≡ refused_limits 16 1
headless None second lines never = refl
headless (Some n) second lines never = absurd (never n refl)

unread : (n lines : ℕ) (line : List ℕ) → n ≤ 8 → ((d : ℕ) (ls : List ℕ) → Valued n d ls line → ⊥)
    → second_limits n line lines ≡ refused_limits 16 2
unfolding second_limits
unread n lines line few never =
    either (cells_of table.LimitsFile (1 + n) line).read
    (λ yes. absurd (never (value_at table.LimitsFile line 0) (eight_from 1 (values n line))
    (read_spelled n line few yes)))
    (λ no. rw no refl)

refused_at_lem : {l : LimitsFile} {number line : ℕ} → l ≡ refused_limits number line → RefusedAt l number line
refused_at_lem e = (ap (λ (l : LimitsFile). l.refusal) e, ap (λ (l : LimitsFile). l.line) e)

pub limits_exactly : (text : List ℕ) → LimitsExactly text
unfolding limits_of
limits_exactly text =
    let first = get_or (lines_of text) 0 [] in
    let second = get_or (lines_of text) 1 [] in
    let lines = length (lines_of text) in
    record {
      headless = λ never. refused_at_lem (headless (header_of limits_header 4 first) second lines
          (λ n e. let h = header_is limits_header 4 first n e in
          never n (record { some = h.0.0; few = h.0.1; spelled = h.1 })));
      second = λ n h never. refused_at_lem (headed_by text n h ∙ unread n lines second h.few never);
      third = λ n d ls h v more.
          refused_at_lem (headed_by text n h ∙ second_by n d lines ls second h.few v
          ∙ rw (lt-leb lines 2 more) refl);
      eleven = λ n d ls h v two out.
          refused_at_lem (headed_by text n h ∙ second_by n d lines ls second h.few v
          ∙ rw (le-leb lines 2 two) (judged_eleven n d ls second h.few v out));
      fifteen = λ n d ls h v two days i l over.
          refused_at_lem (headed_by text n h ∙ second_by n d lines ls second h.few v
          ∙ rw (le-leb lines 2 two) (judged_fifteen n d ls second h.few v days i l over));
      accepted = λ n d ls h v two days low.
          rw (headed_by text n h ∙ second_by n d lines ls second h.few v, le-leb lines 2 two)
          (judged_fine n d ls second h.few v days low);
    }
