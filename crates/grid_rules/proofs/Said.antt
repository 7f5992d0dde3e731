-- A text that is read says its network, line by line and place by place. Assumes nothing.
use Prim.Native.Nat.{ℕ, suc, ◌+◌, ◌-◌, ◌*◌, ◌≤◌, ◌<◌}
use mathlib.Core.Path.{◌≡◌, refl, sym, ap, ◌∙◌}
use mathlib.Core.{List.List, List.[], List.◌∷◌, List.◌++◌, List.map, Bool.Bool, Bool.true, Bool.false}
use native.Mathlib.Omega.{arith}
use borrow.Author.Tests.{eqb-true, eq-eqb, leb-true, leb-false}
use lib.{Dec.leb, ListN.length, ListN.get_or, ListN.take, ListN.drop, ListN.length-drop, ListN.get_or-eq_default}
use lib.Seq.{get_or-drop, get_or-append-add, take-nil, take_at}
use Rattle.text.specs.{Line.lines_of, Field.count_of, Field.field_of}
use Rattle.text.specs.{Number.is_got, Number.value_of, Number.show_whole, Number.InThousandths, Same.same_text}
use Rattle.text.specs.Spelled.{bytes}
use Rattle.text.proofs.{Digits.either, Digits.got_value, Sames.same_equal, Sames.same_self}
use Rattle.grid.specs.Row.{all, values_of, given, is_value, is_row, has_values, row_given, has_three, row_three}
use Rattle.grid.specs.Row.{level_in}
use Rattle.grid.specs.Row.{levels_of}
use Rattle.grid.specs.File.{ncols, nrows, xllcenter, yllcenter, cellsize, begins, number_at, names, sixth}
use Rattle.grid.specs.File.{head_on, named_on, frame_of, no_data_of, rows_of, fault_line, rows_fit}
use Rattle.grid.specs.Read.{text_frame, text_levels, read_refusal, header_after, levels_after}
use Rattle.grid.proofs.ReadLaws.{fit_both, fit_length, Passed, passed}
use Rattle.grid.proofs.Values.{key_line_lem, value-is, value_three}
use Rattle.grid_rules.specs.Laid.{line, Named, Headed, Sized, Laid, Three, Says, frame_in, levels_in}
use Rattle.grid_rules.proofs.Places.{test_at, all-at, map_at, value_field, value_count, level_at_lem}

-- a header line that gives a number, by its place
pub number_at_rule : (lines : List (List ℕ)) (key : List ℕ) (i : ℕ) → is_got (number_at key i lines) ≡ true
    → get_or lines i [] ≡ key ++ show_whole (value_of (number_at key i lines))
number_at_rule lines key i e =
    (key_line_lem key (get_or lines i []) (value_of (number_at key i lines)) (got_value (number_at key i lines) e)).1

-- rows that start in line `first`
pub row_line : (lines : List (List ℕ)) (first : ℕ) → rows_of lines ≡ drop first lines → (k : ℕ)
    → get_or (rows_of lines) k [] ≡ get_or lines (first + k) []
row_line lines first start k = ap (λ (l : List (List ℕ)). get_or l k []) start ∙ get_or-drop first lines k []

-- and fit
module _ (lines : List (List ℕ)) (first : ℕ) (fits : rows_fit (frame_of lines) (rows_of lines) ≡ true)
    (start : rows_of lines ≡ drop first lines) (there : first ≤ length lines) where
  pub fit : (length (rows_of lines) ≡ (frame_of lines).rows)
      × (all (has_values (frame_of lines).columns) (rows_of lines) ≡ true)
  fit = fit_both (frame_of lines) (rows_of lines) fits

  pub height : length lines ≡ first + (frame_of lines).rows
  height = omega (arith, fit.0, ap length start, length-drop first lines)

  pub wide : (k : ℕ) → k < length (rows_of lines)
      → length (values_of (get_or (rows_of lines) k [])) ≡ (frame_of lines).columns
  wide k h = eqb-true _ _ (all-at (has_values (frame_of lines).columns) (rows_of lines) [] fit.1 k h)

  pub width : (k : ℕ) → k < (frame_of lines).rows
      → count_of 32 (get_or lines (first + k) []) + 1 ≡ (frame_of lines).columns
  width k h = rw (← row_line lines first start k)
      (omega (arith, value_count (get_or (rows_of lines) k []), wide k (omega (arith, fit.0))))

  pub sized : (text : List ℕ) → lines_of text ≡ lines → Sized text (frame_of lines) first
  sized text same = record { height = rw same height; width = λ k h. rw same (width k h) }

-- and whose values each spell their level
module _ (spells : List ℕ → ℕ → Type 0) (lines : List (List ℕ)) (first : ℕ)
    (fits : rows_fit (frame_of lines) (rows_of lines) ≡ true)
    (start : rows_of lines ≡ drop first lines) (there : first ≤ length lines)
    (each : (k c : ℕ) → k < length (rows_of lines) → c < (frame_of lines).columns
    → let t = get_or (values_of (get_or (rows_of lines) k [])) c [] in spells t (level_in t)) where
  level : (r c : ℕ) → r < (frame_of lines).rows → c < (frame_of lines).columns
      → spells (field_of 32 c (get_or lines (first + ((frame_of lines).rows - suc r)) []))
      (get_or (levels_of (rows_of lines)) (r * (frame_of lines).columns + c) 0)
  level r c h w =
      let fit-now = fit lines first fits start there in
      let k = length (rows_of lines) - suc r in
      let row = get_or (rows_of lines) k [] in
      let same : (frame_of lines).rows - suc r ≡ k = ap (λ (n : ℕ). n - suc r) (sym fit-now.0) in
      let below : r < length (rows_of lines) = omega (arith, fit-now.0) in
      rw (
        same,
        ← row_line lines first start k,
        level_at_lem (frame_of lines).columns (rows_of lines) fit-now.1 r c below w,
        ← value_field row c,
      ) (each k c (omega arith) w)

-- a line that has bytes is there
line_there : (lines : List (List ℕ)) (i : ℕ) → 1 ≤ length (get_or lines i []) → suc i ≤ length lines
line_there lines i h =
    either (leb (suc i) (length lines))
    (λ yes. leb-true (suc i) (length lines) yes)
    (λ other. let short : length lines ≤ i = omega (arith, leb-false (suc i) (length lines) other) in
    let empty : length (get_or lines i []) ≡ 0 = ap length (get_or-eq_default lines [] {n = i} short) in
    absurd (omega arith))

-- the sixth line begins with the word or not
pub word_names : (text : List ℕ) → Named text → names (sixth (lines_of text)) ≡ true
unfolding begins
word_names text e = ap (λ (t : List ℕ). same_text t (bytes "NODATA_value")) e ∙ same_self (bytes "NODATA_value")

pub other_names : (text : List ℕ) → (Named text → ⊥) → names (sixth (lines_of text)) ≡ false
unfolding begins
other_names text other =
    either (same_text (take 12 (line text 5)) (bytes "NODATA_value"))
    (λ yes. absurd (other (same_equal (take 12 (line text 5)) (bytes "NODATA_value") yes)))
    (λ plain. plain)

-- a line that begins with a word has bytes
word_there : (t w : List ℕ) (n : ℕ) → take n t ≡ w → 1 ≤ length w → 1 ≤ length t
word_there [] w n e h = absurd (omega (arith, ap length (sym (take-nil n) ∙ e)))
word_there (c ∷ t) w n e h = omega arith

-- a text with no line off its layout
module _ (text : List ℕ) (none : fault_line (lines_of text) ≡ 0) where
  abbrev lines : List (List ℕ)
  lines = lines_of text

  test : (i : ℕ) → get_or (head_on lines ++ (named_on lines ++ map (is_row (no_data_of lines)) (rows_of lines))) i true
      ≡ true
  unfolding fault_line
  test = test_at 1 (head_on lines ++ (named_on lines ++ map (is_row (no_data_of lines)) (rows_of lines))) (omega arith)
      none

  pub five_there : 5 ≤ length lines
  five_there = line_there lines 4 (rw (number_at_rule lines cellsize 4 (test 4)) (omega arith))

  pub headed : Headed text (text_frame text)
  unfolding frame_of
  headed = record {
    columns = number_at_rule lines ncols 0 (test 0);
    rows = number_at_rule lines nrows 1 (test 1);
    west = number_at_rule lines xllcenter 2 (test 2);
    south = number_at_rule lines yllcenter 3 (test 3);
    spacing = number_at_rule lines cellsize 4 (test 4);
  }

  pub six_there : Named text → 6 ≤ length lines
  six_there word = line_there lines 5 (word_there (line text 5) (bytes "NODATA_value") 12 word (omega arith))

  -- the tests of rows that stand behind n other tests
  rows_on : (nodata : List ℕ) (rows : List (List ℕ)) (bs : List Bool)
      → ((i : ℕ) → get_or (bs ++ map (is_row nodata) rows) i true ≡ true)
      → (k : ℕ) → k < length rows → is_row nodata (get_or rows k []) ≡ true
  rows_on nodata rows bs h k inside =
      sym (map_at (is_row nodata) rows [] true k inside)
      ∙ sym (get_or-append-add bs (map (is_row nodata) rows) k true) ∙ h (length bs + k)

  pub rows_are : (k : ℕ) → k < length (rows_of lines) → is_row (no_data_of lines) (get_or (rows_of lines) k []) ≡ true
  rows_are = rows_on (no_data_of lines) (rows_of lines) (head_on lines ++ named_on lines) test

pub from_six : (text : List ℕ) → Named text → rows_of (lines_of text) ≡ drop 6 (lines_of text)
unfolding rows_of
from_six text word = rw (word_names text word)

pub from_five : (text : List ℕ) → (Named text → ⊥) → rows_of (lines_of text) ≡ drop 5 (lines_of text)
unfolding rows_of
from_five text other = rw (other_names text other)

module _ (text : List ℕ) (p : Passed (lines_of text)) where
  -- a value at its place
  inside : (k c : ℕ) → k < length (rows_of (lines_of text)) → c < (text_frame text).columns
      → c < length (values_of (get_or (rows_of (lines_of text)) k []))
  inside k c h w = rw (wide_at k h) w
    where
      wide_at : (k : ℕ) → k < length (rows_of (lines_of text))
          → length (values_of (get_or (rows_of (lines_of text)) k [])) ≡ (text_frame text).columns
      wide_at k h =
          eqb-true _ _ (all-at (has_values (text_frame text).columns) (rows_of (lines_of text)) []
          (fit_both (text_frame text) (rows_of (lines_of text)) p.fits).1 k h)

  -- each one spells its level
  spelled : (k c : ℕ) → k < length (rows_of (lines_of text)) → c < (text_frame text).columns
      → let t = get_or (values_of (get_or (rows_of (lines_of text)) k [])) c [] in InThousandths t (level_in t)
  spelled k c h w =
      let lines = lines_of text in
      let row = get_or (rows_of lines) k [] in
      let here = inside k c h w in
      value-is (no_data_of lines) (get_or (values_of row) c [])
      (all-at (is_value (no_data_of lines)) (values_of row) [] (rows_are text p.fault k h) c here)
      (all-at (given (no_data_of lines)) (values_of row) []
      (all-at (row_given (no_data_of lines)) (rows_of lines) [] p.given k h) c here)

  -- and with three decimals where all have three
  spelled_three : all row_three (rows_of (lines_of text)) ≡ true → (k c : ℕ) → k < length (rows_of (lines_of text))
      → c < (text_frame text).columns
      → let t = get_or (values_of (get_or (rows_of (lines_of text)) k [])) c [] in Three t (level_in t)
  spelled_three three k c h w =
      let row = get_or (rows_of (lines_of text)) k [] in
      value_three (get_or (values_of row) c [])
      (all-at has_three (values_of row) [] (all-at row_three (rows_of (lines_of text)) [] three k h) c (inside k c h w))

  pub laid_from : (spells : List ℕ → ℕ → Type 0)
      → ((k c : ℕ) → k < length (rows_of (lines_of text)) → c < (text_frame text).columns
      → let t = get_or (values_of (get_or (rows_of (lines_of text)) k [])) c [] in spells t (level_in t))
      → (first : ℕ) → rows_of (lines_of text) ≡ drop first (lines_of text) → first ≤ length (lines_of text)
      → Laid spells text (text_levels text) (text_frame text) first
  laid_from spells each first start there = record {
    head = headed text p.fault;
    size = sized (lines_of text) first p.fits start there text refl;
    number = fit_length (text_frame text) (rows_of (lines_of text)) p.fits;
    level = level spells (lines_of text) first p.fits start there each;
  }

  pub says_passed : Says text (text_levels text) (text_frame text)
  says_passed = record {
    named = λ word. laid_from InThousandths spelled 6 (from_six text word) (six_there text p.fault word);
    unnamed = λ other. laid_from InThousandths spelled 5 (from_five text other) (five_there text p.fault);
  }

  pub laid_three : all row_three (rows_of (lines_of text)) ≡ true → (Named text → ⊥)
      → Laid Three text (text_levels text) (text_frame text) 5
  laid_three three other =
      laid_from Three (spelled_three three) 5 (from_five text other) (five_there text p.fault)

-- a text that is not refused says its network
pub says : (text : List ℕ) (headers room : ℕ) → read_refusal text headers room ≡ 0
    → Says text (text_levels text) (text_frame text)
says text headers room read = says_passed text (passed (lines_of text) headers room read)

-- and so what a call leaves, where it does not refuse
pub says_left : (text headers levels : List ℕ) → read_refusal text (length headers) (length levels) ≡ 0
    → let header = header_after text headers levels in
    Says text (levels_in header (levels_after text headers levels)) (frame_in header)
says_left text headers levels read =
    let on = eq-eqb (read_refusal text (length headers) (length levels)) 0 read in
    let p = passed (lines_of text) (length headers) (length levels) read in
    let size = fit_length (text_frame text) (rows_of (lines_of text)) p.fits in
    rw on (rw (take_at (text_levels text) (drop (length (text_levels text)) levels)
    ((text_frame text).rows * (text_frame text).columns) size)
    (says_passed text p))
