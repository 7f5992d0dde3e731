-- A line passes its test exactly if it is on its layout, and the line at fault is the first that does not.
-- Assumes nothing.
use Prim.Native.Nat.{ℕ, zero, suc, ◌+◌, ◌-◌, ◌/◌, ◌%◌, ◌≤◌, ◌<◌}
use mathlib.Core.{Path.◌≡◌, Path.refl, Path.sym, Path.ap, Path.◌∙◌, Logic.inl, Logic.inr}
use mathlib.Core.List.{List, [], ◌∷◌, ◌++◌, map}
use mathlib.Core.Bool.{Bool, true, false, cond, true≢false, or-true}
use native.Mathlib.Omega.{arith}
use borrow.Author.Tests.{eqb-true, ne_eqb, ltb-true, ltb-false}
use lib.Dec.{eqb, ltb}
use lib.ListN.{length, get_or, take, drop, take-append-drop, get_or-append, get_or-eq_default, length-drop}
use lib.{ListN.length-map, ListN.length-append, Seq.get_or-drop, Seq.get_or-append-add, Seq.take-suc}
use Rattle.refusal.proofs.Laws.{and_left, and_right}
use Rattle.text.specs.Line.{lines_of}
use Rattle.text.specs.Number.{whole_of, is_got, value_of, shown, show_whole, show_digits, show_thousandths}
use Rattle.text.specs.Number.{InThousandths}
use Rattle.text.specs.Spelled.{bytes}
use Rattle.text.proofs.Digits.{either, whole_small, got_value}
use Rattle.text.proofs.{Shown.whole_back, Shown.decimal_long, Shown.shown_least, Exact.whole_exact}
use Rattle.grid.specs.Row.{is_row}
use Rattle.grid.specs.File.{number_after, is_number, is_spelling, names_well, head_on, named_on, no_data_of, rows_of}
use Rattle.grid.specs.File.{first_off, fault_line}
use Rattle.grid_rules.specs.Laid.{line, Named, Behind}
use Rattle.grid_rules.specs.Refused.{keys, Digits, Naming, LineOn, Fault}
use Rattle.grid_rules.specs.Refused.Digits.{no_point, with_point_rule}
use Rattle.grid_rules.proofs.{Places.test_at, Places.map_at, Said.word_names, Said.other_names}
use Rattle.grid_rules.proofs.Lines.{key_on, key_passes, level_on, level_passes_lem, row_on, row_passes}

-- ---- the line that names the no-data value

first_least : (k n : ℕ) → 48 ≤ get_or (shown (suc k) n) 0 0
unfolding shown
first_least zero n = either (ltb n 10) (λ yes. rw yes (omega arith)) (λ other. rw other (omega arith))
first_least (suc k) n =
    either (ltb n 10)
    (λ yes. rw yes (omega arith))
    (λ other. rw (
      other,
      get_or-append (shown (suc k) (n / 10)) ((48 + n % 10) ∷ []) 0 0
          (shown_least k (n / 10)),
    ) (first_least k (n / 10)))

-- a number begins with a digit, and passes its test
three_first : (n : ℕ) → 48 ≤ get_or (show_thousandths n) 0 0
three_first n = rw (get_or-append (show_whole (n / 1000)) (46 ∷ show_digits 3 (n % 1000)) 0 0
    (shown_least 6 (n / 1000))) (first_least 6 (n / 1000))

level_first : (t : List ℕ) (n : ℕ) → InThousandths t n → 48 ≤ get_or t 0 0
level_first t n (inl e) = rw e (three_first n)
level_first t n (inr e) =
    let some : 0 < length t = omega (arith, ap length e, length-append t (48 ∷ []), decimal_long 3 n) in
    rw (← get_or-append t (48 ∷ []) 0 0 some, e) (three_first n)

digits_first_lem : (t : List ℕ) → Digits t → 48 ≤ get_or t 0 0
digits_first_lem t (no_point n h e) = rw e (first_least 6 n)
digits_first_lem t (with_point_rule l) = level_first t l.number l.is

digits_pass_lem : (t : List ℕ) → Digits t → is_number t ≡ true
digits_pass_lem t (no_point n h e) = rw (e, whole_back n h) refl
digits_pass_lem t (with_point_rule l) = rw (level_passes_lem t l) (or-true (is_got (whole_of t)))

spelling_passes : (minus : Bool) (t : List ℕ) → Digits t → is_spelling (cond minus (bytes "-") [] ++ t) ≡ true
spelling_passes true t d = digits_pass_lem t d
spelling_passes false t d = rw (ne_eqb (get_or t 0 0) 45 (λ e. omega (arith, digits_first_lem t d)))
    (digits_pass_lem t d)

naming_passes : (l : List ℕ) → Naming l → names_well l ≡ true
unfolding names_well
naming_passes l n = rw n.is (spelling_passes n.minus n.number n.digits)

number_on : (t : List ℕ) → is_number t ≡ true → Digits t
number_on t e =
    either (is_got (whole_of t))
    (λ yes. let g = got_value (whole_of t) yes in
    no_point (value_of (whole_of t)) (whole_small t _ g) (whole_exact t _ g))
    (λ other. with_point_rule (level_on t (rw other at e)))

-- a byte that stands first
first_byte : (t : List ℕ) → get_or t 0 0 ≡ 45 → t ≡ 45 ∷ drop 1 t
first_byte [] e = absurd (omega arith)
first_byte (c ∷ t) e = ap (λ (d : ℕ). d ∷ t) e

naming_on : (l : List ℕ) → take 12 l ≡ bytes "NODATA_value" → names_well l ≡ true → Naming l
unfolding names_well
naming_on l word well =
    let space = eqb-true (get_or l 12 0) 32 (and_left (eqb (get_or l 12 0) 32) (is_spelling (drop 13 l)) well) in
    let spelled = and_right (eqb (get_or l 12 0) 32) (is_spelling (drop 13 l)) well in
    let long : 12 < length l =
    either (ltb 12 (length l))
    (λ yes. ltb-true 12 (length l) yes)
    (λ short. absurd (omega (arith, space, get_or-eq_default l 0 {n = 12} (ltb-false 12 (length l) short)))) in
    let front : take 13 l ≡ bytes "NODATA_value " = take-suc l 12 0 long ∙ rw (word, space) refl in
    let split : l ≡ bytes "NODATA_value " ++ drop 13 l = sym (take-append-drop 13 l)
    ∙ ap (λ (a : List ℕ). a ++ drop 13 l) front in
    either (eqb (get_or (drop 13 l) 0 0) 45)
    (λ yes. let sign = first_byte (drop 13 l) (eqb-true (get_or (drop 13 l) 0 0) 45 yes) in
    record {
      minus = true;
      number = drop 1 (drop 13 l);
      digits = number_on (drop 1 (drop 13 l)) (rw yes at spelled);
      is = split ∙ ap (λ (t : List ℕ). bytes "NODATA_value " ++ t) sign;
    })
    (λ other.
    record { minus = false; number = drop 13 l; digits = number_on (drop 13 l) (rw other at spelled); is = split })

-- ---- the line at fault

off_least : (m : ℕ) (bs : List Bool) → 1 ≤ first_off m bs → m ≤ first_off m bs
unfolding first_off
off_least m [] h = absurd (omega arith)
off_least m (true ∷ bs) h = omega (arith, off_least (m + 1) bs h)
off_least m (false ∷ bs) h = omega arith

-- the first test that fails, and those before it
off_at : (m : ℕ) (bs : List Bool) (k : ℕ) → 1 ≤ m → first_off m bs ≡ m + k
    → (get_or bs k true ≡ false) × ((j : ℕ) → j < k → get_or bs j true ≡ true)
unfolding first_off
off_at m [] k h e = absurd (omega arith)
off_at m (false ∷ bs) zero h e = (refl, λ j l. absurd (omega arith))
off_at m (false ∷ bs) (suc k) h e = absurd (omega arith)
off_at m (true ∷ bs) zero h e = absurd (omega (arith, e, off_least (m + 1) bs (omega arith)))
off_at m (true ∷ bs) (suc k) h e =
    let rest = off_at (m + 1) bs k (omega arith) (omega arith) in
    (rest.0, λ j l. before bs k rest.1 j l)
  where
    before : (bs : List Bool) (k : ℕ) → ((j : ℕ) → j < k → get_or bs j true ≡ true) → (j : ℕ)
        → j < suc k → get_or (true ∷ bs) j true ≡ true
    before bs k h zero l = refl
    before bs k h (suc j) l = h j (omega arith)

-- lines by their tests
module _ (text : List ℕ) where
  abbrev lines : List (List ℕ)
  lines = lines_of text

  abbrev tests : List Bool
  tests = head_on (lines_of text)
      ++ (named_on (lines_of text) ++ map (is_row (no_data_of (lines_of text))) (rows_of (lines_of text)))

  head_test : (k : ℕ) → k < 5 → get_or tests k true ≡ is_got (number_after (get_or keys k []) (line text k))
  head_test zero h = refl
  head_test (suc zero) h = refl
  head_test (suc (suc zero)) h = refl
  head_test (suc (suc (suc zero))) h = refl
  head_test (suc (suc (suc (suc zero)))) h = refl
  head_test (suc (suc (suc (suc (suc k))))) h = absurd (omega arith)

  -- the rows start in line `first`, and such is the spelling of no data
  module _ (first : ℕ) (nodata : List ℕ) (low : 5 ≤ first) (high : first ≤ 6) (word : first ≡ 6
      → Named text)
      (at_name : first ≡ 6 → get_or tests 5 true ≡ names_well (line text 5))
      (at_rest : (i : ℕ) → get_or tests (first + i) true ≡ get_or (map (is_row nodata) (drop first lines)) i true)
    where
      rest_test : (k : ℕ) → first ≤ k
          → get_or tests k true ≡ get_or (map (is_row nodata) (drop first lines)) (k - first) true
      rest_test k h = let place : k ≡ first + (k - first) = omega arith in
          ap (λ (j : ℕ). get_or tests j true) place ∙ at_rest (k - first)

      row_test : (k : ℕ) → first ≤ k → k < length lines → get_or tests k true ≡ is_row nodata (line text k)
      row_test k h l =
          let place : first + (k - first) ≡ k = omega arith in
          let inside : k - first < length (drop first lines) = omega (arith, length-drop first lines) in
          rest_test k h ∙ map_at (is_row nodata) (drop first lines) [] true (k - first) inside
          ∙ ap (is_row nodata) (get_or-drop first lines (k - first) [] ∙ ap (λ (j : ℕ). get_or lines j []) place)

      end_test : (k : ℕ) → first ≤ k → length lines ≤ k → get_or tests k true ≡ true
      end_test k h l =
          let past : length (map (is_row nodata) (drop first lines)) ≤ k - first =
          omega (arith, length-drop first lines, length-map (drop first lines) (is_row nodata)) in
          rest_test k h ∙ get_or-eq_default (map (is_row nodata) (drop first lines)) true {n = k - first} past

      name_test : (k : ℕ) → k ≡ 5 → first ≡ 6 → get_or tests k true ≡ names_well (line text k)
      name_test k e six = ap (λ (j : ℕ). get_or tests j true) e ∙ at_name six
          ∙ ap (λ (j : ℕ). names_well (line text j)) (sym e)

      word_at : (k : ℕ) → k ≡ 5 → first ≡ 6 → take 12 (line text k) ≡ bytes "NODATA_value"
      word_at k e six = ap (λ (j : ℕ). take 12 (line text j)) e ∙ word six

      pub line_on : (k : ℕ) → get_or tests k true ≡ true → LineOn text first nodata k
      line_on k e = record {
        head = λ h. key_on (get_or keys k []) (line text k) (sym (head_test k h) ∙ e);
        naming = λ five six. naming_on (line text k) (word_at k five six) (sym (name_test k five six) ∙ e);
        row = λ h l. row_on nodata (line text k) (sym (row_test k h l) ∙ e);
      }

      pub line_passes : (k : ℕ) → LineOn text first nodata k → get_or tests k true ≡ true
      line_passes k on =
          either (ltb k 5)
          (λ yes. let h = ltb-true k 5 yes in head_test k h ∙ key_passes (get_or keys k []) (line text k) (on.head h))
          (λ other. let h = ltb-false k 5 other in
          either (ltb k first)
          (λ yes. let l = ltb-true k first yes in
          let five : k ≡ 5 = omega arith in
          let six : first ≡ 6 = omega arith in
          name_test k five six ∙ naming_passes (line text k) (on.naming five six))
          (λ later. let l = ltb-false k first later in
          either (ltb k (length lines))
          (λ yes. let m = ltb-true k (length lines) yes in row_test k l m
          ∙ row_passes nodata (line text k) (on.row l m))
          (λ past. end_test k l (ltb-false k (length lines) past))))

      pub fault_from : Fault text (fault_line (lines_of text)) first nodata
      unfolding fault_line
      fault_from =
          let one : (k : ℕ) → suc k ≡ 1 + k = λ k. omega arith in
          record {
            none = λ e k. line_on k (test_at 1 tests (omega arith) e k);
            here = λ k e l. true≢false (sym (line_passes k l) ∙ (off_at 1 tests k (omega arith) (e ∙ one k)).0);
            before = λ k e j h. line_on j ((off_at 1 tests k (omega arith) (e ∙ one k)).1 j h);
          }

  tests_named : Named text → tests ≡ head_on lines
      ++ (names_well (line text 5) ∷ map (is_row (drop 13 (line text 5))) (drop 6 lines))
  unfolding no_data_of rows_of
  tests_named word = rw (word_names text word)

  tests_plain : (Named text → ⊥) → tests ≡ head_on lines ++ map (is_row (bytes "-9999")) (drop 5 lines)
  unfolding no_data_of rows_of
  tests_plain other = rw (other_names text other)

  -- what holds wherever the rows start
  pub behind : (holds : ℕ → List ℕ → Type 0)
      → ((first : ℕ) (nodata : List ℕ) → 5 ≤ first → first ≤ 6 → (first ≡ 6 → Named text)
      → (first ≡ 6 → get_or tests 5 true ≡ names_well (line text 5))
      → ((i : ℕ) → get_or tests (first + i) true ≡ get_or (map (is_row nodata) (drop first lines)) i true)
      → rows_of lines ≡ drop first lines → no_data_of lines ≡ nodata → holds first nodata)
      → Behind text holds
  unfolding no_data_of rows_of
  behind holds rule = record {
    named = λ word. let names-it = word_names text word in
        let rest = map (is_row (drop 13 (line text 5))) (drop 6 lines) in
        rule 6 (drop 13 (line text 5)) (omega arith) (omega arith) (λ _. word)
        (λ _. ap (λ (bs : List Bool). get_or bs 5 true) (tests_named word))
        (λ i. ap (λ (bs : List Bool). get_or bs (6 + i) true) (tests_named word)
        ∙ get_or-append-add (head_on lines ++ (names_well (line text 5) ∷ [])) rest i true)
        (rw names-it) (rw names-it);
    unnamed = λ other. let plain = other_names text other in
        let rest = map (is_row (bytes "-9999")) (drop 5 lines) in
        rule 5 (bytes "-9999") (omega arith) (omega arith) (λ six. absurd (omega arith))
        (λ six. absurd (omega arith))
        (λ i. ap (λ (bs : List Bool). get_or bs (5 + i) true) (tests_plain other)
        ∙ get_or-append-add (head_on lines) rest i true)
        (rw plain) (rw plain);
  }

  -- the line at fault is the first off its layout
  pub fault : Behind text (Fault text (fault_line (lines_of text)))
  fault = behind (Fault text (fault_line (lines_of text)))
      (λ first nodata low high word name rest start spelling. fault_from first nodata low high word name rest)
