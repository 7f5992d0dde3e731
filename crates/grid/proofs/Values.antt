-- Texts that are joined and come apart again: the lines of a text, the values of a row. Assumes nothing.
use Rattle.std.specs.Prelude.{◌≡◌, ℕ, zero, suc, ◌+◌, ◌/◌, ◌%◌, ◌<◌, ◌≤◌, eqb, ltb, length, get_or, take, drop}
use mathlib.Core.Path.{refl, sym, ap, ◌∙◌}
use mathlib.Core.{List.List, List.[], List.◌∷◌, List.◌++◌, List.map, Bool.Bool, Bool.true, Bool.false, Bool.◌||◌}
use native.Mathlib.Omega.{arith}
use borrow.Author.Tests.{ne_eqb, ltb-true, not-true}
use lib.ListN.{length-append, take-append-drop, get_or-append}
use lib.Seq.{take-append_seam, drop-append_seam}
use Rattle.text.specs.Number.{whole_of, decimal_of, thousandths_of, is_got, shown, show_whole, show_digits}
use Rattle.text.specs.Number.{show_thousandths}
use Rattle.text.specs.Number.{InThousandths}
use Rattle.text.specs.{Field.count_of, Field.joined_by, Line.onto, Line.lines_of, Same.same_text}
use Rattle.std.specs.Prelude.{Some, None}
use Rattle.text.proofs.Digits.{either, whole_small, got_value}
use Rattle.text.proofs.{Shown.whole_back, Shown.decimal_back, Shown.shown_least, Exact.whole_exact}
use Rattle.text.proofs.Thousandths.{thousandths_back, thousandths_exact, three_same}
use Rattle.text.proofs.{Free.shown_free, Free.decimal_free, Fields.count_append, Sames.same_equal, Sames.same_self}
use Rattle.network.specs.Limits.{max_network_level}
use Rattle.grid.specs.Row.{all, values_of, given, is_value, level_in, has_three}
use Rattle.grid.specs.File.{unnamed, begins, number_after, names}
use Rattle.grid.specs.Write.{key_line, row_line, text_of}

-- ---- bytes that a text doesn't have

-- the first byte of a text without d isn't d, and the rest has none either
free_first : (d c : ℕ) (s : List ℕ) → count_of d (c ∷ s) ≡ 0 → (eqb c d ≡ false) × (count_of d s ≡ 0)
unfolding count_of
free_first d c s e =
    either (eqb c d)
    (λ yes. let z : suc (count_of d s) ≡ 0 = rw yes at e in absurd (omega arith))
    (λ other. (other, rw other at e))

-- ---- lines

line_apart : (l t : List ℕ) → count_of 13 l ≡ 0 → lines_of (l ++ (13 ∷ 10 ∷ t)) ≡ l ∷ lines_of t
unfolding lines_of
line_apart [] t e = refl
line_apart (c ∷ []) t e = let f = free_first 13 c [] e in rw f.0
line_apart (c ∷ d ∷ l) t e = let f = free_first 13 c (d ∷ l) e in
    rw f.0 (ap (onto c) (line_apart (d ∷ l) t f.1))

-- lines without a CR, as a text, are its lines
abbrev pub Free : List (List ℕ) → Type 0
Free lines = (i : ℕ) → i < length lines → count_of 13 (get_or lines i []) ≡ 0

pub lines_apart : (lines : List (List ℕ)) → Free lines → lines_of (text_of lines) ≡ lines
unfolding text_of lines_of
lines_apart [] free = refl
lines_apart (l ∷ lines) free =
    line_apart l (text_of lines) (free 0 (omega arith))
    ∙ ap (λ t. l ∷ t) (lines_apart lines (λ i h. free (suc i) (omega arith)))

-- ---- values

pub value_alone : (t : List ℕ) → count_of 32 t ≡ 0 → values_of t ≡ t ∷ []
unfolding values_of
value_alone [] e = refl
value_alone (c ∷ t) e = let f = free_first 32 c t e in rw f.0 (ap (onto c) (value_alone t f.1))

pub value_apart : (t r : List ℕ) → count_of 32 t ≡ 0 → values_of (t ++ (32 ∷ r)) ≡ t ∷ values_of r
unfolding values_of
value_apart [] r e = refl
value_apart (c ∷ t) r e = let f = free_first 32 c t e in rw f.0 (ap (onto c) (value_apart t r f.1))

-- the values of a row that was written
pub values_apart : (v : ℕ) (vs : List ℕ) → values_of (row_line (v ∷ vs)) ≡ map show_thousandths (v ∷ vs)
unfolding row_line joined_by
values_apart v [] = value_alone (show_thousandths v) (decimal_free 32 (omega arith) 3 v)
values_apart v (w ∷ vs) =
    value_apart (show_thousandths v) (joined_by 32 (map show_thousandths (w ∷ vs))) (decimal_free 32 (omega arith) 3 v)
    ∙ ap (λ t. show_thousandths v ∷ t) (values_apart w vs)

pub row_free : (vs : List ℕ) → count_of 13 (row_line vs) ≡ 0
unfolding row_line joined_by count_of
row_free [] = refl
row_free (v ∷ []) = decimal_free 13 (omega arith) 3 v
row_free (v ∷ w ∷ vs) =
    count_append 13 (show_thousandths v) (32 ∷ joined_by 32 (map show_thousandths (w ∷ vs)))
    ∙ omega (arith, decimal_free 13 (omega arith) 3 v, row_free (w ∷ vs))

-- ---- levels that were written

unnamed_off : thousandths_of unnamed ≡ None
unfolding thousandths_of decimal_of
unnamed_off = refl

pub level_given_lem : (v : ℕ) → v ≤ max_network_level → given unnamed (show_thousandths v) ≡ true
level_given_lem v h =
    either (same_text (show_thousandths v) unnamed)
    (λ yes. let same = same_equal (show_thousandths v) unnamed yes in
    let z : None ≡ Some v = sym unnamed_off ∙ ap thousandths_of (sym same) ∙ thousandths_back v (omega arith) in
    let k : ◌≡◌ {A = ℕ} 0 1 = cc in absurd (omega arith))
    (λ other. rw other)

-- a value that is given reads as its level, and spells it
value_got : (nodata t : List ℕ) → is_value nodata t ≡ true → given nodata t ≡ true
    → thousandths_of t ≡ Some (level_in t)
value_got nodata t v g =
    let other = not-true (same_text t nodata) g in
    got_value (thousandths_of t) (or-false (is_got (thousandths_of t)) (rw other at v))
  where
    or-false : (a : Bool) → (a || false) ≡ true → a ≡ true
    or-false true e = refl
    or-false false e = e

pub value-is : (nodata t : List ℕ) → is_value nodata t ≡ true → given nodata t ≡ true
    → InThousandths t (level_in t)
value-is nodata t v g = (thousandths_exact t (level_in t) (value_got nodata t v g)).1

-- with three decimals it is how its level is written
pub value_three : (t : List ℕ) → has_three t ≡ true → t ≡ show_thousandths (level_in t)
value_three t h = three_same t (got_value (decimal_of 3 t) h)

-- what holds of each level, of a whole row
abbrev pub Levels : List ℕ → Type 0
Levels vs = (i : ℕ) → get_or vs i 0 ≤ max_network_level

pub texts_row : (vs : List ℕ) → Levels vs → all (is_value unnamed) (map show_thousandths vs) ≡ true
unfolding all
texts_row [] q = refl
texts_row (v ∷ vs) q = rw (thousandths_back v (omega (arith, q 0))) (texts_row vs (λ i. q (suc i)))

pub texts_given : (vs : List ℕ) → Levels vs → all (given unnamed) (map show_thousandths vs) ≡ true
unfolding all
texts_given [] q = refl
texts_given (v ∷ vs) q = rw (level_given_lem v (q 0)) (texts_given vs (λ i. q (suc i)))

pub texts_three : (vs : List ℕ) → Levels vs → all has_three (map show_thousandths vs) ≡ true
unfolding all
texts_three [] q = refl
texts_three (v ∷ vs) q = rw (decimal_back 3 v (omega (arith, q 0))) (texts_three vs (λ i. q (suc i)))

pub texts_levels : (vs : List ℕ) → Levels vs → map level_in (map show_thousandths vs) ≡ vs
texts_levels [] q = refl
texts_levels (v ∷ vs) q = rw (thousandths_back v (omega (arith, q 0)), texts_levels vs (λ i. q (suc i)))

-- ---- header lines that were written

pub begins_self : (word t : List ℕ) → begins word (word ++ t) ≡ true
unfolding begins
begins_self word t = rw (take-append_seam word t) (same_self word)

pub number_back_lem : (key : List ℕ) (n : ℕ) → n < 10000000 → number_after key (key_line key n) ≡ Some n
unfolding number_after
number_back_lem key n h = rw (begins_self key (show_whole n), drop-append_seam key (show_whole n)) (whole_back n h)

-- a header line that gives a number is its key and that number, of seven digits at most
pub key_line_lem : (key l : List ℕ) (n : ℕ) → number_after key l ≡ Some n → (n < 10000000) × (l ≡ key_line key n)
unfolding number_after begins
key_line_lem key l n e =
    either (same_text (take (length key) l) key)
    (λ yes. let number : whole_of (drop (length key) l) ≡ Some n = rw yes at e in
    let w = whole_exact (drop (length key) l) n number in
    let k = same_equal (take (length key) l) key yes in (
      whole_small (drop (length key) l) n number,
      sym (take-append-drop (length key) l) ∙ ap (λ (a : List ℕ). a ++ drop (length key) l) k
          ∙ ap (λ (b : List ℕ). key ++ b) w,
    ))
    (λ other. let z : None ≡ Some n = rw other at e in let k : ◌≡◌ {A = ℕ} 0 1 = cc in absurd (omega arith))

pub key_free : (key : List ℕ) (n : ℕ) → count_of 13 key ≡ 0 → count_of 13 (key_line key n) ≡ 0
key_free key n e = count_append 13 key (show_whole n) ∙ omega (arith, e, shown_free 13 (omega arith) 7 n)

-- ---- a row doesn't name the no-data value: it begins with a digit

first_digit_lem : (k n : ℕ) → get_or (shown (suc k) n) 0 0 ≤ 57
unfolding shown
first_digit_lem zero n = either (ltb n 10) (λ yes. rw yes (omega (arith, ltb-true n 10 yes)))
    (λ no. rw no (omega arith))
first_digit_lem (suc k) n =
    either (ltb n 10)
    (λ yes. rw yes (omega (arith, ltb-true n 10 yes)))
    (λ no. rw (no, get_or-append (shown (suc k) (n / 10)) ((48 + n % 10) ∷ []) 0 0 (shown_least k (n / 10)))
    (first_digit_lem k (n / 10)))

names_other : (line : List ℕ) → get_or line 0 0 ≤ 57 → names line ≡ false
unfolding begins same_text
names_other [] h = refl
names_other (c ∷ line) h = rw (ne_eqb c 78 (λ e. omega arith))

pub names_row : (line : List ℕ) (v : ℕ) (t : List ℕ) → line ≡ show_thousandths v ++ t → names line ≡ false
names_row line v t e =
    let whole = show_whole (v / 1000) in
    let some = shown_least 6 (v / 1000) in
    let a : get_or (show_thousandths v) 0 0 ≡ get_or whole 0 0 =
    get_or-append whole (46 ∷ show_digits 3 (v % 1000)) 0 0 some in
    let l : 1 ≤ length (show_thousandths v) = omega (arith, length-append whole (46 ∷ show_digits 3 (v % 1000))) in
    let b = get_or-append (show_thousandths v) t 0 0 l in
    names_other line (omega (arith, ap (λ s. get_or s 0 0) e, a, b, first_digit_lem 6 (v / 1000)))
