-- Header lines, values and rows pass their tests exactly if they are on their layout. Assumes nothing.
use Prim.Native.Nat.{ℕ, suc, ◌≤◌, ◌<◌}
use mathlib.Core.{Path.◌≡◌, Path.refl, Path.sym, Path.ap, Path.◌∙◌, List.List, List.[], List.◌∷◌}
use mathlib.Core.Bool.{Bool, true, false, ◌||◌, true≢false, or-true}
use native.Mathlib.Omega.{arith}
use lib.ListN.{length, get_or}
use Rattle.text.specs.{Field.count_of, Field.field_of, Number.thousandths_of, Number.is_got, Number.value_of}
use Rattle.text.specs.{Same.same_text}
use Rattle.std.specs.Prelude.{Some}
use Rattle.text.proofs.{Digits.either, Digits.got_value, Thousandths.thousandths_read, Thousandths.thousandths_exact}
use Rattle.grid.specs.{Row.all, Row.values_of, Row.is_value, Row.is_row, File.number_after}
use Rattle.grid.proofs.{ValueLaws.all_cons, ValueLaws.all_none, Values.number_back_lem, Values.key_line_lem}
use Rattle.text.proofs.Sames.{same_equal, same_self}
use Rattle.grid_rules.specs.Refused.{Keyed, Level, RowOn}
use Rattle.grid_rules.proofs.Places.{all-at, value_field, value_count}

got_is : {n : ℕ} (x : _) → x ≡ Some n → is_got x ≡ true
got_is x e = rw e refl

-- ---- header lines

pub key_on : (key l : List ℕ) → is_got (number_after key l) ≡ true → Keyed key l
key_on key l e =
    let k = key_line_lem key l (value_of (number_after key l)) (got_value (number_after key l) e) in
    record { number = value_of (number_after key l); most = k.0; is = k.1 }

pub key_passes : (key l : List ℕ) → Keyed key l → is_got (number_after key l) ≡ true
key_passes key l k = got_is (number_after key l) (ap (number_after key) k.is ∙ number_back_lem key k.number k.most)

-- ---- values and rows

pub level_on : (t : List ℕ) → is_got (thousandths_of t) ≡ true → Level t
level_on t e = let x = thousandths_exact t _ (got_value (thousandths_of t) e) in
    record { number = value_of (thousandths_of t); most = x.0; is = x.1 }

pub level_passes_lem : (t : List ℕ) → Level t → is_got (thousandths_of t) ≡ true
level_passes_lem t l = got_is (thousandths_of t) (thousandths_read t l.number l.most l.is)

value_on : (nodata t : List ℕ) → is_value nodata t ≡ true → (t ≡ nodata → ⊥) → Level t
value_on nodata t v other =
    level_on t (first (is_got (thousandths_of t)) (same_text t nodata) v (λ s. other (same_equal t nodata s)))
  where
    first : (a b : Bool) → (a || b) ≡ true → (b ≡ true → ⊥) → a ≡ true
    first true b e f = refl
    first false b e f = absurd (f e)

value_passes : (nodata t : List ℕ) → ((t ≡ nodata → ⊥) → Level t) → is_value nodata t ≡ true
value_passes nodata t l =
    either (same_text t nodata)
    (λ yes. rw yes (or-true (is_got (thousandths_of t))))
    (λ other. let level = level_passes_lem t
    (l (λ e. true≢false (sym (ap (λ (s : List ℕ). same_text s nodata) e ∙ same_self nodata) ∙ other)))
    in rw level refl)

-- a test that holds at each place holds of all
pub all_from : {A : Type 0} (p : A → Bool) (xs : List A) (d : A)
    → ((i : ℕ) → i < length xs → p (get_or xs i d) ≡ true) → all p xs ≡ true
all_from p [] d h = all_none p
all_from p (x ∷ xs) d h =
    let first : p x ≡ true = h 0 (omega arith) in
    all_cons p x xs ∙ rw first (all_from p xs d (λ i l. h (suc i) (omega arith)))

pub row_on : (nodata l : List ℕ) → is_row nodata l ≡ true → RowOn nodata l
row_on nodata l e c h other =
    let v = all-at (is_value nodata) (values_of l) [] e c (omega (arith, value_count l)) in
    value_on nodata (field_of 32 c l) (rw (value_field l c) at v) other

pub row_passes : (nodata l : List ℕ) → RowOn nodata l → is_row nodata l ≡ true
row_passes nodata l on =
    all_from (is_value nodata) (values_of l) []
    (λ i h. let in_line_rule : i ≤ count_of 32 l = omega (arith, value_count l) in
    rw (value_field l i) (value_passes nodata (field_of 32 i l) (on i in_line_rule)))
