-- The fields of a line, each at its place: no field has a comma or a CR. Assumes nothing.
use mathlib.Core.{Path.◌≡◌, Path.refl, Path.◌∙◌, List.[], List.◌∷◌}
use Prim.Native.Nat.{ℕ, zero, suc, ◌+◌, ◌/◌, ◌%◌, ◌<◌}
use native.Mathlib.Omega.{arith}
use lib.{ListN.get_or, Dec.eqb}
use Rattle.movement.specs.declared.period.Period.{Period}
use Rattle.movement.specs.declared.period.Period.TheVariants.{Day, Evening, Night}
use Rattle.movement.specs.Group.{group_period}
use Rattle.text.specs.Sheet.{line}
use Rattle.text.specs.{Field.count_of, Field.field_of, Number.show_number, Spelled.bytes, Letter.show_letter}
use Rattle.text.proofs.{Digits.either, Fields.Free, Fields.count_append, Fields.join_field, Fields.join_count_all}
use Rattle.text.proofs.Free.{byte_free, nil_free, shown_free}
use Rattle.register.specs.Letter.{type_letters, kind_letters}
use Rattle.text.proofs.Sheets.{at_least, least_free, joined_free}
use Rattle.explain_text.specs.declared.amounts.Amounts.{Amounts}
use Rattle.explain_text.specs.Text.{period_text, factor_text, amount_fields, group_fields, all_fields}

module _ (d : ℕ) (low : d < 46) where
  type_free : (n : ℕ) → n < 3 → count_of d (show_letter type_letters n) ≡ 0
  unfolding at_least
  type_free zero h = least_free 46 d low (bytes "G") refl
  type_free (suc zero) h = least_free 46 d low (bytes "K") refl
  type_free (suc (suc zero)) h = least_free 46 d low (bytes "H") refl
  type_free (suc (suc (suc n))) h = absurd (omega arith)

  kind_free : (n : ℕ) → n < 2 → count_of d (show_letter kind_letters n) ≡ 0
  unfolding at_least
  kind_free zero h = least_free 46 d low (bytes "S") refl
  kind_free (suc zero) h = least_free 46 d low (bytes "L") refl
  kind_free (suc (suc n)) h = absurd (omega arith)

  period_free : (p : Period) → count_of d (period_text p) ≡ 0
  unfolding at_least
  period_free Day = least_free 46 d low (bytes "day") refl
  period_free Evening = least_free 46 d low (bytes "evening") refl
  period_free Night = least_free 46 d low (bytes "night") refl

  all_word : count_of d (bytes "all") ≡ 0
  unfolding at_least
  all_word = least_free 46 d low (bytes "all") refl

  factor_free : (upper lower : ℕ) → count_of d (factor_text upper lower) ≡ 0
  unfolding factor_text
  factor_free upper lower =
      either (eqb lower 0)
      (λ yes. rw yes (nil_free d low))
      (λ no. rw no (count_append d (show_number upper) (47 ∷ show_number lower)
      ∙ rw (
        shown_free d low 20 upper,
        byte_free d low 47 (show_number lower) (omega arith),
        shown_free d low 20 lower,
      ) refl))

  amounts_free : (a : Amounts) → Free d (amount_fields a)
  amounts_free a zero h = shown_free d low 20 _
  amounts_free a (suc zero) h = shown_free d low 20 _
  amounts_free a (suc (suc zero)) h = factor_free a.upper a.lower
  amounts_free a (suc (suc (suc zero))) h = shown_free d low 20 _
  amounts_free a (suc (suc (suc (suc zero)))) h = shown_free d low 20 _
  amounts_free a (suc (suc (suc (suc (suc i))))) h = absurd (omega arith)

  group_free : (point g : ℕ) → g < 18 → (a : Amounts) → Free d (group_fields point g a)
  group_free point g l a zero h = shown_free d low 20 (point + 1)
  group_free point g l a (suc zero) h = type_free (g / 6) (omega arith)
  group_free point g l a (suc (suc zero)) h = kind_free (g % 6 / 3) (omega arith)
  group_free point g l a (suc (suc (suc zero))) h = period_free (group_period g)
  group_free point g l a (suc (suc (suc (suc i)))) h = amounts_free a i (omega arith)

  all_free_rule : (point : ℕ) (a : Amounts) → Free d (all_fields point a)
  all_free_rule point a zero h = shown_free d low 20 (point + 1)
  all_free_rule point a (suc zero) h = all_word
  all_free_rule point a (suc (suc zero)) h = nil_free d low
  all_free_rule point a (suc (suc (suc zero))) h = nil_free d low
  all_free_rule point a (suc (suc (suc (suc i)))) h = amounts_free a i (omega arith)

-- no CR in a line
pub group_unbroken : (point g : ℕ) → g < 18 → (a : Amounts) → count_of 13 (line (group_fields point g a)) ≡ 0
group_unbroken point g l a =
    joined_free 13 (group_fields point g a) (λ e. absurd (omega arith)) (group_free 13 (omega arith) point g l a)

pub all_unbroken : (point : ℕ) (a : Amounts) → count_of 13 (line (all_fields point a)) ≡ 0
all_unbroken point a =
    joined_free 13 (all_fields point a) (λ e. absurd (omega arith)) (all_free_rule 13 (omega arith) point a)

-- eight commas, and each field at its place
pub group_commas : (point g : ℕ) → g < 18 → (a : Amounts) → count_of 44 (line (group_fields point g a)) ≡ 8
group_commas point g l a =
    omega (arith, join_count_all 44 (group_fields point g a) (group_free 44 (omega arith) point g l a) (omega arith))

pub all_commas : (point : ℕ) (a : Amounts) → count_of 44 (line (all_fields point a)) ≡ 8
all_commas point a =
    omega (arith, join_count_all 44 (all_fields point a) (all_free_rule 44 (omega arith) point a) (omega arith))

pub group_field : (point g : ℕ) → g < 18 → (a : Amounts) (k : ℕ) → k < 9
    → field_of 44 k (line (group_fields point g a)) ≡ get_or (group_fields point g a) k []
group_field point g l a k h = join_field 44 (group_fields point g a) (group_free 44 (omega arith) point g l a) k h

pub all_field : (point : ℕ) (a : Amounts) (k : ℕ) → k < 9
    → field_of 44 k (line (all_fields point a)) ≡ get_or (all_fields point a) k []
all_field point a k h = join_field 44 (all_fields point a) (all_free_rule 44 (omega arith) point a) k h
