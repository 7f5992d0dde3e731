-- Laws of the letters of types and kinds: they read back, and none is a comma. Assumes nothing.
use Rattle.std.specs.Prelude.{◌≡◌, ℕ, zero, suc, ◌<◌}
use mathlib.Core.Path.{refl}
use native.Mathlib.Omega.{arith}
use Rattle.text.specs.{Field.count_of, Letter.place_of, Letter.letter_of, Letter.show_letter}
use Rattle.std.specs.Prelude.{Some}
use Rattle.text.proofs.Letters.{two_back}
use Rattle.register.specs.Letter.{type_letters, kind_letters}

pub type_back : (n : ℕ) → n < 3 → letter_of type_letters (show_letter type_letters n) ≡ Some n
unfolding letter_of place_of
type_back zero h = refl
type_back (suc zero) h = refl
type_back (suc (suc zero)) h = refl
type_back (suc (suc (suc n))) h = absurd (omega arith)

pub kind_back_lem : (n : ℕ) → n < 2 → letter_of kind_letters (show_letter kind_letters n) ≡ Some n
kind_back_lem n h = two_back 83 76 (λ e. absurd (omega arith)) n h

pub type_free : (n : ℕ) → n < 3 → count_of 44 (show_letter type_letters n) ≡ 0
unfolding count_of
type_free zero h = refl
type_free (suc zero) h = refl
type_free (suc (suc zero)) h = refl
type_free (suc (suc (suc n))) h = absurd (omega arith)

pub kind_free : (n : ℕ) → n < 2 → count_of 44 (show_letter kind_letters n) ≡ 0
unfolding count_of
kind_free zero h = refl
kind_free (suc zero) h = refl
kind_free (suc (suc n)) h = absurd (omega arith)
