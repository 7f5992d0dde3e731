-- No text of a number has a parting byte, a comma or a space. Assumes nothing.
use Rattle.std.specs.Prelude.{◌≡◌, ℕ, zero, suc, ◌+◌, ◌/◌, ◌%◌, ◌^◌, ◌<◌, ◌≤◌, ltb, List, [], ◌∷◌, ◌++◌}
use mathlib.Core.Path.{refl, sym, ap, ◌∙◌}
use mathlib.Core.List.{append-nil}
use native.Mathlib.Omega.{arith}
use borrow.Author.Tests.{ne_eqb}
use Rattle.text.specs.Number.{shown, show_whole, show_digits, show_decimal, show_level}
use Rattle.text.specs.Field.{count_of}
use Rattle.text.proofs.{Digits.either, Fields.count_append, Shown.digits_front_lem}

module _ (d : ℕ) (low : d < 46) where
  -- a byte from the point on is no parting byte
  pub byte_free : (c : ℕ) (r : List ℕ) → 46 ≤ c → count_of d (c ∷ r) ≡ count_of d r
  unfolding count_of
  byte_free c r h = rw (ne_eqb c d (λ e. omega arith))

  pub shown_free : (k n : ℕ) → count_of d (shown k n) ≡ 0
  unfolding shown count_of
  shown_free zero n = refl
  shown_free (suc k) n =
      either (ltb n 10)
      (λ yes. rw yes (byte_free (48 + n) [] (omega arith)))
      (λ no. rw no (count_append d (shown k (n / 10)) ((48 + n % 10) ∷ [])
      ∙ rw (shown_free k (n / 10), byte_free (48 + n % 10) [] (omega arith))))

  pub digits_free : (k n : ℕ) (r : List ℕ) → count_of d (show_digits k n ++ r) ≡ count_of d r
  digits_free zero n r = refl
  digits_free (suc k) n r =
      ap (λ t. count_of d (t ++ r)) (digits_front_lem k n)
      ∙ byte_free (48 + n / 10 ^ k) (show_digits k (n % 10 ^ k) ++ r) (omega arith)
      ∙ digits_free k (n % 10 ^ k) r

  pub nil_free : count_of d [] ≡ 0
  unfolding count_of
  nil_free = refl

  pub decimal_free : (k n : ℕ) → count_of d (show_decimal k n) ≡ 0
  decimal_free k n =
      let t = show_digits k (n % 10 ^ k) in
      let rest : count_of d t ≡ 0 = ap (count_of d) (sym (append-nil t)) ∙ digits_free k (n % 10 ^ k) []
      ∙ nil_free in
      count_append d (show_whole (n / 10 ^ k)) (46 ∷ t)
      ∙ rw (shown_free 7 (n / 10 ^ k), byte_free 46 t (omega arith), rest)

  pub level_free : (n : ℕ) → count_of d (show_level n) ≡ 0
  level_free n = decimal_free 2 n
