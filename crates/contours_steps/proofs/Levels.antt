-- The contour level of a word. Assumes nothing.
use Rattle.std.specs.Prelude.{ℕ, ◌≤◌}
use mathlib.Core.{Path.◌≡◌, Path.refl, Bool.true, Bool.cond, List.List}
use Rattle.refusal.proofs.Laws.{and_right}
use Rattle.network.specs.Limits.{least_contour, max_contour}
use Rattle.network.specs.Refusals.{between}
use Rattle.network.proofs.Refusals.{in_between}
use Rattle.text.specs.Number.{thousandths_of, is_got}
use Rattle.std.specs.Prelude.{Some, None}
use Rattle.contours_steps.specs.Words.{is_contour, word_level}

module _ (w : List ℕ) where
  pub word_got : (v : ℕ) → Some v ≡ thousandths_of w
      → cond (is_contour w) (Some (word_level w)) None ≡ cond (between least_contour v max_contour) (Some v) None
  unfolding is_contour
  word_got v is = rw (← is) refl

  pub word_off_rule : None ≡ thousandths_of w → cond (is_contour w) (Some (word_level w)) None ≡ None
  unfolding is_contour
  word_off_rule is = rw (← is) refl

-- a word that is a contour's level is in its range
pub word_range : (w : List ℕ) → is_contour w ≡ true
    → (least_contour ≤ word_level w) × (word_level w ≤ max_contour)
unfolding is_contour
word_range w h = in_between least_contour (word_level w) max_contour (and_right (is_got (thousandths_of w)) _ h)
