-- `contours_steps::words::contour_of` meets its contract: the level's range, or no level. Assumes nothing.
use mathlib.Core.{Path.◌≡◌, Path.sym, Path.◌∙◌, Bool.true, Bool.false}
use Rattle.std.proofs.Common.{rules}
use Rattle.network.specs.Limits.{least_contour, max_contour}
use Rattle.network.specs.Refusals.{between}
use Rattle.contours_steps.proofs.Levels.{word_got, word_off_rule}
use Rattle.contours_steps.proofs.words.contour_of.Goals as goal

pub returns-in_err-v : goal.returns-in_err-v
returns-in_err-v c = c.from_residual.ensures ∙ sym (word_off_rule c.args.word.now c.in_err-v.ensures)

pub returns-then-contains : goal.returns-then-contains
returns-then-contains c =
    let in_range : between least_contour c.in_ok-v.v max_contour ≡ true = search rules in
    sym (word_got c.args.word.now c.in_ok-v.v c.in_ok-v.ensures ∙ rw in_range)

pub returns : goal.returns
returns c =
    let outside : between least_contour c.in_ok-v.v max_contour ≡ false = search rules in
    sym (word_got c.args.word.now c.in_ok-v.v c.in_ok-v.ensures ∙ rw outside)
