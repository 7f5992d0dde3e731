use mathlib.Core.{Path.sym, Path.◌∙◌, Logic.inl, Logic.inr, Logic.⊎_elim}
use Rattle.std.specs.Prelude.{◌≤◌, length}
use Rattle.std.proofs.Common.{rules}
use native.Mathlib.Omega.{arith}
use Rattle.journal.proofs.Reading.{step_tested, laid_cut, nothing_left, some_left, none_left, length_tail}
use Rattle.journal.proofs.numbers.is_laid_out.Goals as goal

pub returns-then-width-lt1 : goal.returns-then-width-lt1
returns-then-width-lt1 c =
    sym (c.loop-rest.invariant.1
    ∙ laid_cut _ _ c.width_of-width.ensures (some_left _ c.is_empty.ensures c.loop-rest-test.true)
    (⊎_elim inl (λ h. inr h.1) c.then-width-lt1.either))

pub loop-rest-preserved : goal.loop-rest-preserved
loop-rest-preserved c =
    let a : 1 ≤ c.width_of-width.result = search rules in
    let b : c.width_of-width.result ≤ length c.loop-rest.rest.now = search rules in
    let step = step_tested _ _ c.width_of-width.ensures (some_left _ c.is_empty.ensures c.loop-rest-test.true) a b in
    let l = length_tail c.loop-rest.rest.now c.width_of-width.result in
    (omega (arith, c.loop-rest.invariant.0), c.loop-rest.invariant.1 ∙ step.laid)

pub offset_bounds-rest-width : goal.offset_bounds-rest-width
offset_bounds-rest-width c = omega (arith, c.loop-rest.invariant.0)

pub returns : goal.returns
returns c =
    sym (c.loop-rest.invariant.1 ∙ (nothing_left _ (none_left _ c.is_empty.ensures c.loop-rest-test.false)).0)
