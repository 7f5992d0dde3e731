use mathlib.Core.{Path.ap}
use Rattle.std.specs.Prelude.{length}
use native.Mathlib.Omega.{arith}
use Rattle.journal.proofs.Reading.{Step, step_laid, nothing_left, length_tail, some_left, none_left, counted_more}
use Rattle.journal.proofs.numbers.count_calls.Goals as goal
use Rattle.journal.proofs.numbers.count_calls.Goals.{After-width_of}

step : (c : After-width_of) → Step c.loop-rest.rest.now c.width_of.result
step c =
    step_laid _ _ c.width_of.ensures (some_left _ c.is_empty.ensures c.loop-rest-test.true)
    c.loop-rest.invariant.laid

pub loop-rest-preserved : goal.loop-rest-preserved
loop-rest-preserved c = counted_more c.loop-rest.invariant (step (goal.at.loop-rest-preserved c).After-width_of)

pub loop-rest-smaller : goal.loop-rest-smaller
loop-rest-smaller c =
    let s = step (goal.at.loop-rest-smaller c).After-width_of in
    omega (arith, s.some, s.fits, length_tail c.loop-rest.rest.now c.width_of.result)

pub slice_bounds-rest-count : goal.slice_bounds-rest-count
slice_bounds-rest-count c = (step (goal.at.slice_bounds-rest-count c).After-width_of).fits

pub slice_bounds-rest-start : goal.slice_bounds-rest-start
slice_bounds-rest-start c = (step (goal.at.slice_bounds-rest-start c).After-width_of).fits

pub offset_bounds-rest-width_of : goal.offset_bounds-rest-width_of
offset_bounds-rest-width_of c =
    let s = (step (goal.at.offset_bounds-rest-width_of c).After-width_of).fits in omega arith

pub returns : goal.returns
returns c =
    let n = ap length (nothing_left c.loop-rest.rest.now (none_left _ c.is_empty.ensures c.loop-rest-test.false)).1 in
    omega arith

pub loop-rest-init : goal.loop-rest-init
loop-rest-init c = record { within = omega arith; laid = c.requires; calls = omega arith }
