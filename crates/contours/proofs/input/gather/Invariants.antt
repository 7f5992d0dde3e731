-- `contours::input::gather` meets its contract: the words before place i are gathered. Assumes nothing.
use Rattle.std.specs.Prelude.{◌≡◌, length}
use Rattle.contours_steps.proofs.Gathering.{Gathering}
use Rattle.contours.proofs.input.gather.Given as goal

abbrev pub invariant-loop-place : goal.invariant-loop-place
invariant-loop-place l =
    Gathering l.asked l.fit l.place × (length l.asked ≡ length l.initial.asked)
