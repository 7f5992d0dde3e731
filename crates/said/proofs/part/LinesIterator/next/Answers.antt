-- A line is a front of what is left, and what is left then is an end of it. Assumes nothing.
use Rattle.std.specs.Prelude.{◌+◌}
use native.Mathlib.Omega.{arith}
use Rattle.said.proofs.Stretches.{front_alone, front_and_end}
use Rattle.said.proofs.part.LinesIterator.next.Goals as goal
use Rattle.said.proofs.part.LinesIterator.next.Goals.{then-rest-end-lt2, else-rest-end-lt2}

pub returns-clause-steps : goal.returns-clause-steps
returns-clause-steps c =
    let rest = c.args.self.now.rest.now in
    let end = c.row_end-end.result in
    elim c.if-rest-end-lt2.branch [
      | then-rest-end-lt2 w ↦ rw w.self-is (front_alone rest end)
      | else-rest-end-lt2 w ↦ rw w.self-is (front_and_end rest end (end + 2) (omega arith))
    ]
