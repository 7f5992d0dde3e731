-- `couple_steps::inner::put::put_lines` meets its contract: the lines before i stand in the buffer. Assumes nothing.
use Rattle.couple_steps.proofs.Putting.{Putting}
use Rattle.couple_steps.proofs.inner.put.put_lines.Given as goal

abbrev pub invariant-loop-i : goal.invariant-loop-i
invariant-loop-i l = Putting l.ids l.numbers l.answers l.many l.from l.initial.out l.at l.i l.out
