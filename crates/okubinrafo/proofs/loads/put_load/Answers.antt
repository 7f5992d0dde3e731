-- `okubinrafo::loads::put_load` meets its contract: no room, or the numbers. Assumes nothing.
use mathlib.Core.Path.{refl}
use native.Mathlib.Omega.{arith}
use Rattle.room.proofs.Answers.{lack}
use Rattle.okubinrafo.proofs.Numbers.{length-numbers}
use Rattle.okubinrafo.proofs.loads.put_load.Goals as goal

pub returns-then-answer-lt-LOAD_NUMBERS : goal.returns-then-answer-lt-LOAD_NUMBERS
returns-then-answer-lt-LOAD_NUMBERS c =
    let l = c.args.load in
    let long = length-numbers l.total l.level l.counts (omega arith) in
    lack refl (omega (arith, long, c.if-answer-lt-LOAD_NUMBERS.true))
