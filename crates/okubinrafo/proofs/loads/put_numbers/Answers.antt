use mathlib.Core.{Path.◌≡◌, Path.ap, Path.◌∙◌, List.◌++◌}
use native.Mathlib.Omega.{arith}
use lib.{ListN.length, ListN.take, ListN.drop, ListN.length-set, Seq.take-length}
use Rattle.okubinrafo.specs.Loads.{numbers_from}
use Rattle.okubinrafo.proofs.Numbers.{copy_more, length-numbers}
use Rattle.okubinrafo.proofs.loads.put_numbers.Goals as goal

pub loop-k-preserved : goal.loop-k-preserved
loop-k-preserved c =
    let l = c.loop-k in
    let a = c.args in
    let numbers = numbers_from a.load.total a.load.level a.load.counts in
    let long = length-numbers a.load.total a.load.level a.load.counts (omega arith) in (
      length-set l.answer _ _ ∙ l.invariant.0,
      rw (c.number_at.ensures, l.invariant.1)
          (copy_more a.answer.now numbers l.k (omega arith) (omega arith)),
    )

pub returns : goal.returns
returns c =
    let l = c.loop-k in
    let a = c.args in
    let numbers = numbers_from a.load.total a.load.level a.load.counts in
    let long = length-numbers a.load.total a.load.level a.load.counts (omega arith) in
    let last : l.k ≡ length numbers = omega arith in
    l.invariant.1
    ∙ ap (λ j. take j numbers ++ drop j a.answer.now) last
    ∙ ap (λ t. t ++ drop (length numbers) a.answer.now) (take-length numbers)
