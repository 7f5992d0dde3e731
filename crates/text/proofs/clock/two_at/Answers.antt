-- `text::clock::two_at` meets its contract: what `digits` answered, and the bound. Assumes nothing.
use Rattle.std.specs.Prelude.{◌≡◌, ◌+◌, ◌-◌, take, drop}
use Rattle.std.proofs.Common.{arith, sym, ◌∙◌}
use borrow.Author.{Tests.lt-ltb, Tests.le-ltb}
use Rattle.text.specs.Number.{digits_of}
use Rattle.text.specs.Clock.{two_at}
use Rattle.text.proofs.clock.two_at.Goals as goal
use Rattle.text.proofs.clock.two_at.Goals.{After-digits}

-- the part that is read is two bytes
two-of : (c : After-digits) → c.digits.result ≡ digits_of 0 (take 2 (drop c.args.at c.args.s.now))
two-of c =
    let e : c.args.at + 2 - c.args.at ≡ 2 = omega arith in c.digits.ensures ∙ rw e

pub returns-in_err-n : goal.returns-in_err-n
unfolding two_at
returns-in_err-n c =
    rw (sym (two-of (goal.at.returns-in_err-n c).After-digits) ∙ c.in_err-n.was) c.from_residual.ensures

pub returns-then-n-bound : goal.returns-then-n-bound
unfolding two_at
returns-then-n-bound c =
    let e = sym (two-of (goal.at.returns-then-n-bound c).After-digits) ∙ c.in_ok-n.was in
    rw (e, lt-ltb c.in_ok-n.n c.args.bound c.if-n-bound.true)

pub returns-else-n-bound : goal.returns-else-n-bound
unfolding two_at
returns-else-n-bound c =
    let e = sym (two-of (goal.at.returns-else-n-bound c).After-digits) ∙ c.in_ok-n.was in
    rw (e, le-ltb c.in_ok-n.n c.args.bound c.if-n-bound.false)
