-- `flights::is_header` meets its contract, arm by arm. Assumes nothing.
use Rattle.std.proofs.Common.{arith, ◌∙◌}
use Rattle.std.proofs.lemmas.Bool.Decides.{nat_tests}
use Rattle.flights.specs.Header.{is_header}
use Rattle.flights.proofs.is_header.Goals as goal

pub returns-in-8 : goal.returns-in-8
unfolding is_header
returns-in-8 c = grind (arith, nat_tests)

pub returns-in-9 : goal.returns-in-9
unfolding is_header
returns-in-9 c = c.same_text-in-9.ensures ∙ rw c.in-9.is

pub returns-in_default : goal.returns-in_default
unfolding is_header
returns-in_default c = grind (arith, nat_tests)
