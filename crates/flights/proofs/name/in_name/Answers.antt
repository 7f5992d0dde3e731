-- `flights::name::in_name` meets its contract: a digit, or else a capital letter. Assumes nothing.
use Rattle.std.proofs.Common.{arith}
use Rattle.std.proofs.lemmas.Bool.Decides.{nat_tests}
use Rattle.flights.specs.Name.{in_name}
use Rattle.flights.proofs.name.in_name.Goals as goal

pub returns-then-is_ascii_digit : goal.returns-then-is_ascii_digit
unfolding in_name
returns-then-is_ascii_digit c = grind (arith, nat_tests)

pub returns-else-is_ascii_digit : goal.returns-else-is_ascii_digit
unfolding in_name
returns-else-is_ascii_digit c = grind (arith, nat_tests)
