-- `flights::cell::circuit` meets its contract. Assumes nothing.
use Rattle.std.proofs.Common.{arith}
use Rattle.std.proofs.lemmas.Bool.Decides.{nat_tests}
use Rattle.flights.specs.Cell.{circuit_of}
use Rattle.flights.proofs.cell.circuit.Goals as goal

pub returns-in-empty : goal.returns-in-empty
unfolding circuit_of
returns-in-empty c = grind (arith, nat_tests)

pub returns-in_default : goal.returns-in_default
unfolding circuit_of
returns-in_default c = grind (arith, nat_tests)

pub returns-in_default-2 : goal.returns-in_default-2
unfolding circuit_of
returns-in_default-2 c = grind (arith, nat_tests)
