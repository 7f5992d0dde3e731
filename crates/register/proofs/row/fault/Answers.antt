-- `register::row::fault` meets its contract: its tests are those of `fault_of`. Assumes nothing.
use Rattle.std.proofs.Common.{arith}
use Rattle.std.proofs.lemmas.Bool.Decides.{nat_tests}
use Rattle.std.proofs.lemmas.Grind.{common_steps}
use Rattle.register.specs.Row.{fault_of}
use Rattle.register.proofs.row.fault.Goals as goal

pub returns-then-not-fields_fit : goal.returns-then-not-fields_fit
unfolding fault_of
returns-then-not-fields_fit c = grind (arith, common_steps, nat_tests)

pub returns-then-not-identity_fits : goal.returns-then-not-identity_fits
unfolding fault_of
returns-then-not-identity_fits c = grind (arith, common_steps, nat_tests)

pub returns-then-not-fits : goal.returns-then-not-fits
unfolding fault_of
returns-then-not-fits c = grind (arith, common_steps, nat_tests)

pub returns : goal.returns
unfolding fault_of
returns c = grind (arith, common_steps, nat_tests)
