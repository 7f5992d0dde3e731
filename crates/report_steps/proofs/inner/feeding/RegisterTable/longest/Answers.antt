-- A line longer than any row is refused. Assumes nothing.
use Rattle.report_steps.proofs.LongLines.{longest_register}
use Rattle.report_steps.proofs.inner.feeding.RegisterTable.longest.Goals as goal

pub returns-clause-long_is_off : goal.returns-clause-long_is_off
returns-clause-long_is_off c = longest_register c.args.self.now.points
