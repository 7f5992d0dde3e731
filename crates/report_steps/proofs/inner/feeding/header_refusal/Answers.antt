-- `report_steps::inner::feeding::header_refusal` meets its contract: the header with as many levels as points, or
-- another. Assumes nothing.
use Rattle.report_steps.proofs.Takings.{header_fits, header_other}
use Rattle.report_steps.proofs.inner.feeding.header_refusal.Goals as goal

pub returns-in-Some : goal.returns-in-Some
returns-in-Some c = header_fits c.register_points.ensures c.in-Some.is c.if-n-points.true

pub returns-in_default : goal.returns-in_default
returns-in_default c = header_other c.register_points.ensures c.in-Some.is c.if-n-points.false
