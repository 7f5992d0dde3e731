-- A register's line keeps a sound book sound. Assumes nothing.
use Rattle.report_steps.proofs.Takings.{taken_sound}
use Rattle.report_steps.proofs.inner.feeding.RegisterTable.take_line.Goals as goal

pub returns-clause-kept : goal.returns-clause-kept
returns-clause-kept c = taken_sound c.args.self.now.points c.requires.ready c.take_line.ensures
