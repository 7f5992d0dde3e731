-- `channel::file::open_file` meets its contract: the one place that says whose a source is. Assumes nothing.
use Rattle.channel.specs.System.{system_opened}
use Rattle.channel.proofs.file.open_file.Goals as goal

pub returns-in-Ok : goal.returns-in-Ok
returns-in-Ok c = system_opened _ _ (λ e. cc)

pub returns-in-Err : goal.returns-in-Err
returns-in-Err c = system_opened _ _ (λ e. cc)
