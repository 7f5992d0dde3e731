-- `files::feed::read_register`: the source is standard input's. Assumes nothing.
use Rattle.channel.specs.System.{standard_input}
use Rattle.report_steps.proofs.LongLines.{longest_register}
use Rattle.files.proofs.feed.read_register.Goals as goal

pub fill_whole-requires-clause-descriptor : goal.fill_whole-requires-clause-descriptor
fill_whole-requires-clause-descriptor c = standard_input

pub fill_whole-requires-clause-long_is_off : goal.fill_whole-requires-clause-long_is_off
fill_whole-requires-clause-long_is_off c = longest_register c.args.points
