-- `couple::feed::read_movements` meets its contract: the source is standard input's, and no row is held before the
-- first line. Assumes nothing.
use Rattle.channel.specs.System.{standard_input}
use Rattle.text.specs.Index.{listing}
use Rattle.couple_steps.proofs.Longest.{longest_table}
use Rattle.couple.proofs.feed.read_movements.Goals as goal

pub fill_whole-requires-clause-descriptor : goal.fill_whole-requires-clause-descriptor
fill_whole-requires-clause-descriptor c = standard_input

pub fill_whole-requires-clause-long_is_off : goal.fill_whole-requires-clause-long_is_off
fill_whole-requires-clause-long_is_off c = longest_table 9

pub returns : goal.returns
returns c = unfold listing in c.fill_whole.ensures.done
