-- `couple::feed::read_tracks`: no row is held before the first line. Assumes nothing.
use Rattle.text.specs.Index.{listing}
use Rattle.couple_steps.proofs.Longest.{longest_table}
use Rattle.couple.proofs.feed.read_tracks.Goals as goal

pub fill_whole-turn-requires-clause-long_is_off : goal.fill_whole-turn-requires-clause-long_is_off
fill_whole-turn-requires-clause-long_is_off c = longest_table 8

pub returns : goal.returns
returns c = unfold listing in c.fill_whole-turn.ensures.done
