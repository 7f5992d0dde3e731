-- `couple_steps::inner::put::put_line` meets its contract: an id, a track and the end, each past the other.
-- Assumes nothing.
use mathlib.Core.Path.{◌∙◌}
use Rattle.couple_steps.proofs.Putting.{line_put}
use Rattle.couple_steps.proofs.inner.put.put_line.Goals as goal

pub returns : goal.returns
returns c =
    let a = c.args in
    line_put a.ids.now a.numbers.now a.answers.now a.i c.requires (c.from.ensures ∙ c.number_at.ensures)
    c.number_at-2.ensures c.put_any_number-id.ensures c.put_track-track.ensures c.put_end.ensures
