-- `wkt::place::slide` meets its contract. Assumes nothing.
use mathlib.Core.Path.{◌∙◌}
use Rattle.network.proofs.Astride.{num_den}
use Rattle.wkt.proofs.place.slide.Goals as goal

pub offset-requires : goal.offset-requires
offset-requires c = (
  c.requires.1,
  rw (c.apart.ensures, c.apart-2.ensures)
      (num_den c.args.v c.args.a c.args.b c.requires.0),
)

pub returns : goal.returns
returns c = c.offset.ensures ∙ rw (c.apart.ensures, c.apart-2.ensures)
