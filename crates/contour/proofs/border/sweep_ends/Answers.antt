-- `contour::border::sweep_ends` meets its contract. Assumes nothing.
use Rattle.contour.proofs.Borders.{ends_swept}
use Rattle.contour.proofs.border.sweep_ends.Goals as goal

pub returns : goal.returns
returns c =
    ends_swept _ c.args.network.sized.sides.wide c.args.row c.requires.0 _ _ _ c.requires.1
    c.try_edge-first.ensures c.try_edge.ensures
