-- `contour::border::sweep_rows` meets its contract. Assumes nothing.
use Rattle.contour.proofs.Borders.{rows_swept}
use Rattle.contour.proofs.border.sweep_rows.Goals as goal

pub returns : goal.returns
returns c =
    rows_swept _ c.args.network.sized.sides _ _ _ c.sweep_range-south.ensures c.sweep_range.ensures
