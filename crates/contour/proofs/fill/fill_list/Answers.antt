-- `contour::fill::fill_list` meets its contract. Assumes nothing.
use Rattle.contour.specs.InnerDesk.{pictured}
use Rattle.contour.proofs.{Rows.fills_all}
use Rattle.contour.proofs.fill.fill_list.Goals as goal

pub returns : goal.returns
returns c =
    fills_all (pictured c.args.network c.args.v) c.args.list.now _ _
    c.requires c.fill_rows.ensures c.fill_rows-2.ensures
