-- `contour::inner::list_afresh` meets its contract. Assumes nothing.
use Rattle.contour.specs.InnerDesk.{pictured}
use Rattle.contour.proofs.Listings.{first_room}
use Rattle.contour.proofs.inner.list_afresh.Goals as goal
use Rattle.contour.proofs.inner.list_afresh.Goals.{Start}

pub list_all-requires : goal.list_all-requires
list_all-requires c =
    let f = c.fill_list.ensures in (
      f,
      first_room (pictured c.args.network c.args.v) _ c.args.edges.now c.args.counts.now c.args.closed.now f
          c.requires.1.0 c.requires.1.1.0 c.requires.1.1.1,
    )
