-- `contour::list_straight` meets its contract. Assumes nothing.
use native.Mathlib.Omega.{arith}
use Rattle.network.proofs.Numbers.{edges_le}
use Rattle.contour_rules.proofs.Every.{few}
use Rattle.contour.specs.InnerDesk.{pictured}
use Rattle.contour.proofs.Handing.{straight}
use Rattle.contour.proofs.list_straight.Goals as goal
use Rattle.contour.proofs.list_straight.Goals.{Start}

pub put_sizes-requires : goal.put_sizes-requires
put_sizes-requires c =
    let l = c.list_network-got.ensures in
    let d = c.args.network.sized.sides in
    let k = few (pictured c.args.network c.args.v) d.wide in
    let m = edges_le c.args.network.nx c.args.network.ny d.narrow d.low in
    (c.requires.1, (omega (arith, l.edge_places, k.0), omega (arith, l.contours, k.1)))

pub returns : goal.returns
returns c =
    let a = c.args in
    straight _ a.edges.now a.counts.now a.closed.now a.sizes.now _ _ _ _ _ _
    c.list_network-got.ensures c.requires.1 c.put_sizes.ensures
