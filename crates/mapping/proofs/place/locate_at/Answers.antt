-- `mapping::place::locate_at` meets its contract. Assumes nothing.
use native.Mathlib.Omega.{arith}
use borrow.Author.Tests.{le-ltb}
use Rattle.network.specs.Edges.{edges}
use Rattle.mapping.proofs.Ends.{ends_small}
use Rattle.mapping.proofs.place.locate_at.Goals as goal

pub locate_crossing-requires : goal.locate_crossing-requires
locate_crossing-requires c =
    let net = c.new-network.ensures in
    let within = c.edge_at-e.ensures.within (omega (arith, c.if-at-edge_count.true, c.edge_count.ensures)) in
    let s = ends_small c.edge_at-e.result c.requires.sized.sides (rw (net.nx_is, net.ny_is) at within) in (
      (omega (arith, c.row_of.ensures, s.0), omega (arith, c.col_of.ensures, s.1)),
      (c.requires.near, (c.requires.west, c.requires.south)),
    )

pub returns : goal.returns
returns c =
    let a = c.args in
    let net = c.new-network.ensures in
    let all = rw (net.nx_is, net.ny_is) at c.edge_count.ensures in
    rw (le-ltb a.n (edges a.frame.columns a.frame.rows) (omega (arith, c.if-at-edge_count.false, all)))
