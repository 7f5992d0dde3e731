-- `contour::add::add_contour` meets its contract. Assumes nothing.
use native.Mathlib.Omega.{arith}
use Rattle.network.proofs.Numbers.{edges_le}
use Rattle.contour.specs.InnerDesk.{pictured, Desk, desk}
use Rattle.contour.proofs.Buffers.{byte_bit}
use Rattle.contour.proofs.Listings.{count_fits, end_fits, grown}
use Rattle.contour.proofs.add.add_contour.Goals as goal
use Rattle.contour.proofs.add.add_contour.Goals.{Start}

-- the buffers as they were
abbrev first : Start → Desk
first s = desk s.args.list.now s.args.edges.now s.args.counts.now s.args.closed.now
    s.args.so_far.edges s.args.so_far.contours

pub overflow_cast-counts : goal.overflow_cast-counts
overflow_cast-counts c =
    let e = end_fits (pictured c.args.network c.args.v) c.args.closes
    (first (goal.at.overflow_cast-counts c).Start) _ _ _ _ c.requires.1.1 c.requires.0
    c.trace-end.ensures in
    let d = c.args.network.sized.sides in
    omega (arith, e.0, e.1, edges_le c.args.network.nx c.args.network.ny d.narrow d.low)

pub bounds-counts-made : goal.bounds-counts-made
bounds-counts-made c =
    (count_fits (pictured c.args.network c.args.v) c.args.closes
    (first (goal.at.bounds-counts-made c).Start) _ _ _ _ c.requires.1.1 c.requires.0
    c.trace-end.ensures).0

pub bounds-closed-made : goal.bounds-closed-made
bounds-closed-made c =
    (count_fits (pictured c.args.network c.args.v) c.args.closes
    (first (goal.at.bounds-closed-made c).Start) _ _ _ _ c.requires.1.1 c.requires.0
    c.trace-end.ensures).1

pub returns : goal.returns
returns c =
    rw (c.from.ensures, byte_bit c.args.closes) (grown (pictured c.args.network c.args.v) c.args.closes
    (first (goal.at.returns c).Start) _ _ _ _ c.requires.1.1
    c.requires.0 c.trace-end.ensures)
