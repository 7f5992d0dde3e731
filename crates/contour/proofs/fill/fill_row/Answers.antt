-- `contour::fill::fill_row` meets its contract. Assumes nothing.
use Rattle.std.specs.Prelude.{◌≡◌, ◌+◌, ◌<◌}
use mathlib.Core.Path.{sym, ap, ◌∙◌}
use native.Mathlib.Omega.{arith}
use lib.ListN.{length-set}
use Rattle.contour_rules.specs.{Picture.Picture, Crossings.crossed, Crossings.crossed_at, Crossings.edges_in}
use Rattle.contour_rules.specs.Contours.{bit}
use Rattle.network.proofs.Numbers.{edges_le}
use Rattle.contour.specs.InnerFill.{edge_in}
use Rattle.contour.specs.InnerDesk.{pictured}
use Rattle.contour.proofs.Buffers.{byte_bit}
use Rattle.contour.proofs.Rows.{row_crossed, fills_more}
use Rattle.contour.proofs.fill.fill_row.Goals as goal
use Rattle.contour.proofs.fill.fill_row.Goals.{In-loop-col}

-- the edge at hand is in the network, and its number is that of the row's first edge and its column
found : (c : In-loop-col) →
    let n = c.args.first + c.loop-col.col in
    let g = pictured c.args.network c.args.v in
    (crossed_at g n ≡ crossed g (edge_in c.args.up c.args.row c.loop-col.col)) × (n < edges_in g)
found c =
    row_crossed (pictured c.args.network c.args.v) c.args.network.sized.sides.wide c.args.up c.args.row c.loop-col.col _
    c.requires.0 (omega (arith, c.loop-col-test.true, c.row_width-col-end.ensures))
    (ap (λ n. n + c.loop-col.col) c.requires.1.0)

pub overflow_add-list : goal.overflow_add-list
overflow_add-list c =
    let d = c.args.network.sized.sides in
    omega (
      arith,
      (found (goal.at.overflow_add-list c).In-loop-col).1,
      edges_le c.args.network.nx c.args.network.ny d.narrow d.low,
    )

pub bounds-list-first : goal.bounds-list-first
bounds-list-first c =
    omega (arith, (found (goal.at.bounds-list-first c).In-loop-col).1, c.loop-col.invariant.0, c.requires.1.1)

pub loop-col-preserved : goal.loop-col-preserved
loop-col-preserved c =
    let a = c.args in
    let l = c.loop-col in
    let g : Picture = pictured a.network a.v in
    let f = found (goal.at.loop-col-preserved c).In-loop-col in
    let x = c.from.ensures ∙ byte_bit c.crossed_edge-crossed.result
    ∙ ap bit (c.crossed_edge-crossed.ensures ∙ ap (crossed g) c.edge_in.ensures ∙ sym f.0) in (
      length-set l.list _ _ ∙ l.invariant.0,
      fills_more g a.first l.col a.list.now l.list _ l.invariant.1
          (omega (arith, f.1, l.invariant.0, c.requires.1.1)) x,
    )
