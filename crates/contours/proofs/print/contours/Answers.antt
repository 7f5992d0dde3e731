-- `contours::print::contours` meets its contract: the buffers have room for the edges of every network, and the listed
-- contours are the network's. Assumes nothing.
use Rattle.std.specs.Prelude.{ℕ, ◌≤◌, length, replicate}
use native.Mathlib.Omega.{arith}
use lib.ListN.{length-replicate}
use Rattle.network.specs.Edges.{edges}
use Rattle.network.proofs.Numbers.{edges_le}
use Rattle.wkt.proofs.Contours.{printable, edges_front, counts_front, closed_front, text_front}
use Rattle.contours.proofs.print.contours.Goals as goal

-- a local buffer has room for the edges of every network
long : (nx ny : ℕ) → nx ≤ 256 → ny ≤ 256 → edges nx ny ≤ length {A = ℕ} (replicate 130560 0)
long nx ny h k = rw (length-replicate {A = ℕ} 130560 0) (edges_le nx ny h k)

pub list_contours-got-requires : goal.list_contours-got-requires
list_contours-got-requires c =
    let k = c.requires.drawable.checked.sized in
    let l = long c.args.frame.columns c.args.frame.rows k.sides.narrow k.sides.low in
    (k, (l, (l, l)))

pub fronts-requires : goal.fronts-requires
fronts-requires c =
    let t = c.list_contours-got in
    let l = t.ensures in
    let shown = printable c.args.levels.now c.args.frame c.args.v c.requires.drawable.checked in
    record {
      drawable = c.requires.drawable;
      edges_in_bounds = (
        (
          omega (arith, l.edges_fit, t.auto.edges),
          (omega (arith, l.counts_fit_rule, t.auto.counts), omega (arith, l.closed_fit, t.auto.closed)),
        ),
        rw (edges_front l, counts_front l, closed_front l) shown,
      );
      due = rw (text_front l c.args.levels.now c.args.frame c.args.v) c.requires.due;
    }

pub returns : goal.returns
returns c =
    let a = c.args in
    rw (text_front c.list_contours-got.ensures a.levels.now a.frame a.v) at c.fronts.ensures
