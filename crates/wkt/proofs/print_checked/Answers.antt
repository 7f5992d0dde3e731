-- `wkt::print_checked` meets its contract. Assumes nothing.
use Rattle.std.specs.Prelude.{ℕ, ◌≤◌, length, replicate}
use native.Mathlib.Omega.{arith}
use lib.ListN.{length-replicate}
use Rattle.network.specs.{Limits.max_side, Limits.max_edges, Edges.edges}
use Rattle.network.proofs.Numbers.{edges_le}
use Rattle.wkt.proofs.Contours.{printable, edges_front, counts_front, closed_front, text_front}
use Rattle.wkt.proofs.print_checked.Goals as goal

-- a local buffer has room for the edges of every network
long : (nx ny : ℕ) → nx ≤ max_side → ny ≤ max_side → edges nx ny ≤ length {A = ℕ} (replicate max_edges 0)
long nx ny h k = rw (length-replicate {A = ℕ} max_edges 0) (edges_le nx ny h k)

pub list_contours-got-requires : goal.list_contours-got-requires
list_contours-got-requires c =
    let l = long c.args.frame.columns c.args.frame.rows c.requires.sized.sides.narrow
    c.requires.sized.sides.low in
    (c.requires.sized, (l, (l, l)))

pub print_fronts-requires : goal.print_fronts-requires
print_fronts-requires c =
    let t = c.list_contours-got in
    let l = t.ensures in (
      (
        omega (arith, l.edges_fit, t.auto.edges),
        (
          omega (arith, l.counts_fit_rule, t.auto.counts),
          omega (arith, l.closed_fit, t.auto.closed),
        ),
      ),
      rw (edges_front l, counts_front l, closed_front l)
          (printable c.args.levels.now c.args.frame c.args.v c.requires),
    )

pub returns : goal.returns
returns c =
    let a = c.args in
    rw (← text_front c.list_contours-got.ensures a.levels.now a.frame a.v)
    c.print_fronts.ensures
