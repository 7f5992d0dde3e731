-- `contour::list_apart` meets its contract. Assumes nothing.
use Rattle.std.specs.Prelude.{ℕ, ◌≤◌, length, replicate}
use lib.ListN.{length-replicate}
use Rattle.network.specs.{Limits.max_side, Limits.max_edges, Edges.edges}
use Rattle.network.proofs.Numbers.{edges_le}
use Rattle.contour.proofs.Handing.{apart}
use Rattle.contour.proofs.list_apart.Goals as goal
use Rattle.contour.proofs.list_apart.Goals.{Start}

-- a local buffer has room for the edges of every network
long : (nx ny : ℕ) → nx ≤ max_side → ny ≤ max_side → edges nx ny ≤ length {A = ℕ} (replicate max_edges 0)
long nx ny h k = rw (length-replicate {A = ℕ} max_edges 0) (edges_le nx ny h k)

pub returns : goal.returns
returns c =
    let a = c.args in
    apart _ _ _ _ _ _ _ _ _ c.list_network-got.ensures a.edges.now a.counts.now a.closed.now
    a.sizes.now c.hand_out.ensures
