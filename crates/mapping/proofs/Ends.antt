-- The ends of an edge of the network have small numbers. Assumes nothing.
use mathlib.Core.{Path.◌≡◌, Path.refl, Bool.Bool, Bool.true, Bool.false, Bool.cond, List.List}
use Rattle.std.specs.Prelude.{ℕ, ◌<◌, Some, None}
use native.Mathlib.Omega.{arith}
use borrow.Author.Tests.{ltb-true}
use Rattle.refusal.proofs.Laws.{and_left}
use Rattle.network.specs.declared.Edge.{Edge}
use Rattle.network.specs.declared.Edge.TheVariants.{Horizontal, Vertical}
use Rattle.network.specs.declared.Frame.{Frame}
use Rattle.network.specs.{Limits.max_side, Edges.Sides, Edges.WithinEdge, Edges.edges, Edges.edge_at}
use Rattle.mapping.specs.declared.Crossing.{Crossing}
use Rattle.mapping.specs.Fractions.{along_edge, is_crossed, crossing_of}
use Rattle.mapping.specs.Places.{row_of, col_of}

pub ends_small : {nx ny : ℕ} (e : Edge) → Sides nx ny → WithinEdge nx ny e
    → (row_of e < max_side) × (col_of e < max_side)
ends_small (Horizontal row col) s w = (omega (arith, w.0, s.low), omega (arith, w.1, s.narrow))
ends_small (Vertical row col) s w = (omega (arith, w.0, s.low), omega (arith, w.1, s.narrow))
