-- Inner steps: no promise uses them. A line walked square by square, and what tracing one leaves. Assumes nothing.
use Rattle.std.specs.Prelude.{Some, None}
use Rattle.std.specs.Prelude.{◌≡◌, ℕ, ◌+◌, ◌<◌, ◌≤◌, true, List, length}
use Rattle.room.specs.Room.{put}
use Rattle.contour_rules.specs.Crossings.{Ahead}
use Rattle.contour_rules.specs.Picture.{Picture}
use Rattle.contour_rules.specs.Squares.{WithinSquare, exit_of}
use Rattle.contour_rules.specs.Crossings.{beyond, through, next_number, ahead_of, edges_in, edge_of, crossed_at}
use Rattle.contour_rules.specs.Contours.{waits, waiting, contour_from, without}

-- what lies ahead is in the network, or outside
abbrev pub WithinAhead : ℕ → ℕ → Ahead → Type 0
WithinAhead nx ny (Some a) = WithinSquare nx ny a.row a.col
WithinAhead nx ny None = Unit {0}

-- through the square ahead: the number of the edge by which the line leaves it, and what lies ahead there
abbrev pub step_edge : Picture → Ahead → ℕ
step_edge g a = next_number g.nx g.ny (through g a)

abbrev pub step_ahead : Picture → Ahead → Ahead
step_ahead g (Some a) = beyond g.nx g.ny a.row a.col (exit_of g a.row a.col a.side)
step_ahead g None = None

-- only crossed edges wait
abbrev pub OnlyCrossed : Picture → List ℕ → Type 0
OnlyCrossed g list = (m : ℕ) → waits list m ≡ true → crossed_at g m ≡ true

-- what a trace from an edge needs: the waiting list, what lies ahead of the edge, and room for what waits
pub record Traceable (g : Picture) (list edges : List ℕ) (from n : ℕ) (ahead : Ahead) : Type 0 where
  pub long : length list ≡ edges_in g
  pub only : OnlyCrossed g list
  pub heads : n < edges_in g → ahead ≡ ahead_of g (edge_of g n)
  pub room : from + waiting list ≤ length edges

-- what tracing a contour leaves
pub record Traced (g : Picture) (list edges : List ℕ) (from n r : ℕ) (list' edges' : List ℕ) : Type 0 where
  pub ends : r ≡ from + length (contour_from g list n)
  pub listed : edges' ≡ put edges from (contour_from g list n)
  pub taken : list' ≡ without list (contour_from g list n)
