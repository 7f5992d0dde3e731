-- Where a contour crosses an edge, for map layers: RULES, "Network and contours". Assumes nothing.
use Rattle.std.specs.Prelude.{◌≡◌, ℕ, ◌+◌, Bool, false, cond, ◌&&◌, T, List, pos, nat_lt, Float}
use Rattle.std.specs.Prelude.{Result, Ok, Err}
use Rattle.std.specs.Float.{binary64}
use Rattle.std.specs.Float.Ieee.{round, of_int, le}
use Rattle.refusal.specs.declared.Refusal.{Refusal}
use Rattle.refusal.specs.Refusal.{Answers}
use Rattle.network.specs.declared.Edge.{Edge}
use Rattle.network.specs.declared.Edge.TheVariants.{Horizontal, Vertical}
use Rattle.network.specs.declared.Frame.{Frame}
use Rattle.network.specs.Edges.{level_at, edges, edge_at}
use Rattle.network.specs.Crossed.{crossed_at, distance}
use Rattle.network.specs.Refusals.{contour_refusal}
use Rattle.mapping.specs.declared.Crossing.{Crossing}
use Rattle.mapping.specs.declared.Crossing.TheVariants.{Nowhere, AlongHorizontal, AlongVertical}

-- the binary64 value of a whole number
abbrev pub whole : ℕ → Float
whole n = of_int binary64 (pos n)

-- r is the binary64 nearest to num / den (ties to even), and lies from 0 to 1
pub record Rounded (num den : ℕ) (r : Float) : Type 0 where
  pub nearest : r ≡ round binary64 false num den
  pub low : T (le (whole 0) r)
  pub high : T (le r (whole 1))

-- how far along an edge from a level a to a level b the level v lies: |v - a| / |b - a|, the one division, rounded once
abbrev pub fraction_of : ℕ → ℕ → ℕ → Float
fraction_of v a b = round binary64 false (distance v a) (distance b a)

-- the crossing of an edge of the network that is crossed
abbrev pub along_edge : (levels : List ℕ) (nx v : ℕ) (e : Edge) → Crossing
along_edge levels nx v (Horizontal row col) =
    AlongHorizontal (fraction_of v (level_at levels nx row col) (level_at levels nx row (col + 1)))
along_edge levels nx v (Vertical row col) =
    AlongVertical (fraction_of v (level_at levels nx row col) (level_at levels nx (row + 1) col))

-- whether the edge of that number is in the network and crossed
abbrev pub is_crossed : (levels : List ℕ) (f : Frame) (v n : ℕ) → Bool
is_crossed levels f v n = nat_lt n (edges f.columns f.rows) && crossed_at levels f.columns f.rows v n

-- the crossing of the edge of a number: none exactly where that edge isn't in the network or isn't crossed
abbrev pub crossing_of : (levels : List ℕ) (f : Frame) (v n : ℕ) → Crossing
crossing_of levels f v n =
    cond (is_crossed levels f v n) (along_edge levels f.columns v (edge_at f.columns f.rows n)) Nowhere

-- a crossing's number and fraction: 0 none, 1 along a horizontal edge, 2 along a vertical edge
abbrev pub which_of : Crossing → ℕ
which_of Nowhere = 0
which_of (AlongHorizontal f) = 1
which_of (AlongVertical f) = 2

abbrev pub fraction_shown : Crossing → Float
fraction_shown Nowhere = whole 0
fraction_shown (AlongHorizontal f) = f
fraction_shown (AlongVertical f) = f

-- an answer's crossing by number and fraction: 0 and 0.0 where the call refuses
abbrev pub asked_which : Result Crossing Refusal → ℕ
asked_which (Ok c) = which_of c
asked_which (Err why) = 0

abbrev pub asked_fraction : Result Crossing Refusal → Float
asked_fraction (Ok c) = fraction_shown c
asked_fraction (Err why) = whole 0

-- the call: 12, 13, 15, and then the crossing
abbrev pub CrossingAsked : (levels : List ℕ) (f : Frame) (v n : ℕ) → Result Crossing Refusal → Type 0
CrossingAsked levels f v n = Answers (contour_refusal levels f v) (crossing_of levels f v n)
