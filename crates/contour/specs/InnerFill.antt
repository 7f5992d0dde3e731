-- Inner steps: no promise uses them. The waiting list while it is filled, row by row. Assumes nothing.
use Rattle.std.specs.Prelude.{◌≡◌, ℕ, ◌-◌, Bool, cond, List, ◌++◌, drop}
use Rattle.network.specs.declared.Edge.{Edge}
use Rattle.network.specs.declared.Edge.TheVariants.{Horizontal, Vertical}
use Rattle.contour_rules.specs.Picture.{Picture}
use Rattle.contour_rules.specs.Contours.{crossed_to}

-- the edges of a row, up to the next row or along the row; how many there are, and how many such rows
abbrev pub edge_in : Bool → ℕ → ℕ → Edge
edge_in up row col = cond up (Vertical row col) (Horizontal row col)

abbrev pub row_width : Bool → ℕ → ℕ
row_width up nx = cond up nx (nx - 1)

abbrev pub row_count : Bool → ℕ → ℕ
row_count up ny = cond up (ny - 1) ny

-- a list on which the edges below n stood has those below n' now, and is else as it was
abbrev pub Fills : (g : Picture) (n n' : ℕ) (list list' : List ℕ) → Type 0
Fills g n n' list list' =
    (d : List ℕ) → list ≡ crossed_to g n ++ drop n d → list' ≡ crossed_to g n' ++ drop n' d
