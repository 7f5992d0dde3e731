-- How long the pieces of the text are: 64 bytes hold any. Assumes nothing.
use Rattle.std.specs.Prelude.{ℕ, ◌/◌, ◌≤◌, List, [], ◌∷◌, ◌++◌}
use native.Mathlib.Omega.{arith}
use lib.{Dec.eqb, ListN.length, ListN.get_or, ListN.length-append}
use Rattle.text.proofs.Shown.{shown_short, decimal_long}
use Rattle.network.specs.declared.Frame.{Frame}
use Rattle.network.specs.Edges.{edge_at}
use Rattle.network.proofs.Numbers.{by_cond}
use Rattle.wkt.specs.declared.{Cursor.Cursor, Spot.Spot}
use Rattle.wkt.specs.Places.{spot_of}
use Rattle.wkt.specs.Text.{show_metres, show_spot, place_text, comma, multilinestring, empty}
use Rattle.wkt.specs.InnerParts.{line_at, points_at, end_text, before_text, piece_of}

metres_short : (n : ℕ) → length (show_metres n) ≤ 11
metres_short n = omega (arith, decimal_long 3 n, shown_short 7 (n / 1000))

spot_short : (s : Spot) → length (show_spot s) ≤ 23
spot_short s = omega (
  arith,
  length-append (show_metres s.x) (32 ∷ show_metres s.y),
  metres_short s.x,
  metres_short s.y,
)

pub place_short : (levels : List ℕ) (f : Frame) (v n : ℕ) → length (place_text levels f v n) ≤ 23
unfolding place_text
place_short levels f v n = spot_short (spot_of levels f v (edge_at f.columns f.rows n))

pub before_short : (line point : ℕ) → length (before_text line point) ≤ 18
before_short line point =
    by_cond (λ (l : List ℕ). length l ≤ 18) (eqb point 0) _ comma
    (λ _. by_cond (λ (l : List ℕ). length l ≤ 18) (eqb line 0) (multilinestring ++ (40 ∷ 40 ∷ []))
    (44 ∷ 32 ∷ 40 ∷ []) (λ _. omega arith) (λ _. omega arith))
    (λ _. omega arith)

end_short : (line : ℕ) → length (end_text line) ≤ 64
end_short line = by_cond (λ (l : List ℕ). length l ≤ 64) (eqb line 0) (multilinestring ++ empty) (41 ∷ [])
    (λ _. omega arith) (λ _. omega arith)

pub piece_short : (levels : List ℕ) (f : Frame) (v : ℕ) (listed counts closed : List ℕ) (c : Cursor)
    → length (piece_of levels f v listed counts closed c) ≤ 64
unfolding piece_of
piece_short levels f v listed counts closed c =
    by_cond (λ (l : List ℕ). length l ≤ 64) (eqb c.line (length counts)) (end_text c.line) _
    (λ _. end_short c.line)
    (λ _. by_cond (λ (l : List ℕ). length l ≤ 64) (eqb c.point (points_at counts closed c)) (41 ∷ []) _
    (λ _. omega arith)
    (λ _. omega (
      arith,
      length-append (before_text c.line c.point)
          (place_text levels f v (get_or (line_at listed counts closed c) c.point 0)),
      before_short c.line c.point,
      place_short levels f v (get_or (line_at listed counts closed c) c.point 0),
    )))
