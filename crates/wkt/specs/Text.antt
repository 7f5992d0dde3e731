-- The text of contours: RULES, "Files and the report program". Assumes nothing.
use Rattle.std.specs.Prelude.{ℕ, List, [], ◌∷◌, ◌++◌, map, take}
use Rattle.text.specs.Spelled.{bytes}
use Rattle.text.specs.Number.{show_decimal}
use Rattle.network.specs.declared.Frame.{Frame}
use Rattle.network.specs.Edges.{edge_at}
use Rattle.contour_rules.specs.Contours.{Contour, bit}
use Rattle.wkt.specs.declared.Spot.{Spot}
use Rattle.wkt.specs.Places.{spot_of}

-- millimetres as metres with three decimals
abbrev pub show_metres : ℕ → List ℕ
show_metres n = show_decimal 3 n

-- x and y, parted by a space
abbrev pub show_spot : Spot → List ℕ
show_spot s = show_metres s.x ++ (32 ∷ show_metres s.y)

-- the place of the crossing on the edge of a number
unfoldable pub place_text : (levels : List ℕ) (f : Frame) (v : ℕ) (n : ℕ) → List ℕ
place_text levels f v n = show_spot (spot_of levels f v (edge_at f.columns f.rows n))

-- what stands before points and lines, and after them
abbrev pub bracket : List ℕ
bracket = bytes "("

abbrev pub comma : List ℕ
comma = bytes ", "

abbrev pub closing : List ℕ
closing = bytes ")"

-- points, `before` before the first, a comma and a space before each other, and a parenthesis that closes the line
unfoldable pub points_text : (levels : List ℕ) (f : Frame) (v : ℕ) (before ns : List ℕ) → List ℕ
points_text levels f v before [] = closing
points_text levels f v before (n ∷ ns) = before ++ place_text levels f v n ++ points_text levels f v comma ns

-- lines, by the edges of their points, in the same way
unfoldable pub lines_text : (levels : List ℕ) (f : Frame) (v : ℕ) (before : List ℕ) (ls : List (List ℕ))
    → List ℕ
lines_text levels f v before [] = closing
lines_text levels f v before (l ∷ ls) =
    before ++ points_text levels f v bracket l ++ lines_text levels f v comma ls

-- how the text begins, and ends where there is no line
abbrev pub multilinestring : List ℕ
multilinestring = bytes "MULTILINESTRING "

abbrev pub empty : List ℕ
empty = bytes "EMPTY"

unfoldable pub text_of : (levels : List ℕ) (f : Frame) (v : ℕ) (ls : List (List ℕ)) → List ℕ
text_of levels f v [] = multilinestring ++ empty
text_of levels f v (l ∷ ls) = multilinestring ++ lines_text levels f v bracket (l ∷ ls)

-- the points of a line: its edges, and the first again where it closes (`closed` is 1)
abbrev pub points_of : List ℕ → ℕ → List ℕ
points_of edges closed = edges ++ take closed edges

-- the text of contours
abbrev pub contours_text : (levels : List ℕ) (f : Frame) (v : ℕ) (cs : List Contour) → List ℕ
contours_text levels f v cs =
    text_of levels f v (map (λ (c : Contour). points_of c.edges (bit c.closes)) cs)
