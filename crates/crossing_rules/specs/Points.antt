-- The text of contours read as lines of points: RULES, "Network and contours" and "Files and the report program". It
-- has as many points as edges, and one more a closed line. Assumes nothing.
use Rattle.std.specs.Prelude.{◌≡◌, ◌⊎◌, List, [], ◌∷◌, ◌++◌, map, ℕ, ◌+◌, ◌≤◌, ◌<◌, length, get_or, take}
use Rattle.room.specs.Lent.{Lent, LentRoom}
use Rattle.text.specs.Spelled.{bytes, byte}
use Rattle.text.specs.Field.{count_of}
use Rattle.network.specs.declared.Frame.{Frame}
use Rattle.contour_rules.specs.{Once.sum_to, EachEdge.LyingCrossed, EachEdge.StandingCrossed}
use Rattle.wkt.specs.Printout.{parted, RowPlace, ColumnPlace}
use Rattle.crossing_rules.specs.OneTime.{edge_of, OneTime}

-- the points of a line: one for each edge, and one more where it closes
abbrev pub points_of : (count mark : ℕ) → ℕ
points_of count mark = count + mark

-- how many contours close
abbrev pub closed_ones : (closed : List ℕ) (contours : ℕ) → ℕ
closed_ones closed contours = sum_to (λ i. get_or closed i 0) contours

module _ (levels : List ℕ) (f : Frame) (v : ℕ) where
  -- points in parentheses, and lines of points: a comma and a space part both
  abbrev pub line_of : List (List ℕ) → List ℕ
  line_of points = bytes "(" ++ parted levels f v points ++ bytes ")"

  abbrev pub text_from : List (List (List ℕ)) → List ℕ
  text_from [] = bytes "MULTILINESTRING EMPTY"
  text_from (l ∷ ls) = bytes "MULTILINESTRING (" ++ parted levels f v (map line_of (l ∷ ls)) ++ bytes ")"

  -- a text is the printed place of the crossing on edge n, a horizontal one or a vertical one
  pub record OnRow (n : ℕ) (text : List ℕ) : Type 0 where
    pub edge : LyingCrossed levels f.columns f.rows v n
    pub place : RowPlace levels f v edge.row edge.col text

  pub record OnColumn (n : ℕ) (text : List ℕ) : Type 0 where
    pub edge : StandingCrossed levels f.columns f.rows v n
    pub place : ColumnPlace levels f v edge.row edge.col text

  abbrev pub PlaceOf : ℕ → List ℕ → Type 0
  PlaceOf n text = OnRow n text ⊎ OnColumn n text

  -- a text, and the numbers of the contours that it shows
  pub record Points (edges counts closed : List ℕ) (listed contours : ℕ) (text : List ℕ) : Type 0 where
    pub lines : List (List (List ℕ))
    pub spelled : text ≡ text_from lines
    -- a line for each contour, with as many points as it has edges, and one more if it closes
    pub each_contour : length lines ≡ contours
    pub points : (i : ℕ) → i < contours → length (get_or lines i []) ≡ points_of (get_or counts i 0) (get_or closed i 0)
    -- each edge has its point, in the order of the edges, and a closed line repeats its first point
    pub places : (i j : ℕ) → i < contours → j < get_or counts i 0
        → PlaceOf (edge_of edges counts i j) (get_or (get_or lines i []) j [])
    pub repeats : (i : ℕ) → i < contours → get_or closed i 0 ≡ 1
        → get_or (get_or lines i []) (get_or counts i 0) [] ≡ get_or (get_or lines i []) 0 []
    -- so it can be counted in the text: a comma stands between two points, an opening bracket before all and before
    -- each line
    pub commas : 0 < contours → count_of (byte ",") text + 1 ≡ listed + closed_ones closed contours
    pub brackets : 0 < contours → count_of (byte "(") text ≡ contours + 1

-- a text that shows every crossing one time
pub record Shows (levels : List ℕ) (f : Frame) (v : ℕ) (text : List ℕ) : Type 0 where
  -- some numbers hold every crossing one time
  pub edges : List ℕ
  pub counts : List ℕ
  pub closed : List ℕ
  pub listed : ℕ
  pub contours : ℕ
  pub one_time : OneTime levels f.columns f.rows v edges counts closed listed contours
  -- and whatever numbers do, as those that the call for contours leaves, it shows them
  pub shows : (edges' counts' closed' : List ℕ) (listed' contours' : ℕ)
      → OneTime levels f.columns f.rows v edges' counts' closed' listed' contours'
      → Points levels f v edges' counts' closed' listed' contours' text

-- what a call left in lent memory: the size beside the text says how much of it shows every crossing one time
pub record TextHolds (levels : Lent) (f : Frame) (v : ℕ) (text size : LentRoom) : Type 0 where
  pub there : get_or size.exit.now 0 0 ≤ length text.exit.now
  pub shows : Shows levels.entry.now f v (take (get_or size.exit.now 0 0) text.exit.now)
