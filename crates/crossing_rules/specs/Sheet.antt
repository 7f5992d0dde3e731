-- Each line of what the program contours writes shows every crossing one time: RULES, "Files and the report program".
-- Assumes nothing.
use Rattle.std.specs.Prelude.{◌≡◌, List, [], ◌++◌, ℕ, suc, get_or}
use Rattle.text.specs.{Number.show_thousandths, Spelled.bytes, Line.lines_of}
use Rattle.grid.specs.Read.{text_frame, text_levels}
use Rattle.contours_steps.specs.{Sheet.written_of, Told.Spells}
use Rattle.crossing_rules.specs.Points.{Shows}

-- the line of word i, behind the heading: the level that the word spells, a semicolon, and a text that shows every
-- crossing of the network that was read, at that level
pub record LineShows (text : List ℕ) (words : List (List ℕ)) (i : ℕ) : Type 0 where
  pub spells : Spells (get_or words i [])
  pub wkt : List ℕ
  pub line : get_or (lines_of (written_of text words)) (suc i) []
      ≡ show_thousandths spells.level ++ (bytes ";" ++ wkt)
  pub shows : Shows (text_levels text) (text_frame text) spells.level wkt
