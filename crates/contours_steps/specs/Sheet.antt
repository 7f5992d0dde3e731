-- All that the program contours writes on standard output, from the network's bytes and its arguments.
-- CRLF is 13 and 10. Assumes nothing.
use Rattle.std.specs.Prelude.{ℕ, ◌*◌, cond, List, [], ◌∷◌, ◌++◌, length, ◌==◌, nat_le, nat_lt}
use Rattle.text.specs.Number.{show_number, show_thousandths}
use Rattle.text.specs.Spelled.{bytes}
use Rattle.text.specs.Line.{lines_of}
use Rattle.network.specs.declared.Frame.{Frame}
use Rattle.network.specs.Limits.{max_side}
use Rattle.grid.specs.File.{fault_line}
use Rattle.grid.specs.Read.{header_size, text_frame, text_levels, read_refusal}
use Rattle.wkt.specs.Calls.{network_text}
use Rattle.contours_steps.specs.Words.{words_refusal, levels_in}

abbrev pub line_end : List ℕ
line_end = 13 ∷ 10 ∷ []

abbrev pub heading : List ℕ
heading = bytes "level;wkt" ++ line_end

-- the line of a level: the level with three decimals, a semicolon, and the text of its contours
abbrev pub line_start : ℕ → List ℕ
line_start v = show_thousandths v ++ bytes ";"

abbrev pub level_line : List ℕ → Frame → ℕ → List ℕ
level_line levels f v = line_start v ++ (network_text levels f v ++ line_end)

unfoldable pub level_lines : List ℕ → Frame → List ℕ → List ℕ
level_lines levels f [] = []
level_lines levels f (v ∷ vs) = level_line levels f v ++ level_lines levels f vs

-- a network and its contour levels that are not refused
unfoldable pub sheet_of : List ℕ → Frame → List ℕ → List ℕ
sheet_of levels f vs = heading ++ level_lines levels f vs

-- `refused,number,line`
unfoldable pub refused_line : (number line : ℕ) → List ℕ
refused_line number line =
    bytes "refused," ++ (show_number number ++ (bytes "," ++ (show_number line ++ line_end)))

-- the network is judged whole, 17, 12 and 13, and then the words
abbrev pub max_points_drawn : ℕ
max_points_drawn = max_side * max_side

abbrev pub text_refusal : List ℕ → ℕ
text_refusal text = read_refusal text header_size max_points_drawn

unfoldable pub refusal_of : List ℕ → List (List ℕ) → ℕ
refusal_of text words = cond (text_refusal text == 0) (words_refusal words) (text_refusal text)

-- 17 has the first line at fault; the others are of the whole
abbrev pub refused_at : List ℕ → ℕ → ℕ
refused_at text number = cond (number == 17) (fault_line (lines_of text)) 0

-- standard output
unfoldable pub written_of : List ℕ → List (List ℕ) → List ℕ
written_of text words =
    cond (refusal_of text words == 0)
    (sheet_of (text_levels text) (text_frame text) (levels_in words))
    (refused_line (refusal_of text words) (refused_at text (refusal_of text words)))

-- the line that a next byte would have stood in
unfoldable pub line_begun : List ℕ → ℕ
line_begun text = length (lines_of (text ++ (0 ∷ [])))

-- standard output where the network's bytes can't be read on
abbrev pub failed_of : List ℕ → List ℕ
failed_of text = refused_line 17 (line_begun text)

-- The program has room for one byte more than the longest text that is neither 17 nor 12, so that its end is seen:
-- 65,536 values of up to 8 bytes and the byte behind each, and the header. Of a text that fills the room the lines that
-- it ends are judged, and the header: the first at fault is 17, and else the text has too many values
abbrev pub max_text : ℕ
max_text = 590176

unfoldable pub overlong_line : List ℕ → ℕ
overlong_line text =
    cond (nat_le (fault_line (lines_of text)) 5) (fault_line (lines_of text))
    (cond (nat_lt (fault_line (lines_of text)) (line_begun text)) (fault_line (lines_of text)) 0)

unfoldable pub overlong_of : List ℕ → List ℕ
overlong_of text = cond (overlong_line text == 0) (refused_line 12 0) (refused_line 17 (overlong_line text))
