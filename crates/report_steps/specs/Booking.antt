-- The calls that a register makes on a book, in their order: what links the bytes to the theorems on histories.
-- Assumes nothing.
use Rattle.std.specs.Prelude.{ℕ, cond, List, [], ◌∷◌, ◌++◌, ◌==◌}
use Rattle.book_rules.specs.Columns.{Book}
use Rattle.book_rules.specs.Calls.{refusal}
use Rattle.book_rules.specs.History.{Made, made}
use Rattle.text.specs.Line.{lines_of}
use Rattle.register.specs.Row.{Layout}
use Rattle.register.specs.Row.{layout_of}
use Rattle.report_steps.specs.Intake.{entering, supplying}
use Rattle.stream.specs.Reading.{opening, line_read}
use Rattle.report_steps.specs.Reading.{Reading, register_step}

-- a row on its layout: *enter*, and where that is accepted and its levels are not blank, *supply*
unfoldable pub layout_calls : ℕ → Book → Layout → List Made
layout_calls p b l =
    made p (entering p l)
    ∷ cond (refusal p b (entering p l) == 0)
    (cond (l.fields.computed == 0) [] (made p (supplying p l) ∷ []))
    []

unfoldable pub row_calls : ℕ → Book → List ℕ → List Made
row_calls p b line = cond ((layout_of p line).refusal == 0) (layout_calls p b (layout_of p line)) []

-- lines in their order, up to the first that is refused; the header makes none
unfoldable pub lines_calls : ℕ → Reading → List (List ℕ) → List Made
lines_calls p s [] = []
lines_calls p s (l ∷ ls) =
    cond (s.refusal == 0)
    (cond (s.line == 1) [] (row_calls p s.held l) ++ lines_calls p (line_read (register_step p) s l) ls)
    []

unfoldable pub register_calls : ℕ → Book → List ℕ → List Made
register_calls p b bytes = lines_calls p (opening b) (lines_of bytes)
