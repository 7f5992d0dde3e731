-- The lines of the points, one after another, behind the header. Assumes nothing.
use mathlib.Core.{Path.◌≡◌, Path.refl, Path.sym, List.List, List.[], List.◌++◌}
use Rattle.std.specs.Prelude.{ℕ, ◌+◌, ◌≤◌, length}
use native.Mathlib.Numerals.{add-one}
use Rattle.text.specs.Sheet.{ended}
use Rattle.text.specs.Spelled.{crlf}
use Rattle.book_rules.specs.Columns.{Book}
use Rattle.room.specs.Room.{Wrote}
use Rattle.register.specs.LimitsFile.{LimitsFile}
use Rattle.text.proofs.Sheets.{ended_append}
use Rattle.report_text.proofs.Lines.{wrote_header}
use Rattle.explain_text.specs.Text.{header_line, lines_at, lines_to, points_text}

-- no point, and one more
pub points_none : (p : ℕ) (b : Book) → [] ≡ ended (lines_to p b 0)
unfolding lines_to ended
points_none p b = refl

pub points_more : (p : ℕ) (b : Book) (n : ℕ)
    → ended (lines_to p b n) ++ ended (lines_at p n b) ≡ ended (lines_to p b (n + 1))
unfolding lines_to
points_more p b n = rw (add-one n) (sym (ended_append (lines_to p b n) (lines_at p n b)))

-- the header and all points
pub points_all : (l : LimitsFile) (b : Book) {s mid e : List ℕ} {i j n : ℕ}
    → Wrote s 0 (header_line ++ crlf) mid i
    → Wrote mid i (ended (lines_to l.points b n)) e j → n ≡ l.points → j ≤ length s
    → Wrote s 0 (points_text l b) e j
unfolding points_text
points_all l b {s} {mid} {e} {i} {j} {n} w v q room =
    let ls = lines_to l.points b l.points in
    wrote_header header_line ls w (rw q at v) room
