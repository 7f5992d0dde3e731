-- Inner steps: no promise uses them. What the writers of the report ask and leave: room for the longest text, and
-- numbers that have one. Assumes nothing.
use Rattle.std.specs.Prelude.{◌≡◌, ℕ, ◌<◌, ◌≤◌, List, slice_index}
use Rattle.refusal.specs.Refusal.{told}
use Rattle.room.specs.Room.{Wrote}
use Rattle.movement.specs.Limits.{max_points}
use Rattle.book_rules.specs.Columns.{Book}
use Rattle.register.specs.LimitsFile.{LimitsFile}
use Rattle.report_text.specs.declared.inner.Report.{Report}
use Rattle.report_text.specs.Text.{book_text, book_refusal}

-- a level, a limit or a verdict of at most 6 bytes, with its comma; and all three
abbrev pub longest_word : ℕ
longest_word = 7

abbrev pub longest_judged : ℕ
longest_judged = 21

-- two numbers with their commas, and the CRLF
abbrev pub longest_totals : ℕ
longest_totals = 44

-- the longest line of a point with its CRLF: a number, what was judged, and the totals
abbrev pub longest_point : ℕ
longest_point = 85

-- the header with its CRLF, and with eight such lines behind it
abbrev pub header_size : ℕ
header_size = 44

abbrev pub longest_report : ℕ
longest_report = 724

-- limits.csv that was accepted: 1 to 8 points, and limits that have a text
pub record LimitsFit (l : LimitsFile) : Type 0 where
  pub some : 1 ≤ l.points
  pub few : l.points ≤ max_points
  pub low : (i : ℕ) → slice_index l.limits i < 100000

-- the whole report at the front of a buffer, and its refusal for the sentence that goes with it
pub record Reported (l : LimitsFile) (b : Book) (old : List ℕ) (r : Report) (new : List ℕ) : Type 0 where
  pub wrote : Wrote old 0 (book_text l b) new r.size
  pub refused : told r.outcome ≡ book_refusal l b
