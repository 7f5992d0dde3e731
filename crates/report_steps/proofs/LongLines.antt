-- A line longer than any layout is refused, and leaves the book. Assumes nothing.
use Rattle.std.specs.Prelude.{◌≡◌, ℕ, ◌<◌}
use mathlib.Core.Path.{refl}
use mathlib.Core.{Bool.and-false, List.List}
use native.Mathlib.Omega.{arith}
use lib.{Dec.eqb, Dec.ltb, ListN.length}
use borrow.Author.Tests.{lt-leb}
use Rattle.text.specs.Line.{bare_line}
use Rattle.std.specs.Prelude.{None}
use Rattle.text.proofs.{Digits.either, Lines.bare_most}
use Rattle.book_rules.specs.Columns.{Book}
use Rattle.register.specs.Header.{header_of, register_header}
use Rattle.register.proofs.Longest.{long_row_lem}
use Rattle.stream.specs.Reading.{Longest}
use Rattle.report_steps.specs.{Stream.longest_row, Intake.row_taken, Intake.row_after}
use Rattle.report_steps.specs.Reading.{header_points, line_refusal, line_after, register_step}

header_long : (line : List ℕ) → longest_row < length line → header_points line ≡ None
unfolding header_of
header_long line h =
    rw (lt-leb (length line) (length register_header) (omega arith), and-false (ltb 22 (length line))) refl

long_refused : (p n : ℕ) (b : Book) (line : List ℕ) → longest_row < length (bare_line line)
    → line_refusal p n b line ≡ 16
unfolding line_refusal row_taken
long_refused p n b line h =
    either (eqb n 1)
    (λ yes. rw (yes, header_long line (omega (arith, bare_most line))) refl)
    (λ no. rw (no, long_row_lem p line h) refl)

long_after : (p n : ℕ) (b : Book) (line : List ℕ) → longest_row < length (bare_line line)
    → line_after p n b line ≡ b
unfolding line_after row_after
long_after p n b line h = either (eqb n 1) (λ yes. rw yes refl) (λ no. rw (no, long_row_lem p line h) refl)

pub longest_register : (p : ℕ) → Longest (register_step p) longest_row
longest_register p = record { off = long_refused p; kept = long_after p }
