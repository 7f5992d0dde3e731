-- `text::inner::line_end` meets its contract. The invariant: from each byte passed the line ends at the same place.
-- Assumes nothing.
use Rattle.std.specs.Prelude.{◌≡◌, ◌+◌, length, drop}
use Rattle.text.specs.Line.{first_line}
use Rattle.text.proofs.inner.line_end.Given as goal

abbrev pub invariant-loop-i : goal.invariant-loop-i
invariant-loop-i l = l.i + length (first_line (drop l.i l.s)) ≡ l.at + length (first_line (drop l.at l.s))
