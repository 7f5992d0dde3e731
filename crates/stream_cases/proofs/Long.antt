-- A line longer than `row` bytes is refused. Assumes nothing.
use Rattle.std.specs.Prelude.{ℕ, ◌<◌, length}
use mathlib.Core.{Path.◌≡◌, Path.refl, List.List}
use native.Mathlib.Omega.{arith}
use borrow.Author.Tests.{lt-leb}
use Rattle.text.specs.Line.{bare_line}
use Rattle.text.proofs.Lines.{bare_most}
use Rattle.stream.specs.Reading.{Longest}
use Rattle.stream_cases.specs.Lengths.{lengths}

module _ (row : ℕ) where
  off : (n a : ℕ) (line : List ℕ) → row < length (bare_line line) → (lengths row).refusal n a line ≡ 16
  off n a line h = rw (lt-leb (length line) row (omega (arith, bare_most line))) refl

  kept : (n a : ℕ) (line : List ℕ) → row < length (bare_line line) → (lengths row).after n a line ≡ a
  kept n a line h = rw (lt-leb (length line) row (omega (arith, bare_most line))) refl

  pub longest_lengths : Longest (lengths row) row
  longest_lengths = record { off = off; kept = kept }
