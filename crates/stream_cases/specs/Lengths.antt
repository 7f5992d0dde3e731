-- What a caller's own type does with a line: one longer than `row` bytes is off its layout; of another the length is
-- held. Assumes nothing.
use Rattle.std.specs.Prelude.{ℕ, cond, leb, length}
use Rattle.stream.specs.Reading.{Step}

abbrev pub lengths : (row : ℕ) → Step ℕ
lengths row =
    record {
      refusal = λ n held line. cond (leb (length line) row) 0 16;
      after = λ n held line. cond (leb (length line) row) (length line) held;
    }
