-- No line on its layout is longer than the header of the movements. Assumes nothing.
use Rattle.std.specs.Prelude.{ℕ, ◌<◌}
use mathlib.Core.{Path.◌≡◌, Path.refl, Bool.false, Bool.and-false, List.List}
use native.Mathlib.Omega.{arith}
use lib.{ListN.length, Dec.eqb}
use Rattle.text.specs.{Line.bare_line}
use Rattle.text.proofs.{Digits.either, Lines.bare_most, Sames.same_length}
use Rattle.flights.specs.{Header.is_header, Header.track_header, Header.movement_header}
use Rattle.flights.specs.Column.{track_columns, movement_columns}
use Rattle.flights.proofs.Longest.{long_row_lem}
use Rattle.stream.specs.Reading.{Longest}
use Rattle.couple_steps.specs.Table.{Rows, line_refusal, line_after, table_step, longest_text}

long_header : (columns : ℕ) (line : List ℕ) → 51 < length line → is_header columns line ≡ false
unfolding is_header
long_header columns line h =
    let tracks = same_length line track_header (λ e. absurd (omega arith)) in
    let movements = same_length line movement_header (λ e. absurd (omega arith)) in
    either (eqb columns track_columns)
    (λ yes. rw (yes, tracks) refl)
    (λ no. rw (no, movements) (and-false (eqb columns movement_columns)))

module _ (columns n : ℕ) (line : List ℕ) (h : longest_text < length (bare_line line)) where
  long_refused : line_refusal columns n line ≡ 16
  unfolding line_refusal
  long_refused =
      either (eqb n 1)
      (λ yes. rw (yes, long_header columns line (omega (arith, bare_most line))) refl)
      (λ no. rw (no, long_row_lem columns line (omega arith)) refl)

  long_after : (rows : Rows) → line_after columns n rows line ≡ rows
  unfolding line_after
  long_after rows = either (eqb n 1) (λ yes. rw yes refl) (λ no. rw (no, long_refused) refl)

pub longest_table : (columns : ℕ) → Longest (table_step columns) longest_text
longest_table columns =
    record {
      off = λ n rows line h. long_refused columns n line h;
      kept = λ n rows line h. long_after columns n line h rows;
    }
