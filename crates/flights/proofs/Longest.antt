-- The longest row has 48 bytes before its CRLF, 46 in tracks.csv, and the longest header 51: a longer line is off its
-- layout. Assumes nothing.
use Rattle.std.specs.Prelude.{ℕ, zero, suc, ◌<◌, ◌≤◌}
use mathlib.Core.{Path.◌≡◌, Path.ap, List.List, Bool.and-false, Logic.⊎_elim}
use native.Mathlib.Omega.{arith}
use lib.{ListN.length, Dec.eqb}
use Rattle.text.specs.{Field.count_of, Field.field_of, Line.bare_line}
use Rattle.std.specs.Prelude.{Some}
use Rattle.text.proofs.Digits.{either, got_value, whole_small}
use Rattle.text.proofs.{Exact.whole_exact, Shown.shown_width, Sames.same_length}
use Rattle.text.proofs.{Fields.widest, Fields.line_within, Indices.every_each}
use Rattle.text.proofs.{Clocks.time_exact, Letters.letter_exact}
use Rattle.flights.specs.Cell.{cell_of, cell_at, got_at, value_at}
use Rattle.flights.specs.Header.{track_header, movement_header, is_header, header_refusal}
use Rattle.flights.specs.{Row.refused_flight, Row.flight_of, Limits.longest_row, Limits.longest_header}
use Rattle.flights.specs.Spelled.{Circuit}
use Rattle.flights.specs.Spelled.Circuit.{blank, marked}
use Rattle.flights.proofs.{Dates.date_exact, Names.name_few, Circuits.circuit_spelled, Exact.Laid}
use Rattle.flights.proofs.Exact.{row_laid}

-- the most bytes that column k has
width : ℕ → ℕ
width zero = 7
width (suc zero) = 10
width (suc (suc zero)) = 8
width (suc (suc (suc zero))) = 1
width (suc (suc (suc (suc zero)))) = 1
width (suc (suc (suc (suc (suc zero))))) = 4
width (suc (suc (suc (suc (suc (suc zero)))))) = 4
width (suc (suc (suc (suc (suc (suc (suc zero))))))) = 4
width (suc (suc (suc (suc (suc (suc (suc (suc k)))))))) = 1

mark_within : {text : List ℕ} {mark : ℕ} → Circuit text mark → length text ≤ 1
mark_within (blank e z) = omega (arith, ap length e)
mark_within (marked e z) = omega (arith, ap length e)

-- a field that was read is no longer
cell_within : (k : ℕ) (t : List ℕ) (v : ℕ) → cell_of k t ≡ Some v → length t ≤ width k
unfolding cell_of width
cell_within zero t v e = omega (arith, ap length (whole_exact t v e), shown_width 7 6 v (whole_small t v e))
cell_within (suc zero) t v e = omega (arith, ap length (date_exact t v e).0)
cell_within (suc (suc zero)) t v e = omega (arith, ap length (time_exact t v e).0)
cell_within (suc (suc (suc zero))) t v e = omega (arith, ap length (letter_exact _ t v e).0)
cell_within (suc (suc (suc (suc zero)))) t v e = omega (arith, ap length (letter_exact _ t v e).0)
cell_within (suc (suc (suc (suc (suc zero))))) t v e = (name_few t v e).1
cell_within (suc (suc (suc (suc (suc (suc zero)))))) t v e = (name_few t v e).1
cell_within (suc (suc (suc (suc (suc (suc (suc zero))))))) t v e = (name_few t v e).1
cell_within (suc (suc (suc (suc (suc (suc (suc (suc k)))))))) t v e = mark_within (circuit_spelled t v e)

laid_within : (columns : ℕ) (s : List ℕ) → Laid columns s → (m : ℕ) → columns ≡ suc m
    → length s ≤ widest width m
laid_within columns s l m c =
    let n : count_of 44 s ≡ m = omega (arith, l.count) in
    line_within 44 m s width n (λ k h.
    let b : k < columns = omega arith in
    cell_within k (field_of 44 k s) (value_at s k) (got_value (cell_at s k) (every_each (got_at s) k columns b l.got)))

track_most : widest width 7 ≤ 46
unfolding widest width
track_most = omega arith

movement_most : widest width 8 ≤ 48
unfolding widest width
movement_most = omega arith

-- a longer row is off its layout, with its CRLF or without
pub long_row_lem : (columns : ℕ) (row : List ℕ) → longest_row < length (bare_line row)
    → flight_of columns row ≡ refused_flight 16
long_row_lem columns row h =
    ⊎_elim (λ off. off)
    (λ on. let l = on.0 in
    ⊎_elim
    (λ e. absurd (omega (arith, laid_within columns (bare_line row) l 7 e, track_most)))
    (λ e. absurd (omega (arith, laid_within columns (bare_line row) l 8 e, movement_most)))
    l.layout)
    (row_laid columns row)

pub long_track : (row : List ℕ) → 46 < length (bare_line row) → flight_of 8 row ≡ refused_flight 16
long_track row h =
    ⊎_elim (λ off. off)
    (λ on. absurd (omega (arith, laid_within 8 (bare_line row) on.0 7 (omega arith), track_most)))
    (row_laid 8 row)

-- and a longer line is no header
pub long_header : (columns : ℕ) (line : List ℕ) → longest_header < length line
    → header_refusal columns line ≡ 16
unfolding is_header
long_header columns line h =
    let tracks = same_length line track_header (λ e. omega arith) in
    let movements = same_length line movement_header (λ e. omega arith) in
    either (eqb columns 8)
    (λ yes. rw (yes, tracks))
    (λ no. rw (no, movements, and-false (eqb columns 9)))
