-- The rows of a text, one line after the other. Assumes nothing.
use Rattle.std.specs.Prelude.{ℕ, suc, ◌+◌, ◌<◌, ◌≤◌, Bool, true, false, cond, ◌&&◌, Some, None}
use mathlib.Core.{Path.◌≡◌, Path.refl, Path.sym, Path.ap, Path.◌∙◌, List.List, List.[], List.◌∷◌, List.map}
use mathlib.Core.Bool.{and-true}
use native.Mathlib.{Nat.add-zero, Nat.add_assoc, Omega.arith}
use lib.{Dec.eqb, ListN.length, ListN.drop}
use Rattle.network.specs.declared.Frame.{Frame}
use Rattle.grid.specs.{Row.all, Row.values_of, Row.is_row, Row.has_values, File.first_off, File.rows_fit}
use Rattle.grid.specs.InnerSteps.{lines_at, line_from, LineAt, row_sound, row_of}
use Rattle.grid.specs.declared.head.Line.{Line}
use Rattle.grid.specs.declared.judge.Row.{Row}
use Rattle.grid.proofs.LineLaws.{line_here, line_none}
use Rattle.grid.proofs.ValueLaws.{all_cons, all_none, and_assoc}

-- a line's answer says what it is
row_got : (nodata line : List ℕ) (row : Row) → row_of nodata line ≡ Some row
    → (is_row nodata line ≡ true) × (length (values_of line) ≡ row.values) × (row_sound nodata line ≡ row.sound)
unfolding row_of
row_got nodata line row e = got (is_row nodata line) _ row e
  where
    got : (b : Bool) (r row : Row) → cond b (Some r) None ≡ Some row
        → (b ≡ true) × (r.values ≡ row.values) × (r.sound ≡ row.sound)
    got true r row e = (refl, cc, cc)
    got false r row e = cc

row_lost : (nodata line : List ℕ) → row_of nodata line ≡ None → is_row nodata line ≡ false
unfolding row_of
row_lost nodata line e = lost (is_row nodata line) _ e
  where
    lost : (b : Bool) (r : Row) → cond b (Some r) None ≡ None → b ≡ false
    lost true r e = cc
    lost false r e = refl

-- the first test that fails, by the first of them
pub off_here : (n : ℕ) (rest : List Bool) → first_off n (false ∷ rest) ≡ n
unfolding first_off
off_here n rest = refl

pub off_later : (n : ℕ) (rest : List Bool) → first_off n (true ∷ rest) ≡ first_off (n + 1) rest
unfolding first_off
off_later n rest = refl

pub off_none : (n : ℕ) → first_off n [] ≡ 0
unfolding first_off
off_none n = refl

-- a walk along the rows from `from` on: `count` passed, and the next one starts at `at`
pub record RowsAt (nodata : List ℕ) (columns first : ℕ) (s : List ℕ) (from at count : ℕ)
    (fits sound : Bool) : Type 0 where
  pub within : at ≤ length s
  pub few : count ≤ at
  pub on : first_off first (map (is_row nodata) (lines_at s from)) ≡ first_off (first + count)
      (map (is_row nodata) (lines_at s at))
  pub number : count + length (lines_at s at) ≡ length (lines_at s from)
  pub fitted : all (has_values columns) (lines_at s from) ≡ (fits && all (has_values columns) (lines_at s at))
  pub levels : all (row_sound nodata) (lines_at s from) ≡ (sound && all (row_sound nodata) (lines_at s at))

pub rows_start : (nodata : List ℕ) (columns first : ℕ) (s : List ℕ) (from : ℕ) → from ≤ length s
    → RowsAt nodata columns first s from from 0 true true
rows_start nodata columns first s from h = record {
  within = h;
  few = omega arith;
  on = rw (add-zero first);
  number = omega arith;
  fitted = refl;
  levels = refl;
}

module _ {nodata : List ℕ} {columns first : ℕ} {s : List ℕ} {from at count : ℕ} {fits sound : Bool}
    (w : RowsAt nodata columns first s from at count fits sound) where
  module _ (h : at < length s) where
    -- what a test of all says of the first row and the rest
    split : (p : List ℕ → Bool) → all p (lines_at s at) ≡ (p (line_from s at) && all p (drop 1 (lines_at s at)))
    split p = ap (all p) (line_here s at h) ∙ all_cons p (line_from s at) (drop 1 (lines_at s at))

    tests : map (is_row nodata) (lines_at s at) ≡ is_row nodata (line_from s at) ∷ map (is_row nodata)
        (drop 1 (lines_at s at))
    tests = ap (map (is_row nodata)) (line_here s at h)

    pub rows_off_rule : row_of nodata (line_from s at) ≡ None
        → first_off first (map (is_row nodata) (lines_at s from)) ≡ first + count
    rows_off_rule e = w.on ∙ ap (first_off (first + count)) tests
        ∙ rw (row_lost nodata (line_from s at) e) (off_here (first + count) _)

    pub rows_next : (l : Line) → LineAt s at l → (row : Row) → row_of nodata (line_from s at) ≡ Some row
        → RowsAt nodata columns first s from l.next (count + 1) (fits && eqb row.values columns) (sound && row.sound)
    rows_next l line row e =
        let n = row.values in
        let fine = row.sound in
        let g = row_got nodata (line_from s at) row e in
        let r = line.passed.rest in
        let k : count + suc (length (drop 1 (lines_at s at))) ≡ length (lines_at s from) =
        sym (ap (λ x. count + length x) (line_here s at h)) ∙ w.number in
        let m = ap length r in
        let rest = drop 1 (lines_at s at) in
        let a : all (has_values columns) (lines_at s at) ≡ (eqb n columns && all (has_values columns) rest) =
        split (has_values columns) ∙ rw g.1 in
        let b : all (row_sound nodata) (lines_at s at) ≡ (fine && all (row_sound nodata) rest) =
        split (row_sound nodata) ∙ rw g.2 in
        record {
          within = line.passed.inside;
          few = omega (arith, w.few, line.moves h);
          on = w.on ∙ ap (first_off (first + count)) tests
              ∙ rw (g.0, ← add_assoc first count 1, r) (off_later (first + count) _);
          number = omega arith;
          fitted = w.fitted ∙ ap (λ x. fits && x) a
              ∙ rw r (and_assoc fits (eqb n columns) (all (has_values columns) rest));
          levels = w.levels ∙ ap (λ x. sound && x) b ∙ rw r (and_assoc sound fine (all (row_sound nodata) rest));
        }

  module _ (h : length s ≤ at) where
    pub rows_on : first_off first (map (is_row nodata) (lines_at s from)) ≡ 0
    rows_on = w.on ∙ ap (λ l. first_off (first + count) (map (is_row nodata) l)) (line_none s at h)
        ∙ off_none (first + count)

    pub rows_fit_rule : (f : Frame) → f.columns ≡ columns
        → rows_fit f (lines_at s from) ≡ (eqb count f.rows && fits)
    unfolding rows_fit
    rows_fit_rule f e =
        let n : length (lines_at s from) ≡ count = sym w.number
        ∙ ap (λ l. count + length l) (line_none s at h) ∙ add-zero count in
        let a : all (has_values columns) (lines_at s from) ≡ fits =
        w.fitted ∙ ap (λ l. fits && all (has_values columns) l) (line_none s at h)
        ∙ rw (all_none (has_values columns)) (and-true fits) in
        rw (n, e, a)

    pub rows_sound_rule : all (row_sound nodata) (lines_at s from) ≡ sound
    rows_sound_rule = w.levels ∙ ap (λ l. sound && all (row_sound nodata) l) (line_none s at h)
        ∙ rw (all_none (row_sound nodata)) (and-true sound)
