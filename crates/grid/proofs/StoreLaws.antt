-- The levels of rows, stored one after the other. Assumes nothing.
use Rattle.std.specs.Prelude.{◌≡◌, ℕ, suc, ◌+◌, ◌-◌, ◌*◌, ◌<◌, ◌≤◌, length, get_or, take, drop}
use mathlib.Core.Path.{refl, sym, ap, ◌∙◌}
use mathlib.Core.{List.List, List.[], List.◌∷◌, List.◌++◌, List.map, List.append_assoc, Bool.true, Bool.◌&&◌}
use native.Mathlib.{Nat.suc-mul, Nat.zero-mul, Nat.mul-le-mul_right, Omega.arith}
use borrow.Author.Tests.{eqb-true}
use lib.ListN.{length-append, length-drop, length-map}
use lib.Seq.{drop-drop, get_or-drop, drop_at, length-take-le}
use Rattle.text.specs.Field.{up_to}
use Rattle.room.specs.Room.{front, put}
use Rattle.refusal.proofs.Laws.{and_left, and_right}
use Rattle.grid.specs.Row.{all, values_of, has_values, level_in, row_levels, levels_of}
use Rattle.grid.specs.InnerSteps.{lines_at, line_from, LineAt, Rows}
use Rattle.grid.specs.declared.head.Line.{Line}
use Rattle.grid.proofs.LineLaws.{line_here, line_none}
use Rattle.grid.proofs.ValueLaws.{between, last_at, next_at_rule, some_at, all_cons}

-- a walk along a row: i values passed, and the next one starts at `at`
pub record StoreAt (s : List ℕ) (at i : ℕ) : Type 0 where
  pub within : at ≤ length s
  pub few : i ≤ at
  pub rest : map level_in (values_of (drop at s)) ≡ drop i (row_levels s)

pub store_start : (s : List ℕ) → StoreAt s 0 0
unfolding row_levels
store_start s = record { within = omega arith; few = omega arith; rest = refl }

module _ {s : List ℕ} {at i : ℕ} (w : StoreAt s at i) (end : ℕ)
    (e : end ≡ at + length (up_to 32 (drop at s))) where
  -- what follows: the level of the value here, and others
  here : (l : List (List ℕ)) → values_of (drop at s) ≡ between s at end ∷ l
      → drop i (row_levels s) ≡ level_in (between s at end) ∷ map level_in l
  here l v = sym w.rest ∙ ap (map level_in) v

  pub store_here : get_or (row_levels s) i 0 ≡ level_in (between s at end)
  store_here =
      let h = here _ (some_at s at end w.within e) in
      let z : i + 0 ≡ i = omega arith in
      sym (rw z at (get_or-drop i (row_levels s) 0 0)) ∙ ap (λ l. get_or l 0 0) h

  pub store_room : i < length (row_levels s)
  store_room =
      let n : length (drop i (row_levels s)) ≡ suc (length (map level_in (drop 1 (values_of (drop at s))))) =
      ap length (here _ (some_at s at end w.within e)) in
      omega (arith, length-drop i (row_levels s))

  pub store_next : end < length s → StoreAt s (end + 1) (i + 1)
  store_next b = record {
    within = omega arith;
    few = omega (arith, w.few);
    rest = sym (sym (drop-drop 1 i (row_levels s)) ∙ ap (λ l. drop 1 l) (here _ (next_at_rule s at end w.within e b)));
  }

  pub store_last : length s ≤ end → i + 1 ≡ length (row_levels s)
  store_last b =
      let n : length (drop i (row_levels s)) ≡ 1 = ap length (here _ (last_at s at end w.within e b)) in
      omega (arith, length-drop i (row_levels s))

pub length_levels : (s : List ℕ) → length (row_levels s) ≡ length (values_of s)
unfolding row_levels
length_levels s = length-map (values_of s) level_in

-- the levels of rows that all have so many values
pub levels_length : (columns : ℕ) (rows : List (List ℕ)) → all (has_values columns) rows ≡ true
    → length (levels_of rows) ≡ length rows * columns
unfolding levels_of
levels_length columns [] h = sym (zero-mul columns)
levels_length columns (row ∷ rows) h =
    let b : (has_values columns row && all (has_values columns) rows) ≡ true =
    sym (all_cons (has_values columns) row rows) ∙ h in
    let n = eqb-true (length (values_of row)) columns
    (and_left (has_values columns row) (all (has_values columns) rows) b) in
    let r = levels_length columns rows (and_right (has_values columns row) (all (has_values columns) rows) b) in
    length-append (levels_of rows) (row_levels row) ∙ rw (r, length_levels row, n, suc-mul (length rows) columns)

-- an answer's last part put in its place first
front_last_lem : (a b old : List ℕ) → length a + length b ≤ length old
    → front (a ++ b) old ≡ front a (put old (length a) b)
unfolding put
front_last_lem a b old h =
    let l : length (take (length a) old) ≡ length a = length-take-le (length a) old (omega arith) in
    let d : drop (length a) (take (length a) old ++ b ++ drop (length a + length b) old) ≡ b
    ++ drop (length a + length b) old =
    ap (drop (length a)) (append_assoc (take (length a) old) b (drop (length a + length b) old))
    ∙ drop_at (take (length a) old) (b ++ drop (length a + length b) old) (length a) l in
    append_assoc a b (drop (length (a ++ b)) old) ∙ rw (d, length-append a b)

-- one row among so many has its place and its room
pub place_room : (n columns rows room : ℕ) → n < rows → rows * columns ≤ room → n * columns + columns ≤ room
place_room n columns rows room h l = omega (arith, suc-mul n columns, mul-le-mul_right columns h)

-- a walk along rows: so many left
module _ (s : List ℕ) (at columns left : ℕ) (w : Rows s at columns left) (h : at < length s) where
  row_here : (has_values columns (line_from s at) && all (has_values columns) (drop 1 (lines_at s at))) ≡ true
  row_here = sym (ap (all (has_values columns)) (line_here s at h)
      ∙ all_cons (has_values columns) (line_from s at) (drop 1 (lines_at s at))) ∙ w.each

  pub values_here : length (values_of (line_from s at)) ≡ columns
  values_here = eqb-true _ columns
      (and_left (has_values columns (line_from s at)) (all (has_values columns) (drop 1 (lines_at s at))) row_here)

  pub left_here : left ≡ suc (length (drop 1 (lines_at s at)))
  left_here = sym w.number ∙ ap length (line_here s at h)

  rest_each : all (has_values columns) (drop 1 (lines_at s at)) ≡ true
  rest_each = and_right (has_values columns (line_from s at)) (all (has_values columns) (drop 1 (lines_at s at)))
      row_here

  pub rows_left : (l : Line) → LineAt s at l → Rows s l.next columns (left - 1)
  rows_left l line = record {
    inside = line.passed.inside;
    number = ap length line.passed.rest ∙ omega (arith, left_here);
    each = ap (all (has_values columns)) line.passed.rest ∙ rest_each;
  }

  place_here : (left - 1) * columns + columns ≡ left * columns
  place_here =
      let e = left_here in
      let n = length (drop 1 (lines_at s at)) in
      let p : left - 1 ≡ n = omega arith in
      rw (p, e) (sym (suc-mul n columns))

  pub front_here : (l : Line) → LineAt s at l → (old : List ℕ) → left * columns ≤ length old
      → front (levels_of (lines_at s at)) old ≡ front (levels_of (lines_at s l.next))
      (put old ((left - 1) * columns) (row_levels (line_from s at)))
  unfolding levels_of
  front_here l line old room =
      let rest = drop 1 (lines_at s at) in
      let n : length (levels_of rest) ≡ (left - 1) * columns =
      levels_length columns rest rest_each ∙ (let p : length rest ≡ left - 1 = omega (arith, left_here) in rw p) in
      let k : length (row_levels (line_from s at)) ≡ columns = length_levels (line_from s at) ∙ values_here in
      let p = place_here in
      ap (λ r. front (levels_of r) old) (line_here s at h)
      ∙ front_last_lem (levels_of rest) (row_levels (line_from s at)) old (omega arith)
      ∙ ap (λ k. front (levels_of rest) (put old k (row_levels (line_from s at)))) n
      ∙ ap (λ r. front (levels_of r) (put old ((left - 1) * columns) (row_levels (line_from s at))))
      (sym line.passed.rest)

pub front_end : (s : List ℕ) (at : ℕ) (old : List ℕ)
    → length s ≤ at → front (levels_of (lines_at s at)) old ≡ old
unfolding levels_of
front_end s at old h = ap (λ r. front (levels_of r) old) (line_none s at h)
