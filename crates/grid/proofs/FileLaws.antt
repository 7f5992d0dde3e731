-- A whole text: what follows the header, and the two together. Assumes nothing.
use Rattle.std.specs.Prelude.{ℕ, suc, ◌+◌, ◌≤◌, Bool, true, false, cond, Result, Ok, Err}
use mathlib.Core.{Path.◌≡◌, Path.sym, Path.ap, Path.◌∙◌, List.List, List.[], List.◌∷◌, List.◌++◌, List.map}
use native.Mathlib.{Nat.add-zero, Omega.arith}
use lib.{ListN.length, ListN.drop, Seq.drop-drop}
use Rattle.network.specs.declared.Frame.{Frame}
use Rattle.text.specs.Line.{lines_of}
use Rattle.text.proofs.Digits.{either}
use Rattle.grid.specs.Row.{all, is_row}
use Rattle.grid.specs.File.{names, names_well, spelled_in, unnamed, sixth, head_on, frame_of, no_data_of, named_on}
use Rattle.grid.specs.File.{rows_of, first_off, fault_line, rows_fit}
use Rattle.grid.specs.InnerSteps.{lines_at, line_from, Passed, row_sound, rows_read, body_on, body_rows, body_no_data}
use Rattle.grid.specs.InnerSteps.{body_read, file_read}
use Rattle.grid.specs.declared.{head.Fault.Fault, judge.File.File}
use Rattle.grid.proofs.{HeadLaws.line_of, RowLaws.off_later}

-- tests that all hold, and then others; tests one of which fails, and then others
pub off_append : (n : ℕ) (bs cs : List Bool) → 1 ≤ n → first_off n bs ≡ 0
    → first_off n (bs ++ cs) ≡ first_off (n + length bs) cs
unfolding first_off
off_append n [] cs h e = rw (add-zero n)
off_append n (true ∷ bs) cs h e =
    let k : n + 1 + length bs ≡ n + suc (length bs) = omega arith in
    off_append (n + 1) bs cs (omega arith) e ∙ rw k
off_append n (false ∷ bs) cs h e = absurd (omega arith)

pub off_keep : (n : ℕ) (bs cs : List Bool) (k : ℕ) → 1 ≤ k → first_off n bs ≡ k
    → first_off n (bs ++ cs) ≡ k
unfolding first_off
off_keep n [] cs k h e = absurd (omega arith)
off_keep n (true ∷ bs) cs k h e = off_keep (n + 1) bs cs k h e
off_keep n (false ∷ bs) cs k h e = e

-- what follows the header, from its rows
module _ (s : List ℕ) (at : ℕ) (frame : Frame) where
  body_from_rule : (first from : ℕ) (nodata : List ℕ)
      → first_off 6 (body_on s at) ≡ first_off first (map (is_row nodata) (lines_at s from))
      → lines_at s from ≡ body_rows s at → nodata ≡ body_no_data s at → from ≤ length s → (r : Result File Fault)
      → rows_read s from nodata frame first r → body_read s at frame r
  body_from_rule first from nodata on rows same h (Ok file) q = (
    on ∙ q.0,
    q.1,
    omega (arith, q.2),
    ap (lines_at s) q.2 ∙ rows,
    q.3 ∙ ap (rows_fit frame) rows,
    q.4 ∙ ap (λ x. all (row_sound x) (lines_at s from)) same ∙ ap (all (row_sound (body_no_data s at))) rows,
  )
  body_from_rule first from nodata on rows same h (Err fault) q = (on ∙ q.0, q.1)

  pub body_named : (next : ℕ) (nodata : List ℕ) → names (line_from s at) ≡ true
      → names_well (line_from s at) ≡ true → nodata ≡ spelled_in (line_from s at)
      → Passed s at next → (r : Result File Fault) → rows_read s next nodata frame 7 r → body_read s at frame r
  body_named next nodata named well same p =
      let line = line_from s at in
      let on : body_on s at ≡ true ∷ map (is_row nodata) (lines_at s next) =
      ap (λ b. cond b (names_well line ∷ map (is_row (spelled_in line)) (drop 1 (lines_at s at)))
      (map (is_row unnamed) (lines_at s at))) named
      ∙ ap (λ b. b ∷ map (is_row (spelled_in line)) (drop 1 (lines_at s at))) well
      ∙ ap (λ t. true ∷ map (is_row t) (drop 1 (lines_at s at))) (sym same)
      ∙ ap (λ l. true ∷ map (is_row nodata) l) (sym p.rest) in
      body_from_rule 7 next nodata
      (ap (first_off 6) on ∙ off_later 6 (map (is_row nodata) (lines_at s next)))
      (p.rest ∙ sym (ap (λ b. cond b (drop 1 (lines_at s at)) (lines_at s at)) named))
      (same ∙ sym (ap (λ b. cond b (spelled_in line) unnamed) named))
      p.inside

  pub body_unnamed : names (line_from s at) ≡ false → at ≤ length s → (r : Result File Fault)
      → rows_read s at unnamed frame 6 r → body_read s at frame r
  body_unnamed other h =
      let line = line_from s at in
      body_from_rule 6 at unnamed
      (ap (λ b. first_off 6 (cond b (names_well line ∷ map (is_row (spelled_in line)) (drop 1 (lines_at s at)))
      (map (is_row unnamed) (lines_at s at)))) other)
      (sym (ap (λ b. cond b (drop 1 (lines_at s at)) (lines_at s at)) other))
      (sym (ap (λ b. cond b (spelled_in line) unnamed) other))
      h

  pub body_off : names (line_from s at) ≡ true → names_well (line_from s at) ≡ false
      → (fault : Fault) → fault.line ≡ 6 → body_read s at frame (Err fault)
  unfolding first_off
  body_off named ill fault e = (rw (named, ill) (sym e), omega (arith, e))

-- a whole text, from its header and what follows it
module _ (s : List ℕ) (at : ℕ) (here : lines_at s at ≡ drop 5 (lines_of s)) where
  line_here : line_from s at ≡ sixth (lines_of s)
  line_here = line_of s at 5 here

  rest_here : drop 1 (lines_at s at) ≡ drop 6 (lines_of s)
  rest_here = ap (λ l. drop 1 l) here ∙ drop-drop 1 5 (lines_of s)

  rows_here : body_rows s at ≡ rows_of (lines_of s)
  unfolding rows_of
  rows_here = rw (line_here, rest_here, here)

  data_here : body_no_data s at ≡ no_data_of (lines_of s)
  unfolding no_data_of
  data_here = rw line_here

  on_here : body_on s at ≡ named_on (lines_of s) ++ map (is_row (no_data_of (lines_of s))) (rows_of (lines_of s))
  unfolding no_data_of rows_of
  on_here = rw (line_here, rest_here, here) (either (names (sixth (lines_of s))) (λ y. rw y) (λ n. rw n))

  fault_here : first_off 1 (head_on (lines_of s)) ≡ 0 → fault_line (lines_of s) ≡ first_off 6 (body_on s at)
  unfolding fault_line
  fault_here e = off_append 1 (head_on (lines_of s)) _ (omega arith) e ∙ ap (first_off 6) (sym on_here)

  pub file_on : (f : Frame) → first_off 1 (head_on (lines_of s)) ≡ 0 → frame_of (lines_of s) ≡ f
      → (r : Result File Fault)
      → body_read s at f r → file_read s r
  file_on f head same (Ok file) q = (
    fault_here head ∙ q.0,
    record {
      frame = q.1 ∙ sym same;
      inside = q.2;
      rows = q.3 ∙ rows_here;
      fitted = q.4 ∙ ap (λ x. rows_fit x (body_rows s at)) (sym q.1) ∙ ap (rows_fit file.frame) rows_here;
      levels = q.5 ∙ ap (λ x. all (row_sound x) (body_rows s at)) data_here
          ∙ ap (all (row_sound (no_data_of (lines_of s)))) rows_here;
    },
  )
  file_on f head same (Err fault) q = (fault_here head ∙ q.0, q.1)

pub file_off : (s : List ℕ) (fault : Fault) → first_off 1 (head_on (lines_of s)) ≡ fault.line → 1 ≤ fault.line
    → file_read s (Err fault)
unfolding fault_line
file_off s fault e h = (off_keep 1 (head_on (lines_of s)) _ fault.line h e, h)
