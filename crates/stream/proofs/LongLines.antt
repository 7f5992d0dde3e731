-- A line longer than any layout is refused whatever follows; and a line that no CRLF ends can be thought on as one.
-- Assumes nothing.
use Rattle.std.specs.Prelude.{◌≡◌, ℕ, zero, suc, ◌+◌, ◌-◌, ◌<◌, ◌≤◌, Bool, true, false, cond, ◌&&◌, eqb, leb, List, []}
use Rattle.std.specs.Prelude.{◌∷◌, ◌++◌, length, get_or, drop, replicate}
use mathlib.Core.Path.{refl, sym, ap, ◌∙◌}
use mathlib.Core.Bool.{and-false}
use mathlib.Core.List.{append-nil}
use native.Mathlib.Omega.{arith}
use lib.ListN.{length-append, length-replicate}
use lib.Seq.{get_or-take}
use borrow.Author.Tests.{eq-eqb, leb-true}
use Rattle.text.specs.Line.{end_at, first_line, lines_of, bare_line}
use Rattle.text.proofs.{Digits.either, Lines.line_take, Lines.lines_step}
use Rattle.stream.specs.Reading.{Step, Reading, line_read, lines_read, read_on, off_at, Unended, Longest}
use Rattle.stream.specs.Coming.{endless}
use Rattle.stream.proofs.Readings.{stuck}

first_least : (xs t : List ℕ) → Unended xs → length xs ≤ length (first_line (xs ++ t)) + 1
unfolding first_line
first_least [] t h = omega arith
first_least (c ∷ []) t h = omega arith
first_least (c ∷ (d ∷ xs)) t h = go (eqb c 13 && eqb d 10) h (first_least (d ∷ xs) t)
  where
    go : (b : Bool) → suc (suc (length xs)) < length (cond b [] (c ∷ first_line (d ∷ xs))) + 2
        → (suc (length xs) < length (first_line (d ∷ xs)) + 2
        → suc (length xs) ≤ length (first_line ((d ∷ xs) ++ t)) + 1)
        → suc (suc (length xs)) ≤ length (cond b [] (c ∷ first_line ((d ∷ xs) ++ t))) + 1
    go true h r = absurd (omega arith)
    go false h r = omega (arith, r (omega arith))

-- no CRLF stands in a line
no_end : (s : List ℕ) (i : ℕ) → suc i < length (first_line s) → end_at (first_line s) i ≡ false
unfolding first_line
no_end [] i h = absurd (omega arith)
no_end (c ∷ s) i h = go (eqb c 13 && eqb (get_or s 0 0) 10) refl i h (no_end s)
  where
    head : 1 ≤ length (first_line s) → get_or (first_line s) 0 0 ≡ get_or s 0 0
    head l = ap (λ (x : List ℕ). get_or x 0 0) (sym (line_take s))
        ∙ get_or-take (length (first_line s)) s 0 0 (omega arith)

    go : (b : Bool) → (eqb c 13 && eqb (get_or s 0 0) 10) ≡ b → (i : ℕ)
        → suc i < length (cond b [] (c ∷ first_line s))
        → ((j : ℕ) → suc j < length (first_line s) → end_at (first_line s) j ≡ false)
        → end_at (cond b [] (c ∷ first_line s)) i ≡ false
    go true e i h r = absurd (omega arith)
    go false e zero h r = rw (head (omega arith)) e
    go false e (suc i) h r = let q : suc i + 1 ≡ suc (i + 1) = omega arith in rw q (r i (omega arith))

bare_first : (s : List ℕ) → bare_line (first_line s) ≡ first_line s
unfolding bare_line
bare_first s =
    either (leb 2 (length (first_line s)))
    (λ yes. let l = leb-true 2 (length (first_line s)) yes in
    rw (yes, no_end s (length (first_line s) - 2) (omega arith)) refl)
    (λ no. rw no refl)

-- Bytes that are not there: a line that no CRLF ends goes on for longer than any layout

zeros_first : (k : ℕ) → get_or {A = ℕ} (replicate k 0) 0 0 ≡ 0
zeros_first zero = refl
zeros_first (suc k) = refl

zeros_line : (k : ℕ) → first_line (replicate k 0) ≡ replicate {A = ℕ} k 0
unfolding first_line
zeros_line zero = refl
zeros_line (suc k) = ap (λ (l : List ℕ). 0 ∷ l) (zeros_line k)

line_zeros : (xs : List ℕ) (k : ℕ) → Unended xs → first_line (xs ++ replicate k 0) ≡ xs ++ replicate k 0
unfolding first_line
line_zeros [] k h = zeros_line k
line_zeros (c ∷ []) k h = rw (zeros_first k, and-false (eqb c 13)) (ap (λ (l : List ℕ). c ∷ l) (zeros_line k))
line_zeros (c ∷ (d ∷ xs)) k h = go (eqb c 13 && eqb d 10) h (line_zeros (d ∷ xs) k)
  where
    go : (b : Bool) → suc (suc (length xs)) < length (cond b [] (c ∷ first_line (d ∷ xs))) + 2
        → (suc (length xs) < length (first_line (d ∷ xs)) + 2 → first_line ((d ∷ xs) ++ replicate k 0)
        ≡ (d ∷ xs) ++ replicate k 0)
        → cond b [] (c ∷ first_line ((d ∷ xs) ++ replicate k 0)) ≡ c ∷ ((d ∷ xs) ++ replicate k 0)
    go true h r = absurd (omega arith)
    go false h r = ap (λ (l : List ℕ). c ∷ l) (r (omega arith))

module _ {A : Type 0} (step : Step A) (row : ℕ) (longest : Longest step row) where
  -- more bytes than any line on its layout has, and no CRLF in them: whatever follows, the line is refused
  pub onward_long : (s : Reading A) (xs : List ℕ) → s.refusal ≡ 0 → Unended xs → row + 2 < length xs
      → (t : List ℕ) → read_on step s (xs ++ t) ≡ off_at s
  unfolding lines_read line_read
  onward_long s xs z h l t =
      let line = first_line (xs ++ t) in
      let long : row < length (bare_line line) = rw (bare_first (xs ++ t)) (omega (arith, first_least xs t h)) in
      let some : 1 ≤ length (xs ++ t) = rw (length-append xs t) (omega arith) in
      let refused = longest.off s.line s.held line long in
      let after = longest.kept s.line s.held line long in
      rw (lines_step (xs ++ t) some, eq-eqb s.refusal 0 z, refused, after)
      (stuck step (off_at s) (lines_of (drop (length line + 2) (xs ++ t))) (λ e. absurd (omega arith)))

  pub endless_off : (s : Reading A) (xs : List ℕ) → s.refusal ≡ 0 → Unended xs
      → read_on step s (xs ++ endless row) ≡ off_at s
  endless_off s xs z h =
      let long = xs ++ endless row in
      let size = length-append xs (endless row) in
      let unended : Unended long = rw (line_zeros xs (row + 3) h) (omega arith) in
      let added = length-replicate {A = ℕ} (row + 3) 0 in
      ap (read_on step s) (sym (append-nil long)) ∙ onward_long s long z unended (omega (arith, size, added)) []
