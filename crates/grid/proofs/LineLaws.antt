-- The line at a place of a text, and the lines past it. Assumes nothing.
use Rattle.std.specs.Prelude.{ℕ, suc, ◌+◌, ◌-◌, ◌<◌, ◌≤◌, ◌&&◌}
use mathlib.Core.{Path.◌≡◌, Path.refl, Path.sym, Path.ap, Path.◌∙◌, List.List, List.[], List.◌∷◌}
use mathlib.Core.Bool.{and-false}
use native.Mathlib.Omega.{arith}
use lib.{Dec.eqb, ListN.length, ListN.get_or, ListN.take, ListN.drop, ListN.length-drop, ListN.drop_of_length-le}
use lib.Seq.{drop-drop}
use Rattle.text.specs.Line.{first_line, lines_of}
use Rattle.text.proofs.Digits.{either}
use Rattle.text.proofs.Lines.{line_take, line_length, lines_step, lines_none, lines_first_lem}
use Rattle.grid.specs.InnerSteps.{lines_at, line_from, Passed, LineAt}

-- a line that ends before its text does has its CRLF there
pub line_room : (s : List ℕ) → length (first_line s) < length s → length (first_line s) + 2 ≤ length s
unfolding first_line
line_room [] h = absurd (omega arith)
line_room (c ∷ []) h = let l : 1 < 1 = rw (and-false (eqb c 13)) at h in absurd (omega arith)
line_room (c ∷ d ∷ s) h =
    either (eqb c 13 && eqb d 10)
    (λ yes. rw yes (omega arith))
    (λ no. let l : suc (length (first_line (d ∷ s))) < suc (suc (length s)) = rw no at h in
    rw no (omega (arith, line_room (d ∷ s) (omega arith))))

-- the lines past the first, of any text
rest_of : (s : List ℕ) → lines_of (drop (length (first_line s) + 2) s) ≡ drop 1 (lines_of s)
unfolding first_line lines_of
rest_of [] = refl
rest_of (c ∷ s) = sym (ap (λ l. drop 1 l) (lines_step (c ∷ s) (omega arith)))

module _ (s : List ℕ) (at end : ℕ) (h : at ≤ length s) (e : end ≡ at + length (first_line (drop at s))) where
  cut : take (end - at) (drop at s) ≡ line_from s at
  cut =
      let n : end - at ≡ length (first_line (drop at s)) = omega arith in
      rw n (line_take (drop at s) ∙ sym (lines_first_lem (drop at s)))

  -- a line with its CRLF
  pub line_ended : end < length s → LineAt s at (record { end = end; next = end + 2 })
  line_ended b =
      let n = length (first_line (drop at s)) in
      let d = length-drop at s in
      let r = line_room (drop at s) (omega arith) in
      let p : at + (n + 2) ≡ end + 2 = omega arith in
      record {
        start = omega arith;
        within = omega arith;
        moves = λ _. omega arith;
        line = cut;
        passed = record {
          inside = omega arith;
          rest =
              ap lines_of (ap (λ k. drop k s) (sym p) ∙ sym (drop-drop (n + 2) at s)) ∙ rest_of (drop at s);
        };
      }

  -- the last line, without one
  pub line_open : length s ≤ end → LineAt s at (record { end = end; next = end })
  line_open b =
      let n = length (first_line (drop at s)) in
      let d = length-drop at s in
      let l = line_length (drop at s) in
      record {
        start = omega arith;
        within = omega arith;
        moves = λ some. omega arith;
        line = cut;
        passed = record {
          inside = omega arith;
          rest = ap lines_of (drop_of_length-le s {i = end} b
              ∙ sym (drop_of_length-le (drop at s) {i = n + 2} (omega arith))) ∙ rest_of (drop at s);
        };
      }

-- before the end of a text there is a line, and at its end none
cons_of : {A : Type 0} (d : A) (l : List A) (x : A) (xs : List A) → l ≡ x ∷ xs → l ≡ get_or l 0 d ∷ drop 1 l
cons_of d l x xs e = rw e

pub line_here : (s : List ℕ) (at : ℕ) → at < length s → lines_at s at ≡ line_from s at ∷ drop 1 (lines_at s at)
line_here s at h = cons_of [] _ _ _ (lines_step (drop at s) (omega (arith, length-drop at s)))

pub line_none : (s : List ℕ) (at : ℕ) → length s ≤ at → lines_at s at ≡ []
line_none s at h = ap lines_of (drop_of_length-le s h) ∙ lines_none

-- past a line of a text there is one line fewer
pub passed_at : {s : List ℕ} {at next : ℕ} (k : ℕ) → lines_at s at ≡ drop k (lines_of s)
    → Passed s at next → lines_at s next ≡ drop (k + 1) (lines_of s)
passed_at {s} {at} {next} k e p = p.rest ∙ ap (λ l. drop 1 l) e ∙ drop-drop 1 k (lines_of s)
