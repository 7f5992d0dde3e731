-- Laws of a text's lines. Assumes nothing.
use Rattle.std.specs.Prelude.{ℕ, suc, ◌+◌, ◌-◌, ◌<◌, ◌≤◌, true, false, ◌&&◌, eqb, leb, length, get_or, take, drop}
use mathlib.Core.{Path.◌≡◌, Path.refl, Path.sym, Path.ap, Path.◌∙◌, List.List, List.[], List.◌∷◌, List.◌++◌}
use mathlib.Core.Bool.{and-false}
use native.Mathlib.{Nat.add-zero, Numerals.add-one, Omega.arith}
use borrow.Author.Tests.{le-leb, lt-leb, leb-true, leb-false}
use lib.ListN.{length-append, length-drop, drop_of_length-le}
use lib.Seq.{take-length, length-take-le, drop-cons, get_or-drop, take-append_seam, get_or-append_seam}
use lib.Seq.{get_or-append-add}
use Rattle.std.specs.List.{ends_with}
use Rattle.std.proofs.lemmas.Bool.Decides.{nat_tests}
use Rattle.text.specs.Line.{end_at, first_line, onto, lines_of, bare_line}
use Rattle.text.proofs.Digits.{either}

-- one byte further along a text: where a line ends, and where it goes on
module _ (s : List ℕ) (i : ℕ) (h : i < length s) where
  -- the byte past this one, as the rest of the text has it
  past : get_or (drop (suc i) s) 0 0 ≡ get_or s (i + 1) 0
  past = get_or-drop (suc i) s 0 0 ∙ rw (add-zero (suc i), add-one i)

  pub line_hit : end_at s i ≡ true → first_line (drop i s) ≡ []
  unfolding first_line
  line_hit e = rw (drop-cons s i 0 h, past, e)

  pub line_miss : end_at s i ≡ false → length (first_line (drop i s)) ≡ length (first_line (drop (i + 1) s)) + 1
  unfolding first_line
  line_miss e = rw (drop-cons s i 0 h, past, e, add-one i, add-one)

pub line_none : (s : List ℕ) (i : ℕ) → length s ≤ i → first_line (drop i s) ≡ []
unfolding first_line
line_none s i h = rw (drop_of_length-le s h)

-- a line is the front of its text
pub line_take : (s : List ℕ) → take (length (first_line s)) s ≡ first_line s
unfolding first_line
line_take [] = refl
line_take (c ∷ s) =
    either (eqb c 13 && eqb (get_or s 0 0) 10) (λ yes. rw yes) (λ no. rw no (ap (λ t. c ∷ t) (line_take s)))

pub line_length : (s : List ℕ) → length (first_line s) ≤ length s
unfolding first_line
line_length [] = omega arith
line_length (c ∷ s) =
    either (eqb c 13 && eqb (get_or s 0 0) 10) (λ yes. rw yes (omega arith))
    (λ no. rw no (omega (arith, line_length s)))

-- a text that has bytes is its first line, and then the lines past its CRLF
pub lines_step : (s : List ℕ) → 1 ≤ length s
    → lines_of s ≡ first_line s ∷ lines_of (drop (length (first_line s) + 2) s)
unfolding first_line lines_of
lines_step [] h = absurd (omega arith)
lines_step (c ∷ []) h = rw (and-false (eqb c 13))
lines_step (c ∷ d ∷ s) h =
    either (eqb c 13 && eqb d 10)
    (λ yes. rw yes)
    (λ no. let e : suc (length (first_line (d ∷ s))) + 2 ≡ suc (length (first_line (d ∷ s)) + 2) = omega arith in
    rw (no, e) (ap (onto c) (lines_step (d ∷ s) (omega arith))))

pub lines_none : lines_of [] ≡ []
unfolding lines_of
lines_none = refl

-- a text ends with a CRLF where one stands two bytes before its end
pub ends_bare : (s : List ℕ) → ends_with eqb s (13 ∷ 10 ∷ []) ≡ (leb 2 (length s) && end_at s (length s - 2))
ends_bare [] = refl
ends_bare (c ∷ []) = and-false (eqb 13 c)
ends_bare (c ∷ d ∷ t) =
    let s = c ∷ d ∷ t in
    let n = length s - 2 in
    let last : suc n ≡ n + 1 = sym (add-one n) in
    let past : length s ≤ suc (suc n) = omega arith in
    rw (
      le-leb 2 (length s) (omega arith),
      drop-cons s n 0 (omega arith),
      drop-cons s (suc n) 0 (omega arith),
      drop_of_length-le s past,
      last,
    ) (grind (arith, nat_tests))

-- a line with its CRLF, without it
pub bare_back : (t : List ℕ) → bare_line (t ++ (13 ∷ 10 ∷ [])) ≡ t
unfolding bare_line
bare_back t =
    let l : length (t ++ (13 ∷ 10 ∷ [])) ≡ length t + 2 = length-append t (13 ∷ 10 ∷ []) in
    let a : length t + 2 - 2 ≡ length t = omega arith in
    rw (
      l,
      a,
      le-leb 2 (length t + 2) (omega arith),
      get_or-append_seam t 13 (10 ∷ []) 0,
      get_or-append-add t (13 ∷ 10 ∷ []) 1 0,
      take-append_seam t (13 ∷ 10 ∷ []),
    )

pub bare_take : (s : List ℕ) → take (length (bare_line s)) s ≡ bare_line s
unfolding bare_line
bare_take s =
    either (leb 2 (length s) && end_at s (length s - 2))
    (λ yes. rw (yes, length-take-le (length s - 2) s (omega arith)))
    (λ no. rw no (take-length s))

pub bare_most : (s : List ℕ) → length (bare_line s) ≤ length s
unfolding bare_line
bare_most s =
    either (leb 2 (length s) && end_at s (length s - 2))
    (λ yes. rw (yes, length-take-le (length s - 2) s (omega arith)) (omega arith))
    (λ no. rw no (omega arith))

-- the first line of a text, also where there is none, and the lines past it
pub lines_first_lem : (s : List ℕ) → get_or (lines_of s) 0 [] ≡ first_line s
unfolding lines_of first_line
lines_first_lem [] = refl
lines_first_lem (c ∷ s) = ap (λ ls. get_or ls 0 []) (lines_step (c ∷ s) (omega arith))

pub lines_rest : (s : List ℕ) → 1 ≤ length s
    → length (lines_of s) ≡ 1 + length (lines_of (drop (length (first_line s) + 2) s))
lines_rest s h = ap length (lines_step s h) ∙ omega arith

pub lines_next : (s : List ℕ) (i : ℕ) → 1 ≤ length s
    → get_or (lines_of s) (suc i) [] ≡ get_or (lines_of (drop (length (first_line s) + 2) s)) i []
lines_next s i h = ap (λ ls. get_or ls (suc i) []) (lines_step s h)

-- whether a text has at most one line
lines_some : (s : List ℕ) → 1 ≤ length s → 1 ≤ length (lines_of s)
lines_some s h = omega (arith, lines_rest s h)

pub lines-one : (s : List ℕ) → leb (1 + length (lines_of s)) 2 ≡ leb (length s) (length (first_line s) + 2)
unfolding lines_of first_line
lines-one [] = refl
lines-one (c ∷ t) =
    let s = c ∷ t in
    let n = length (first_line s) + 2 in
    let all = lines_rest s (omega arith) in
    let left = length-drop n s in
    either (leb (length s) n)
    (λ yes. let h = leb-true (length s) n yes in
    le-leb (1 + length (lines_of s)) 2
    (omega (arith, all, ap (λ r. length (lines_of r)) (drop_of_length-le s h), ap length lines_none)) ∙ sym yes)
    (λ no. let h = leb-false (length s) n no in
    lt-leb (1 + length (lines_of s)) 2 (omega (arith, all, lines_some (drop n s) (omega arith))) ∙ sym no)
