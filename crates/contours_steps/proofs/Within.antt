-- How a refusal is spelled, and which line is told of bytes that can't be read on, and of bytes that fill the room.
-- Assumes nothing.
use Rattle.std.specs.Prelude.{ℕ, ◌+◌, ◌<◌, ◌≤◌, List, [], ◌∷◌, ◌++◌}
use mathlib.Core.{Path.◌≡◌, Path.refl, Path.sym, Path.ap, Bool.◌&&◌, Bool.and-false}
use native.Mathlib.Omega.{arith}
use borrow.Author.Tests.{eq-eqb, ne_eqb, eqb-true, leb-true, leb-false, ltb-true}
use lib.{Dec.eqb, Dec.leb, Dec.ltb, ListN.length}
use Rattle.refusal.proofs.Laws.{and_right}
use Rattle.text.specs.{Line.onto, Line.lines_of, Number.shown}
use Rattle.text.proofs.Digits.{either}
use Rattle.grid.specs.File.{fault_line}
use Rattle.contours_steps.specs.Sheet.{refused_line, line_begun, overlong_line, overlong_of}
use Rattle.contours_steps.specs.Told.{line_ends, RefusalSpelled, FailsPast, TellsWithin}
use Rattle.contours_steps.proofs.{Begun.overlong_head, Begun.overlong_ended, Stays.fault_back}

pub refusal_spelled : RefusalSpelled
unfolding refused_line shown
refusal_spelled = record { each = λ number line. refl; of_line_rule = refl; of_whole = refl }

onto_many : (c : ℕ) (ls : List (List ℕ)) → 1 ≤ length ls → length (onto c ls) ≡ length ls
onto_many c [] h = absurd (omega arith)
onto_many c (l ∷ ls) h = refl

-- the lines of a text and one byte more are one more than its line ends
begun_lines : (t : List ℕ) → length (lines_of (t ++ (0 ∷ []))) ≡ 1 + line_ends t
unfolding lines_of line_ends
begun_lines [] = refl
begun_lines (c ∷ []) = rw (and-false (eqb c 13)) refl
begun_lines (c ∷ d ∷ s) =
    either (eqb c 13 && eqb d 10)
    (λ yes. let ten : d ≡ 10 = eqb-true d 10 (and_right (eqb c 13) (eqb d 10) yes) in
    let skip : line_ends (d ∷ s) ≡ line_ends s = rw ten (omega arith) in
    rw yes (omega (arith, skip, begun_lines s)))
    (λ no. let rest = begun_lines (d ∷ s) in
    rw no (omega (arith, rest, onto_many c (lines_of ((d ∷ s) ++ (0 ∷ []))) (omega (arith, rest)))))

pub begun_past : (t : List ℕ) → line_begun t ≡ 1 + line_ends t
unfolding line_begun
begun_past t = begun_lines t

pub fails_past : (front : List ℕ) → FailsPast front
fails_past front = record { begun = begun_past front; told = ap (refused_line 17) (begun_past front) }

-- ---- a full room

module _ (front : List ℕ) where
  told_within : (u : List ℕ) → 1 ≤ fault_line (lines_of (front ++ u))
      → fault_line (lines_of (front ++ u)) ≤ line_ends front
      → overlong_line front ≡ fault_line (lines_of (front ++ u))
  told_within u some ended =
      let f = fault_line (lines_of (front ++ u)) in
      let early : f < line_begun front = omega (arith, begun_past front) in
      let is : f ≡ fault_line (lines_of front) = sym (fault_back front u some early) in
      either (leb f 5)
      (λ head. sym (overlong_head front is (leb-true f 5 head)))
      (λ row. sym (overlong_ended front is (leb-false f 5 row) refl early))

  told_header : fault_line (lines_of front) ≤ 5 → overlong_line front ≡ fault_line (lines_of front)
  told_header few = sym (overlong_head front refl few)

  told_ended : 5 < overlong_line front → overlong_line front ≤ line_ends front
  unfolding overlong_line
  told_ended late =
      let f = fault_line (lines_of front) in
      either (leb f 5)
      (λ head. let l : 5 < f = rw head at late in absurd (omega (arith, leb-true f 5 head)))
      (λ row. either (ltb f (line_begun front))
      (λ yes. rw (row, yes) (omega (arith, begun_past front, ltb-true f (line_begun front) yes)))
      (λ no. let l : 5 < 0 = rw (row, no) at late in absurd (omega arith)))

  told_own : 1 ≤ overlong_line front → overlong_line front ≡ fault_line (lines_of front)
  unfolding overlong_line
  told_own some =
      let f = fault_line (lines_of front) in
      either (leb f 5)
      (λ head. rw head refl)
      (λ row. either (ltb f (line_begun front))
      (λ yes. rw (row, yes) refl)
      (λ no. let l : 1 ≤ 0 = rw (row, no) at some in absurd (omega arith)))

  told_line : 1 ≤ overlong_line front → overlong_of front ≡ refused_line 17 (overlong_line front)
  unfolding overlong_of
  told_line some = rw (ne_eqb (overlong_line front) 0 (omega arith)) refl

  told_many : overlong_line front ≡ 0 → overlong_of front ≡ refused_line 12 0
  unfolding overlong_of
  told_many none = rw (eq-eqb (overlong_line front) 0 none) refl

pub tells_within : (front : List ℕ) → TellsWithin front
tells_within front =
    record {
      within = told_within front;
      header = told_header front;
      ended = told_ended front;
      own = told_own front;
      told = told_line front;
      many = told_many front;
    }
