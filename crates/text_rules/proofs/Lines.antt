-- A CRLF ends a line and nothing else does. Assumes nothing.
use mathlib.Core.{Path.◌≡◌, Path.refl, Path.ap, Path.◌∙◌, Bool.true, Bool.false, Bool.◌&&◌, Bool.and-false}
use mathlib.Core.List.{List, [], ◌∷◌, ◌++◌}
use Prim.Native.Nat.{ℕ, suc, ◌+◌, ◌-◌, ◌≤◌}
use native.Mathlib.Omega.{arith}
use lib.{Dec.eqb, Dec.leb, ListN.length, ListN.get_or, ListN.take, ListN.length-append, ListN.drop_of_length-le}
use lib.Seq.{drop-append-add, drop-length, drop-cons, split_at}
use borrow.Author.Tests.{eqb-true, leb-true}
use Rattle.refusal.proofs.Laws.{and_left, and_right}
use Rattle.text.specs.Line.{end_at, first_line, lines_of, bare_line}
use Rattle.text.proofs.{Digits.either, Lines.lines_step, Lines.lines_none, Lines.bare_back}
use Rattle.text_rules.specs.Texts.{Unbroken, LinesAre, EndsInCrlf, BareIs}

-- past its first byte
behind : (c : ℕ) (l : List ℕ) → Unbroken (c ∷ l) → Unbroken l
behind c l h i e = h (suc i) e

-- its first byte ends no line, alone and before a CRLF
plain : (c : ℕ) (l : List ℕ) → Unbroken (c ∷ l) → (eqb c 13 && eqb (get_or l 0 0) 10) ≡ false
plain c l h =
    either (eqb c 13 && eqb (get_or l 0 0) 10)
    (λ yes. absurd (h 0 (
      eqb-true c 13 (and_left (eqb c 13) (eqb (get_or l 0 0) 10) yes),
      eqb-true (get_or l 0 0) 10 (and_right (eqb c 13) (eqb (get_or l 0 0) 10) yes),
    )))
    (λ no. no)

before_end : (c : ℕ) (l r : List ℕ) → Unbroken (c ∷ l)
    → (eqb c 13 && eqb (get_or (l ++ (13 ∷ 10 ∷ r)) 0 0) 10) ≡ false
before_end c [] r h = and-false (eqb c 13)
before_end c (d ∷ l) r h = plain c (d ∷ l) h

first_ended : (l r : List ℕ) → Unbroken l → first_line (l ++ (13 ∷ 10 ∷ r)) ≡ l
unfolding first_line
first_ended [] r h = refl
first_ended (c ∷ l) r h = rw (before_end c l r h) (ap (λ (t : List ℕ). c ∷ t) (first_ended l r (behind c l h)))

first_whole : (l : List ℕ) → Unbroken l → first_line l ≡ l
unfolding first_line
first_whole [] h = refl
first_whole (c ∷ l) h = rw (plain c l h) (ap (λ (t : List ℕ). c ∷ t) (first_whole l (behind c l h)))

lines_ended : (l r : List ℕ) → Unbroken l → lines_of (l ++ (13 ∷ 10 ∷ r)) ≡ l ∷ lines_of r
lines_ended l r h =
    let text = l ++ (13 ∷ 10 ∷ r) in
    let some : 1 ≤ length text = omega (arith, length-append l (13 ∷ 10 ∷ r)) in
    lines_step text some ∙ rw (first_ended l r h, drop-append-add l (13 ∷ 10 ∷ r) 2) refl

lines_last : (l : List ℕ) → Unbroken l → 1 ≤ length l → lines_of l ≡ l ∷ []
lines_last l h some =
    let most : length l ≤ length l + 2 = omega arith in
    lines_step l some ∙ rw (first_whole l h, drop_of_length-le l most, lines_none) refl

pub lines_are : LinesAre
lines_are = record { none = lines_none; ended = lines_ended; last = lines_last }

-- the last two bytes of a text, where they are CR and LF
ends_so : (s : List ℕ) → 2 ≤ length s → end_at s (length s - 2) ≡ true → EndsInCrlf s
ends_so s two e =
    let at = length s - 2 in
    let cr = eqb-true (get_or s at 0) 13 (and_left (eqb (get_or s at 0) 13) (eqb (get_or s (at + 1) 0) 10) e) in
    let lf = eqb-true (get_or s (at + 1) 0) 10 (and_right (eqb (get_or s at 0) 13) (eqb (get_or s (at + 1) 0) 10) e) in
    let one : suc at ≡ at + 1 = omega arith in
    let all : suc (at + 1) ≡ length s = omega arith in
    record {
      before = take at s;
      is = split_at s at 0 (omega arith)
          ∙ rw (cr, one, drop-cons s (at + 1) 0 (omega arith), lf, all, drop-length s) refl;
    }

plain_line_lem : (s : List ℕ) → (EndsInCrlf s → ⊥) → bare_line s ≡ s
unfolding bare_line
plain_line_lem s none =
    either (leb 2 (length s) && end_at s (length s - 2))
    (λ yes. absurd (none (ends_so s
    (leb-true 2 (length s) (and_left (leb 2 (length s)) (end_at s (length s - 2)) yes))
    (and_right (leb 2 (length s)) (end_at s (length s - 2)) yes))))
    (λ no. rw no refl)

pub bare_is : BareIs
bare_is = record { ended = bare_back; plain = plain_line_lem }
