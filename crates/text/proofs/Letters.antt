-- Laws of letters that stand for their place. Assumes nothing.
use Rattle.std.specs.Prelude.{ℕ, zero, suc, ◌+◌, ◌<◌}
use mathlib.Core.{Path.◌≡◌, Path.refl, Path.sym, Path.ap, Path.◌∙◌, List.List, List.[], List.◌∷◌}
use native.Mathlib.{Omega.arith}
use borrow.Author.Tests.{eq-eqb, ne_eqb, eqb-true, eqb-false, lt-ltb, le-ltb, ltb-true, ltb-false}
use lib.{ListN.length, ListN.get_or, Dec.eqb, Dec.ltb}
use Rattle.std.specs.Prelude.{Option, Some, None, position}
use Rattle.std.specs.List.{position_or_len}
use Rattle.text.proofs.Digits.{either, passed}
use Rattle.text.specs.Letter.{later, place_of, letter_of, show_letter}

-- the first place of a byte is what `position` gives
pub place_found : (c : ℕ) (ls : List ℕ) → position (λ l. eqb l c) ls ≡ place_of c ls
unfolding place_of
place_found c [] = refl
place_found c (l ∷ ls) =
    let q = position_or_len (λ l. eqb l c) ls in
    either (eqb c l)
    (λ yes. rw (yes, eq-eqb l c (sym (eqb-true c l yes)), lt-ltb 0 (length (l ∷ ls)) (omega arith)))
    (λ no. rw (no, ne_eqb l c (λ e. eqb-false c l no (sym e)), ← place_found c ls)
    (either (ltb q (length ls))
    (λ low. rw (low, lt-ltb (1 + q) (length (l ∷ ls)) (omega (arith, ltb-true q (length ls) low)))
    (let e : 1 + q ≡ suc q = omega arith in ap Some e))
    (λ high. rw (high, le-ltb (1 + q) (length (l ∷ ls)) (omega (arith, ltb-false q (length ls) high))) refl)))

-- a letter that was read is the text of its place
later_got : (r : Option ℕ) (n : ℕ) → later r ≡ Some n → (m : ℕ) × (r ≡ Some m) × (n ≡ suc m)
later_got None n e = let z : ◌≡◌ {A = ℕ} 0 1 = cc in absurd (omega arith)
later_got (Some m) n e = let q : suc m ≡ n = cc in (m, refl, sym q)

place_exact : (c : ℕ) (ls : List ℕ) (n : ℕ) → place_of c ls ≡ Some n → (get_or ls n 0 ≡ c) × (n < length ls)
unfolding place_of
place_exact c [] n e = let z : ◌≡◌ {A = ℕ} 0 1 = cc in absurd (omega arith)
place_exact c (l ∷ ls) n e =
    either (eqb c l)
    (λ yes. let x : Some 0 ≡ Some n = rw yes at e in
    let q : 0 ≡ n = cc in
    rw (← q) (sym (eqb-true c l yes), omega arith))
    (λ no. let x : later (place_of c ls) ≡ Some n = rw no at e in
    let r = later_got (place_of c ls) n x in
    let p = place_exact c ls r.0 r.1 in
    rw r.2 (p.0, omega (arith, p.1)))

one_byte : (t : List ℕ) → length t ≡ 1 → t ≡ get_or t 0 0 ∷ []
one_byte [] l = absurd (omega arith)
one_byte (c ∷ []) l = refl
one_byte (c ∷ d ∷ t) l = absurd (omega arith)

pub letter_exact : (ls t : List ℕ) (n : ℕ) → letter_of ls t ≡ Some n
    → (t ≡ show_letter ls n) × (n < length ls)
unfolding letter_of
letter_exact ls t n e =
    let p = passed (eqb (length t) 1) (place_of (get_or t 0 0) ls) n e in
    let q = place_exact (get_or t 0 0) ls n p.1 in
    (one_byte t (eqb-true (length t) 1 p.0) ∙ ap (λ x. x ∷ []) (sym q.0), q.1)

-- one of two letters reads back
pub two_back : (a b : ℕ) → (b ≡ a → ⊥) → (n : ℕ) → n < 2
    → letter_of (a ∷ b ∷ []) (show_letter (a ∷ b ∷ []) n) ≡ Some n
unfolding letter_of place_of
two_back a b apart zero h = rw (eq-eqb a a refl) refl
two_back a b apart (suc zero) h = rw (ne_eqb b a apart, eq-eqb b b refl) refl
two_back a b apart (suc (suc n)) h = absurd (omega arith)
