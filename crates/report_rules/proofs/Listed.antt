-- The list of movements that calls leave standing, and how many of its movements pass a test. Assumes nothing.
use mathlib.Core.{Path.◌≡◌, Path.refl, Bool.Bool, Bool.true, Bool.false, Bool.cond}
use mathlib.Core.List.{List, [], ◌∷◌, ◌++◌}
use Prim.Native.Nat.{ℕ, ◌+◌}
use native.Mathlib.Omega.{arith}
use lib.Dec.{eqb, leb}
use borrow.Author.Tests.{eq-eqb, ne_eqb}
use Rattle.text.proofs.Digits.{either}
use Rattle.book_rules.specs.History.{Held, Movement, movement, added, holding, standing, step, list_of, Made}
use Rattle.book_rules.specs.History.{list_refusal, accepted}
use Rattle.book_rules.specs.History.Held.{none}
use Rattle.report_rules.specs.Flights.{how_many}

pub many_added : (test : Movement → Bool) (m : Movement) (ms : List Movement)
    → how_many test (added m ms) ≡ cond (test m) 1 0 + how_many test ms
unfolding how_many added
many_added test m [] = refl
many_added test m (a ∷ ms) =
    either (leb m.identity a.identity)
    (λ yes. rw yes refl)
    (λ no. rw no (omega (arith, many_added test m ms)))

-- a movement that is new, and then holds h
pub many_held : (test : Movement → Bool) (x g : ℕ) (cs : List ℕ) (h : Held) (ms : List Movement)
    → standing x ms ≡ false
    → how_many test (holding x h (added (movement x g cs none) ms))
    ≡ cond (test (movement x g cs h)) 1 0 + how_many test ms
unfolding how_many added holding standing
many_held test x g cs h [] new = rw (eq-eqb x x refl) refl
many_held test x g cs h (a ∷ ms) new =
    either (leb x a.identity)
    (λ yes. rw (yes, eq-eqb x x refl) refl)
    (λ no. either (eqb a.identity x)
    (λ same. let f : true ≡ false = rw same at new in let never : ◌≡◌ {A = ℕ} 0 1 = cc in absurd (omega arith))
    (λ other. rw (no, other) (omega (arith, many_held test x g cs h ms (rw other at new)))))

-- calls, and then calls
pub accepted_then : (p n : ℕ) (ms : List Movement) (cs ds : List Made)
    → list_of ms (accepted p n ms (cs ++ ds)) ≡ list_of (list_of ms (accepted p n ms cs))
    (accepted p n (list_of ms (accepted p n ms cs)) ds)
unfolding list_of accepted
accepted_then p n ms [] ds = refl
accepted_then p n ms (c ∷ cs) ds =
    go (eqb (list_refusal p n ms c) 0) (accepted_then p n (step ms c.call) cs ds) (accepted_then p n ms cs ds)
  where
    go : (t : Bool)
        → list_of (step ms c.call) (accepted p n (step ms c.call) (cs ++ ds))
        ≡ list_of (list_of (step ms c.call) (accepted p n (step ms c.call) cs))
        (accepted p n (list_of (step ms c.call) (accepted p n (step ms c.call) cs)) ds)
        → list_of ms (accepted p n ms (cs ++ ds)) ≡ list_of (list_of ms (accepted p n ms cs))
        (accepted p n (list_of ms (accepted p n ms cs)) ds)
        → list_of ms (cond t (c.call ∷ accepted p n (step ms c.call) (cs ++ ds)) (accepted p n ms (cs ++ ds)))
        ≡ list_of (list_of ms (cond t (c.call ∷ accepted p n (step ms c.call) cs) (accepted p n ms cs)))
        (accepted p n (list_of ms (cond t (c.call ∷ accepted p n (step ms c.call) cs) (accepted p n ms cs))) ds)
    go true a b = a
    go false a b = b

-- one call, accepted or refused
pub one_accepted : (p n : ℕ) (ms : List Movement) (c : Made) (cs : List Made) → list_refusal p n ms c ≡ 0
    → list_of ms (accepted p n ms (c ∷ cs)) ≡ list_of (step ms c.call) (accepted p n (step ms c.call) cs)
unfolding list_of accepted
one_accepted p n ms c cs z = rw (eq-eqb (list_refusal p n ms c) 0 z) refl

pub one_refused : (p n : ℕ) (ms : List Movement) (c : Made) → (list_refusal p n ms c ≡ 0 → ⊥)
    → list_of ms (accepted p n ms (c ∷ [])) ≡ ms
unfolding list_of accepted
one_refused p n ms c ne = rw (ne_eqb (list_refusal p n ms c) 0 ne) refl

-- no call more
pub none_left : (p n : ℕ) (ms : List Movement) → list_of ms (accepted p n ms []) ≡ ms
unfolding list_of accepted
none_left p n ms = refl

pub many_one : (test : Movement → Bool) (m : Movement) (ms : List Movement)
    → cond (test m) 1 0 + how_many test ms ≡ how_many test ms + how_many test (m ∷ [])
unfolding how_many
many_one test m ms = omega arith

pub many_none : (test : Movement → Bool) (ms : List Movement)
    → how_many test ms ≡ how_many test ms + how_many test []
unfolding how_many
many_none test ms = omega arith
