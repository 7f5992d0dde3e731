-- What movements bring to V, U and S, by look-up. Assumes nothing.
use mathlib.Core.{Path.◌≡◌, Path.refl, Path.ap, Path.◌∙◌, Bool.Bool, Bool.true, Bool.false, Bool.cond, Bool.not}
use mathlib.Core.{Bool.◌&&◌, List.List, List.[], List.◌∷◌, List.◌++◌}
use Prim.Native.Nat.{ℕ, ◌+◌, ◌*◌, ◌%◌}
use native.Mathlib.Omega.{arith}
use lib.{ListN.get_or, Dec.eqb}
use borrow.Author.Tests.{eq-eqb, ne_eqb, eqb-true, eqb-false}
use Rattle.level.specs.Energy.{energy_of}
use Rattle.movement.proofs.Ranges.{periods_hold}
use Rattle.book_rules.specs.History.{Movement, movement, has_levels}
use Rattle.book_rules.specs.History.Held.{none, holds}
use Rattle.load_rules.specs.Shares.{counting_at}
use Rattle.load_rules.specs.Afresh.{computed_in, missing_in, held_energy, energy_of_group, Brought, EachBrings}
use Rattle.load_rules.proofs.RefusalLaws.{none_exactly}
use Rattle.load_rules.proofs.Counting.{counting_none, counting_kept, counting_left_out, counting_append}
use Rattle.load_rules.proofs.Counting.{counting_all}

-- what movements bring is what those that count bring
by_counting : (pt g : ℕ) {ms ns : List Movement} → counting_at pt ms ≡ ns
    → Brought pt g ms (computed_in g ns) (missing_in g ns) (energy_of_group pt g ns)
by_counting pt g e =
    record { computed = ap (computed_in g) e; missing = ap (missing_in g) e; energy = ap (energy_of_group pt g) e }

-- one movement alone that counts there
one : (pt g : ℕ) (m : Movement) → ¬ (get_or m.counts pt 0 ≡ 0)
    → Brought pt g (m ∷ []) (cond (eqb m.group g && has_levels m.held) 1 0)
    (cond (eqb m.group g && not (has_levels m.held)) 1 0)
    (cond (eqb m.group g) (held_energy pt m.group m.held) 0)
unfolding computed_in missing_in energy_of_group
one pt g m n =
    let b = by_counting pt g (counting_kept pt m [] n ∙ ap (λ (l : List Movement). m ∷ l) (counting_none pt)) in
    record {
      computed = omega (arith, b.computed);
      missing = omega (arith, b.missing);
      energy = omega (arith, b.energy);
    }

weighted : (pt g : ℕ) (ls : List ℕ) → held_energy pt g (holds ls) ≡ energy_of (get_or ls pt 0 + 500 * (g % 3))
unfolding held_energy
weighted pt g ls = ap (λ (w : ℕ). energy_of (get_or ls pt 0 + w)) (periods_hold.weight g)

of_computed : (pt x g : ℕ) (cs ls : List ℕ) → get_or cs pt 0 ≡ 1
    → Brought pt g (movement x g cs (holds ls) ∷ []) 1 0 (energy_of (get_or ls pt 0 + 500 * (g % 3)))
unfolding has_levels
of_computed pt x g cs ls e =
    rw (eq-eqb g g refl, weighted pt g ls) at (one pt g (movement x g cs (holds ls)) (λ z. omega arith))

of_missing : (pt x g : ℕ) (cs : List ℕ) → get_or cs pt 0 ≡ 1 → Brought pt g (movement x g cs none ∷ []) 0 1 0
unfolding has_levels held_energy
of_missing pt x g cs e = rw (eq-eqb g g refl) at (one pt g (movement x g cs none) (λ z. omega arith))

of_none : (pt g : ℕ) → Brought pt g [] 0 0 0
unfolding computed_in missing_in energy_of_group
of_none pt g = by_counting pt g (counting_none pt)

not_there : (pt g : ℕ) (m : Movement) → get_or m.counts pt 0 ≡ 0 → Brought pt g (m ∷ []) 0 0 0
unfolding computed_in missing_in energy_of_group
not_there pt g m e = by_counting pt g (counting_left_out pt m [] e ∙ counting_none pt)

of_other : (pt g : ℕ) (m : Movement) → ¬ (m.group ≡ g) → Brought pt g (m ∷ []) 0 0 0
of_other pt g m h = go (eqb (get_or m.counts pt 0) 0) refl
  where
    go : (t : Bool) → eqb (get_or m.counts pt 0) 0 ≡ t → Brought pt g (m ∷ []) 0 0 0
    go true e = not_there pt g m (eqb-true _ 0 e)
    go false e = rw (ne_eqb m.group g h) at (one pt g m (eqb-false _ 0 e))

-- two lists
computed_append : (g : ℕ) (xs ys : List Movement) → computed_in g (xs ++ ys) ≡ computed_in g xs + computed_in g ys
unfolding computed_in
computed_append g [] ys = omega arith
computed_append g (x ∷ xs) ys = omega (arith, computed_append g xs ys)

missing_append : (g : ℕ) (xs ys : List Movement) → missing_in g (xs ++ ys) ≡ missing_in g xs + missing_in g ys
unfolding missing_in
missing_append g [] ys = omega arith
missing_append g (x ∷ xs) ys = omega (arith, missing_append g xs ys)

energy_append : (pt g : ℕ) (xs ys : List Movement)
    → energy_of_group pt g (xs ++ ys) ≡ energy_of_group pt g xs + energy_of_group pt g ys
unfolding energy_of_group
energy_append pt g [] ys = omega arith
energy_append pt g (x ∷ xs) ys = omega (arith, energy_append pt g xs ys)

of_both : (pt g v u s v' u' s' : ℕ) (xs ys : List Movement) → Brought pt g xs v u s → Brought pt g ys v' u' s'
    → Brought pt g (xs ++ ys) (v + v') (u + u') (s + s')
of_both pt g v u s v' u' s' xs ys a b =
    let c = counting_at pt xs in
    let d = counting_at pt ys in
    let j = by_counting pt g (counting_append pt xs ys) in
    record {
      computed = omega (arith, j.computed, computed_append g c d);
      missing = omega (arith, j.missing, missing_append g c d);
      energy = omega (arith, j.energy, energy_append pt g c d);
    }

pub each_brings : (pt : ℕ) → EachBrings pt
each_brings pt =
    record {
      nobody = of_none pt;
      computed = of_computed pt;
      missing = of_missing pt;
      elsewhere = of_other pt;
      not_there = not_there pt;
      joined = of_both pt;
      left_none_rule = counting_none pt;
      kept = λ m ms e. counting_kept pt m ms (λ z. omega arith);
      left_out = counting_left_out pt;
      everybody = counting_all pt;
      some = none_exactly;
    }
