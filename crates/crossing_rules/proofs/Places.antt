-- A contour, and the order of contours, by places: from lists of edges to places and back. Assumes nothing.
use mathlib.Core.Path.{◌≡◌, refl, ap, subst}
use mathlib.Core.{Bool.Bool, Bool.true, Bool.false, List.List, List.[], List.◌∷◌}
use Prim.Native.Nat.{ℕ, zero, suc, ◌-◌, ◌≤◌, ◌<◌}
use native.Mathlib.Omega.{arith}
use lib.{ListN.length, ListN.get_or}
use Rattle.contour_rules.specs.{Picture.Picture}
use Rattle.contour_rules.specs.Contours.{Contour}
use Rattle.contour_rules.specs.Once.{Follows, Enters, Exits, Chain, Each, Sound, AllSound, All, Ordered}
use Rattle.contour_rules.specs.Once.{Before as ListedBefore}
use Rattle.contour_rules.specs.{EachEdge.edges_at}
use Rattle.contour_rules.proofs.{Waiting.clash}
use Rattle.crossing_rules.proofs.{Reading.contour_at}

-- ---- one contour by its places

module _ (g : Picture) where
  chain-step : (Last : ℕ → Type 0) (n : ℕ) (ns : List ℕ) → Chain g Last n ns → (j : ℕ) → j < length ns
      → Follows g (get_or (n ∷ ns) j 0) (get_or ns j 0)
  chain-step Last n [] c j h = absurd (omega arith)
  chain-step Last n (m ∷ ns) c zero h = c.0
  chain-step Last n (m ∷ ns) c (suc j) h = chain-step Last m ns c.1 j (omega arith)

  chain-last : (Last : ℕ → Type 0) (n : ℕ) (ns : List ℕ) → Chain g Last n ns
      → Last (get_or (n ∷ ns) (length ns) 0)
  chain-last Last n [] c = c
  chain-last Last n (m ∷ ns) c = chain-last Last m ns c.1

  each_at : (P : ℕ → Type 0) (ns : List ℕ) → Each P ns → (j : ℕ) → j < length ns → P (get_or ns j 0)
  each_at P [] e j h = absurd (omega arith)
  each_at P (n ∷ ns) e zero h = e.0
  each_at P (n ∷ ns) e (suc j) h = each_at P ns e.1 j (omega arith)

  pub record ByPlace (closes : Bool) (ns : List ℕ) : Type 0 where
    pub some : 1 ≤ length ns
    pub follows : (j : ℕ) → suc j < length ns → Follows g (get_or ns j 0) (get_or ns (suc j) 0)
    pub comes_back : closes ≡ true → Follows g (get_or ns (length ns - 1) 0) (get_or ns 0 0)
    pub enters : closes ≡ false → Enters g (get_or ns 0 0)
    pub exits : closes ≡ false → Exits g (get_or ns (length ns - 1) 0)
    pub lowest : closes ≡ true → (j : ℕ) → j < length ns → get_or ns 0 0 ≤ get_or ns j 0

  last_is_rule : (n : ℕ) (ns : List ℕ) → get_or (n ∷ ns) (length ns) 0 ≡ get_or (n ∷ ns) (length (n ∷ ns) - 1) 0
  last_is_rule n ns =
      let e : length ns ≡ length (n ∷ ns) - 1 = omega arith in
      ap (λ (k : ℕ). get_or (n ∷ ns) k 0) e

  pub by_place : (closes : Bool) (ns : List ℕ) → Sound g closes ns → ByPlace closes ns
  by_place closes [] s = absurd s
  by_place false (n ∷ ns) s = record {
    some = omega arith;
    follows = λ j h. chain-step (Exits g) n ns s.1 j (omega arith);
    comes_back = λ e. clash e refl;
    enters = λ _. s.0;
    exits = λ _. subst (Exits g) (last_is_rule n ns) (chain-last (Exits g) n ns s.1);
    lowest = λ e. clash e refl;
  }
  by_place true (n ∷ ns) s = record {
    some = omega arith;
    follows = λ j h. chain-step (λ m. Follows g m n) n ns s.1 j (omega arith);
    comes_back = λ _. subst (λ (m : ℕ). Follows g m n) (last_is_rule n ns) (chain-last (λ m. Follows g m n) n ns s.1);
    enters = λ e. clash refl e;
    exits = λ e. clash refl e;
    lowest = λ _. least;
  }
    where
      least : (j : ℕ) → j < length (n ∷ ns) → n ≤ get_or (n ∷ ns) j 0
      least zero h = omega arith
      least (suc j) h = each_at (λ m. n ≤ m) ns s.0 j (omega arith)

  pub sound_at_rule : (cs : List Contour) → AllSound g cs → (i : ℕ) → i < length cs
      → ByPlace (contour_at cs i).closes (edges_at cs i)
  sound_at_rule [] s i h = absurd (omega arith)
  sound_at_rule (c ∷ cs) s zero h = by_place c.closes c.edges s.0
  sound_at_rule (c ∷ cs) s (suc i) h = sound_at_rule cs s.1 i (omega arith)

-- ---- the order by places

all-at : (P : Contour → Type 0) (cs : List Contour) → All P cs → (i : ℕ) → i < length cs → P (contour_at cs i)
all-at P [] a i h = absurd (omega arith)
all-at P (c ∷ cs) a zero h = a.0
all-at P (c ∷ cs) a (suc i) h = all-at P cs a.1 i (omega arith)

pub ordered_at : (cs : List Contour) → Ordered cs → (i i' : ℕ) → i < i' → i' < length cs
    → ListedBefore (contour_at cs i) (contour_at cs i')
ordered_at [] o i i' h k = absurd (omega arith)
ordered_at (c ∷ cs) o i zero h k = absurd (omega arith)
ordered_at (c ∷ cs) o zero (suc i') h k = all-at (ListedBefore c) cs o.0 i' (omega arith)
ordered_at (c ∷ cs) o (suc i) (suc i') h k = ordered_at cs o.1 i i' (omega arith) (omega arith)

-- ---- and back

module _ (g : Picture) where
  chain_of : (Last : ℕ → Type 0) (n : ℕ) (ns : List ℕ)
      → ((j : ℕ) → suc j < length (n ∷ ns) → Follows g (get_or (n ∷ ns) j 0) (get_or (n ∷ ns) (suc j) 0))
      → Last (get_or (n ∷ ns) (length (n ∷ ns) - 1) 0) → Chain g Last n ns
  chain_of Last n [] f l = l
  chain_of Last n (m ∷ ns) f l =
      let e : length (n ∷ m ∷ ns) - 1 ≡ suc (length (m ∷ ns) - 1) = omega arith in (
        f 0 (omega arith),
        chain_of Last m ns (λ j h. f (suc j) (omega arith))
            (subst Last (ap (λ (k : ℕ). get_or (n ∷ m ∷ ns) k 0) e) l),
      )

  each_of : (P : ℕ → Type 0) (ns : List ℕ) → ((j : ℕ) → j < length ns → P (get_or ns j 0)) → Each P ns
  each_of P [] h = tt
  each_of P (n ∷ ns) h = (h 0 (omega arith), each_of P ns (λ j l. h (suc j) (omega arith)))

  pub sound_of_rule : (closes : Bool) (ns : List ℕ) → ByPlace g closes ns → Sound g closes ns
  sound_of_rule closes [] p = omega (arith, p.some)
  sound_of_rule false (n ∷ ns) p = (p.enters refl, chain_of (Exits g) n ns p.follows (p.exits refl))
  sound_of_rule true (n ∷ ns) p = (
    each_of (λ m. n ≤ m) ns (λ j h. p.lowest refl (suc j) (omega arith)),
    chain_of (λ m. Follows g m n) n ns p.follows (p.comes_back refl),
  )

  pub all_sound : (cs : List Contour)
      → ((i : ℕ) → i < length cs → Sound g (contour_at cs i).closes (contour_at cs i).edges) → AllSound g cs
  all_sound [] h = tt
  all_sound (c ∷ cs) h = (h 0 (omega arith), all_sound cs (λ i l. h (suc i) (omega arith)))

all_of : (P : Contour → Type 0) (cs : List Contour) → ((i : ℕ) → i < length cs → P (contour_at cs i)) → All P cs
all_of P [] h = tt
all_of P (c ∷ cs) h = (h 0 (omega arith), all_of P cs (λ i l. h (suc i) (omega arith)))

pub ordered_of : (cs : List Contour)
    → ((i i' : ℕ) → i < i' → i' < length cs → ListedBefore (contour_at cs i) (contour_at cs i')) → Ordered cs
ordered_of [] h = tt
ordered_of (c ∷ cs) h = (
  all_of (ListedBefore c) cs (λ i l. h 0 (suc i) (omega arith) (omega arith)),
  ordered_of cs (λ i i' l k. h (suc i) (suc i') (omega arith) (omega arith)),
)
