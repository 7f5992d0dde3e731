-- What occurs in a list, and on which of some contours an edge is. Assumes nothing.
use mathlib.Core.{Path.◌≡◌, Path.refl, Path.sym, Path.ap, Path.subst, Bool.Bool, Bool.true, Bool.false}
use mathlib.Core.{Logic.◌⊎◌, Logic.inl, Logic.inr, Logic.⊎_elim, List.List, List.[], List.◌∷◌}
use Prim.Native.Nat.{ℕ, ◌+◌, ◌≤◌, ◌<◌}
use native.Mathlib.Omega.{arith}
use borrow.Author.Tests.{ltb-true, ltb-false, eq-eqb, ne_eqb}
use lib.{Dec.ltb, ListN.get_or}
use Rattle.contour_rules.specs.{Contours.Contour, Contours.bit, Contours.edges_of, Once.occurs, Once.Each}
use Rattle.contour_rules.proofs.{Waiting.is_or_not, Sums.occurs_append}

-- ---- what occurs in a list

pub occurs_here : (n : ℕ) (ns : List ℕ) → 0 < occurs n (n ∷ ns)
unfolding occurs
occurs_here n ns = rw (eq-eqb n n refl) (omega arith)

pub occurs_later : (n m : ℕ) (ns : List ℕ) → 0 < occurs n ns → 0 < occurs n (m ∷ ns)
unfolding occurs
occurs_later n m ns h = omega arith

pub occurs_not : (n : ℕ) → 0 < occurs n [] → ⊥
unfolding occurs
occurs_not n h = omega arith

-- it is the first, or occurs later
pub occurs_cases : (n m : ℕ) (ns : List ℕ) → 0 < occurs n (m ∷ ns) → (n ≡ m) ⊎ (0 < occurs n ns)
unfolding occurs
occurs_cases n m ns h = ⊎_elim (λ e. inl e) (λ e. inr (omega (arith, ap bit (ne_eqb n m e)))) (is_or_not n m)

-- the first of a list without repeats doesn't occur again
pub first_once : (n : ℕ) (ns : List ℕ) → occurs n (n ∷ ns) ≤ 1 → occurs n ns ≡ 0
unfolding occurs
first_once n ns h = omega (arith, ap bit (eq-eqb n n refl))

pub each_occurs : (P : ℕ → Type 0) (n : ℕ) (ns : List ℕ) → Each P ns → 0 < occurs n ns → P n
each_occurs P n [] a h = absurd (occurs_not n h)
each_occurs P n (m ∷ ns) a h =
    ⊎_elim (λ e. subst P (sym e) a.0) (λ k. each_occurs P n ns a.1 k) (occurs_cases n m ns h)

abbrev pub first_of : List ℕ → ℕ
first_of ns = get_or ns 0 0

-- an edge of a list of contours is on the first of them or on a later one
pub on_contours : (n : ℕ) (c : Contour) (cs : List Contour)
    → occurs n (edges_of (c ∷ cs)) ≡ occurs n c.edges + occurs n (edges_of cs)
unfolding edges_of
on_contours n c cs = occurs_append n c.edges (edges_of cs)

pub on_either : (n : ℕ) (c : Contour) (cs : List Contour) → 0 < occurs n (edges_of (c ∷ cs))
    → (0 < occurs n c.edges) ⊎ (0 < occurs n (edges_of cs))
on_either n c cs h = go (ltb 0 (occurs n c.edges)) refl
  where
    go : (b : Bool) → ltb 0 (occurs n c.edges) ≡ b → (0 < occurs n c.edges) ⊎ (0 < occurs n (edges_of cs))
    go true e = inl (ltb-true _ _ e)
    go false e = inr (omega (arith, on_contours n c cs, ltb-false 0 (occurs n c.edges) e))
