-- Edges have the rules' numbers, and are crossed where it says. Assumes nothing.
use mathlib.Core.{Path.◌≡◌, Path.refl, Path.sym, Path.ap, Path.◌∙◌, Bool.true}
use mathlib.Core.{Logic.◌⊎◌, Logic.inl, Logic.inr, Logic.⊎_elim, Logic.◌↔◌, List.List}
use Rattle.std.specs.Prelude.{ℕ, ◌<◌, ◌≤◌, leb}
use native.Mathlib.Omega.{arith}
use borrow.Author.Tests.{leb-true, le-leb, lt-leb}
use Rattle.network.specs.declared.Edge.{Edge}
use Rattle.network.specs.declared.Edge.TheVariants.{Horizontal, Vertical}
use Rattle.network.specs.Edges.{edge_at}
use Rattle.network.specs.Crossed.{unlike, crossed_edge, crossed_at, distance}
use Rattle.network.specs.Numbering.{Apart, Parts, EdgesNumbered, CrossedExactly}
use Rattle.network.proofs.{Numbers.number_lt, Numbers.at_number, Numbers.number_at_rule, Astride.astride}

pub edges_numbered : (nx ny : ℕ) → 2 ≤ nx → EdgesNumbered nx ny
edges_numbered nx ny wide = record {
  lying = λ row col h k. (refl, at_number nx ny wide (Horizontal row col) (h, k));
  standing = λ row col h k. (refl, at_number nx ny wide (Vertical row col) (h, k));
  count = refl;
  below = λ row col. (
    λ h k. number_lt nx ny wide (Horizontal row col) (h, k),
    λ h k. number_lt nx ny wide (Vertical row col) (h, k),
  );
  number = λ n h. number_at_rule nx ny wide n h;
}

apart : (x y : ℕ) → Apart x y (distance x y)
apart x y = record { more = λ h. omega arith; less = λ h. omega arith }

pub parts : (v a b : ℕ) → Parts v a b (distance v a) (distance b a)
parts v a b = (apart v a, apart b a)

-- v lies between the two levels exactly if one end is in and the other is not
between_ends : (v a b : ℕ)
    → (unlike (leb v a) (leb v b) ≡ true) ↔ (((v ≤ a) × (b < v)) ⊎ ((a < v) × (v ≤ b)))
between_ends v a b = (
  λ h. ⊎_elim (λ w. inr w) (λ w. inl (w.1, w.0)) (astride v a b h),
  λ h. ⊎_elim (λ w. rw (le-leb v a w.0, lt-leb v b w.1)) (λ w. rw (lt-leb v a w.0, le-leb v b w.1)) h,
)

pub crossed_exactly : (levels : List ℕ) (nx ny v : ℕ) → 2 ≤ nx → CrossedExactly levels nx ny v
crossed_exactly levels nx ny v wide = record {
  inside = λ row col. (λ h. leb-true _ _ h, λ h. le-leb _ _ h);
  lying = λ row col h k. by_edge (Horizontal row col) _ (at_number nx ny wide (Horizontal row col) (h, k))
      (between_ends v _ _);
  standing = λ row col h k. by_edge (Vertical row col) _ (at_number nx ny wide (Vertical row col) (h, k))
      (between_ends v _ _);
}
  where
    by_edge : {P : Type 0} (e : Edge) (n : ℕ) → edge_at nx ny n ≡ e
        → (crossed_edge levels nx v e ≡ true) ↔ P → (crossed_at levels nx ny v n ≡ true) ↔ P
    by_edge e n q i = (
      λ h. i.0 (sym (ap (crossed_edge levels nx v) q) ∙ h),
      λ p. ap (crossed_edge levels nx v) q
          ∙ i.1 p,
    )
