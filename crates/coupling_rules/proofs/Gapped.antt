-- The gaps of a movement's class, moment and reach are as `Gaps` asks: in its own class a track's rank is its moment
-- and
-- one number more, and a rank between two of one class is of that class. Assumes nothing.
use mathlib.Core.{Path.◌≡◌, Path.refl, Path.ap, Path.subst, Bool.Bool, Bool.true, Bool.false, Bool.cond}
use mathlib.Core.{Logic.⊎_elim}
use Prim.Native.Nat.{ℕ, ◌+◌, ◌*◌, ◌≤◌, ◌<◌}
use native.Mathlib.Omega.{arith}
use lib.Dec.{eqb, ltb}
use borrow.Author.Tests.{eqb-true, eq-eqb, ltb-true, lt-ltb}
use Rattle.coupling_rules.specs.Rule.{distance}
use Rattle.coupling_rules.specs.InnerPacked.{ranked, gap_between, packed_gap}
use Rattle.coupling_rules.proofs.{Members.three_ways, Sides.Gaps}

-- Two numbers as one

pub ranked_high : (c t d u : ℕ) → c < d → t < 18446744073709551616 → ranked c t < ranked d u
unfolding ranked
ranked_high c t d u h k = omega arith

pub ranked_low : (c t u : ℕ) → t < u → ranked c t < ranked c u
unfolding ranked
ranked_low c t u h = omega arith

pub ranked_low_le : (c t u : ℕ) → t ≤ u → ranked c t ≤ ranked c u
unfolding ranked
ranked_low_le c t u h = omega arith

pub ranked_same : (c t d u : ℕ) → t < 18446744073709551616 → u < 18446744073709551616
    → ranked c t ≡ ranked d u
    → (c ≡ d) × (t ≡ u)
unfolding ranked
ranked_same c t d u h k e = (omega arith, omega arith)

-- a rank between two of one class is of that class
between : (k c p t r : ℕ) → t < 18446744073709551616 → r < 18446744073709551616 → ranked k p ≤ ranked c r
    → ranked c r ≤ ranked k t → c ≡ k
between k c p t r ht hr a b =
    ⊎_elim (λ h. absurd (omega (arith, ranked_high c r k p h hr)))
    (⊎_elim (λ e. e) (λ h. absurd (omega (arith, ranked_high k t c r h ht))))
    (three_ways c k)

-- with the class's part of the rank as one number
lefts : (base g t u : ℕ) → base + u < base + t → g ≡ distance t u + 1 → g + (base + u) ≡ base + t + 1
lefts base g t u h e = omega arith

rights : (base g t u : ℕ) → base + t ≤ base + u → g ≡ distance t u + 1 → g + (base + t) ≡ base + u + 1
rights base g t u h e = omega arith

nearer_left : (base t u v r : ℕ) → base + v ≤ base + u → base + u < base + t → distance t v < r
    → distance t u < r
nearer_left base t u v r h k d = omega arith

nearer_right : (base t u v r : ℕ) → base + u ≤ base + v → base + t ≤ base + u → distance t v < r
    → distance t u < r
nearer_right base t u v r h k d = omega arith

module _ (classes moments : ℕ → ℕ) (class moment reach : ℕ) where
  abbrev g : ℕ → ℕ
  g = packed_gap classes moments class moment reach

  -- what a gap says
  pub record Fitting (j : ℕ) : Type 0 where
    pub agrees : classes j ≡ class
    pub near : distance moment (moments j) < reach
    pub is : packed_gap classes moments class moment reach j ≡ distance moment (moments j) + 1

  says_by : (j : ℕ) (a b : Bool) → eqb (classes j) class ≡ a → ltb (distance moment (moments j)) reach ≡ b
      → g j ≡ cond a (cond b (distance moment (moments j) + 1) 0) 0 → 0 < g j → Fitting j
  says_by j true true e f d h = record {
    agrees = eqb-true (classes j) class e;
    near = ltb-true (distance moment (moments j)) reach f;
    is = d;
  }
  says_by j true false e f d h = absurd (omega arith)
  says_by j false b e f d h = absurd (omega arith)

  pub gap_says : (j : ℕ) → 0 < packed_gap classes moments class moment reach j → Fitting j
  unfolding gap_between
  gap_says j h = says_by j (eqb (classes j) class) (ltb (distance moment (moments j)) reach) refl refl refl h

  fitting : (j : ℕ) → classes j ≡ class → distance moment (moments j) < reach → 0 < g j
  unfolding gap_between
  fitting j e h =
      rw (eq-eqb (classes j) class e, lt-ltb (distance moment (moments j)) reach h) (omega arith)

  module _ (bound : (j : ℕ) → moments j < 18446744073709551616) (own : moment < 18446744073709551616) where
    abbrev rank : ℕ → ℕ
    rank j = ranked (classes j) (moments j)

    abbrev base : ℕ
    base = class * 18446744073709551616

    in_class : (j : ℕ) → classes j ≡ class → rank j ≡ base + moments j
    unfolding ranked
    in_class j e = ap (λ (n : ℕ). n * 18446744073709551616 + moments j) e

    at_is : ranked class moment ≡ base + moment
    unfolding ranked
    at_is = refl

    left_gaps : (j : ℕ) → rank j < ranked class moment → 0 < g j → g j + rank j ≡ ranked class moment + 1
    left_gaps j h p =
        let f = gap_says j p in
        let e = in_class j f.agrees in
        let k : base + moments j < base + moment = omega (arith, at_is) in
        let l = lefts base (g j) moment (moments j) k f.is in
        omega (arith, at_is)

    right_gaps : (j : ℕ) → ranked class moment ≤ rank j → 0 < g j → g j + ranked class moment ≡ rank j + 1
    right_gaps j h p =
        let f = gap_says j p in
        let e = in_class j f.agrees in
        let k : base + moment ≤ base + moments j = omega (arith, at_is) in
        let l = rights base (g j) moment (moments j) k f.is in
        omega (arith, at_is)

    left_fit : (x y : ℕ) → rank y ≤ rank x → rank x < ranked class moment → 0 < g y → 0 < g x
    left_fit x y h k p =
        let f = gap_says y p in
        let e = in_class y f.agrees in
        let a : ranked class (moments y) ≤ rank x = subst (λ (c : ℕ). ranked c (moments y) ≤ rank x)
        f.agrees h in
        let b : rank x ≤ ranked class moment = omega arith in
        let c : classes x ≡ class = between class (classes x) (moments y) moment (moments x) own (bound x) a b in
        let d = in_class x c in
        let u : base + moments y ≤ base + moments x = omega arith in
        let v : base + moments x < base + moment = omega (arith, at_is) in
        fitting x c (nearer_left base moment (moments x) (moments y) reach u v f.near)

    right_fit : (x y : ℕ) → rank x ≤ rank y → ranked class moment ≤ rank x → 0 < g y → 0 < g x
    right_fit x y h k p =
        let f = gap_says y p in
        let e = in_class y f.agrees in
        let a : rank x ≤ ranked class (moments y) = subst (λ (c : ℕ). rank x ≤ ranked c (moments y))
        f.agrees h in
        let c : classes x ≡ class = between class (classes x) moment (moments y) (moments x) (bound y)
        (bound x) k a in
        let d = in_class x c in
        let u : base + moments x ≤ base + moments y = omega arith in
        let v : base + moment ≤ base + moments x = omega (arith, at_is) in
        fitting x c (nearer_right base moment (moments x) (moments y) reach u v f.near)

    own_times : (j : ℕ) → 0 < g j → moments j + base ≡ rank j
    own_times j p = let e = in_class j (gap_says j p).agrees in omega arith

    pub gaps : Gaps (λ (j : ℕ). ranked (classes j) (moments j))
        (packed_gap classes moments class moment reach) moments
        (ranked class moment) (class * 18446744073709551616)
    gaps = record {
      left_gap = left_gaps;
      right_gap = right_gaps;
      left_fits = left_fit;
      right_fits = right_fit;
      own_time = own_times;
    }
