-- Every range and edge of a movement holds exactly. Assumes nothing.
use Rattle.std.specs.Prelude.{ℕ, zero, suc, ◌*◌, ◌%◌, ◌<◌, ◌≤◌}
use mathlib.Core.{Path.◌≡◌, Path.refl, Bool.Bool, Bool.true, Bool.false, Bool.cond, Bool.◌&&◌}
use mathlib.Core.Logic.Iff
use mathlib.Core.{List.List, Logic.◌↔◌}
use native.Mathlib.Omega.{arith}
use lib.{ListN.length, ListN.get_or, Dec.eqb, Dec.leb, Dec.ltb}
use borrow.Author.Tests.{ltb-true, ltb-false, leb-true, lt-ltb, le-leb}
use Rattle.refusal.specs.Range.{all_within}
use Rattle.refusal.proofs.Laws.{and_left, and_right}
use Rattle.refusal.proofs.Ranges.{within_at, within_each}
use Rattle.movement.specs.declared.period.Period.TheVariants.{Day, Evening, Night}
use Rattle.movement.specs.Aircraft.{aircraft_numbered, mass_fits}
use Rattle.movement.specs.Period.{period_of, period_number, period_numbered, weight_of}
use Rattle.movement.specs.Group.{group_period}
use Rattle.movement.specs.Rules.{fields_fit, counts, movement_refusal, identity_fits, levels_fit}
use Rattle.movement.specs.Rules.{counts_fit, zero_elsewhere}
use Rattle.movement.specs.Ranges.{FieldsInRange, LevelsInRange, CountsInRange, ZeroElsewhere, RangesHold}
use Rattle.movement.specs.Ranges.{PeriodsHold}
use Rattle.movement.proofs.Elsewhere.{elsewhere_at, elsewhere_each}
use Rattle.movement.proofs.Exactly.{less, most, same, both, not-less, refused_first_lem, refused_later}
use Rattle.movement.proofs.{Exactly.passed_last, Exactly.not_given, Numbers.group_of_lem, Numbers.group_period_lem}

-- Rule 1

mass_of : (type mass : ℕ) → type < 3
    → mass_fits (aircraft_numbered type) mass ≡ true ↔ (type ≡ 1 → mass < 6000)
mass_of zero mass h = (λ e i. absurd (omega arith), λ f. refl)
mass_of (suc zero) mass h = (λ e i. ltb-true mass 6000 e, λ f. lt-ltb mass 6000 (f refl))
mass_of (suc (suc zero)) mass h = (λ e i. absurd (omega arith), λ f. refl)
mass_of (suc (suc (suc n))) mass h = absurd (omega arith)

fields_exactly : (type kind second mass : ℕ)
    → fields_fit type kind second mass ≡ true ↔ FieldsInRange type kind second mass
unfolding fields_fit
fields_exactly type kind second mass = (
  λ e.
      let r = and_left _ _ e in
      let t = and_left _ _ r in
      let s = and_right (ltb type 3 && ltb kind 2) _ r in
      let l = ltb-true type 3 (and_left _ _ t) in
      record {
        type<3 = l;
        kind<2 = ltb-true kind 2 (and_right (ltb type 3) _ t);
        in_the_day = ltb-true second 86400 (and_left _ _ s);
        mass_most = leb-true mass 1000000 (and_right (ltb second 86400) _ s);
        small_below_rule =
            (mass_of type mass l).0 (and_right ((ltb type 3 && ltb kind 2) && (ltb second 86400 && leb mass 1000000))
            _ e);
      },
  λ f.
      rw (
        lt-ltb type 3 f.type<3,
        lt-ltb kind 2 f.kind<2,
        lt-ltb second 86400 f.in_the_day,
        le-leb mass 1000000 f.mass_most,
      )
      ((mass_of type mass f.type<3).1 f.small_below_rule),
)

counts_exactly : (mass : ℕ) → counts mass ≡ true ↔ 150 < mass
unfolding counts
counts_exactly mass = less 150 mass

-- Rules 3, 7 and 19

identity_exactly : (x : ℕ) → identity_fits x ≡ true ↔ (1 ≤ x) × (x ≤ 99999)
unfolding identity_fits
identity_exactly x = both (leb 1 x) (leb x 99999) (most 1 x) (most x 99999)

all_exactly : (top : ℕ) (ls : List ℕ)
    → all_within top ls ≡ true ↔ ((i : ℕ) → i < length ls → get_or ls i 0 ≤ top)
all_exactly top ls = (λ e i h. within_at top ls i e, within_each top ls)

-- one value a point, each in range
one_a_point_rule : (points top : ℕ) (vs : List ℕ) → (eqb (length vs) points && all_within top vs) ≡ true
    ↔ (length vs ≡ points) × ((i : ℕ) → i < length vs → get_or vs i 0 ≤ top)
one_a_point_rule points top vs =
    both (eqb (length vs) points) (all_within top vs) (same (length vs) points) (all_exactly top vs)

levels_exactly : (points : ℕ) (ls : List ℕ) → levels_fit points ls ≡ true ↔ LevelsInRange points ls
unfolding levels_fit
levels_exactly points ls =
    let b = one_a_point_rule points 12000 ls in
    (λ e. record { one_a_point_rule = (b.0 e).0; level_most = (b.0 e).1 }, λ r. b.1 (r.one_a_point_rule, r.level_most))

yes_or_no_exactly : (points : ℕ) (cs : List ℕ) → counts_fit points cs ≡ true ↔ CountsInRange points cs
unfolding counts_fit
yes_or_no_exactly points cs =
    let b = one_a_point_rule points 1 cs in
    (λ e. record { one_a_point_rule = (b.0 e).0; yes_or_no = (b.0 e).1 }, λ r. b.1 (r.one_a_point_rule, r.yes_or_no))

elsewhere_exactly : (points : ℕ) (cs ls : List ℕ) → length cs ≡ points → length ls ≡ points
    → zero_elsewhere cs ls ≡ true ↔ ZeroElsewhere points cs ls
elsewhere_exactly points cs ls h k =
    (λ e j l z. elsewhere_at cs ls j e (omega arith) z, λ f. elsewhere_each cs ls (λ j l z. f j (omega arith) z))

-- 1 before 2

module _ (type kind second mass : ℕ) where
  one : movement_refusal type kind second mass ≡ 1 ↔ ¬ FieldsInRange type kind second mass
  unfolding movement_refusal
  one =
      refused_first_lem 1 (fields_fit type kind second mass) _ (fields_exactly type kind second mass)
      (not_given 2 1 (counts mass) 0 (λ e. omega arith) (λ e. omega arith))

  two : movement_refusal type kind second mass ≡ 2 ↔ FieldsInRange type kind second mass × (mass ≤ 150)
  unfolding movement_refusal
  two =
      refused_later 1 2 (fields_fit type kind second mass) _ (fields_exactly type kind second mass) (λ e. omega arith)
      (Iff.trans (refused_first_lem 2 (counts mass) 0 (counts_exactly mass) (λ e. omega arith)) (not-less 150 mass))

  accepted : movement_refusal type kind second mass ≡ 0 ↔ FieldsInRange type kind second mass × (150 < mass)
  unfolding movement_refusal
  accepted =
      refused_later 1 0 (fields_fit type kind second mass) _ (fields_exactly type kind second mass) (λ e. omega arith)
      (passed_last 2 (counts mass) (counts_exactly mass) (λ e. omega arith))

pub ranges_hold : RangesHold
ranges_hold =
    record {
      fields = fields_exactly;
      counted = counts_exactly;
      identity = identity_exactly;
      levels = levels_exactly;
      counts= = yes_or_no_exactly;
      elsewhere = elsewhere_exactly;
      one = one;
      two = two;
      accepted = accepted;
    }

-- Periods

module _ (s : ℕ) where
  -- the tests of the three edges, one after the other
  by_edges : (k : ℕ) {A : Type 0} → (s < 25200 → 2 ≡ k ↔ A) → (25200 ≤ s → s < 68400 → 0 ≡ k ↔ A)
      → (68400 ≤ s → s < 82800 → 1 ≡ k ↔ A) → (82800 ≤ s → 2 ≡ k ↔ A)
      → period_number (period_of s) ≡ k ↔ A
  by_edges k {A} early day evening late = go (ltb s 25200) refl (ltb s 68400) refl (ltb s 82800) refl
    where
      go : (a : Bool) → ltb s 25200 ≡ a → (b : Bool) → ltb s 68400 ≡ b → (c : Bool) → ltb s 82800 ≡ c
          → period_number (cond a Night (cond b Day (cond c Evening Night))) ≡ k ↔ A
      go true e b f c g = early (ltb-true s 25200 e)
      go false e true f c g = day (ltb-false s 25200 e) (ltb-true s 68400 f)
      go false e false f true g = evening (ltb-false s 68400 f) (ltb-true s 82800 g)
      go false e false f false g = late (ltb-false s 82800 g)

  is_day : period_number (period_of s) ≡ 0 ↔ (7 * 3600 ≤ s) × (s < 19 * 3600)
  is_day =
      by_edges 0 (λ h. (λ e. absurd (omega arith), λ r. absurd (omega arith))) (λ h l. (λ e. (h, l), λ r. refl))
      (λ h l. (λ e. absurd (omega arith), λ r. absurd (omega arith)))
      (λ h. (λ e. absurd (omega arith), λ r. absurd (omega arith)))

  is_evening : period_number (period_of s) ≡ 1 ↔ (19 * 3600 ≤ s) × (s < 23 * 3600)
  is_evening =
      by_edges 1 (λ h. (λ e. absurd (omega arith), λ r. absurd (omega arith)))
      (λ h l. (λ e. absurd (omega arith), λ r. absurd (omega arith)))
      (λ h l. (λ e. (h, l), λ r. refl)) (λ h. (λ e. absurd (omega arith), λ r. absurd (omega arith)))

  is_night : period_number (period_of s) ≡ 2 ↔ ¬ ((7 * 3600 ≤ s) × (s < 23 * 3600))
  is_night =
      by_edges 2 (λ h. (λ e r. omega arith, λ n. refl))
      (λ h l. (λ e. absurd (omega arith), λ n. absurd (n (h, omega arith))))
      (λ h l. (λ e. absurd (omega arith), λ n. absurd (n (omega arith, l))))
      (λ h. (λ e r. omega arith, λ n. refl))

-- the weight of the period of a number up to 2
weight_numbered : (n : ℕ) → n < 3 → weight_of (period_numbered n) ≡ 500 * n
weight_numbered zero h = refl
weight_numbered (suc zero) h = refl
weight_numbered (suc (suc zero)) h = refl
weight_numbered (suc (suc (suc n))) h = absurd (omega arith)

pub group_weight_lem : (g : ℕ) → weight_of (group_period g) ≡ 500 * (g % 3)
unfolding group_period
group_weight_lem g = weight_numbered (g % 3) (omega arith)

pub periods_hold : PeriodsHold
periods_hold =
    record {
      day = is_day;
      evening = is_evening;
      night = is_night;
      group = group_of_lem;
      period = group_period_lem;
      weight =
          group_weight_lem;
    }
