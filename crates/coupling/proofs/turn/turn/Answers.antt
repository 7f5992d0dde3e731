-- `coupling::turn::turn` meets its contract: what stood before the movement is pulled over, so the best is the first of
-- the nearer list, and none fits where neither first does. Assumes nothing.
use mathlib.Core.{Path.◌≡◌, Path.refl, Path.ap, Path.◌∙◌, List.List}
use Rattle.std.specs.Prelude.{ℕ, Some, get_or, ◌+◌, ◌-◌, ◌*◌, ◌<◌, length, drop}
use native.Mathlib.Omega.{arith}
use Rattle.coupling_rules.specs.InnerSides.{Turned}
use Rattle.coupling_rules.specs.InnerPacked.{Packed, class_in, moment_in, rank_in}
use Rattle.coupling_rules.proofs.{Sides.Gaps, Gapped.gaps, Turning.Chosen, Turning.chosen}
use Rattle.coupling.specs.InnerTurn.{packed_of, class_of, rank_of, from_one, side_of, gap_from}
use Rattle.coupling.proofs.turn.turn.Goals as goal
use Rattle.coupling.proofs.turn.turn.Goals.{After-nearer}

abbrev tracks : After-nearer → Packed
tracks c = packed_of c.args.tracks

-- where the stack begins once the runs are pushed
abbrev top : After-nearer → ℕ
top c = let a = c.args in a.top - (c.pull-r.result - a.at)

abbrev Turns : After-nearer → (answer : ℕ) (left right : List ℕ) → Type 0
Turns c answer left right =
    let a = c.args in
    Turned (rank_in (tracks c)) (gap_from (tracks c) a.w) (moment_in (tracks c)) (rank_of a.w.rank) answer
    (drop a.top a.stack.now) (drop a.at a.order.now) left right

all_gaps : (c : After-nearer) →
    Gaps (rank_in (tracks c)) (gap_from (tracks c) c.args.w) (moment_in (tracks c)) (rank_of c.args.w.rank)
    (class_of c.args.w.rank * 18446744073709551616)
all_gaps c =
    let w = c.args.w in
    let own : w.rank.moment < 18446744073709551616 = omega arith in
    gaps (class_in (tracks c)) (moment_in (tracks c)) (class_of w.rank) w.rank.moment (from_one w.window)
    c.args.tracks.moment own

choice : (c : After-nearer) → Chosen (Turns c) c.pull-r.new.stack c.args.order.now (top c) c.pull-r.result
    (side_of c.nearer.result)
choice c =
    let p = c.pull-r in
    let a = c.args in
    chosen (rank_in (tracks c)) (gap_from (tracks c) a.w) (moment_in (tracks c)) (rank_of a.w.rank)
    (class_of a.w.rank * 18446744073709551616) (all_gaps c) (drop a.top a.stack.now) (drop a.at a.order.now)
    p.new.stack a.order.now (top c) p.result p.ensures.pulled (from_one c.head_gap-passed.result)
    (from_one c.head_gap-coming.result) (side_of c.nearer.result) c.nearer.ensures c.head_gap-passed.ensures
    c.head_gap-coming.ensures

-- the first of those to come is taken
coming : (c : After-nearer) → side_of c.nearer.result ≡ 2 → (c.pull-r.result < length c.args.order.now)
    × Turns c (get_or c.args.order.now c.pull-r.result 0 + 1) (drop (top c) c.pull-r.new.stack)
    (drop (c.pull-r.result + 1) c.args.order.now)
coming c e =
    let side : ℕ = side_of c.nearer.result in
    let h : side ≡ 0 → ⊥ = λ z. absurd (omega (arith, e, z)) in
    let k : side ≡ 1 → ⊥ = λ z. absurd (omega (arith, e, z)) in
    ((choice c).right_there h k, (choice c).right h k refl)

pub returns-in-None-clause-turned : goal.returns-in-None-clause-turned
returns-in-None-clause-turned c =
    (choice (goal.at.returns-in-None-clause-turned c).After-nearer).none (ap side_of c.in-None.is)

pub bounds-stack-t : goal.bounds-stack-t
bounds-stack-t c =
    (choice (goal.at.bounds-stack-t c).After-nearer).left_there
    (ap side_of (c.in-Some-Passed.is ∙ ap Some c.in-Some-Passed.field-0-is))

pub returns-in-Some-Passed : goal.returns-in-Some-Passed
returns-in-Some-Passed c =
    let at = goal.at.returns-in-Some-Passed c in
    let chosen = choice at.After-nearer in
    let e = ap side_of (c.in-Some-Passed.is ∙ ap Some c.in-Some-Passed.field-0-is) in
    let k = chosen.left_there e in
    record {
      at_in_bounds_2 = c.pull-r.ensures.upper_bound;
      order_len_bound_2 = omega arith;
      top_in_bounds_2 = omega arith;
      turned = chosen.left e refl;
    }

pub bounds-order-r : goal.bounds-order-r
bounds-order-r c =
    let e = ap side_of (c.in-Some-Coming.is ∙ ap Some c.in-Some-Coming.field-0-is) in
    (coming (goal.at.bounds-order-r c).After-nearer e).0

pub returns-in-Some-Coming : goal.returns-in-Some-Coming
returns-in-Some-Coming c =
    let after = (goal.at.returns-in-Some-Coming c).After-nearer in
    let k = coming after (ap side_of (c.in-Some-Coming.is ∙ ap Some c.in-Some-Coming.field-0-is)) in
    let j = k.0 in
    record {
      at_in_bounds_2 = omega arith;
      order_len_bound_2 = omega arith;
      top_in_bounds_2 = omega (arith, c.requires.top_in_bounds);
      turned = k.1;
    }
