-- `coupling::pair::couple_in` meets its contract: both orders are by class and moment, and sorting the movements by
-- class as well changes no answer. Assumes nothing.
use mathlib.Core.{Path.◌≡◌, Path.ap, Path.◌∙◌, List.List}
use Rattle.std.specs.Prelude.{ℕ, length}
use native.Mathlib.Omega.{arith}
use Rattle.coupling_rules.specs.Rule.{couple, places}
use Rattle.coupling_rules.specs.InnerPacked.{moment_in, in_order}
use Rattle.coupling_rules.proofs.Ranks.{Wide, all_ordered_lem, by_moment}
use Rattle.coupling.specs.declared.columns.Packed.{Packed}
use Rattle.coupling.specs.InnerTurn.{packed_of, gaps_of}
use Rattle.coupling.proofs.pair.couple_in.Goals as goal

-- packed columns are of 64 bits
wide : (p : Packed) → Wide (packed_of p)
wide p = record { low = p.low; moment = p.moment }

pub pair-requires : goal.pair-requires
pair-requires c =
    let a = c.args in
    let u = c.in_order in
    let v = c.in_order-2 in
    let t = packed_of a.tracks in
    let m = packed_of a.movements.packed in
    let p : length v.new.order ≡ length a.order.now = v.auto.order in
    let q : length v.new.spare ≡ length u.new.spare = v.auto.spare in
    let r : length u.new.spare ≡ length a.stack.now = u.auto.spare in
    record {
      order_in_bounds = omega (arith, c.requires.order_len_bound, c.requires.max_flights_in_bounds);
      ordered =
          all_ordered_lem t m (wide a.tracks) (wide a.movements.packed) u.new.order v.new.order
          (places (length v.new.order)) a.answers.now (length a.turns.now) (length a.order.now) u.ensures v.ensures
          (ap places p) c.requires.turns_in_bounds (omega (arith, c.requires.order_len_bound));
    }

pub returns : goal.returns
returns c =
    let a = c.args in
    let u = c.in_order in
    let v = c.in_order-2 in
    let t = packed_of a.tracks in
    let m = packed_of a.movements.packed in
    let g = gaps_of t a.movements in
    let n = length a.turns.now in
    let p : length v.new.order ≡ length a.order.now = v.auto.order in
    c.pair.ensures
    ∙ ap (λ (l : List ℕ). couple g (moment_in t) l (places (length v.new.order)) a.answers.now) u.ensures
    ∙ ap (λ (k : ℕ). couple g (moment_in t) (in_order m n) (places k) a.answers.now) p
    ∙ by_moment t m a.movements.classes.now a.movements.circuits.now (wide a.movements.packed) n
    (places (length a.order.now)) a.answers.now
