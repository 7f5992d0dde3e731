use mathlib.Core.{Path.◌≡◌, Path.refl, Path.sym, Path.ap, Path.subst, Path.◌∙◌, List.◌++◌}
use Rattle.std.specs.Prelude.{ℕ, ◌+◌, ◌-◌, ◌<◌, ◌≤◌}
use native.Mathlib.Omega.{arith}
use lib.{ListN.length, ListN.get_or, ListN.take, ListN.drop, ListN.drop_of_length-le, Seq.drop-drop}
use borrow.Author.{Tests.ltb-true, Tests.ltb-false}
use Rattle.refusal.proofs.Laws.{settled}
use Rattle.coupling_rules.specs.InnerSides.{In, Chain, Over, leading, Split, Below}
use Rattle.coupling_rules.specs.InnerPacked.{Packed, rank_in}
use Rattle.coupling_rules.proofs.Runs.{chain_drop, run_length, run_some, moved_split, moved_below_rule, stop_from}
use Rattle.coupling.specs.InnerTurn.{packed_of, rank_of}
use Rattle.coupling.proofs.Running.{top_after}
use Rattle.coupling.proofs.turn.pull.Goals as goal
use Rattle.coupling.proofs.turn.pull.Goals.{Start}

abbrev tracks : Start → Packed
tracks s = packed_of s.args.tracks

pub loop-r-init : goal.loop-r-init
loop-r-init c =
    let a = c.args in
    let rank = rank_in (tracks (goal.at.loop-r-init c).Start) in
    let e : a.top - (a.at - a.at) ≡ a.top = omega arith in (
      omega arith,
      (
        omega arith,
        (
          refl,
          (
            (λ free x. subst (λ (n : ℕ). Split rank free (drop n a.stack.now) (drop a.at a.order.now))
                (sym e) x),
            (λ b. subst (λ (n : ℕ). Below rank (rank_of a.w.rank) (drop n a.stack.now)) (sym e) b),
          ),
        ),
      ),
    )

pub returns-else-comes_before : goal.returns-else-comes_before
returns-else-comes_before c =
    let a = c.args in
    let order = a.order.now in
    let rank = rank_in (tracks (goal.at.returns-else-comes_before c).Start) in
    let r = c.loop-r.r in
    let f = settled c.comes_before.ensures c.if-comes_before.false in
    let e : a.at + (r - a.at) ≡ r = omega arith in
    record {
      lower_bound = omega arith;
      upper_bound = omega arith;
      pulled = record {
        split = c.loop-r.invariant.1.1.1.0;
        below = c.loop-r.invariant.1.1.1.1;
        from = λ k. stop_from rank order r (omega arith) (rank_of a.w.rank) (ltb-false _ _ f)
            (subst (λ (n : ℕ). Chain (Over rank) (drop n order)) e
            (subst (Chain (Over rank)) (drop-drop (r - a.at) a.at order)
            (chain_drop (Over rank) (r - a.at) (drop a.at order) k)));
      };
    }

pub push-requires : goal.push-requires
push-requires c =
    let a = c.args in
    let order = a.order.now in
    let rank = rank_in (tracks (goal.at.push-requires c).Start) in
    let r = c.loop-r.r in
    let e : c.run_end-e.result ≡ r + leading rank (rank (get_or order r 0)) (drop r order) = c.run_end-e.ensures in
    let some = run_some rank order r (omega arith) in
    let fits = run_length rank order r (omega arith) in
    let room : a.top - (r - a.at) ≤ length c.loop-r.stack = omega arith in
    record { at_le_end = omega arith; end_in_bounds = omega arith; at_bound = omega arith; top_in_bounds = room }

pub loop-r-smaller : goal.loop-r-smaller
loop-r-smaller c =
    let a = c.args in
    let order = a.order.now in
    let rank = rank_in (tracks (goal.at.loop-r-smaller c).Start) in
    let r = c.loop-r.r in
    let e : c.run_end-e.result ≡ r + leading rank (rank (get_or order r 0)) (drop r order) = c.run_end-e.ensures in
    let some = run_some rank order r (omega arith) in
    let fits = run_length rank order r (omega arith) in
    let less : length order - c.run_end-e.result < length order - r = omega arith in
    less

pub loop-r-preserved : goal.loop-r-preserved
loop-r-preserved c =
    let a = c.args in
    let order = a.order.now in
    let rank = rank_in (tracks (goal.at.loop-r-preserved c).Start) in
    let r = c.loop-r.r in
    let e : c.run_end-e.result ≡ r + leading rank (rank (get_or order r 0)) (drop r order) = c.run_end-e.ensures in
    let some = run_some rank order r (omega arith) in
    let fits = run_length rank order r (omega arith) in
    let next = c.run_end-e.result in
    let from : a.at ≤ next = omega arith in
    let to : next ≤ length order = omega arith in
    let h : r < length order = omega arith in
    let stack = c.push.new.stack in
    let f = settled c.comes_before.ensures c.if-comes_before.true in
    let n : next - r ≡ leading rank (rank (get_or order r 0)) (drop r order) = omega arith in
    let t : a.top - (next - a.at) ≡ a.top - (r - a.at) - (next - r) =
    top_after a.top a.at r next c.loop-r.invariant.0 (omega arith) in
    let u : r + (next - r) ≡ next = omega arith in
    let w : drop (a.top - (next - a.at)) stack
    ≡ take (next - r) (drop r order) ++ drop (a.top - (r - a.at)) c.loop-r.stack =
    ap (λ (m : ℕ). drop m stack) t ∙ c.push.ensures in (
      from,
      (
        to,
        (
          c.push.auto.stack ∙ c.loop-r.invariant.1.1.0,
          (
            (λ free x.
                subst (λ (m : ℕ). Split rank free (drop (a.top - (next - a.at)) stack) (drop m order)) u
                (moved_split rank order r h (drop (a.top - (r - a.at)) c.loop-r.stack)
                (drop (a.top - (next - a.at)) stack) (next - r) n w free (c.loop-r.invariant.1.1.1.0 free x))),
            (λ b.
                moved_below_rule rank order r h (rank_of a.w.rank) (drop (a.top - (r - a.at)) c.loop-r.stack)
                (drop (a.top - (next - a.at)) stack) (next - r) n w (ltb-true _ _ f) (c.loop-r.invariant.1.1.1.1 b)),
          ),
        ),
      ),
    )

pub returns-after-loop-r : goal.returns-after-loop-r
returns-after-loop-r c =
    let a = c.args in
    let order = a.order.now in
    let rank = rank_in (tracks (goal.at.returns-after-loop-r c).Start) in
    let r = c.loop-r.r in
    let h : length order ≤ r = omega arith in
    record {
      lower_bound = omega arith;
      upper_bound = omega arith;
      pulled = record {
        split = c.loop-r.invariant.1.1.1.0;
        below = c.loop-r.invariant.1.1.1.1;
        from = λ k j i. absurd (subst (In j) (drop_of_length-le order h) i);
      };
    }
