use mathlib.Core.Path.{ap}
use native.Mathlib.Omega.{arith}
use borrow.Author.{Tests.eqb-true, Tests.eqb-false}
use Rattle.refusal.proofs.Laws.{settled}
use Rattle.std.specs.Prelude.{ℕ, drop}
use Rattle.coupling_rules.specs.InnerSides.{leading}
use Rattle.coupling_rules.specs.InnerPacked.{rank_in}
use Rattle.coupling.specs.InnerTurn.{packed_of, rank_of}
use Rattle.coupling.proofs.Running.{leading_more, leading_stop, leading_end}
use Rattle.coupling.proofs.turn.run_end.Goals as goal

pub returns-then-not-same_rank : goal.returns-then-not-same_rank
returns-then-not-same_rank c =
    let rank = rank_in (packed_of c.args.tracks) in
    let order = c.args.order.now in
    let first = ap rank_of c.rank-first.ensures in
    omega (
      arith,
      c.loop-e.invariant,
      leading_stop rank (rank_of c.rank-first.result) order c.loop-e.e (omega arith)
          (eqb-false _ _ (settled c.same_rank.ensures c.if-not-same_rank.true)),
      ap (λ (q : ℕ). leading rank q (drop c.args.at order)) first,
    )

pub loop-e-preserved : goal.loop-e-preserved
loop-e-preserved c =
    let rank = rank_in (packed_of c.args.tracks) in
    let m = leading_more rank (rank_of c.rank-first.result) c.args.order.now c.loop-e.e (omega arith)
    (eqb-true _ _ (settled c.same_rank.ensures c.if-not-same_rank.false)) in
    omega (arith, c.loop-e.invariant, m)

pub returns : goal.returns
returns c =
    let rank = rank_in (packed_of c.args.tracks) in
    let order = c.args.order.now in
    let first = ap rank_of c.rank-first.ensures in
    omega (
      arith,
      c.loop-e.invariant,
      leading_end rank (rank_of c.rank-first.result) order c.loop-e.e (omega arith),
      ap (λ (q : ℕ). leading rank q (drop c.args.at order)) first,
    )
