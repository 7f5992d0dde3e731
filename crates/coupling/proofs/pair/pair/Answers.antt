use mathlib.Core.{Path.◌≡◌, Path.refl, Path.sym, Path.ap, Path.subst, Path.◌∙◌, List.List, List.[]}
use Rattle.std.specs.Prelude.{ℕ, ◌+◌, ◌<◌, ◌≤◌}
use native.Mathlib.Omega.{arith}
use lib.{ListN.length, ListN.get_or, ListN.drop, ListN.set, ListN.length-set, Seq.drop-length}
use Rattle.coupling_rules.specs.Rule.{couple, places}
use Rattle.coupling_rules.specs.InnerSides.{In, Split, Turned}
use Rattle.coupling_rules.specs.InnerPacked.{packed_gap, class_in, moment_in, rank_in}
use Rattle.coupling_rules.proofs.{Members.at_in, Loops.Mid, Loops.answer_fits, Loops.mid_more, Loops.all_done}
use Rattle.coupling.specs.declared.gap.Wanted.{Wanted}
use Rattle.coupling.specs.InnerTurn.{packed_of, rank_of, from_one, gap_from, gaps_of}
use Rattle.coupling.proofs.Ranking.{reaches}
use Rattle.coupling.proofs.pair.pair.Goals as goal
use Rattle.coupling.proofs.pair.pair.Goals.{After-turn-left}

-- the turn of the movement whose turn it is
turned : (c : After-turn-left) →
    let t = packed_of c.args.tracks in
    let m = packed_of c.args.movements.packed in
    let i = get_or c.args.turns.now c.loop-i.i-index 0 in
    Turned (rank_in t) (gaps_of t c.args.movements i) (moment_in t) (rank_in m i)
    (from_one c.turn-left.result.track)
    (drop c.loop-i.top c.loop-i.stack) (drop c.loop-i.at c.args.order.now)
    (drop c.turn-left.result.top c.turn-left.new.stack) (drop c.turn-left.result.at c.args.order.now)
turned c =
    let t = packed_of c.args.tracks in
    let m = packed_of c.args.movements.packed in
    let i = get_or c.args.turns.now c.loop-i.i-index 0 in
    let left = c.turn-left in
    subst (λ (reach : ℕ).
    Turned (rank_in t) (packed_gap (class_in t) (moment_in t) (class_in m i) (moment_in m i) reach) (moment_in t)
    (rank_in m i) (from_one left.result.track)
    (drop c.loop-i.top c.loop-i.stack) (drop c.loop-i.at c.args.order.now)
    (drop left.result.top left.new.stack) (drop left.result.at c.args.order.now))
    (reaches (get_or c.args.movements.classes.now i 0) (get_or c.args.movements.circuits.now i 0))
    (subst (λ (w : Wanted).
    Turned (rank_in t) (gap_from t w) (moment_in t) (rank_of w.rank) (from_one left.result.track)
    (drop c.loop-i.top c.loop-i.stack) (drop c.loop-i.at c.args.order.now)
    (drop left.result.top left.new.stack) (drop left.result.at c.args.order.now))
    c.wanted-w.ensures left.ensures.turned)

pub loop-i-init : goal.loop-i-init
loop-i-init c =
    let a = c.args in
    let t = packed_of a.tracks in
    let o = c.requires.ordered in
    let few : length a.order.now ≤ length a.stack.now = c.requires.order_in_bounds in
    let e : drop (length a.stack.now) a.stack.now ≡ [] = drop-length a.stack.now in
    let first : Mid (rank_in t) (moment_in t) (rank_in (packed_of a.movements.packed)) (gaps_of t a.movements)
    a.turns.now a.order.now
    (couple (gaps_of t a.movements) (moment_in t) a.turns.now (places (length a.order.now)) a.answers.now) 0 0
    (length a.stack.now) a.stack.now a.answers.now =
    record {
      free = places (length a.order.now);
      split = subst (λ (l : List ℕ). Split (rank_in t) (places (length a.order.now)) l a.order.now) (sym e) o.split;
      below = λ k q j p. absurd (subst (In j) e p);
      same = refl;
      small = o.small;
    } in
    (omega arith, (omega arith, (omega arith, (refl, (refl, first)))))

pub turn-left-requires : goal.turn-left-requires
turn-left-requires c =
    let v = c.loop-i.invariant in
    record { at_in_bounds = v.0; order_len_bound = v.1.0; top_in_bounds = v.1.1.0 }

pub put-requires : goal.put-requires
put-requires c =
    let a = c.args in
    let l = c.loop-i in
    let p = c.turn-left in
    let t = packed_of a.tracks in
    let m = packed_of a.movements.packed in
    let g = gaps_of t a.movements in
    let i = get_or a.turns.now l.i-index 0 in
    let h : l.i-index < length a.turns.now = c.loop-i-test.true in
    let q : i < length a.answers.now = c.requires.ordered.placed i (at_in a.turns.now l.i-index h) in
    record {
      i_in_bounds = omega (arith, l.invariant.1.1.1.1.0);
      track_bound =
          answer_fits (rank_in t) (moment_in t) (rank_in m) g a.turns.now a.order.now
          (couple g (moment_in t) a.turns.now (places (length a.order.now)) a.answers.now)
          l.i-index l.at l.top l.stack l.answers h l.invariant.1.1.1.1.1 (from_one p.result.track) p.result.at
          p.result.top p.new.stack (turned (goal.at.put-requires c).After-turn-left);
    }

pub loop-i-preserved : goal.loop-i-preserved
loop-i-preserved c =
    let a = c.args in
    let l = c.loop-i in
    let p = c.turn-left in
    let t = packed_of a.tracks in
    let m = packed_of a.movements.packed in
    let g = gaps_of t a.movements in
    let whole = couple g (moment_in t) a.turns.now (places (length a.order.now)) a.answers.now in
    let i = get_or a.turns.now l.i-index 0 in
    let h : l.i-index < length a.turns.now = c.loop-i-test.true in
    let e : c.put.new.answers ≡ set l.answers i (from_one p.result.track) = c.put.ensures in
    let k : length p.new.stack ≡ length l.stack = p.auto.stack in (
      p.ensures.at_in_bounds_2,
      (
        p.ensures.order_len_bound_2,
        (
          subst (λ (z : ℕ). p.result.top ≤ z) (sym k) p.ensures.top_in_bounds_2,
          (
            k ∙ l.invariant.1.1.1.0,
            (
              ap length e ∙ length-set l.answers i (from_one p.result.track) ∙ l.invariant.1.1.1.1.0,
              subst
                  (Mid (rank_in t) (moment_in t) (rank_in m) g a.turns.now a.order.now whole (l.i-index + 1)
                  p.result.at p.result.top p.new.stack) (sym e)
                  (mid_more (rank_in t) (moment_in t) (rank_in m) g a.turns.now a.order.now whole l.i-index l.at l.top
                  l.stack l.answers h l.invariant.1.1.1.1.1 (from_one p.result.track) p.result.at p.result.top
                  p.new.stack (turned (goal.at.loop-i-preserved c).After-turn-left) c.requires.ordered.rising),
            ),
          ),
        ),
      ),
    )

pub returns : goal.returns
returns c =
    let a = c.args in
    let l = c.loop-i in
    let t = packed_of a.tracks in
    let m = packed_of a.movements.packed in
    let g = gaps_of t a.movements in
    all_done (rank_in t) (moment_in t) (rank_in m) g a.turns.now a.order.now
    (couple g (moment_in t) a.turns.now (places (length a.order.now)) a.answers.now)
    l.i-index l.at l.top l.stack l.answers (omega arith) l.invariant.1.1.1.1.1
