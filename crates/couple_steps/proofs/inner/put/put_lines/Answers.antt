use Rattle.std.specs.Prelude.{◌≡◌, ◌<◌, ◌≤◌, length}
use native.Mathlib.Omega.{arith}
use Rattle.couple_steps.proofs.Putting.{putting_none, at_within, putting_next, part_put}
use Rattle.couple_steps.proofs.inner.put.put_lines.Goals as goal
use Rattle.couple_steps.proofs.inner.put.put_lines.Goals.{At-loop-i}

pub loop-i-init : goal.loop-i-init
loop-i-init c = putting_none _ _ _ _ _ _ c.requires.from_lt_many

-- the text lies within the buffer
inside : (c : At-loop-i) → c.loop-i.at ≤ length c.loop-i.out
inside c = at_within _ _ _ _ c.loop-i.invariant

-- there is room for a line before the first, so some line was put
pub returns-then-out-at-lt-LONGEST_FLIGHT : goal.returns-then-out-at-lt-LONGEST_FLIGHT
returns-then-out-at-lt-LONGEST_FLIGHT c =
    let k = c.loop-i.invariant in
    let more : c.args.from < c.loop-i.i = omega (arith, k.most, k.long, c.requires.longest_flight_in_bounds) in
    part_put _ _ _ _ k more

pub put_line-at-requires : goal.put_line-at-requires
put_line-at-requires c =
    omega (arith, inside (goal.at.put_line-at-requires c).At-loop-i)

pub loop-i-preserved : goal.loop-i-preserved
loop-i-preserved c =
    putting_next _ _ _ _ c.loop-i.invariant (omega arith)
    (omega (arith, inside (goal.at.loop-i-preserved c).At-loop-i)) c.put_line-at.ensures

pub returns : goal.returns
returns c =
    let last : c.loop-i.i ≡ c.args.many = omega arith in
    rw last at (part_put _ _ _ _ c.loop-i.invariant (omega (arith, c.requires.from_lt_many)))

pub overflow_sub-out : goal.overflow_sub-out
overflow_sub-out c = inside (goal.at.overflow_sub-out c).At-loop-i

pub shape_of-out-then-out-at-lt-LONGEST_FLIGHT : goal.shape_of-out-then-out-at-lt-LONGEST_FLIGHT
shape_of-out-then-out-at-lt-LONGEST_FLIGHT c = c.loop-i.invariant.long

pub shape_of-out : goal.shape_of-out
shape_of-out c = c.loop-i.invariant.long
