-- `text::clock::time` meets its contract: the three tests, and then the three numbers. Assumes nothing.
use Rattle.std.specs.Prelude.{◌≡◌, ◌<◌, Some, length, get_or}
use Rattle.std.proofs.Common.{arith, sym, ◌∙◌, eq-eqb}
use Rattle.std.proofs.lemmas.Bool.Decides.{nat_tests}
use Rattle.std.proofs.lemmas.Grind.{common_steps}
use Rattle.text.specs.Clock.{time_of, two_at, clock}
use Rattle.text.proofs.Clocks.{two_under}
use Rattle.text.proofs.clock.time.Goals as goal
use Rattle.text.proofs.clock.time.Goals.{Else-s-ne58-2, In_ok-second}

pub returns-then-s-ne8 : goal.returns-then-s-ne8
unfolding time_of
returns-then-s-ne8 c = grind (arith, common_steps, nat_tests)

-- past the tests only the three numbers are left
opened : (c : Else-s-ne58-2) → let s = c.args.s.now in
    time_of s ≡ clock (two_at s 0 24) (two_at s 3 60) (two_at s 6 60)
unfolding time_of
opened c =
    let s = c.args.s.now in
    simp (
      eq-eqb (length s) 8 c.if-s-ne8.false,
      eq-eqb (get_or s 2 0) 58 c.if-s-ne58.false,
      eq-eqb (get_or s 5 0) 58 c.if-s-ne58-2.false,
    )

pub returns-in_err-hour : goal.returns-in_err-hour
returns-in_err-hour c =
    let h = sym c.two_at.ensures ∙ c.in_err-hour.was in
    c.from_residual.ensures ∙ sym (opened (goal.at.returns-in_err-hour c).Else-s-ne58-2 ∙ rw h)

pub returns-in_err-minute : goal.returns-in_err-minute
returns-in_err-minute c =
    let h = sym c.two_at.ensures ∙ c.in_ok-hour.was in
    let m = sym c.two_at-2.ensures ∙ c.in_err-minute.was in
    c.from_residual-in_err-minute.ensures
    ∙ sym (opened (goal.at.returns-in_err-minute c).Else-s-ne58-2 ∙ rw (h, m))

pub returns-in_err-second : goal.returns-in_err-second
returns-in_err-second c =
    let h = sym c.two_at.ensures ∙ c.in_ok-hour.was in
    let m = sym c.two_at-2.ensures ∙ c.in_ok-minute.was in
    let z = sym c.two_at-3.ensures ∙ c.in_err-second.was in
    c.from_residual-in_err-second.ensures
    ∙ sym (opened (goal.at.returns-in_err-second c).Else-s-ne58-2 ∙ rw (h, m, z))

-- the three numbers are read, and are small
three : (c : In_ok-second) →
    let s = c.args.s.now in
    (two_at s 0 24 ≡ Some c.in_ok-hour.hour) × (two_at s 3 60 ≡ Some c.in_ok-minute.minute)
    × (two_at s 6 60 ≡ Some c.in_ok-second.second)
three c = (
  sym c.two_at.ensures ∙ c.in_ok-hour.was,
  sym c.two_at-2.ensures ∙ c.in_ok-minute.was,
  sym c.two_at-3.ensures ∙ c.in_ok-second.was,
)

small : (c : In_ok-second) →
    (c.in_ok-hour.hour < 24) × (c.in_ok-minute.minute < 60) × (c.in_ok-second.second < 60)
small c = (two_under _ 0 24 _ (three c).0, two_under _ 3 60 _ (three c).1, two_under _ 6 60 _ (three c).2)

pub returns : goal.returns
returns c =
    let r = three c in sym (opened (goal.at.returns c).Else-s-ne58-2 ∙ rw (r.0, r.1, r.2))

pub overflow_mul-result : goal.overflow_mul-result
overflow_mul-result c = omega (arith, (small c).0)

pub overflow_mul-result-2 : goal.overflow_mul-result-2
overflow_mul-result-2 c = omega (arith, (small c).1)

pub overflow_add-result : goal.overflow_add-result
overflow_add-result c = omega (arith, (small c).0, (small c).1)

pub overflow_add-result-2 : goal.overflow_add-result-2
overflow_add-result-2 c = omega (arith, (small c).0, (small c).1, (small c).2)
