-- `flights::day::date` meets its contract: the three tests, and then the three numbers. Assumes nothing.
use Rattle.std.proofs.Common.{arith}
use Rattle.std.proofs.lemmas.Bool.Decides.{nat_tests}
use Rattle.std.specs.Prelude.{◌≡◌, ◌<◌, length, get_or}
use mathlib.Core.Path.{sym, ◌∙◌}
use borrow.Author.{Tests.eq-eqb}
use Rattle.std.specs.Prelude.{Some, None}
use Rattle.flights.specs.Date.{digits_at, dated, date_of}
use Rattle.flights.proofs.Dates.{part_text_lem}
use Rattle.flights.proofs.day.date.Goals as goal
use Rattle.flights.proofs.day.date.Goals.{Else-s-ne45-2, In_ok-day}
use Rattle.flights.proofs.day.date.Goals.{then-s-ne10-via-then-s-ne10, then-s-ne10-via-else-s-ne10+then-s-ne45}
use Rattle.flights.proofs.day.date.Goals.{then-s-ne10-via-else-s-ne10+else-s-ne45+then-s-ne45-2}

pub returns-then-s-ne10 : goal.returns-then-s-ne10
unfolding date_of
returns-then-s-ne10 c =
    elim c.then-s-ne10.branch [
      | then-s-ne10-via-then-s-ne10 w ↦ grind (arith, nat_tests)
      | then-s-ne10-via-else-s-ne10+then-s-ne45 w ↦ grind (arith, nat_tests)
      | then-s-ne10-via-else-s-ne10+else-s-ne45+then-s-ne45-2 w ↦ grind (arith, nat_tests)
    ]

-- past the tests only the three numbers are left
opened : (c : Else-s-ne45-2) → let s = c.args.s.now in
    date_of s ≡ dated (digits_at s 0 4) (digits_at s 5 2) (digits_at s 8 2)
unfolding date_of
opened c =
    let s = c.args.s.now in
    simp (
      eq-eqb (length s) 10 c.if-s-ne10.false,
      eq-eqb (get_or s 4 0) 45 c.if-s-ne45.false,
      eq-eqb (get_or s 7 0) 45 c.if-s-ne45-2.false,
    )

pub returns-in_err-year : goal.returns-in_err-year
returns-in_err-year c =
    let y : digits_at c.args.s.now 0 4 ≡ None = sym c.digits_at.ensures ∙ c.in_err-year.was in
    c.from_residual.ensures ∙ sym (opened (goal.at.returns-in_err-year c).Else-s-ne45-2 ∙ rw y)

pub returns-in_err-month : goal.returns-in_err-month
returns-in_err-month c =
    let s = c.args.s.now in
    let y : digits_at s 0 4 ≡ Some c.in_ok-year.year = sym c.digits_at.ensures ∙ c.in_ok-year.was in
    let m : digits_at s 5 2 ≡ None = sym c.digits_at-2.ensures ∙ c.in_err-month.was in
    c.from_residual-in_err-month.ensures ∙ sym (opened (goal.at.returns-in_err-month c).Else-s-ne45-2 ∙ rw (y, m))

pub returns-in_err-day : goal.returns-in_err-day
returns-in_err-day c =
    let s = c.args.s.now in
    let y : digits_at s 0 4 ≡ Some c.in_ok-year.year = sym c.digits_at.ensures ∙ c.in_ok-year.was in
    let m : digits_at s 5 2 ≡ Some c.in_ok-month.month = sym c.digits_at-2.ensures ∙ c.in_ok-month.was in
    let d : digits_at s 8 2 ≡ None = sym c.digits_at-3.ensures ∙ c.in_err-day.was in
    c.from_residual-in_err-day.ensures ∙ sym (opened (goal.at.returns-in_err-day c).Else-s-ne45-2 ∙ rw (y, m, d))

-- the three numbers are read, and have four digits, two and two
three : (c : In_ok-day) →
    let s = c.args.s.now in
    (digits_at s 0 4 ≡ Some c.in_ok-year.year) × (digits_at s 5 2 ≡ Some c.in_ok-month.month)
    × (digits_at s 8 2 ≡ Some c.in_ok-day.day)
three c = (
  sym c.digits_at.ensures ∙ c.in_ok-year.was,
  sym c.digits_at-2.ensures ∙ c.in_ok-month.was,
  sym c.digits_at-3.ensures ∙ c.in_ok-day.was,
)

small : (c : In_ok-day) → (c.in_ok-year.year < 10000) × (c.in_ok-month.month < 100) × (c.in_ok-day.day < 100)
small c =
    let s = c.args.s.now in
    let long : length s ≡ 10 = c.if-s-ne10.false in
    let r = three c in (
      (part_text_lem s 0 4 _ (omega arith) r.0).1,
      (part_text_lem s 5 2 _ (omega arith) r.1).1,
      (part_text_lem s 8 2 _ (omega arith) r.2).1,
    )

pub returns : goal.returns
returns c =
    let at = goal.at.returns c in
    let r = three at.In_ok-day in
    sym (opened at.Else-s-ne45-2 ∙ rw (r.0, r.1, r.2))

pub overflow_mul-result : goal.overflow_mul-result
overflow_mul-result c = let r = small (goal.at.overflow_mul-result c).In_ok-day in omega (arith, r.0, r.1, r.2)

pub overflow_mul-result-2 : goal.overflow_mul-result-2
overflow_mul-result-2 c = let r = small (goal.at.overflow_mul-result-2 c).In_ok-day in omega (arith, r.0, r.1, r.2)

pub overflow_add-result : goal.overflow_add-result
overflow_add-result c = let r = small (goal.at.overflow_add-result c).In_ok-day in omega (arith, r.0, r.1, r.2)

pub overflow_add-result-2 : goal.overflow_add-result-2
overflow_add-result-2 c = let r = small (goal.at.overflow_add-result-2 c).In_ok-day in omega (arith, r.0, r.1, r.2)
