-- `text::inner::decimal` meets its contract: its tests are those of `decimal_of`. Assumes nothing.
use Rattle.std.specs.Prelude.{◌≡◌, ◌+◌, ◌-◌, ◌*◌, ◌^◌, ◌<◌, ◌≤◌, Some, length, get_or, take, drop}
use Rattle.std.proofs.Common.{arith, sym, ap, ◌∙◌, le-leb, eq-eqb}
use Rattle.std.proofs.lemmas.Bool.Decides.{nat_tests}
use Rattle.std.proofs.lemmas.Grind.{common_steps}
use native.Mathlib.{Nat.pow-le-pow_right, Nat.mul-le-mul}
use lib.{ListN.length-drop, Seq.length-take-le}
use Rattle.text.specs.Number.{decimal_of, whole_of, digits_of, joined}
use Rattle.text.proofs.Digits.{digits_small, whole_below, part-rest}
use Rattle.text.proofs.inner.decimal.Goals as goal
use Rattle.text.proofs.inner.decimal.Goals.{After-power, Else-s-point-ne46, In_ok-units, In_ok-parts}

pub returns-then-n-d : goal.returns-then-n-d
unfolding decimal_of
returns-then-n-d c = grind (arith, common_steps, nat_tests)

pub returns-then-s-point-ne46 : goal.returns-then-s-point-ne46
unfolding decimal_of
returns-then-s-point-ne46 c = grind (arith, common_steps, nat_tests)

-- past the tests only the two numbers are left
opened : (c : Else-s-point-ne46) → let s = c.args.s.now in let point = length s - (c.args.d + 1) in
    decimal_of (c.args.d) s ≡ joined (c.args.d) (whole_of (take point s)) (digits_of 0 (drop (point + 1) s))
unfolding decimal_of
opened c =
    let s = c.args.s.now in
    let d = c.args.d in
    simp (
      le-leb (d + 2) (length s) (omega arith),
      le-leb (length s) (d + 4) (omega arith),
      eq-eqb (get_or s (length s - (d + 1)) 0) 46 c.if-s-point-ne46.false,
    )

pub returns-in_err-units : goal.returns-in_err-units
returns-in_err-units c =
    let e = sym c.whole.ensures ∙ c.in_err-units.was in
    c.from_residual.ensures ∙ sym (opened (goal.at.returns-in_err-units c).Else-s-point-ne46 ∙ rw e)

-- the units
units : (c : In_ok-units) → let s = c.args.s.now in
    whole_of (take (length s - (c.args.d + 1)) s) ≡ Some c.in_ok-units.units
units c = sym c.whole.ensures ∙ c.in_ok-units.was

pub returns-in_err-parts : goal.returns-in_err-parts
returns-in_err-parts c =
    let s = c.args.s.now in
    let rest = length s - (c.args.d + 1) + 1 in
    let f = ap (digits_of 0) (sym (part-rest s rest)) ∙ sym c.digits.ensures ∙ c.in_err-parts.was in
    c.from_residual-in_err-parts.ensures ∙ sym (opened (goal.at.returns-in_err-parts c).Else-s-point-ne46
    ∙ rw (units (goal.at.returns-in_err-parts c).In_ok-units, f))

-- the decimals beside them
parts : (c : In_ok-parts) → let s = c.args.s.now in
    digits_of 0 (drop (length s - (c.args.d + 1) + 1) s) ≡ Some c.in_ok-parts.parts
parts c =
    let s = c.args.s.now in
    ap (digits_of 0) (sym (part-rest s (length s - (c.args.d + 1) + 1))) ∙ sym c.digits.ensures ∙ c.in_ok-parts.was

-- both are small
small : (c : After-power) →
    (c.in_ok-units.units * c.power.result ≤ 999 * 1000000) × (c.in_ok-parts.parts < 10000000)
small c =
    let s = c.args.s.now in
    let d = c.args.d in
    let point = length s - (d + 1) in
    let three : length (take point s) ≤ 3 = rw (length-take-le point s (omega arith)) (omega arith) in
    let few = whole_below (take point s) _ three (units (goal.at.After-power c).In_ok-units) in
    let power : 10 ^ d ≤ 10 ^ 6 = pow-le-pow_right {n = 10} (omega arith) {i = d} {j = 6} (omega arith) in
    let most : c.power.result ≤ 1000000 = omega (arith, c.power.ensures) in
    let less : c.in_ok-units.units ≤ 999 = omega arith in (
      mul-le-mul less most,
      digits_small (drop (point + 1) s) _ (simp length-drop (omega arith)) (parts (goal.at.After-power c).In_ok-parts),
    )

pub returns : goal.returns
returns c =
    sym (opened (goal.at.returns c).Else-s-point-ne46
    ∙ rw (units (goal.at.returns c).In_ok-units, parts (goal.at.returns c).In_ok-parts, ← c.power.ensures))

pub overflow_mul-result : goal.overflow_mul-result
overflow_mul-result c = omega (arith, (small c).0)

pub overflow_add-result : goal.overflow_add-result
overflow_add-result c = omega (arith, (small c).0, (small c).1)
