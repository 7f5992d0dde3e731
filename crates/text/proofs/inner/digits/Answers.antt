use Rattle.std.proofs.Common.{◌<◌, arith, sym, ◌∙◌}
use lib.ListN.{drop_of_length-le}
use Rattle.std.specs.Prelude.{◌≡◌, ◌≤◌, false, length, get_or}
use Rattle.text.specs.Number.{is_digit, digits_of}
use Rattle.text.proofs.Digits.{digit_yes, digit_low, digit_high, digits_step, digits-stop, grows, million}
use Rattle.text.proofs.inner.digits.Goals as goal
use Rattle.text.proofs.inner.digits.Goals.{then-c-lt48-via-then-c-lt48, then-c-lt48-via-else-c-lt48+then-c-gt57, In-loop-c}

-- under the loop's test the value has at most six digits
small : (c : In-loop-c) → c.loop-c.value < 1000000
small c = million c.loop-c.value c.loop-c.c-index c.loop-c.invariant.below (omega (arith, c.requires))

pub returns-then-c-lt48 : goal.returns-then-c-lt48
returns-then-c-lt48 c =
    let l = c.loop-c in
    let off : is_digit (get_or c.args.s.now l.c-index 0) ≡ false =
    elim c.then-c-lt48.branch [
      | then-c-lt48-via-then-c-lt48 w ↦ digit_low _ w.if-c-lt48.true
      | then-c-lt48-via-else-c-lt48+then-c-gt57 w ↦ digit_high _ w.if-c-gt57.true
    ] in
    sym (l.invariant.read ∙ digits-stop _ _ _ c.loop-c-test.true off)

pub loop-c-preserved : goal.loop-c-preserved
loop-c-preserved c =
    let l = c.loop-c in record {
      read = l.invariant.read ∙ digits_step _ _ _ c.loop-c-test.true (digit_yes _ c.if-c-lt48.false c.if-c-gt57.false);
      below = grows l.value l.c-index _ l.invariant.below (omega arith);
    }

pub returns : goal.returns
unfolding digits_of
returns c =
    let s = c.args.s.now in
    let h : length s ≤ c.loop-c.c-index = omega arith in
    sym (c.loop-c.invariant.read ∙ simp (drop_of_length-le s h))

pub overflow_mul-value : goal.overflow_mul-value
overflow_mul-value c = omega (arith, small (goal.at.overflow_mul-value c).In-loop-c)

pub overflow_add-value : goal.overflow_add-value
overflow_add-value c = omega (arith, small (goal.at.overflow_add-value c).In-loop-c)
