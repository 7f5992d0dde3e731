-- `contours_steps::words::words_refusal` meets its contract: 15, 14 or none, in this order. Assumes nothing.
use mathlib.Core.{Path.◌≡◌, Path.refl, Path.ap, Bool.Bool, Bool.true, Bool.false, Bool.not}
use native.Mathlib.Omega.{arith}
use borrow.Author.Tests.{le-leb, lt-leb}
use Rattle.contours_steps.specs.Words.{given_refusal}
use Rattle.contours_steps.proofs.words.words_refusal.Goals as goal
use Rattle.contours_steps.proofs.words.words_refusal.Goals.{then-given-lt1-via-then-given-lt1}
use Rattle.contours_steps.proofs.words.words_refusal.Goals.{then-given-lt1-via-else-given-lt1+then-not-given}

of_not : (b r : Bool) → not b ≡ r → b ≡ not r
of_not true r e = ap not e
of_not false r e = ap not e

pub returns-then-given-lt1 : goal.returns-then-given-lt1
unfolding given_refusal
returns-then-given-lt1 c =
    elim c.then-given-lt1.branch [
      | then-given-lt1-via-then-given-lt1 w ↦ rw (lt-leb 1 c.args.given.count w.if-given-lt1.true) refl
      | then-given-lt1-via-else-given-lt1+then-not-given w ↦
          let unfit : c.args.given.fit ≡ false = of_not _ _ w.if-not-given.true in
          rw (le-leb 1 c.args.given.count w.if-given-lt1.false, unfit) refl
    ]

pub returns-then-given-gt-MAX_CONTOUR_LEVELS : goal.returns-then-given-gt-MAX_CONTOUR_LEVELS
unfolding given_refusal
returns-then-given-gt-MAX_CONTOUR_LEVELS c =
    let n = c.args.given.count in
    let fit : c.args.given.fit ≡ true = of_not _ _ c.if-not-given.false in
    rw (le-leb 1 n c.if-given-lt1.false, fit, lt-leb n 15000 (omega arith)) refl

pub returns : goal.returns
unfolding given_refusal
returns c =
    let n = c.args.given.count in
    let fit : c.args.given.fit ≡ true = of_not _ _ c.if-not-given.false in
    rw (le-leb 1 n c.if-given-lt1.false, fit, le-leb n 15000 (omega arith)) refl
