-- `book::refusals::take_back_refusal` meets its contract: it is refused as a withdrawal is, and then for the mark.
-- Assumes nothing.
use Rattle.std.specs.Prelude.{◌<◌, length}
use mathlib.Core.Path.{refl, sym, ◌∙◌}
use native.Mathlib.Omega.{arith}
use borrow.Author.{Tests.eq-eqb, Tests.ne_eqb}
use Rattle.std.proofs.lemmas.Result.{err_from_is_err_and}
use Rattle.refusal.proofs.Laws.{numbered}
use Rattle.book_rules.proofs.Accepted.{Stood, withdrawn, take_back_mark, take_back_refused}
use Rattle.book.proofs.Stood.{stood_index, stood_below}
use Rattle.book.proofs.refusals.take_back_refusal.Goals as goal
use Rattle.book.proofs.refusals.take_back_refusal.Goals.{Start}

row : (s : Start) → Stood s.args.ids.now s.args.identity → s.args.at < length s.args.marks.now
row s w = omega (arith, stood_below s.requires.placed w, s.requires.marks_len)

pub returns-in_err-withdraw_refusal : goal.returns-in_err-withdraw_refusal
returns-in_err-withdraw_refusal c =
    let p = err_from_is_err_and c.from_residual.result c.from_residual.ensures.1 in
    let said = c.in_err-withdraw_refusal.ensures in
    let low = numbered c.in_err-withdraw_refusal.field-0.0 in
    rw (p.1, p.2) (said ∙ take_back_refused _ _ _ (λ e. omega arith))

pub returns-then-marks-at-ne1 : goal.returns-then-marks-at-ne1
returns-then-marks-at-ne1 c =
    let none = sym c.in_ok-withdraw_refusal.ensures in
    sym (take_back_mark _ _ _ none
    ∙ rw (stood_index c.requires.placed (withdrawn _ _ none), ne_eqb _ _ c.if-marks-at-ne1.true) refl)

pub returns : goal.returns
returns c =
    let none = sym c.in_ok-withdraw_refusal.ensures in
    sym (take_back_mark _ _ _ none
    ∙ rw (stood_index c.requires.placed (withdrawn _ _ none), eq-eqb _ _ c.if-marks-at-ne1.false) refl)

pub offset_bounds-marks-at : goal.offset_bounds-marks-at
offset_bounds-marks-at c =
    let r = row (goal.at.offset_bounds-marks-at c).Start (withdrawn _ _ (sym c.in_ok-withdraw_refusal.ensures)) in
    omega arith

pub bounds-marks-at : goal.bounds-marks-at
bounds-marks-at c = row (goal.at.bounds-marks-at c).Start (withdrawn _ _ (sym c.in_ok-withdraw_refusal.ensures))
