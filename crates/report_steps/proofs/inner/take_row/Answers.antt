-- `report_steps::inner::take_row` meets its contract: the layout, *enter* and *supply*, case by case. Assumes nothing.
use Rattle.std.proofs.Common.{◌≤◌, Ok, Err, refl, ap}
use native.Mathlib.Omega.{arith}
use Rattle.movement.specs.Limits.{max_points}
use Rattle.book_rules.specs.Columns.{book_of}
use Rattle.book_rules.proofs.{Shapes.sound_fits, Kept.called_sound}
use Rattle.std.proofs.lemmas.Result.{err_from_is_err_and}
use Rattle.refusal.specs.Refusal.{number_of}
use Rattle.refusal.specs.declared.Refusal.TheVariants.{TooLight}
use Rattle.refusal.proofs.Laws.{numbered, same_number}
use Rattle.report_steps.specs.declared.Entry.TheVariants.{Added, Skipped}
use Rattle.report_steps.proofs.Intakes.{row_off, row_passed, row_refused, row_entered, row_supplied, row_answered}
use Rattle.report_steps.proofs.inner.take_row.Goals as goal
use Rattle.report_steps.proofs.inner.take_row.Goals.{Start}

-- a sound book has at most 8 points
few : (c : Start) → c.args.points ≤ max_points
few c =
    let a = c.args in
    let b = book_of a.ids.now a.groups.now a.marks.now a.counts.now a.levels.now in
    (sound_fits a.points b c.requires).points

pub returns-in_err-row : goal.returns-in_err-row
returns-in_err-row c =
    let p = err_from_is_err_and c.from_residual.result c.from_residual.ensures.1 in
    let taken = row_off c.args.line.now _ (rw c.in_err-row.was at c.read_layout.ensures) in
    rw (p.1, p.2) (record { taken = taken; answered = row_answered (Err c.in_err-row.field-0.0) taken })

pub enter_row-requires : goal.enter_row-requires
enter_row-requires c = record {
  levels_value = c.requires;
  points_le_max_points = few (goal.at.enter_row-requires c).Start;
}

pub returns-in-TooLight : goal.returns-in-TooLight
returns-in-TooLight c =
    let taken =
    row_passed c.args.line.now (rw c.in_ok-row.was at c.read_layout.ensures) refl
    (rw c.in-Err.is at c.enter_row.ensures) (ap number_of c.in-TooLight.is) in
    record { taken = taken; answered = row_answered (Ok Skipped) taken }

pub returns-in_default : goal.returns-in_default
returns-in_default c =
    let low = numbered c.in-Err.why in
    let taken =
    row_refused c.args.line.now (rw c.in_ok-row.was at c.read_layout.ensures) refl
    (rw c.in-Err.is at c.enter_row.ensures) (λ e. c.in_default.not-TooLight (same_number c.in-Err.why TooLight e))
    (λ e. absurd (omega arith)) in
    record { taken = taken; answered = row_answered (Err c.in-Err.why) taken }

pub returns-then-f-eq0 : goal.returns-then-f-eq0
returns-then-f-eq0 c =
    let taken =
    row_entered c.args.line.now (rw c.in_ok-row.was at c.read_layout.ensures) refl
    (rw c.in-Ok.is at c.enter_row.ensures) refl c.if-f-eq0.true in
    record { taken = taken; answered = row_answered (Ok Added) taken }

pub take_levels-requires : goal.take_levels-requires
take_levels-requires c =
    record {
      levels_value = called_sound c.requires c.enter_row.ensures;
      points_le_max_points = few (goal.at.take_levels-requires c).Start;
    }

pub returns : goal.returns
returns c =
    let taken =
    row_supplied c.args.line.now (rw c.in_ok-row.was at c.read_layout.ensures) refl
    (rw c.in-Ok.is at c.enter_row.ensures) refl c.if-f-eq0.false c.take_levels.ensures in
    record { taken = taken; answered = row_answered c.take_levels.result taken }

pub overflow_cast-points : goal.overflow_cast-points
overflow_cast-points c = omega (arith, few (goal.at.overflow_cast-points c).Start)
