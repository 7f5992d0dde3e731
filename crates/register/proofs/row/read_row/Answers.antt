-- `register::row::read_row` meets its contract: the layout, then the rules and the room, and then the levels.
-- Assumes nothing.
use Rattle.std.specs.Prelude.{◌≡◌, ◌≤◌, length, take}
use Rattle.std.proofs.Common.{arith, sym, ap, ◌∙◌, eq-eqb}
use Rattle.std.proofs.lemmas.Result.{err_from_is_err_and}
use lib.Seq.{length-take-le}
use Rattle.room.specs.Room.{front}
use Rattle.room.proofs.Laws.{front_part}
use Rattle.register.specs.Row.{layout_of, row_refusal, field_list}
use Rattle.register.proofs.Rows.{row_none_lem, layout_points, row_unread, row_off}
use Rattle.register.proofs.row.read_row.Goals as goal
use Rattle.register.proofs.row.read_row.Goals.{In_ok-row_refusal}

pub returns-in_err-row : goal.returns-in_err-row
returns-in_err-row c =
    let p = err_from_is_err_and c.from_residual.result c.from_residual.ensures.1 in
    rw (p.1, p.2) (row_off c.in_err-row.field-0.0 c.in_err-row.ensures)

pub returns-in_err-row_refusal : goal.returns-in_err-row_refusal
returns-in_err-row_refusal c =
    let a = c.args in
    let p = err_from_is_err_and c.from_residual-in_err-row_refusal.result c.from_residual-in_err-row_refusal.ensures.1 in
    rw (p.1, p.2) (row_unread c.in_err-row_refusal.field-0.0 (c.in_err-row_refusal.ensures
    ∙ ap (λ l. row_refusal a.points l (length a.levels.now)) c.in_ok-row.ensures))

-- nothing refuses the row, so it has 1 to 8 levels, and room for them
none : (c : In_ok-row_refusal) → let a = c.args in
    row_refusal a.points (layout_of a.points a.s.now) (length a.levels.now) ≡ 0
none c = let a = c.args in
    sym (c.in_ok-row_refusal.ensures ∙ ap (λ l. row_refusal a.points l (length a.levels.now)) c.in_ok-row.ensures)

few : (c : In_ok-row_refusal) → (c.args.points ≤ length c.args.levels.now) × (c.args.points ≤ 8)
few c =
    let a = c.args in
    let on = row_none_lem a.points (layout_of a.points a.s.now) (length a.levels.now) (none c) in
    (on.2, (layout_points a.points a.s.now on.0).1)

eight : (c : In_ok-row_refusal) → length (take c.args.points c.in_ok-row.row.levels) ≡ c.args.points
eight c = length-take-le c.args.points c.in_ok-row.row.levels (omega (arith, (few c).1))

pub slice_bounds-copy_from_slice-end : goal.slice_bounds-copy_from_slice-end
slice_bounds-copy_from_slice-end c = (few c).0

pub slice_bounds-copy_from_slice-end-2 : goal.slice_bounds-copy_from_slice-end-2
slice_bounds-copy_from_slice-end-2 c =
    sym (length-take-le _ _ (few (goal.at.slice_bounds-copy_from_slice-end-2 c).In_ok-row_refusal).0)

pub shared_ref_as_front-copy_from_slice : goal.shared_ref_as_front-copy_from_slice
shared_ref_as_front-copy_from_slice c =
    (few (goal.at.shared_ref_as_front-copy_from_slice c).In_ok-row_refusal).1

pub copy_from_slice-requires : goal.copy_from_slice-requires
copy_from_slice-requires c =
    let n = c.args.points in
    length-take-le n c.args.levels.now (few (goal.at.copy_from_slice-requires c).In_ok-row_refusal).0
    ∙ sym (eight (goal.at.copy_from_slice-requires c).In_ok-row_refusal)

pub returns : goal.returns
returns c =
    let a = c.args in
    let e = none (goal.at.returns c).In_ok-row_refusal in
    let fine = eq-eqb (row_refusal a.points (layout_of a.points a.s.now) (length a.levels.now)) 0 e in
    record {
      number = sym e;
      values = rw fine (ap (λ l. field_list l.fields) c.in_ok-row.ensures);
      levels = rw fine (front_part a.points a.levels.now c.copy_from_slice.ensures.after
          (eight (goal.at.returns c).In_ok-row_refusal)
          ∙ ap (λ l. front (take a.points l.levels) a.levels.now) c.in_ok-row.ensures);
    }
