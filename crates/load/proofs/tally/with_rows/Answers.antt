use Rattle.std.specs.Prelude.{◌≡◌, length, get_or}
use mathlib.Core.Path.{sym, ap, subst, ◌∙◌}
use native.Mathlib.Omega.{arith}
use Rattle.load_rules.specs.{Shares.shares_to, Shares.book_shares, Tally.tally}
use Rattle.load.specs.InnerSteps.{flat, flat_at, RoomForOne, book_asked}
use Rattle.load.proofs.RowLaws.{Row, row_at, row_next, row_skipped}
use Rattle.load.proofs.tally.with_rows.Goals as goal
use Rattle.load.proofs.tally.with_rows.Goals.{In-loop-i, then-counts-at-ne0, else-counts-at-ne0}

-- the row that a turn reads
row : (c : In-loop-i) → let a = c.args.asked in Row a.points a.point (book_asked a) c.loop-i.i
row c = let a = c.args.asked in row_at a.points a.point (book_asked a) a.sound a.there c.loop-i.i (omega arith)

pub with_row-requires : goal.with_row-requires
unfolding flat_at
with_row-requires c =
    let g = get_or c.args.asked.groups.now c.loop-i.i 0 in
    record {
      room_for_one = (
        subst (λ cs. RoomForOne (flat_at cs g)) (sym c.loop-i.invariant)
            (row (goal.at.with_row-requires c).In-loop-i).room,
        (row (goal.at.with_row-requires c).In-loop-i).group<,
        (row (goal.at.with_row-requires c).In-loop-i).level≤,
      );
      tables = c.requires.1;
    }

pub loop-i-preserved : goal.loop-i-preserved
unfolding flat_at
loop-i-preserved c =
    let a = c.args.asked in
    let i = c.loop-i.i in
    elim c.if-counts-at-ne0.branch [
      | then-counts-at-ne0 w ↦ w.cells-is ∙ row_next a.points a.point (book_asked a) a.sound a.there i (omega arith)
          c.loop-i.cells w.with_row.result c.loop-i.invariant w.if-counts-at-ne0.true w.with_row.ensures
      | else-counts-at-ne0 w ↦ w.cells-is ∙ c.loop-i.invariant
          ∙ ap (λ ss. flat (tally ss))
          (row_skipped a.points a.point (book_asked a) a.sound a.there i w.if-counts-at-ne0.false)
    ]

pub returns : goal.returns
unfolding book_shares
returns c =
    let a = c.args.asked in
    let e : c.loop-i.i ≡ length a.ids.now = omega arith in
    c.loop-i.invariant ∙ ap (λ n. flat (tally (shares_to a.points a.point (book_asked a) n))) e

pub loop-i-init : goal.loop-i-init
loop-i-init c = unfold shares_to in c.requires.0

pub overflow_mul-at : goal.overflow_mul-at
overflow_mul-at c = omega (arith, (row c).in_levels)

pub overflow_add-at : goal.overflow_add-at
overflow_add-at c = omega (arith, (row c).in_levels)

pub offset_bounds-counts-at : goal.offset_bounds-counts-at
offset_bounds-counts-at c = omega (arith, (row c).in_levels)

pub bounds-counts-at : goal.bounds-counts-at
bounds-counts-at c = (row (goal.at.bounds-counts-at c).In-loop-i).in_counts

pub bounds-groups-i : goal.bounds-groups-i
bounds-groups-i c = (row (goal.at.bounds-groups-i c).In-loop-i).in_groups

pub overflow_cast-g : goal.overflow_cast-g
overflow_cast-g c = omega (arith, (row (goal.at.overflow_cast-g c).In-loop-i).group<)

pub offset_bounds-cells-g : goal.offset_bounds-cells-g
offset_bounds-cells-g c = omega (arith, (row (goal.at.offset_bounds-cells-g c).In-loop-i).group<)

pub bounds-cells-g : goal.bounds-cells-g
bounds-cells-g c = omega (arith, (row (goal.at.bounds-cells-g c).In-loop-i).group<)

pub bounds-marks-i : goal.bounds-marks-i
bounds-marks-i c = (row (goal.at.bounds-marks-i c).In-loop-i).in_marks

pub offset_bounds-levels-at : goal.offset_bounds-levels-at
offset_bounds-levels-at c = omega (arith, (row (goal.at.offset_bounds-levels-at c).In-loop-i).in_levels)

pub bounds-levels-at : goal.bounds-levels-at
bounds-levels-at c = (row (goal.at.bounds-levels-at c).In-loop-i).in_levels

pub offset_bounds-cells-g-then-counts-at-ne0 : goal.offset_bounds-cells-g-then-counts-at-ne0
offset_bounds-cells-g-then-counts-at-ne0 c = omega
    (arith, (row (goal.at.offset_bounds-cells-g-then-counts-at-ne0 c).In-loop-i).group<)

pub bounds-cells-g-then-counts-at-ne0 : goal.bounds-cells-g-then-counts-at-ne0
bounds-cells-g-then-counts-at-ne0 c =
    omega (arith, (row (goal.at.bounds-cells-g-then-counts-at-ne0 c).In-loop-i).group<)
