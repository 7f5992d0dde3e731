-- `wkt::put::put_step` meets its contract. Assumes nothing.
use Rattle.network.specs.Limits.{max_edges}
use Rattle.network.proofs.Numbers.{edges_le}
use mathlib.Core.{Path.◌≡◌, List.◌++◌}
use Rattle.std.specs.Prelude.{◌+◌, ◌<◌, ◌≤◌, length, get_or}
use native.Mathlib.Omega.{arith}
use borrow.Author.{Tests.eq-eqb, Tests.ne_eqb}
use lib.ListN.{length-append}
use Rattle.room.proofs.Laws.{wrote_then}
use Rattle.wkt.specs.Text.{place_text}
use Rattle.wkt.specs.InnerParts.{line_at, points_at, before_text, piece_of}
use Rattle.wkt.proofs.Lengths.{before_short, place_short}
use Rattle.wkt.proofs.Steps.{room, place-within, point_edge}
use Rattle.wkt.proofs.put.put_step.Goals as goal
use Rattle.wkt.proofs.put.put_step.Goals.{After-around, Else-line-counts, Else-point-count}

-- past the first test the cursor's line is one of the lines
in_lines : (c : Else-line-counts) → c.args.at.line < length c.args.counts.now
in_lines c = omega (arith, c.requires.1.0, c.if-line-counts.false)

-- its count and mark
enough : (c : Else-line-counts) → let a = c.args in a.at.start + get_or a.counts.now
    a.at.line 0 ≤ length a.listed.now
enough c =
    let a = c.args in
    omega (
      arith,
      room a.levels.now a.frame a.v a.listed.now a.counts.now a.closed.now
          c.requires.0.0 a.at c.requires.0.1 (in_lines c),
    )

-- past the second the cursor is at a point
at-point : (c : Else-point-count)
    → let a = c.args in a.at.point < points_at a.counts.now a.closed.now
    a.at
at-point c = omega (arith, c.requires.0.1.point, c.if-point-count.false)

-- few edges are listed
few : (c : Else-line-counts) → length c.args.listed.now ≤ max_edges
few c =
    let k = c.requires.0.0 in
    omega (
      arith,
      k.few,
      edges_le c.args.frame.columns c.args.frame.rows
          k.checked.sized.sides.narrow k.checked.sized.sides.low,
    )

-- the listed edge that the point prints
within : (c : After-around)
    → c.args.at.start + c.around.result < length
    c.args.listed.now
within c =
    let a = c.args in
    rw c.around.ensures (place-within a.levels.now a.frame a.v a.listed.now a.counts.now
    a.closed.now c.requires.0.0 a.at c.requires.0.1 (omega (arith, c.requires.1.0, c.if-line-counts.false))
    (omega (arith, c.requires.0.1.point, c.if-point-count.false)))

edge : (c : After-around)
    → let a = c.args in get_or (line_at a.listed.now a.counts.now
    a.closed.now a.at) a.at.point 0 ≡ get_or a.listed.now (a.at.start + c.around.result) 0
edge c =
    let a = c.args in
    rw c.around.ensures (point_edge a.levels.now a.frame a.v a.listed.now a.counts.now
    a.closed.now c.requires.0.0 a.at c.requires.0.1 (omega (arith, c.requires.1.0, c.if-line-counts.false))
    (omega (arith, c.requires.0.1.point, c.if-point-count.false)))

pub overflow_cast-count : goal.overflow_cast-count
overflow_cast-count c = omega (
  arith,
  c.type_inv.counts
      c.args.at.line,
)

pub overflow_cast-closed : goal.overflow_cast-closed
overflow_cast-closed c = omega (
  arith,
  c.type_inv.closed
      c.args.at.line,
)

pub overflow_add-count : goal.overflow_add-count
overflow_add-count c = omega (
  arith,
  few (goal.at.overflow_add-count c).Else-line-counts,
  enough (goal.at.overflow_add-count c).Else-line-counts,
  c.requires.0.0.marks
      c.args.at.line,
)

pub returns-then-point-count : goal.returns-then-point-count
unfolding piece_of
returns-then-point-count c =
    let n = ne_eqb _ _ c.if-line-counts.false in
    let e = eq-eqb _ _ c.if-point-count.true in
    (rw (n, e), rw (n, e) c.put_byte.ensures)

pub overflow_add-result-2 : goal.overflow_add-result-2
overflow_add-result-2 c =
    omega (
      arith,
      few (goal.at.overflow_add-result-2 c).Else-line-counts,
      enough (goal.at.overflow_add-result-2 c).Else-line-counts,
      at-point (goal.at.overflow_add-result-2 c).Else-point-count,
      c.requires.0.0.marks c.args.at.line,
    )

pub put_place-requires : goal.put_place-requires
put_place-requires c =
    let a = c.args in (
      c.requires.0.0.checked,
      (
        c.requires.0.0.crossing (a.at.start + c.around.result) (within (goal.at.put_place-requires c).After-around),
        omega (
          arith,
          c.put_before-place.ensures.place,
          c.put_before-place.auto.piece,
          c.requires.1.1,
          before_short a.at.line a.at.point,
          place_short a.levels.now a.frame a.v
              (get_or a.listed.now (a.at.start + c.around.result) 0),
        ),
      ),
    )

pub returns : goal.returns
unfolding piece_of
returns c =
    let a = c.args in
    let n = get_or a.listed.now (a.at.start + c.around.result) 0 in
    let fits : 0 + length (before_text a.at.line a.at.point ++ place_text a.levels.now a.frame a.v n)
    ≤ length a.piece.now = omega (
      arith,
      c.requires.1.1,
      length-append (before_text a.at.line a.at.point) (place_text a.levels.now a.frame a.v n),
      before_short a.at.line a.at.point,
      place_short a.levels.now a.frame a.v n,
    ) in
    let l = ne_eqb _ _ c.if-line-counts.false in
    let p = ne_eqb _ _ c.if-point-count.false in (
      rw (l, p),
      rw (l, p, edge (goal.at.returns c).After-around)
          (wrote_then fits c.put_before-place.ensures c.put_place.ensures),
    )

pub returns-then-line-counts : goal.returns-then-line-counts
unfolding piece_of
returns-then-line-counts c =
    let e = eq-eqb _ _ c.if-line-counts.true in (rw e, rw e c.put_end.ensures)

pub overflow_add-result-then-point-count-2 : goal.overflow_add-result-then-point-count-2
overflow_add-result-then-point-count-2 c = omega (
  arith,
  few (goal.at.overflow_add-result-then-point-count-2 c).Else-line-counts,
  enough (goal.at.overflow_add-result-then-point-count-2 c).Else-line-counts,
)

pub overflow_add-n : goal.overflow_add-n
overflow_add-n c = omega (arith, few (goal.at.overflow_add-n c).Else-line-counts, within c)

pub offset_bounds-listed-start : goal.offset_bounds-listed-start
offset_bounds-listed-start c = omega (arith, few (goal.at.offset_bounds-listed-start c).Else-line-counts, within c)

pub bounds-listed-start : goal.bounds-listed-start
bounds-listed-start c = within (goal.at.bounds-listed-start c).After-around
