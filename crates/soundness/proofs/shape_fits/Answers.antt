-- `soundness::shape_fits` meets its contract: its tests are those of `shape_fits`, in its order. Assumes nothing.
use mathlib.Core.{Path.◌≡◌, Path.refl, Path.sym, Path.ap, Path.◌∙◌, Bool.Bool, Bool.true, Bool.false, Bool.◌&&◌}
use Prim.Native.Nat.{◌*◌}
use lib.Dec.{eqb, leb}
use Rattle.std.proofs.Common.{rules}
use Rattle.movement.specs.Limits.{max_points, max_rows}
use Rattle.book_rules.specs.Columns.{shape_fits}
use Rattle.soundness.proofs.shape_fits.Goals as goal

-- six tests, one after the other
in_order : (a b c d e f : Bool) → (a && (b && ((c && d) && (e && f)))) ≡ (((((a && b) && c) && d) && e) && f)
in_order false b c d e f = refl
in_order true false c d e f = refl
in_order true true false d e f = refl
in_order true true true false e f = refl
in_order true true true true e f = refl

pub returns-then-counts-rows : goal.returns-then-counts-rows
unfolding shape_fits
returns-then-counts-rows c = search rules

pub returns-else-counts-rows : goal.returns-else-counts-rows
unfolding shape_fits
returns-else-counts-rows c =
    let z = c.args in
    let points = leb 1 z.points && leb z.points max_points in
    let rows = leb 1 z.rows && leb z.rows max_rows in
    let a : c.if-contains.value ≡ (points && rows) = search rules in
    let b : c.if-contains-2.value ≡ ((points && rows) && eqb z.groups z.rows) = search rules in
    let d : c.if-groups-rows.value ≡ (((points && rows) && eqb z.groups z.rows) && eqb z.marks z.rows) = search rules in
    let e : c.if-marks-rows.value
    ≡ ((((points && rows) && eqb z.groups z.rows) && eqb z.marks z.rows) && eqb z.counts (z.rows * z.points)) =
    search rules in
    c.if-counts-rows.false
    ∙ sym (in_order points rows _ _ _ _
    ∙ ap (λ (t : Bool). t && eqb z.levels (z.rows * z.points)) (sym e ∙ c.if-counts-rows.false))
