-- `grid::head::read_head` meets its contract: one header line after the other. Assumes nothing.
use mathlib.Core.{Path.◌≡◌, Path.refl, Path.sym, Path.subst}
use Rattle.std.proofs.Common.{rules, Err}
use Rattle.grid.specs.File.{ncols, nrows, xllcenter, yllcenter, cellsize, first_off, frame_of}
use Rattle.grid.specs.InnerSteps.{head_read}
use Rattle.grid.proofs.HeadLaws.{KeyStep, seen_none, key_step, key_stop}
use Rattle.grid.proofs.head.read_head.Goals as goal
use Rattle.grid.proofs.head.read_head.Goals.{In_ok-columns, In_ok-rows, In_ok-west, In_ok-south, In_ok-spacing}

-- header line after header line, each seen from behind the last
first : (c : In_ok-columns) → KeyStep c.args.s.now ncols 0 c.in_ok-columns.columns.number c.in_ok-columns.columns.next
first c =
    key_step _ _ ncols 0 (seen_none _) refl c.in_ok-columns.columns c.in_ok-columns.ensures

second : (c : In_ok-rows) → KeyStep c.args.s.now nrows 1 c.in_ok-rows.rows.number c.in_ok-rows.rows.next
second c =
    let first-line = key_step _ _ ncols 0 (seen_none _) refl c.in_ok-columns.columns c.in_ok-columns.ensures in
    key_step _ _ nrows 1 first-line.seen refl c.in_ok-rows.rows c.in_ok-rows.ensures

third : (c : In_ok-west) → KeyStep c.args.s.now xllcenter 2 c.in_ok-west.west.number c.in_ok-west.west.next
third c =
    let first-line = key_step _ _ ncols 0 (seen_none _) refl c.in_ok-columns.columns c.in_ok-columns.ensures in
    let second-line = key_step _ _ nrows 1 first-line.seen refl c.in_ok-rows.rows c.in_ok-rows.ensures in
    key_step _ _ xllcenter 2 second-line.seen refl c.in_ok-west.west c.in_ok-west.ensures

fourth : (c : In_ok-south) → KeyStep c.args.s.now yllcenter 3 c.in_ok-south.south.number c.in_ok-south.south.next
fourth c =
    let first-line = key_step _ _ ncols 0 (seen_none _) refl c.in_ok-columns.columns c.in_ok-columns.ensures in
    let second-line = key_step _ _ nrows 1 first-line.seen refl c.in_ok-rows.rows c.in_ok-rows.ensures in
    let third-line = key_step _ _ xllcenter 2 second-line.seen refl c.in_ok-west.west c.in_ok-west.ensures in
    key_step _ _ yllcenter 3 third-line.seen refl c.in_ok-south.south c.in_ok-south.ensures

fifth : (c : In_ok-spacing)
    → KeyStep c.args.s.now cellsize 4 c.in_ok-spacing.spacing.number c.in_ok-spacing.spacing.next
fifth c =
    let first-line = key_step _ _ ncols 0 (seen_none _) refl c.in_ok-columns.columns c.in_ok-columns.ensures in
    let second-line = key_step _ _ nrows 1 first-line.seen refl c.in_ok-rows.rows c.in_ok-rows.ensures in
    let third-line = key_step _ _ xllcenter 2 second-line.seen refl c.in_ok-west.west c.in_ok-west.ensures in
    let fourth-line = key_step _ _ yllcenter 3 third-line.seen refl c.in_ok-south.south c.in_ok-south.ensures in
    key_step _ _ cellsize 4 fourth-line.seen refl c.in_ok-spacing.spacing c.in_ok-spacing.ensures

pub returns-in_err-columns : goal.returns-in_err-columns
returns-in_err-columns c =
    let stop = key_stop _ _ ncols 0 (seen_none _) refl _ c.in_err-columns.ensures in
    let e : c.from_residual.result ≡ Err c.in_err-columns.field-0.0 = search rules in
    subst (head_read _) (sym e) stop

pub returns-in_err-rows : goal.returns-in_err-rows
returns-in_err-rows c =
    let seen = (first (goal.at.returns-in_err-rows c).In_ok-columns).seen in
    let stop = key_stop _ _ nrows 1 seen refl _ c.in_err-rows.ensures in
    let e : c.from_residual-in_err-rows.result ≡ Err c.in_err-rows.field-0.0 = search rules in
    subst (head_read _) (sym e) stop

pub returns-in_err-west : goal.returns-in_err-west
returns-in_err-west c =
    let seen = (second (goal.at.returns-in_err-west c).In_ok-rows).seen in
    let stop = key_stop _ _ xllcenter 2 seen refl _ c.in_err-west.ensures in
    let e : c.from_residual-in_err-west.result ≡ Err c.in_err-west.field-0.0 = search rules in
    subst (head_read _) (sym e) stop

pub returns-in_err-south : goal.returns-in_err-south
returns-in_err-south c =
    let seen = (third (goal.at.returns-in_err-south c).In_ok-west).seen in
    let stop = key_stop _ _ yllcenter 3 seen refl _ c.in_err-south.ensures in
    let e : c.from_residual-in_err-south.result ≡ Err c.in_err-south.field-0.0 = search rules in
    subst (head_read _) (sym e) stop

pub returns-in_err-spacing : goal.returns-in_err-spacing
returns-in_err-spacing c =
    let seen = (fourth (goal.at.returns-in_err-spacing c).In_ok-south).seen in
    let stop = key_stop _ _ cellsize 4 seen refl _ c.in_err-spacing.ensures in
    let e : c.from_residual-in_err-spacing.result ≡ Err c.in_err-spacing.field-0.0 = search rules in
    subst (head_read _) (sym e) stop

pub returns : goal.returns
unfolding first_off frame_of
returns c =
    let all = goal.at.returns c in (
      (fifth c).seen.on,
      rw (
        (first all.In_ok-columns).number,
        (second all.In_ok-rows).number,
        (third all.In_ok-west).number,
        (fourth all.In_ok-south).number,
        (fifth c).number,
      ),
      (fifth c).seen.inside,
      (fifth c).seen.rest,
    )

pub key_line-requires-2 : goal.key_line-requires-2
key_line-requires-2 c = (first (goal.at.key_line-requires-2 c).In_ok-columns).seen.inside

pub key_line-requires-3 : goal.key_line-requires-3
key_line-requires-3 c = (second (goal.at.key_line-requires-3 c).In_ok-rows).seen.inside

pub key_line-requires-4 : goal.key_line-requires-4
key_line-requires-4 c = (third (goal.at.key_line-requires-4 c).In_ok-west).seen.inside

pub key_line-requires-5 : goal.key_line-requires-5
key_line-requires-5 c = (fourth (goal.at.key_line-requires-5 c).In_ok-south).seen.inside
