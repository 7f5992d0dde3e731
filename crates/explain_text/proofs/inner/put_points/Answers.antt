use Rattle.std.specs.Prelude.{◌≡◌, ◌+◌, ◌*◌, ◌<◌}
use mathlib.Core.Path.{refl, ◌∙◌}
use native.Mathlib.Omega.{arith}
use Rattle.book_rules.specs.Columns.{Book, book_of}
use Rattle.text.proofs.Within.{within_none, within_more, within_then, within_is}
use Rattle.explain_text.specs.{InnerRoom.longest_point}
use Rattle.register.specs.LimitsFile.{accepted_limits}
use Rattle.report_text.proofs.Judging.{point_answered}
use Rattle.explain_text.proofs.Points.{points_none, points_more, points_all}
use Rattle.explain_text.proofs.inner.put_points.Goals as goal
use Rattle.explain_text.proofs.inner.put_points.Goals.{Start}

abbrev book : Start → Book
book s =
    let a = s.args in book_of a.ids.now a.groups.now a.marks.now a.counts.now a.levels.now

pub put_answered-at-requires : goal.put_answered-at-requires
put_answered-at-requires c =
    let limits = c.args.limits in
    let few : c.loop-point.point < limits.points = c.loop-point-test.true in
    let room = c.requires.limits_fit in record {
      point_lt_max_points = (
        omega (arith, few, room.0.few),
        omega (
          arith,
          few,
          room.0.few,
          room.1,
          c.loop-point.invariant.0.within,
          c.loop-point.invariant.1,
          c.put_header-at.ensures.within,
          c.put_header-at.auto.out,
        ),
      );
      days_value = point_answered limits.points limits.days (book (goal.at.put_answered-at-requires c).Start)
          limits.points
          c.loop-point.point c.requires.levels_value few;
    }

pub loop-point-preserved : goal.loop-point-preserved
loop-point-preserved c =
    let few : c.loop-point.point < c.args.limits.points = c.loop-point-test.true in
    let room = c.requires.limits_fit in (
      within_more {m = longest_point * c.loop-point.point + longest_point} (omega arith)
          (within_is
          (within_then
          (omega (arith, few, room.0.few, room.1, c.put_header-at.ensures.within, c.put_header-at.auto.out))
          c.loop-point.invariant.0 c.put_answered-at.ensures)
          (points_more c.args.limits.points (book (goal.at.loop-point-preserved c).Start) c.loop-point.point)),
      c.put_answered-at.auto.out ∙ c.loop-point.invariant.1,
    )

pub returns : goal.returns
returns c =
    let q : c.loop-point.point ≡ c.args.limits.points = omega
    arith in
    let room = c.requires.limits_fit in
    points_all (accepted_limits c.args.limits) (book (goal.at.returns c).Start) c.put_header-at.ensures.wrote
    c.loop-point.invariant.0.wrote q
    (omega (
      arith,
      q,
      room.0.few,
      room.1,
      c.loop-point.invariant.0.within,
      c.put_header-at.ensures.within,
      c.put_header-at.auto.out,
    ))

pub loop-point-init : goal.loop-point-init
loop-point-init c = (within_is within_none (points_none _ _), refl)
