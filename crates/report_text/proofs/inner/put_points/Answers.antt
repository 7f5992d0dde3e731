use Rattle.std.specs.Prelude.{◌≡◌, ◌+◌, ◌<◌, ◌≤◌, length}
use mathlib.Core.Path.{refl, ap, ◌∙◌}
use native.Mathlib.Omega.{arith}
use Rattle.refusal.proofs.Laws.{numbered}
use Rattle.book_rules.specs.Columns.{book_of}
use Rattle.load_rules.specs.{Load.refused_load, Told.LoadTold}
use Rattle.report_text.specs.InnerRoom.{longest_point}
use Rattle.register.specs.LimitsFile.{accepted_limits}
use Rattle.report_text.proofs.Judging.{point_answered}
use Rattle.report_text.proofs.Points.{points_none, points_more, points_all}
use Rattle.report_text.proofs.Levels.{load_level}
use Rattle.report_text.proofs.inner.put_points.Goals as goal
use Rattle.report_text.proofs.inner.put_points.Goals.{in-Ok, in_default}

pub put_point-at-requires : goal.put_point-at-requires
put_point-at-requires c =
    let few : c.loop-point.point < c.args.limits.points = c.loop-point-test.true in
    let a = c.args in
    let b = book_of a.ids.now a.groups.now a.marks.now a.counts.now a.levels.now in
    let e = ap (λ (l : LoadTold). l.level) c.in-Ok.ensures in (
      omega (arith, few, c.requires.limits_fit.0.few),
      rw (← e) at (load_level a.limits.points c.loop-point.point b a.limits.days),
      c.requires.limits_fit.0.low c.loop-point.point,
      omega (arith, c.loop-point.invariant, c.requires, c.put_header-at.ensures.within, c.put_header-at.auto.out),
    )

pub loop-point-preserved : goal.loop-point-preserved
unfolding refused_load
loop-point-preserved c =
    let a = c.args in
    let b = book_of a.ids.now a.groups.now a.marks.now a.counts.now a.levels.now in
    let few : c.loop-point.point < c.args.limits.points = c.loop-point-test.true in
    let room : c.loop-point.at + longest_point ≤ length c.put_header-at.new.out =
    omega (arith, c.loop-point.invariant, few, c.requires, c.put_header-at.ensures.within, c.put_header-at.auto.out) in
    elim c.match-load_at.branch [
      | in-Ok w ↦ rw (w.out-is, w.at-is) (
        points_more c.loop-point.invariant.0 w.put_point-at.ensures w.in-Ok.ensures room,
        omega (arith, w.put_point-at.ensures.within, c.loop-point.invariant),
        w.put_point-at.auto.out ∙ c.loop-point.invariant.2,
      )
      | in_default w ↦
          let refused = ap (λ (l : LoadTold). l.refused) w.in_default.ensures in
          let answered = point_answered a.limits.points a.limits.days b a.limits.points c.loop-point.point
          c.requires.answered few in
          absurd (let some = numbered w.in_default.field-0 in omega (arith, refused, answered))
    ]

pub returns : goal.returns
returns c =
    let q : c.loop-point.point ≡ c.args.limits.points = omega
    (arith, c.loop-point.invariant, c.loop-point-test.false) in
    let a = c.args in
    let b = book_of a.ids.now a.groups.now a.marks.now a.counts.now a.levels.now in
    points_all (accepted_limits a.limits) b c.put_header-at.ensures.wrote c.loop-point.invariant.0 q
    (omega (
      arith,
      c.loop-point.invariant,
      c.requires,
      c.requires.limits_fit.0.few,
      c.put_header-at.ensures.within,
      c.put_header-at.auto.out,
    ))

pub loop-point-init : goal.loop-point-init
loop-point-init c = (points_none, omega arith, refl)
