use Rattle.std.specs.Prelude.{length}
use Rattle.std.proofs.Common.{arith, sym, ap, ◌∙◌}
use Rattle.text.proofs.Lines.{line_hit, line_miss, line_none}
use Rattle.text.proofs.inner.line_end.Goals as goal

pub returns-then-ends_line : goal.returns-then-ends_line
returns-then-ends_line c =
    let hit = line_hit c.args.s.now c.loop-i.i c.loop-i-test.true (sym c.ends_line.ensures ∙ c.if-ends_line.true) in
    omega (arith, ap length hit)

pub loop-i-preserved : goal.loop-i-preserved
loop-i-preserved c =
    omega (arith, line_miss c.args.s.now c.loop-i.i c.loop-i-test.true (sym c.ends_line.ensures ∙ c.if-ends_line.false))

pub returns : goal.returns
returns c = omega (arith, ap length (line_none c.args.s.now c.loop-i.i (omega arith)))
