-- `text::line::bare_length` meets its contract: `ends_with` finds the CRLF where `bare_line` does. Assumes nothing.
use Rattle.std.specs.Prelude.{◌-◌, length}
use Rattle.std.proofs.Common.{arith, sym, ◌∙◌}
use lib.Seq.{length-take-le}
use Rattle.text.specs.Line.{bare_line}
use Rattle.text.proofs.Lines.{ends_bare}
use Rattle.text.proofs.line.bare_length.Goals as goal

pub returns-then-ends_with : goal.returns-then-ends_with
unfolding bare_line
returns-then-ends_with c =
    let s = c.args.s.now in
    rw (sym (ends_bare s) ∙ sym c.ends_with.ensures.value ∙ c.if-ends_with.true)
    (sym (length-take-le (length s - 2) s (omega arith)))

pub returns-else-ends_with : goal.returns-else-ends_with
unfolding bare_line
returns-else-ends_with c =
    let s = c.args.s.now in rw (sym (ends_bare s) ∙ sym c.ends_with.ensures.value ∙ c.if-ends_with.false)
