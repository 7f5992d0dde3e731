-- `said::inner::row_end` meets its contract: a line is no longer than the text that it stands in. Assumes nothing.
use Rattle.text.proofs.Lines.{line_length}
use Rattle.std.specs.Prelude.{drop}
use lib.ListN.{length-drop}
use native.Mathlib.Omega.{arith}
use Rattle.said.proofs.inner.row_end.Goals as goal

pub returns : goal.returns
returns c =
    let a = c.args in
    let rest = drop a.from a.s.now in
    omega (arith, c.line_end.ensures, line_length rest, length-drop a.from a.s.now)
