-- `text::inner::put_refused` meets its contract: a word, two numbers and the end of the line, each past the
-- other. Assumes nothing.
use native.Mathlib.Omega.{arith}
use Rattle.text.proofs.Within.{within, within_four, within_is}
use Rattle.text.proofs.Sheets.{refused_is}
use Rattle.text.proofs.inner.put_refused.Goals as goal

pub returns : goal.returns
returns c =
    let room = c.requires in
    within_is
    (within_four (omega arith) (within {m = 7} (omega arith) c.put_text-word.ensures) c.put_field-first.ensures
    c.put_field-second.ensures c.put_end.ensures)
    (refused_is c.args.number c.args.line)
