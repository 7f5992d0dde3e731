-- `contours_steps::inner::put::put_refused` meets its contract: a word, two numbers and the end of the line, each past
-- the other. Assumes nothing.
use native.Mathlib.Omega.{arith}
use Rattle.contours_steps.specs.Sheet.{refused_line}
use Rattle.text.proofs.Within.{within, within_four}
use Rattle.contours_steps.proofs.inner.put.put_refused.Goals as goal

pub returns : goal.returns
unfolding refused_line
returns c =
    let room = c.requires in
    (within_four (omega arith) (within {m = 7} (omega arith) c.put_text-word.ensures) c.put_field-first.ensures
    c.put_field-second.ensures c.put_end.ensures).wrote
