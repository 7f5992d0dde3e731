-- `contours::refused_line` meets its contract. Assumes nothing.
use borrow.Author.{Tests.ne_eqb}
use Rattle.refusal.specs.Refusal.{number_of}
use Rattle.refusal.specs.declared.Refusal.TheVariants.{NetworkOffLayout}
use Rattle.refusal.proofs.Laws.{same_number}
use Rattle.contours.proofs.refused_line.Goals as goal

pub returns-in-NetworkOffLayout : goal.returns-in-NetworkOffLayout
returns-in-NetworkOffLayout c = rw c.in-NetworkOffLayout.is c.fault_line.ensures

pub returns-in_default : goal.returns-in_default
returns-in_default c =
    let why = c.args.why in
    rw (ne_eqb (number_of why) 17 (λ e. c.in_default.not-NetworkOffLayout (same_number why NetworkOffLayout e)))
