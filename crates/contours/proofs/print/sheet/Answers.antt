-- `contours::print::sheet`: what is accepted can be drawn, and what went is the sheet. Assumes nothing.
use mathlib.Core.Path.{refl}
use Rattle.contours_steps.proofs.{Drawings.drawable, Answers.answered_sheet, Answers.ran}
use Rattle.contours.proofs.print.sheet.Goals as goal

pub returns : goal.returns
returns c =
    ran (answered_sheet c.requires.read_whole c.requires.accepted) refl c.lines.ensures

pub lines-requires : goal.lines-requires
lines-requires c = record { drawable = drawable c.requires.accepted; sent_value = c.requires.sent_value }
