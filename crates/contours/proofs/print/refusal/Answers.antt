-- `contours::print::refusal`: a network that was read to its end is refused, or its words are. Assumes nothing.
use Rattle.contours_steps.proofs.Answers.{answered_refusal}
use Rattle.contours.proofs.print.refusal.Goals as goal

pub refused-requires : goal.refused-requires
refused-requires c = record {
  answered = answered_refusal c.requires.read_whole c.requires.refused;
  sent_value =
      c.requires.sent_value;
}
