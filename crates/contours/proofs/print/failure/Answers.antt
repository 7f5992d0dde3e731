-- `contours::print::failure`: a read failed. Assumes nothing.
use Rattle.contours_steps.proofs.Answers.{answered_failed}
use Rattle.contours.proofs.print.failure.Goals as goal

pub refused-requires : goal.refused-requires
refused-requires c =
    record {
      answered = answered_failed c.requires.read_failed c.requires.gathered c.requires.line_value;
      sent_value =
          c.requires.sent_value;
    }
