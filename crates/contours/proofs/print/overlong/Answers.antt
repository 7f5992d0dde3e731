-- `contours::print::overlong`: the bytes fill the room. Assumes nothing.
use Rattle.contours_steps.proofs.Answers.{answered_many, answered_line}
use Rattle.contours.proofs.print.overlong.Goals as goal

pub refused-requires : goal.refused-requires
refused-requires c =
    record {
      answered = answered_many c.requires.read_full c.requires.gathered c.requires.line_value
          c.if-line-eq0.true;
      sent_value = c.requires.sent_value;
    }

pub refused-requires-2 : goal.refused-requires-2
refused-requires-2 c =
    record {
      answered = answered_line c.requires.read_full c.requires.gathered c.requires.line_value
          c.if-line-eq0.false;
      sent_value = c.requires.sent_value;
    }
