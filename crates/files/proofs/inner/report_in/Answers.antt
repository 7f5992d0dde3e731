-- `files::inner::report_in` meets its contract: the register is read into the book, and the answer is that of its
-- reading. Assumes nothing.
use native.Mathlib.Omega.{arith}
use Rattle.report_rules.proofs.Answers.{empty_sound}
use Rattle.register.specs.LimitsFile.{accepted_limits}
use Rattle.files.proofs.Texts.{answered}
use Rattle.files.specs.Kinds.{telling_of}
use Rattle.files.proofs.inner.report_in.Goals as goal

pub read_register-read-requires : goal.read_register-read-requires
read_register-read-requires c =
    let fit = c.requires.limits_fit.0 in
    record {
      levels_value = rw c.requires.levels_value (empty_sound c.args.limits.points fit.some fit.few);
      longest_line_in_bounds = omega (arith, c.large_buffer-bytes.ensures);
    }

pub answer_read-requires : goal.answer_read-requires
answer_read-requires c = c.requires.limits_fit

pub returns : goal.returns
returns c =
    answered (telling_of c.args.kind) (accepted_limits c.args.limits) c.read_register-read.ensures c.requires.levels_value
    c.answer_read.ensures
