-- A read that fails is never an end: the line being read goes on for longer than any on its layout, and is refused.
-- Assumes nothing.
use mathlib.Core.{Path.◌≡◌, Path.◌∙◌, List.List, List.◌++◌}
use Rattle.book_rules.specs.{Columns.Book, History.empty_book}
use Rattle.register.specs.LimitsFile.{limits_of}
use Prim.Native.Nat.{ℕ}
use Rattle.stream.specs.Coming.{endless}
use Rattle.stream.specs.Coming.Coming.{failed}
use Rattle.stream.proofs.Failing as failing
use Rattle.report_steps.specs.{Stream.longest_row, Reading.register_step, Reading.registered}
use Rattle.report_steps.proofs.LongLines.{longest_register}
use Rattle.report_rules.specs.Report.{Telling, book_rows, register_text, answer_of, Answers}
use Rattle.report_rules.specs.Failed.{FailedTold}
use Rattle.report_rules.proofs.Answers.{reading_refused, report_accepted}

pub never_an_end : (tell : Telling) (limits bytes text : List ℕ) → (limits_of limits).refusal ≡ 0
    → Answers (answer_of tell limits) (failed bytes) text → FailedTold limits bytes text
unfolding register_text
never_an_end tell limits bytes text z e =
    let l = limits_of limits in
    let p = l.points in
    let b : Book = empty_book p book_rows in
    let reg = bytes ++ endless longest_row in
    let k = failing.never_an_end (register_step p) longest_row (longest_register p) b bytes in
    let f = k.first in
    let s = registered p b reg in
    record {
      number = s.refusal;
      line = s.line;
      told = e ∙ report_accepted tell limits reg z ∙ reading_refused tell l s k.some;
      some = k.some;
      up_to = k.up_to;
      sixteen = k.sixteen;
      before = f.before;
      line= = f.line=;
      fine = f.fine;
      number= = f.number=;
    }
