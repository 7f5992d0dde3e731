-- What a run comes to, taken from what the program keeps of it. Assumes nothing.
use Prim.Native.Nat.{ℕ}
use mathlib.Core.{Path.◌≡◌, Path.◌∙◌, Bool.Bool, List.List, List.[], List.◌++◌}
use Rattle.text.specs.Sheet.{refused_text}
use Rattle.channel.specs.{Run.Run, Told.RunTold}
use Rattle.channel.proofs.Running as running
use Rattle.channel.specs.System.Origin.{input}
use Rattle.register.specs.LimitsFile.{limits_of}
use Rattle.stream.specs.Coming.{Coming, Heard, endless}
use Rattle.stream.specs.Coming.Coming.{whole, stopped, failed}
use Rattle.report_steps.specs.Stream.{longest_row}
use Rattle.report_rules.specs.Report.{Telling, answer_of, Answers, Written, MayWrite}
use Rattle.report_rules.specs.Told.{AnsweredBy, TextTold}
use Rattle.report_rules.specs.Told.AnsweredBy.{ended, begun, broken}
use Rattle.report_rules.proofs.{Answers.report_refused, Answers.limits_from, Failing.never_an_end}

module _ (tell : Telling) (limits text : List ℕ) where
  register_by : (came : Coming) → Heard input came → Answers (answer_of tell limits) came text
      → AnsweredBy tell limits text
  register_by (whole register) h a = ended register h a
  register_by (stopped register) h a = begun register h a
  register_by (failed register) h a = broken register h (λ z. never_an_end tell limits register text z a)

  limits_by : (came : Coming) → Answers (answer_of tell limits) came text → ((limits_of limits).refusal ≡ 0 → ⊥)
      → text ≡ refused_text (limits_of limits).refusal (limits_of limits).line
  limits_by (whole register) a ne = a ∙ report_refused tell limits register ne
  limits_by (stopped register) a ne = a [] ∙ report_refused tell limits (register ++ []) ne
  limits_by (failed register) a ne = a ∙ report_refused tell limits (register ++ endless longest_row) ne

  pub text_told : Written tell limits text → TextTold tell text
  text_told w =
      record {
        limits = limits;
        file= = limits_from tell limits w.opened;
        input= = register_by w.came w.heard w.is;
        refused = limits_by w.came w.is;
      }

pub run_told : (tell : Telling) (r : Bool) (sent : ℕ) → Run (MayWrite tell) r sent → RunTold (TextTold tell) r sent
run_told tell r sent run = running.run_told (λ text may. text_told tell may.limits text may.written) r sent run
