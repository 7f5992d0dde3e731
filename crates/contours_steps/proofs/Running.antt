-- What a run comes to, taken from what the program keeps of it. Assumes nothing.
use Rattle.std.specs.Prelude.{ℕ}
use mathlib.Core.{Path.◌∙◌, Bool.Bool, List.List}
use Rattle.channel.specs.{Run.Run, Told.RunTold}
use Rattle.channel.proofs.Running as running
use Rattle.contours_steps.specs.Answer.{TextFor, MayWrite}
use Rattle.contours_steps.specs.Answer.TextFor.{whole, fails, full}
use Rattle.contours_steps.specs.RunTold.{TextTold, SheetTold}
use Rattle.contours_steps.specs.RunTold.TextTold.{ended, broken, begun}
use Rattle.contours_steps.proofs.Within.{fails_past}

text_told : (network : List ℕ) (words : List (List ℕ)) (text : List ℕ) → TextFor network words text
    → TextTold words text
text_told network words text (whole k is) = ended network k is
text_told network words text (fails k is) = broken network k (is ∙ (fails_past network).told)
text_told network words text (full k is) = begun network k.0 k.1 is

sheet_told : (text : List ℕ) → MayWrite text → SheetTold text
sheet_told text may =
    let given = may.answered.given in
    record {
      words = given.words;
      given = record { many = given.told; each = given.each };
      told = text_told may.bytes given.words text may.answered.is;
    }

pub run_told : (r : Bool) (sent : ℕ) → Run MayWrite r sent → RunTold SheetTold r sent
run_told r sent run = running.run_told sheet_told r sent run
