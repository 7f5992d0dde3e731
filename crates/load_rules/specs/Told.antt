-- What a load and a verdict tell by the rules' numbers: RULES, "Refusal numbers". Assumes nothing.
use Rattle.std.specs.Prelude.{ℕ, List, Result, Ok, Err}
use Rattle.level.specs.declared.Level.{Level}
use Rattle.level.specs.declared.Verdict.{Verdict}
use Rattle.refusal.specs.Refusal.{number_of}
use Rattle.refusal.specs.declared.Refusal.{Refusal}
use Rattle.load_rules.specs.declared.Counts.{Counts}

-- a load: a refusal's number, and zeros with it, or 0 with the total, the level, and V and U of each group by its
-- number
pub record LoadTold : Type 0 where
  pub refused : ℕ
  pub total : ℕ
  pub level : Level
  pub counts : List Counts

-- a verdict, or a refusal's number
abbrev pub Judged : Type 0
Judged = Result Verdict ℕ

abbrev pub judged_told : Result Verdict Refusal → Judged
judged_told (Ok verdict) = Ok verdict
judged_told (Err why) = Err (number_of why)
