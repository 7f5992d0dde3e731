-- What is told of the text that a run of report or explain writes, said of the bytes that came and of nothing between:
-- RULES, "Files and the report program". Assumes nothing.
use Rattle.std.specs.Prelude.{◌≡◌, List, [], ◌++◌, ℕ}
use Rattle.channel.specs.System.{First, Whole, Broken}
use Rattle.channel.specs.System.Origin.{input, file}
use Rattle.text.specs.Sheet.{refused_text}
use Rattle.text.specs.Spelled.{bytes}
use Rattle.register.specs.LimitsFile.{limits_of}
use Rattle.report_rules.specs.Report.{Telling, answer_of}
use Rattle.report_rules.specs.Failed.{FailedTold}

-- limits.csv: its whole text; its first bytes, and the answer is the same whatever follows them; or none, where a read
-- of it failed
pub data LimitsFrom (tell : Telling) (limits : List ℕ) : Type 0 where
  ended : Whole (file (bytes "limits.csv")) limits → LimitsFrom tell limits
  enough : First (file (bytes "limits.csv")) limits
      → ((more register : List ℕ) → answer_of tell (limits ++ more) register ≡ answer_of tell limits register)
      → LimitsFrom tell limits
  missing : (came : List ℕ) → Broken (file (bytes "limits.csv")) came → limits ≡ [] → LimitsFrom tell limits

-- The register, from standard input: it ended, and all of it is answered; its first bytes came, and the answer is the
-- same whatever follows them; or behind some bytes a read failed, and a refusal is told. There is no fourth way
pub data AnsweredBy (tell : Telling) (limits text : List ℕ) : Type 0 where
  ended : (register : List ℕ) → Whole input register
      → text ≡ answer_of tell limits register → AnsweredBy tell limits text
  begun : (register : List ℕ) → First input register
      → ((rest : List ℕ) → text ≡ answer_of tell limits (register ++ rest)) → AnsweredBy tell limits text
  broken : (register : List ℕ) → Broken input register
      → ((limits_of limits).refusal ≡ 0 → FailedTold limits register text) → AnsweredBy tell limits text

-- both, of a text that may be written; and a limits.csv that is refused is told so, however the register came. A run
-- writes such a text, one time, and no other byte, or loses it: `RunTold` of crate channel
pub record TextTold (tell : Telling) (text : List ℕ) : Type 0 where
  pub limits : List ℕ
  pub file= : LimitsFrom tell limits
  pub input= : AnsweredBy tell limits text
  pub refused : ((limits_of limits).refusal ≡ 0 → ⊥)
      → text ≡ refused_text (limits_of limits).refusal (limits_of limits).line
