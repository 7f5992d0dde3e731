-- Inner steps: no promise uses them. What the program's steps leave, on the way to the one text that it writes.
-- Assumes nothing.
use Rattle.std.specs.Prelude.{◌≡◌, ℕ, ◌≤◌, List, length, take}
use Rattle.room.specs.Room.{Wrote}
use Rattle.book_rules.specs.Columns.{Book}
use Rattle.register.specs.LimitsFile.{LimitsFile}
use Rattle.channel.specs.System.Origin.{input}
use Rattle.stream.specs.Coming.{Coming, Heard}
use Rattle.report_steps.specs.Reading.{Reading}
use Rattle.report_text.specs.declared.inner.Report.{Report}
use Rattle.report_rules.specs.Report.{Telling, reading_text, register_text, Answers, Written}

-- the first bytes of a buffer are the answer to a register that was read
pub record Sized (tell : Telling) (l : LimitsFile) (s : Reading) (out : List ℕ) (size : ℕ) : Type 0 where
  pub fits : size ≤ length out
  pub text : take size out ≡ reading_text tell l s

-- the answer to a register, where limits.csv is accepted
pub record AnsweredIn (tell : Telling) (l : LimitsFile) (out : List ℕ) (size : ℕ) : Type 0 where
  pub fits : size ≤ length out
  pub came : Coming
  pub heard : Heard input came
  pub is : Answers (register_text tell l) came (take size out)

-- the answer to limits.csv and the register
pub record WrittenIn (tell : Telling) (limits out : List ℕ) (size : ℕ) : Type 0 where
  pub fits : size ≤ length out
  pub written : Written tell limits (take size out)

-- the whole text of a book at the front of a buffer
pub record Told (tell : Telling) (l : LimitsFile) (b : Book) (old : List ℕ) (r : Report)
    (new : List ℕ) : Type 0 where
  pub wrote : Wrote old 0 (tell l b) new r.size
