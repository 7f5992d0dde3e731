-- The verdict at a point, and its answers by the rules' numbers: "Energy and load", "Refusal numbers".
-- Assumes nothing.
use Rattle.std.specs.Prelude.{ℕ, ◌≡◌, Bool, cond, not, ◌&&◌, List, eqb, leb, ltb, Ok, Err}
use Rattle.level.specs.Level.{verdict_of, verdict_number}
use Rattle.level.specs.declared.Verdict.{Verdict}
use Rattle.movement.specs.Limits.{max_limit}
use Rattle.refusal.specs.Refuse.{refuse}
use Rattle.book_rules.specs.Columns.{Book, sound}
use Rattle.load_rules.specs.Told.{Judged}
use Rattle.load_rules.specs.Shares.{Share, book_shares}
use Rattle.load_rules.specs.Tally.{tally}
use Rattle.load_rules.specs.Load.{days_fit, none_computed, answer, book_load}

unfoldable pub limit_fits : ℕ → Bool
limit_fits limit = leb limit max_limit

-- verdict: 9, 11, 15, 10
unfoldable pub verdict_refusal : (fits : Bool) (shares : List Share) (days limit : ℕ) → ℕ
verdict_refusal fits ss days limit =
    refuse 9 fits (refuse 11 (days_fit days) (refuse 15 (limit_fits limit) (refuse 10 (not (none_computed ss)) 0)))

-- the rules' numbers of an answer: that of the refusal, and 0 of a verdict; and 1 over, 0 within or refused
abbrev pub refusal_number : Judged → ℕ
refusal_number (Err n) = n
refusal_number (Ok v) = 0

abbrev pub over_number : Judged → ℕ
over_number (Err n) = 0
over_number (Ok v) = verdict_number v

-- the answer of number n, where the verdict v goes with 0
unfoldable pub judged : ℕ → Verdict → Judged
judged n v = cond (eqb n 0) (Ok v) (Err n)

unfoldable pub judged_of : (fits : Bool) (shares : List Share) (days limit : ℕ) → Judged
judged_of fits ss days limit =
    judged (verdict_refusal fits ss days limit) (verdict_of (answer (tally ss) days).level limit)

-- the verdict at point pt of a book with p points
unfoldable pub book_verdict : (points point : ℕ) (book : Book) (days limit : ℕ) → Judged
book_verdict p pt b days limit = judged_of (sound p b && ltb pt p) (book_shares p pt b) days limit

-- what the call for a verdict promises of its answer r
pub record Judging (p pt : ℕ) (b : Book) (days limit : ℕ) (r : Judged) : Type 0 where
  pub number : refusal_number r ≡ verdict_refusal (sound p b && ltb pt p) (book_shares p pt b) days limit
  pub over : over_number r
      ≡ cond (eqb (refusal_number r) 0) (verdict_number (verdict_of (book_load p pt b days).level limit)) 0
  pub answer : r ≡ book_verdict p pt b days limit
