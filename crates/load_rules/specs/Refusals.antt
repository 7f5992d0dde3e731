-- When a load and a verdict are refused: RULES, "Refusal numbers", with its own numbers. Each number is given
-- exactly where its reason holds and no earlier one does, so that two reasons exchanged are stopped here.
-- Assumes nothing.
use Rattle.std.specs.Prelude.{ℕ, ◌+◌, ◌*◌, ◌≤◌, ◌<◌, ◌≡◌, ◌↔◌, List, [], length, get_or, true, Err}
use Rattle.book_rules.specs.Columns.{Book, sound}
use Rattle.book_rules.specs.History.{Movement, movement}
use Rattle.book_rules.specs.History.Held.{none}
use Rattle.load_rules.specs.Load.{book_load}
use Rattle.load_rules.specs.Verdict.{refusal_number, book_verdict}

-- points 1 to 8, rows 1 to 50,000, and the point asked for is there
pub record InRange (p n pt : ℕ) : Type 0 where
  pub points : (1 ≤ p) × (p ≤ 8)
  pub rows : (1 ≤ n) × (n ≤ 50000)
  pub there : pt < p

abbrev pub DaysInRange : ℕ → Type 0
DaysInRange days = (1 ≤ days) × (days ≤ 366)

abbrev pub LimitInRange : ℕ → Type 0
LimitInRange limit = limit ≤ 12000

-- no movement of the list holds levels
abbrev pub NoneHeld : List Movement → Type 0
NoneHeld ms = (i : ℕ) → i < length ms → (get_or ms i (movement 0 0 [] none)).held ≡ none

-- movements stand, none computed: of those that count at the point
pub record NoneComputed (ms : List Movement) : Type 0 where
  pub stand : 0 < length ms
  pub none_held : NoneHeld ms

-- the refusal r of a load, 0 for none: 9, 11, 10
pub record LoadNumbers (fits days none : Type 0) (r : ℕ) : Type 0 where
  pub nine : r ≡ 9 ↔ ¬ fits
  pub eleven : r ≡ 11 ↔ fits × ¬ days
  pub ten : r ≡ 10 ↔ fits × (days × none)
  pub answered : r ≡ 0 ↔ fits × (days × ¬ none)

-- the refusal r of a verdict, 0 for none: 9, 11, 15, 10
pub record VerdictNumbers (fits days limit none : Type 0) (r : ℕ) : Type 0 where
  pub nine : r ≡ 9 ↔ ¬ fits
  pub eleven : r ≡ 11 ↔ fits × ¬ days
  pub fifteen : r ≡ 15 ↔ fits × (days × ¬ limit)
  pub ten : r ≡ 10 ↔ fits × (days × (limit × none))
  pub answered : r ≡ 0 ↔ fits × (days × (limit × ¬ none))

-- a row of a book counts at point pt, and none that counts there is marked computed
pub record NoneMarked (p pt : ℕ) (b : Book) : Type 0 where
  pub stand : ¬ ((i : ℕ) → i < length b.identities → get_or b.counts (i * p + pt) 0 ≡ 0)
  pub none_marked : (i : ℕ) → i < length b.identities → get_or b.counts (i * p + pt) 0 ≡ 1
      → get_or b.marks i 0 ≡ 0

-- the refusals of a load and of a verdict at point pt of any book b for p points, by its rows
pub record BookRefusals (p pt : ℕ) (b : Book) (days : ℕ) : Type 0 where
  pub load : LoadNumbers ((sound p b ≡ true) × (pt < p)) (DaysInRange days) (NoneMarked p pt b)
      (book_load p pt b days).refused
  pub verdict : (limit : ℕ)
      → VerdictNumbers ((sound p b ≡ true) × (pt < p)) (DaysInRange days) (LimitInRange limit) (NoneMarked p pt b)
      (refusal_number (book_verdict p pt b days limit))
  -- and a refusal is told with a number: 0 is that of a verdict
  pub told : (limit n : ℕ) → book_verdict p pt b days limit ≡ Err n → 1 ≤ n
