-- The order of refusals of each call on a book: RULES, "Refusal numbers", each reason in its words.
-- Assumes nothing.
use Rattle.std.specs.Prelude.{ℕ, ◌≤◌, ◌≡◌}
use Rattle.movement.specs.Ranges.{CountsInRange, ZeroElsewhere}
use Rattle.book_rules.specs.Columns.{Book}
use Rattle.book_rules.specs.Calls.{Call}
use Rattle.book_rules.specs.Calls.Call.{enter, supply, take_back, withdraw}
use Rattle.book_rules.specs.Lookup.{found, mark_found, counts_found}
use Rattle.book_rules.specs.Lookup.Row.{nowhere}
use Rattle.book_rules.specs.Reasons.{Fields, Levels, NoIdentity, Full}
use Rattle.book_rules.specs.SoundBook.{SoundBook}

-- the answer r is n where this reason holds; where it doesn't, the rest of the order says what r is
pub record Given (r n : ℕ) (Reason Rest : Type 0) : Type 0 where
  pub given : Reason → r ≡ n
  pub otherwise : (Reason → ⊥) → Rest

-- the answer r to a call: enter 9,1,2,3,4,6; supply 9,3,7,5,19; take back 9,3,5,8; withdraw 9,3,5
abbrev pub InOrder : (p : ℕ) (book : Book) (call : Call) (r : ℕ) → Type 0
InOrder p b (enter x t k s m cs) r =
    Given r 9 (SoundBook p b → ⊥)
    (Given r 9 (CountsInRange p cs → ⊥)
    (Given r 1 (Fields t k s m → ⊥)
    (Given r 2 (m ≤ 150)
    (Given r 3 (NoIdentity x)
    (Given r 4 (found x p b ≡ nowhere → ⊥)
    (Given r 6 (Full b)
    (r ≡ 0)))))))
InOrder p b (supply x ls) r =
    Given r 9 (SoundBook p b → ⊥)
    (Given r 3 (NoIdentity x)
    (Given r 7 (Levels p ls → ⊥)
    (Given r 5 (found x p b ≡ nowhere)
    (Given r 19 (ZeroElsewhere p (counts_found (found x p b)) ls → ⊥)
    (r ≡ 0)))))
InOrder p b (take_back x) r =
    Given r 9 (SoundBook p b → ⊥)
    (Given r 3 (NoIdentity x)
    (Given r 5 (found x p b ≡ nowhere)
    (Given r 8 (mark_found (found x p b) ≡ 0)
    (r ≡ 0))))
InOrder p b (withdraw x) r =
    Given r 9 (SoundBook p b → ⊥)
    (Given r 3 (NoIdentity x)
    (Given r 5 (found x p b ≡ nowhere)
    (r ≡ 0)))
