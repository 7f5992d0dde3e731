-- A movement that doesn't count at a point changes nothing there: RULES, "Energy and load". Assumes nothing.
use Rattle.std.specs.Prelude.{ℕ, ◌≤◌, ◌<◌, ◌≡◌, true, cond, get_or, eqb}
use Rattle.book_rules.specs.Columns.{Book, sound}
use Rattle.book_rules.specs.Calls.{Call, Called}
use Rattle.book_rules.specs.Calls.Call.{enter, supply, take_back, withdraw}
use Rattle.book_rules.specs.Lookup.{Row, found, counts_found}
use Rattle.book_rules.specs.Lookup.Row.{nowhere, row}
use Rattle.load_rules.specs.Load.{book_load}
use Rattle.load_rules.specs.Verdict.{book_verdict}
use Rattle.load_rules.specs.Account.{account_of}

-- load, verdict and account at point pt are the same of both books
pub record SameAt (p pt : ℕ) (b b' : Book) : Type 0 where
  pub load : (days : ℕ) → book_load p pt b' days ≡ book_load p pt b days
  pub verdict : (days limit : ℕ) → book_verdict p pt b' days limit ≡ book_verdict p pt b days limit
  pub account : pt < p → (days : ℕ) → account_of p pt b' days ≡ account_of p pt b days

-- the call is of a movement that doesn't count at point pt: by what is given, or by what stands
abbrev pub NotThere : (p pt : ℕ) → Book → Call → Type 0
NotThere p pt b (enter x t k s m cs) = get_or cs pt 0 ≡ 0
NotThere p pt b (supply x ls) = get_or (counts_found (found x p b)) pt 0 ≡ 0
NotThere p pt b (take_back x) = get_or (counts_found (found x p b)) pt 0 ≡ 0
NotThere p pt b (withdraw x) = get_or (counts_found (found x p b)) pt 0 ≡ 0

-- such a call, answered r, leaves the point as it was: with the movement and without it, with its levels and without
abbrev pub NothingThere : (p pt : ℕ) (before : Book) (call : Call) (answer : ℕ) (after : Book) → Type 0
NothingThere p pt b c r b' = Called p b c r b' → NotThere p pt b c → SameAt p pt b b'

-- what look-up shows of an identity at point pt: nothing where it doesn't stand or doesn't count there
pub data Seen : Type 0 where
  unseen : Seen
  seen : (group mark level : ℕ) → Seen

unfoldable pub seen_at : (point : ℕ) → Row → Seen
seen_at pt nowhere = unseen
seen_at pt (row g m cs ls) = cond (eqb (get_or cs pt 0) 1) (seen g m (get_or ls pt 0)) unseen

-- two sound books that show the same of each identity at the point are the same there: with movements that don't count
-- there and without them
abbrev pub AlikeThere : (p pt : ℕ) (b b' : Book) → Type 0
AlikeThere p pt b b' =
    sound p b ≡ true → sound p b' ≡ true → pt < p
    → ((x : ℕ) → 1 ≤ x → x ≤ 99999 → seen_at pt (found x p b) ≡ seen_at pt (found x p b'))
    → SameAt p pt b b'
