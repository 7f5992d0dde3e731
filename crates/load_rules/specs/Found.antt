-- What a load counts, by look-up in the rows of any book and without a list of movements: RULES, "Energy and load".
-- Assumes nothing.
use Rattle.std.specs.Prelude.{ℕ, suc, ◌+◌, ◌*◌, ◌%◌, ◌≤◌, ◌<◌, ◌≡◌, cond, ◌&&◌, length, get_or, eqb}
use Rattle.level.specs.Energy.{energy_of, mean_of}
use Rattle.level.specs.Level.{level_of, level_given}
use Rattle.book_rules.specs.Columns.{Book}
use Rattle.book_rules.specs.Lookup.{Row, found}
use Rattle.book_rules.specs.Lookup.Row.{nowhere, row}
use Rattle.load_rules.specs.Told.{LoadTold}
use Rattle.load_rules.specs.Factors.{whole_fraction, Equal, sum_to}
use Rattle.load_rules.specs.{Load.book_load, Account.account_of, Account.AccountTells}
use Rattle.load_rules.specs.Afresh.{counts_at, weight_to, TotalHolds}

-- 1 where what is found stands and counts at point pt
unfoldable pub one_there : (point : ℕ) → Row → ℕ
one_there pt nowhere = 0
one_there pt (row h k cs ls) = cond (eqb (get_or cs pt 0) 1) 1 0

-- the same where it is of group g and has the mark m
unfoldable pub marked_there : (point group mark : ℕ) → Row → ℕ
marked_there pt g m nowhere = 0
marked_there pt g m (row h k cs ls) = cond (eqb h g && (eqb k m && eqb (get_or cs pt 0) 1)) 1 0

-- its energy where it is computed, of the level at the point and 0, 500 or 1,000 hundredths by its period
unfoldable pub energy_there : (point group : ℕ) → Row → ℕ
energy_there pt g nowhere = 0
energy_there pt g (row h k cs ls) =
    cond (eqb h g && (eqb k 1 && eqb (get_or cs pt 0) 1)) (energy_of (get_or ls pt 0 + 500 * (g % 3))) 0

-- what is found of each identity, 1 to 99,999, added up
abbrev pub over_all : (p : ℕ) (book : Book) → (Row → ℕ) → ℕ
over_all p b w = sum_to (λ i. w (found (suc i) p b)) 99999

-- what an answered load a over these days says of the rows of a book, at point pt of p
pub record FoundCounted (a : LoadTold) (p pt : ℕ) (b : Book) (days : ℕ) : Type 0 where
  -- V and U of a group, at its number, are the movements found of it that count there, computed and not
  pub size : length a.counts ≡ 18
  pub computed : (g : ℕ) → g < 18
      → (get_or a.counts g (record { computed = 0; missing = 0 })).computed ≡ over_all p b (marked_there pt g 1)
  pub missing : (g : ℕ) → g < 18
      → (get_or a.counts g (record { computed = 0; missing = 0 })).missing ≡ over_all p b (marked_there pt g 0)
  -- and add up to all that are found and count there
  pub standing : sum_to (λ g. (counts_at a g).computed + (counts_at a g).missing) 18 ≡ over_all p b (one_there pt)
  -- the total is that of their energies, and the level that of the total
  pub total : TotalHolds (λ g. (counts_at a g).computed) (λ g. (counts_at a g).missing)
      (λ g. over_all p b (energy_there pt g)) a.total
  pub level : a.level ≡ level_of (mean_of a.total days)
  -- where one of them is computed, the computed ones times both factors add up to all of them
  pub weighed : (g : ℕ) → g < 18 → 1 ≤ (counts_at a g).computed
      → Equal (weight_to (counts_at a) 18) (whole_fraction (over_all p b (one_there pt)))
  -- and where nobody counts the total is 0 and the level below zero
  pub nobody : over_all p b (one_there pt) ≡ 0 → (a.total ≡ 0) × (level_given a.level ≡ 0)

-- and its account, number by number: V, U and S of each group are those of the movements found
abbrev pub FoundAccount : (p pt : ℕ) (b : Book) (days : ℕ) → Type 0
FoundAccount p pt b days =
    AccountTells (λ g. over_all p b (marked_there pt g 1)) (λ g. over_all p b (marked_there pt g 0))
    (λ g. over_all p b (energy_there pt g)) (book_load p pt b days) (account_of p pt b days)
