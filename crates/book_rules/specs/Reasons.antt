-- What rules 1, 3, 6 and 7 ask, in the rules' words and with its numbers spelled out. Assumes nothing.
use Rattle.std.specs.Prelude.{ℕ, ◌≤◌, ◌<◌, ◌≡◌, ◌⊎◌, List, length, get_or}
use Rattle.book_rules.specs.Columns.{Book}

-- what rule 1 asks: type, kind, time and mass in range, and no small movement of 6,000 kg or more
pub record Fields (t k s m : ℕ) : Type 0 where
  pub type : t ≤ 2
  pub kind : k ≤ 1
  pub time : s ≤ 86399
  pub mass : m ≤ 1000000
  pub small : t ≡ 1 → m < 6000

-- what rule 7 asks: as many levels as points, none over 12,000
pub record Levels (p : ℕ) (ls : List ℕ) : Type 0 where
  pub number : length ls ≡ p
  pub range : (j : ℕ) → j < p → get_or ls j 0 ≤ 12000

-- rule 3: identity 0 or over 99,999
abbrev pub NoIdentity : ℕ → Type 0
NoIdentity x = (x ≡ 0) ⊎ (99999 < x)

-- rule 6: no unused row
abbrev pub Full : Book → Type 0
Full b = (i : ℕ) → i < length b.identities → 1 ≤ get_or b.identities i 0
