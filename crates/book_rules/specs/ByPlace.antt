-- Look-up value by value: the columns that a call is lent, what is found in a row and what in the list, each by its
-- place and with nothing left to a definition. Assumes nothing.
use Rattle.std.specs.Prelude.{ℕ, ◌+◌, ◌*◌, ◌≤◌, ◌<◌, ◌≡◌, List, [], ◌∷◌, length, get_or, replicate}
use Rattle.book_rules.specs.Columns.{Book}
use Rattle.book_rules.specs.History.{Movement}
use Rattle.book_rules.specs.History.Held.{none, holds}
use Rattle.book_rules.specs.Lookup.{Row, found, mark_found, group_found, counts_found, bare, listed}
use Rattle.book_rules.specs.Lookup.Row.{nowhere, row}

-- the five columns that a call is lent, where movements count between marks and levels, are the book b
pub record LentInOrder (ids groups marks counts levels : List ℕ) (b : Book) : Type 0 where
  pub identities : b.identities ≡ ids
  pub groups= : b.groups ≡ groups
  pub marks= : b.marks ≡ marks
  pub counts= : b.counts ≡ counts
  pub levels= : b.levels ≡ levels

-- what is found is row i: for point j its yes or no and its level stand at place i · points + j of their columns
pub record RowAt (p : ℕ) (b : Book) (i : ℕ) (r : Row) : Type 0 where
  pub counts : List ℕ
  pub levels : List ℕ
  pub found= : r ≡ row (get_or b.groups i 0) (get_or b.marks i 0) counts levels
  pub counts= : length counts ≡ p
  pub levels= : length levels ≡ p
  pub count : (j : ℕ) → j < p → get_or counts j 0 ≡ get_or b.counts (i * p + j) 0
  pub level : (j : ℕ) → j < p → get_or levels j 0 ≡ get_or b.levels (i * p + j) 0

-- in a sound book an identity is found by its row, and one that no row has nowhere
pub record FoundByPlace (p : ℕ) (b : Book) : Type 0 where
  pub here : (i : ℕ) → i < length b.identities → 1 ≤ get_or b.identities i 0
      → RowAt p b i (found (get_or b.identities i 0) p b)
  pub nobody : (x : ℕ) → ((i : ℕ) → i < length b.identities → get_or b.identities i 0 ≡ x → ⊥)
      → found x p b ≡ nowhere

pub record Reads (p : ℕ) : Type 0 where
  -- the parts of a row, and of one not computed
  pub group : (g m : ℕ) (cs ls : List ℕ) → group_found (row g m cs ls) ≡ g
  pub mark : (g m : ℕ) (cs ls : List ℕ) → mark_found (row g m cs ls) ≡ m
  pub counts : (g m : ℕ) (cs ls : List ℕ) → counts_found (row g m cs ls) ≡ cs
  pub bare= : (g : ℕ) (cs : List ℕ) → bare p g cs ≡ row g 0 cs (replicate p 0)
  -- the list, movement by movement: group, where it counts and its levels, or none
  pub nobody : (x : ℕ) → listed x p [] ≡ nowhere
  pub computed : (a : Movement) (ms : List Movement) (ls : List ℕ) → a.held ≡ holds ls
      → listed a.identity p (a ∷ ms) ≡ row a.group 1 a.counts ls
  pub missing : (a : Movement) (ms : List Movement) → a.held ≡ none
      → listed a.identity p (a ∷ ms) ≡ row a.group 0 a.counts (replicate p 0)
  pub later : (x : ℕ) (a : Movement) (ms : List Movement) → (a.identity ≡ x → ⊥)
      → listed x p (a ∷ ms) ≡ listed x p ms
