-- How calls are spelled as the numbers of a journal. Assumes nothing.
use Rattle.std.specs.Prelude.{◌≡◌, ℕ, ◌<◌, true, false, ◌⊎◌, List, [], ◌∷◌, ◌++◌, length}
use Rattle.book_rules.specs.Calls.{Call}
use Rattle.book_rules.specs.Calls.Call.{enter, supply, take_back, withdraw}
use Rattle.journal.specs.Journal.{calls_of, laid_out}

unfoldable pub spelled : Call → List ℕ
spelled (enter x t k s m cs) = 1 ∷ x ∷ t ∷ k ∷ s ∷ m ∷ length cs ∷ cs
spelled (supply x ls) = 2 ∷ x ∷ length ls ∷ ls
spelled (take_back x) = 3 ∷ x ∷ []
spelled (withdraw x) = 4 ∷ x ∷ []

unfoldable pub journal_of : List Call → List ℕ
journal_of [] = []
journal_of (c ∷ cs) = spelled c ++ journal_of cs

-- how a journal is read, number by number
pub record Spelled : Type 0 where
  pub nothing : calls_of [] ≡ []
  pub enter= : (x t k s m : ℕ) (cs rest : List ℕ)
      → calls_of (1 ∷ x ∷ t ∷ k ∷ s ∷ m ∷ length cs ∷ (cs ++ rest)) ≡ enter x t k s m cs ∷ calls_of rest
  pub supply= : (x : ℕ) (ls rest : List ℕ)
      → calls_of (2 ∷ x ∷ length ls ∷ (ls ++ rest)) ≡ supply x ls ∷ calls_of rest
  pub take_back= : (x : ℕ) (rest : List ℕ) → calls_of (3 ∷ x ∷ rest) ≡ take_back x ∷ calls_of rest
  pub withdraw= : (x : ℕ) (rest : List ℕ) → calls_of (4 ∷ x ∷ rest) ≡ withdraw x ∷ calls_of rest

-- a journal is on its layout exactly if its numbers are those of calls, to the last one; and these calls are read
pub record LaidExactly (j : List ℕ) : Type 0 where
  pub on : laid_out j ≡ true → j ≡ journal_of (calls_of j)
  pub only : (cs : List Call) → j ≡ journal_of cs → (laid_out j ≡ true) × (calls_of j ≡ cs)

-- and when it is on its layout, number by number
pub record Laid : Type 0 where
  pub nothing : laid_out [] ≡ true
  -- a call goes on to the next, however many yes and no or levels it has
  pub enter= : (x t k s m : ℕ) (cs rest : List ℕ)
      → laid_out (1 ∷ x ∷ t ∷ k ∷ s ∷ m ∷ length cs ∷ (cs ++ rest)) ≡ laid_out rest
  pub supply= : (x : ℕ) (ls rest : List ℕ) → laid_out (2 ∷ x ∷ length ls ∷ (ls ++ rest)) ≡ laid_out rest
  pub take_back= : (x : ℕ) (rest : List ℕ) → laid_out (3 ∷ x ∷ rest) ≡ laid_out rest
  pub withdraw= : (x : ℕ) (rest : List ℕ) → laid_out (4 ∷ x ∷ rest) ≡ laid_out rest
  -- no other number starts a call
  pub unknown : (n : ℕ) (rest : List ℕ) → (n ≡ 0) ⊎ (4 < n) → laid_out (n ∷ rest) ≡ false
  -- a call whose numbers end too soon
  pub enter_short : (rest : List ℕ) → length rest < 6 → laid_out (1 ∷ rest) ≡ false
  pub enter_cut : (x t k s m n : ℕ) (rest : List ℕ) → length rest < n
      → laid_out (1 ∷ x ∷ t ∷ k ∷ s ∷ m ∷ n ∷ rest) ≡ false
  pub supply_short : (rest : List ℕ) → length rest < 2 → laid_out (2 ∷ rest) ≡ false
  pub supply_cut : (x n : ℕ) (rest : List ℕ) → length rest < n → laid_out (2 ∷ x ∷ n ∷ rest) ≡ false
  pub take_back_short : laid_out (3 ∷ []) ≡ false
  pub withdraw_short : laid_out (4 ∷ []) ≡ false
