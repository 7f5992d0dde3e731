-- Calls that are really made, one after the other on the same columns, each by its own contract. Assumes nothing.
use Rattle.std.specs.Prelude.{ℕ, ◌≡◌, List, [], ◌∷◌}
use Rattle.book_rules.specs.Columns.{Book}
use Rattle.book_rules.specs.Calls.{Called}
use Rattle.book_rules.specs.History.{Made, booked, answered, empty_book, HistoryHolds}

-- the calls cs on the book b, each on the columns that the one before left, gave the answers rs and the book b'
pub data Chain : (b : Book) (cs : List Made) (rs : List ℕ) (b' : Book) → Type 0 where
  done : {b : Book} → Chain b [] [] b
  called : {b b₁ b' : Book} {c : Made} {cs : List Made} {r : ℕ} {rs : List ℕ}
      → Called c.points b c.call r b₁ → Chain b₁ cs rs b' → Chain b (c ∷ cs) (r ∷ rs) b'

-- what such calls on an empty book of n rows and p points leave is what the theorem on histories speaks of
pub record ChainHolds (p n : ℕ) (cs : List Made) (rs : List ℕ) (b' : Book) : Type 0 where
  pub book : b' ≡ booked (empty_book p n) cs
  pub answers : rs ≡ answered (empty_book p n) cs
  pub history : HistoryHolds p n cs
