-- What a call on a book means for whoever makes it: every outcome that its contract allows. Assumes nothing.
use Rattle.std.specs.Prelude.{ℕ, ◌≤◌, ◌<◌, ◌≡◌, List, length, get_or, replicate}
use Rattle.book_rules.specs.Columns.{Book}
use Rattle.book_rules.specs.Calls.{Call, refusal}
use Rattle.book_rules.specs.Calls.Call.{enter, supply}
use Rattle.book_rules.specs.History.{Made, movements, booked, empty_book}
use Rattle.book_rules.specs.Reasons.{Fields, Full}
use Rattle.book_rules.specs.SoundBook.{SoundBook}
use Rattle.book_rules.specs.Lookup.{found, counts_found, listed, Does}
use Rattle.book_rules.specs.Lookup.Row.{nowhere}
use Rattle.book_rules.specs.Order.{InOrder}

-- the call c on the book b was answered r and left the book b'
pub record CallHolds (p : ℕ) (b : Book) (c : Call) (r : ℕ) (b' : Book) : Type 0 where
  -- each number is given exactly for its reason and in its order
  pub order : InOrder p b c r
  -- an accepted call does what the rules say, found by look-up
  pub accepted : r ≡ 0 → Does p c b b'
  -- a refused one changes nothing
  pub refused : (r ≡ 0 → ⊥) → b' ≡ b

-- after any calls on an empty book of n rows and p points, each identity is found in the rows as in the list
abbrev pub FoundListed : (p n : ℕ) → List Made → Type 0
FoundListed p n cs = (x : ℕ) → 1 ≤ x → found x p (booked (empty_book p n) cs) ≡ listed x p (movements p n cs)

-- an empty book has n rows, none with an identity, and is sound where its sizes are in range
pub record EmptyHolds (p n : ℕ) : Type 0 where
  pub rows : length (empty_book p n).identities ≡ n
  pub none : (x : ℕ) → 1 ≤ x → found x p (empty_book p n) ≡ nowhere
  pub sound= : (1 ≤ p) × (p ≤ 8) → (1 ≤ n) × (n ≤ 50000) → SoundBook p (empty_book p n)

-- a movement may count at no point: it is entered as any other
abbrev pub MayCountNowhere : (p : ℕ) (b : Book) → Type 0
MayCountNowhere p b =
    (x t k s m : ℕ) → SoundBook p b → Fields t k s m → 150 < m → (1 ≤ x) × (x ≤ 99999)
    → found x p b ≡ nowhere → (Full b → ⊥) → refusal p b (enter x t k s m (replicate p 0)) ≡ 0

-- what 19 leaves as it was: a movement that counts at every point is never refused it, and zeros are supplied to any
-- movement that stands, wherever it counts
pub record OnlyElsewhere (p : ℕ) (b : Book) (x : ℕ) : Type 0 where
  pub everywhere : (ls : List ℕ) → ((j : ℕ) → j < p → get_or (counts_found (found x p b)) j 0 ≡ 1)
      → refusal p b (supply x ls) ≡ 19 → ⊥
  pub zeros : SoundBook p b → (1 ≤ x) × (x ≤ 99999) → (found x p b ≡ nowhere → ⊥)
      → refusal p b (supply x (replicate p 0)) ≡ 0

-- look-up says everything: two sound books of as many rows in which each identity is found alike are one
abbrev pub FoundAlike : (p : ℕ) (b b' : Book) → Type 0
FoundAlike p b b' =
    SoundBook p b → SoundBook p b' → length b.identities ≡ length b'.identities
    → ((x : ℕ) → 1 ≤ x → found x p b ≡ found x p b') → b ≡ b'
