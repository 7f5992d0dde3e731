-- What a replay means for whoever makes it: every outcome that its contract allows. Assumes nothing.
use Rattle.std.specs.Prelude.{◌≡◌, ℕ, ◌<◌, false, List, [], ◌∷◌, length, ◌≢◌}
use Rattle.book_rules.specs.Columns.{Book}
use Rattle.book_rules.specs.Calls.{Call}
use Rattle.book_rules.specs.History.{answered}
use Rattle.book_rules.specs.SoundBook.{SoundBook}
use Rattle.book_rules.specs.Order.{Given}
use Rattle.book_rules.specs.Chain.{Chain}
use Rattle.room.specs.Room.{front}
use Rattle.journal.specs.Journal.{laid_out, calls_of, calls_for}

-- the calls that a replay makes are those of the journal, every one, in its order and for the book's points
pub record MakesEach (p : ℕ) : Type 0 where
  pub nothing : calls_for p [] ≡ []
  pub next : (j rest : List ℕ) (c : Call) → calls_of j ≡ c ∷ calls_of rest
      → calls_for p j ≡ record { points = p; call = c } ∷ calls_for p rest

-- the replay of the journal j on the book b, with a room for answers, was answered r and left b' and room'
pub record ReplayHolds (p : ℕ) (b : Book) (j room : List ℕ) (r : ℕ) (b' : Book) (room' : List ℕ)
    : Type 0 where
  -- 16 for numbers off the layout, then 9, and 14 last
  pub order : Given r 16 (laid_out j ≡ false)
      (Given r 9 (SoundBook p b → ⊥)
      (Given r 14 (length room < length (calls_of j))
      (r ≡ 0)))
  -- an accepted one made every call, one after the other, and wrote the answer of each
  pub calls : r ≡ 0 → Chain b (calls_for p j) (answered b (calls_for p j)) b'
  pub answers : r ≡ 0 → room' ≡ front (answered b (calls_for p j)) room
  -- a refused one changes nothing
  pub refused : (r ≢ 0) → (b' ≡ b) × (room' ≡ room)
