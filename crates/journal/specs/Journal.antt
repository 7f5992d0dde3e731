-- A journal: a sequence of calls as numbers, one after the other, and what making them all gives. Assumes nothing.
--   1 enter: identity, type, kind, time, mass, how many yes and no follow, those
--   2 supply: identity, how many levels follow, those levels     3 take back: identity     4 withdraw: identity
use Rattle.std.specs.Prelude.{◌≡◌, ℕ, zero, suc, ◌+◌, ◌-◌, Bool, true, cond, ◌&&◌, ◌||◌, List, [], ◌∷◌, length, take}
use Rattle.std.specs.Prelude.{drop, ◌==◌, nat_le, slice_index}
use Rattle.refusal.specs.Refuse.{refuse}
use Rattle.room.specs.Room.{leaves}
use Rattle.book_rules.specs.Columns.{Book, sound}
use Rattle.book_rules.specs.Calls.{Call}
use Rattle.book_rules.specs.Calls.Call.{enter, supply, take_back, withdraw}
use Rattle.book_rules.specs.History.{Made, made, booked, answered}

-- The calls that numbers spell

-- how many numbers the call at the front has, by its first number; 0 where that is none of 1 to 4
unfoldable pub width_of : List ℕ → ℕ
width_of j =
    cond (slice_index j 0 == 1) (7 + slice_index j 6)
    (cond (slice_index j 0 == 2) (3 + slice_index j 2)
    (cond (slice_index j 0 == 3 || slice_index j 0 == 4) 2 0))

-- an *enter* and a *supply* at the front
abbrev pub enter_at : List ℕ → Call
enter_at j =
    enter (slice_index j 1) (slice_index j 2) (slice_index j 3) (slice_index j 4) (slice_index j 5)
    (take (slice_index j 6) (drop 7 j))

abbrev pub supply_at : List ℕ → Call
supply_at j = supply (slice_index j 1) (take (slice_index j 2) (drop 3 j))

-- the call at the front
unfoldable pub call_at : List ℕ → Call
call_at j =
    cond (slice_index j 0 == 1) (enter_at j)
    (cond (slice_index j 0 == 2) (supply_at j)
    (cond (slice_index j 0 == 3) (take_back (slice_index j 1))
    (withdraw (slice_index j 1))))

-- the call at the front is one of the four, and all its numbers are there
unfoldable pub complete : List ℕ → Bool
complete j = nat_le 1 (width_of j) && nat_le (width_of j) (length j)

-- the calls of a journal; `skip` numbers at its front still belong to the call before
unfoldable pub calls_from : (skip : ℕ) → List ℕ → List Call
calls_from skip [] = []
calls_from (suc k) (x ∷ j) = calls_from k j
calls_from zero (x ∷ j) = call_at (x ∷ j) ∷ calls_from (width_of (x ∷ j) - 1) j

-- every call is complete
unfoldable pub laid_out_from : (skip : ℕ) → List ℕ → Bool
laid_out_from skip [] = true
laid_out_from (suc k) (x ∷ j) = laid_out_from k j
laid_out_from zero (x ∷ j) = complete (x ∷ j) && laid_out_from (width_of (x ∷ j) - 1) j

unfoldable pub calls_of : List ℕ → List Call
calls_of j = calls_from 0 j

unfoldable pub laid_out : List ℕ → Bool
laid_out j = laid_out_from 0 j

-- the calls, all made for p points
unfoldable pub made_for : ℕ → List Call → List Made
made_for p [] = []
made_for p (c ∷ cs) = made p c ∷ made_for p cs

-- the calls of a journal, all made for p points
abbrev pub calls_for : (points : ℕ) (journal : List ℕ) → List Made
calls_for p j = made_for p (calls_of j)

-- Making them all

-- 16 for numbers off the layout, 9, then 14 for fewer answers than calls
unfoldable pub replay_refusal : (points : ℕ) (book : Book) (journal : List ℕ) (room : ℕ) → ℕ
replay_refusal p b j room =
    refuse 16 (laid_out j)
    (refuse 9 (sound p b)
    (refuse 14 (nat_le (length (calls_of j)) room) 0))

-- what a replay promises: its own answer r, and the book and each call's answer as the sequence of calls gives them,
-- answers at the front of their room; a refused one changes nothing
pub record Replayed (p : ℕ) (b : Book) (j room : List ℕ) (r : ℕ) (b' : Book) (room' : List ℕ) : Type 0 where
  pub answer : r ≡ replay_refusal p b j (length room)
  pub book : b' ≡ cond (replay_refusal p b j (length room) == 0) (booked b (calls_for p j)) b
  pub answers : room' ≡ leaves (replay_refusal p b j (length room)) (answered b (calls_for p j)) room
