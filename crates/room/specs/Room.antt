-- Room that a caller lends, and what a call leaves in it: RULES, "Refusal numbers". A refused call changes nothing, 14
-- comes last, and room past an answer keeps what it held. Assumes nothing.
use Rattle.std.specs.Prelude.{ℕ, ◌+◌, ◌≡◌, Bool, cond, ◌&&◌, List, ◌++◌, eqb, leb, length, take, drop}
use Rattle.refusal.specs.Refuse.{refuse, first}

-- an answer at the front of the room
abbrev pub front : {A : Type 0} (answer room : List A) → List A
front answer room = answer ++ drop (length answer) room

-- an answer in the middle of the room, from a place on
unfoldable pub put : {A : Type 0} (room : List A) (at : ℕ) (answer : List A) → List A
put room at answer = take at room ++ answer ++ drop (at + length answer) room

-- `text` was written at `at`, and `next` is the place past it
pub record Wrote (old : List ℕ) (at : ℕ) (text new : List ℕ) (next : ℕ) : Type 0 where
  pub place : next ≡ at + length text
  pub bytes : new ≡ put old at text

-- the room is no shorter than the answer
abbrev pub fits_in : {A : Type 0} (answer room : List A) → Bool
fits_in answer room = leb (length answer) (length room)

-- the refusal that a call has without its room, and 14 after it
abbrev pub then_room : (refusal : ℕ) (enough : Bool) → ℕ
then_room refusal enough = first refusal (refuse 14 enough 0)

-- what the room holds at the end: the answer at its front, or all that it held
abbrev pub leaves : {A : Type 0} (refusal : ℕ) (answer room : List A) → List A
leaves refusal answer room = cond (eqb refusal 0) (front answer room) room

-- a call that answers one list, with the refusal `why` that it has without its room: its number r, and the room at the
-- end
pub record Writes {A : Type 0} (why : ℕ) (answer room : List A) (r : ℕ) (room' : List A) : Type 0 where
  pub number : r ≡ then_room why (fits_in answer room)
  pub left : room' ≡ leaves (then_room why (fits_in answer room)) answer room

-- and one that answers two lists
pub record WritesTwo {A B : Type 0} (why : ℕ) (a : List A) (b : List B) (room_a : List A) (room_b : List B) (r : ℕ)
    (room_a' : List A) (room_b' : List B) : Type 0 where
  pub number : r ≡ then_room why (fits_in a room_a && fits_in b room_b)
  pub left_first : room_a' ≡ leaves (then_room why (fits_in a room_a && fits_in b room_b)) a room_a
  pub left_second : room_b' ≡ leaves (then_room why (fits_in a room_a && fits_in b room_b)) b room_b
