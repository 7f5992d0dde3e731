-- What a call that writes into lent room answers and leaves, place by place: RULES, "Refusal numbers": a refused call
-- leaves all bytes, 14 comes last, and room past an answer keeps its bytes. Assumes nothing.
use Rattle.std.specs.Prelude.{ℕ, ◌+◌, ◌≤◌, ◌<◌, ◌≡◌, List, length, get_or}

-- the room holds the answer from its front on, and past it what it held before
pub record Holds (answer room room' : List ℕ) : Type 0 where
  pub long : length room' ≡ length room
  pub answered : (i : ℕ) → i < length answer → get_or room' i 0 ≡ get_or answer i 0
  pub kept : (i : ℕ) → length answer ≤ i → get_or room' i 0 ≡ get_or room i 0

-- a call that has the refusal `why`, or 0, without its room, answers the number r, and leaves room'
pub record WritesSo (why : ℕ) (answer room : List ℕ) (r : ℕ) (room' : List ℕ) : Type 0 where
  pub refused : (why ≡ 0 → ⊥) → (r ≡ why) × (room' ≡ room)
  pub short : why ≡ 0 → length room < length answer → (r ≡ 14) × (room' ≡ room)
  pub written : why ≡ 0 → length answer ≤ length room → (r ≡ 0) × Holds answer room room'

-- the same of two answers, each in room of its own
pub record WritesTwoSo (why : ℕ) (a b ra rb : List ℕ) (r : ℕ) (ra' rb' : List ℕ) : Type 0 where
  pub refused : (why ≡ 0 → ⊥) → (r ≡ why) × ((ra' ≡ ra) × (rb' ≡ rb))
  pub short_first : why ≡ 0 → length ra < length a → (r ≡ 14) × ((ra' ≡ ra) × (rb' ≡ rb))
  pub short_second : why ≡ 0 → length rb < length b → (r ≡ 14) × ((ra' ≡ ra) × (rb' ≡ rb))
  pub written : why ≡ 0 → length a ≤ length ra → length b ≤ length rb
      → (r ≡ 0) × (Holds a ra ra' × Holds b rb rb')

-- a text written from the place `at` on, with `next` the place past it: nothing else changes
pub record WroteSo (old : List ℕ) (at : ℕ) (text new : List ℕ) (next : ℕ) : Type 0 where
  pub place : next ≡ at + length text
  pub before : (i : ℕ) → i < at → get_or new i 0 ≡ get_or old i 0
  pub here : (i : ℕ) → i < length text → get_or new (at + i) 0 ≡ get_or text i 0
  pub past : (i : ℕ) → next ≤ i → get_or new i 0 ≡ get_or old i 0
