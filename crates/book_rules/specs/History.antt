-- What a history of calls means without rows: RULES, "Movements and the book".
-- And the book whose rows are such a list. Assumes nothing.
use Rattle.std.specs.Prelude.{◌≡◌, ℕ, suc, ◌*◌, ◌-◌, ◌≤◌, Bool, true, false, cond, not, ◌&&◌, ◌||◌, List, [], ◌∷◌, ◌++◌}
use Rattle.std.specs.Prelude.{length, replicate, eqb, leb, ltb}
use Rattle.refusal.specs.Refuse.{refuse}
use Rattle.movement.specs.Limits.{max_rows, max_points}
use Rattle.movement.specs.Rules.{movement_refusal, identity_fits, levels_fit, counts_fit, zero_elsewhere}
use Rattle.movement.specs.Group.{group_of}
use Rattle.book_rules.specs.Columns.{Book, book_of, sound}
use Rattle.book_rules.specs.Calls.{Call, refused_or, refusal, after}
use Rattle.book_rules.specs.Calls.Call.{enter, supply, take_back, withdraw}

-- The list of movements

-- levels, or none
pub data Held : Type 0 where
  none : Held
  holds : List ℕ → Held

-- a movement: counts has one number a point, 1 where it counts and 0 where it doesn't
pub record Movement : Type 0 where
  pub identity : ℕ
  pub group : ℕ
  pub counts : List ℕ
  pub held : Held

abbrev pub movement : (identity group : ℕ) (counts : List ℕ) → Held → Movement
movement x g cs h = record { identity = x; group = g; counts = cs; held = h }

-- a movement more, in rising identity
unfoldable pub added : Movement → List Movement → List Movement
added m [] = m ∷ []
added m (a ∷ ms) = cond (leb m.identity a.identity) (m ∷ (a ∷ ms)) (a ∷ added m ms)

-- the movement of identity x now holds h
unfoldable pub holding : ℕ → Held → List Movement → List Movement
holding x h [] = []
holding x h (a ∷ ms) =
    cond (eqb a.identity x) (movement a.identity a.group a.counts h ∷ ms) (a ∷ holding x h ms)

-- the movement of identity x is gone
unfoldable pub without : ℕ → List Movement → List Movement
without x [] = []
without x (a ∷ ms) = cond (eqb a.identity x) ms (a ∷ without x ms)

-- what an accepted call does to the list of movements
unfoldable pub step : List Movement → Call → List Movement
step ms (enter x t k s m cs) = added (movement x (group_of t k s) cs none) ms
step ms (supply x ls) = holding x (holds ls) ms
step ms (take_back x) = holding x none ms
step ms (withdraw x) = without x ms

-- the list of movements that accepted calls define, from those that stand
unfoldable pub list_of : List Movement → List Call → List Movement
list_of ms [] = ms
list_of ms (c ∷ cs) = list_of (step ms c) cs

-- The refusals, by the list alone

-- a call as it is made, with the number of points that it is made for
pub record Made : Type 0 where
  pub points : ℕ
  pub call : Call

abbrev pub made : ℕ → Call → Made
made q c = record { points = q; call = c }

-- x is the identity of a movement
unfoldable pub standing : ℕ → List Movement → Bool
standing x [] = false
standing x (a ∷ ms) = eqb a.identity x || standing x ms

unfoldable pub has_levels : Held → Bool
has_levels none = false
has_levels (holds ls) = true

-- the movement of identity x holds levels
unfoldable pub computed : ℕ → List Movement → Bool
computed x [] = false
computed x (a ∷ ms) = cond (eqb a.identity x) (has_levels a.held) (computed x ms)

-- where the movement of identity x counts
unfoldable pub counts_for : ℕ → List Movement → List ℕ
counts_for x [] = []
counts_for x (a ∷ ms) = cond (eqb a.identity x) a.counts (counts_for x ms)

-- points and rows in range
unfoldable pub sizes_fit : ℕ → ℕ → Bool
sizes_fit p n = (leb 1 p && leb p max_points) && (leb 1 n && leb n max_rows)

-- the refusal of a call where these movements stand, in a book of n rows and p points, as the rules say
unfoldable pub standing_refusal : (points rows : ℕ) (standing : List Movement) (call : Call) → ℕ
standing_refusal p n ms (enter x t k s m cs) =
    refuse 9 (counts_fit p cs)
    (refused_or (movement_refusal t k s m)
    (refuse 3 (identity_fits x)
    (refuse 4 (not (standing x ms))
    (refuse 6 (ltb (length ms) n) 0))))
standing_refusal p n ms (supply x ls) =
    refuse 3 (identity_fits x)
    (refuse 7 (levels_fit p ls)
    (refuse 5 (standing x ms)
    (refuse 19 (zero_elsewhere (counts_for x ms) ls) 0)))
standing_refusal p n ms (take_back x) =
    refuse 3 (identity_fits x)
    (refuse 5 (standing x ms)
    (refuse 8 (computed x ms) 0))
standing_refusal p n ms (withdraw x) =
    refuse 3 (identity_fits x)
    (refuse 5 (standing x ms) 0)

-- 9 for another number of points comes first
unfoldable pub list_refusal : (points rows : ℕ) (standing : List Movement) (call : Made) → ℕ
list_refusal p n ms c = refuse 9 (eqb c.points p && sizes_fit p n) (standing_refusal p n ms c.call)

-- Histories

-- the accepted ones among the calls, where these movements stand at first
unfoldable pub accepted : (points rows : ℕ) (standing : List Movement) (calls : List Made) → List Call
accepted p n ms [] = []
accepted p n ms (c ∷ cs) =
    cond (eqb (list_refusal p n ms c) 0) (c.call ∷ accepted p n (step ms c.call) cs) (accepted p n ms cs)

-- the answer of each call, where these movements stand at first
unfoldable pub list_answered : (points rows : ℕ) (standing : List Movement) (calls : List Made) → List ℕ
list_answered p n ms [] = []
list_answered p n ms (c ∷ cs) =
    list_refusal p n ms c ∷ list_answered p n (cond (eqb (list_refusal p n ms c) 0) (step ms c.call) ms) cs

-- the movements that a history of calls leaves standing, from an empty book of n rows and p points
unfoldable pub movements : (points rows : ℕ) → List Made → List Movement
movements p n cs = list_of [] (accepted p n [] cs)

-- the book after calls, refused ones included
unfoldable pub booked : Book → List Made → Book
booked b [] = b
booked b (c ∷ cs) = booked (after c.points b c.call) cs

-- the answer of each call
unfoldable pub answered : Book → List Made → List ℕ
answered b [] = []
answered b (c ∷ cs) = refusal c.points b c.call ∷ answered (after c.points b c.call) cs

-- the accepted ones among the calls, as the book's rows decide it
unfoldable pub accepted_by_rows : Book → List Made → List Call
accepted_by_rows b [] = []
accepted_by_rows b (c ∷ cs) =
    cond (eqb (refusal c.points b c.call) 0) (c.call ∷ accepted_by_rows (after c.points b c.call) cs)
    (accepted_by_rows (after c.points b c.call) cs)

-- The rows of a list of movements

unfoldable pub mark_of : Held → ℕ
mark_of none = 0
mark_of (holds ls) = 1

unfoldable pub levels_of : ℕ → Held → List ℕ
levels_of p none = replicate p 0
levels_of p (holds ls) = ls

-- a column of w values a movement, and zeros for the unused rows
unfoldable pub column : (cells : Movement → List ℕ) (width unused : ℕ) (movements : List Movement) → List ℕ
column f w unused [] = replicate (unused * w) 0
column f w unused (a ∷ ms) = f a ++ column f w unused ms

-- a movement's values in each column
abbrev pub identity_cell : Movement → List ℕ
identity_cell a = a.identity ∷ []

abbrev pub group_cell : Movement → List ℕ
group_cell a = a.group ∷ []

abbrev pub mark_cell : Movement → List ℕ
mark_cell a = mark_of a.held ∷ []

abbrev pub count_cells : Movement → List ℕ
count_cells a = a.counts

abbrev pub level_cells : ℕ → Movement → List ℕ
level_cells p a = levels_of p a.held

-- the book of a list of movements, with so many unused rows
unfoldable pub rows_of : (points unused : ℕ) → List Movement → Book
rows_of p unused ms =
    book_of (column identity_cell 1 unused ms) (column group_cell 1 unused ms) (column mark_cell 1 unused ms)
    (column count_cells p unused ms) (column (level_cells p) p unused ms)

-- n rows, all unused
unfoldable pub empty_book : (points rows : ℕ) → Book
empty_book p n = book_of (replicate n 0) (replicate n 0) (replicate n 0) (replicate (n * p) 0) (replicate (n * p) 0)

-- The theorem's statement

-- how often the identity x stands in a column of identities
unfoldable pub how_often : (identity : ℕ) → List ℕ → ℕ
how_often x [] = 0
how_often x (y ∷ ys) = cond (eqb y x) (suc (how_often x ys)) (how_often x ys)

-- each movement has a lower identity than the next
unfoldable pub in_order : List Movement → Bool
in_order [] = true
in_order (a ∷ []) = true
in_order (a ∷ (b ∷ ms)) = ltb a.identity b.identity && in_order (b ∷ ms)

-- start from an empty book of n rows and p points and make any calls, refused ones included:
pub record HistoryHolds (p n : ℕ) (cs : List Made) : Type 0 where
  -- the columns hold exactly the movements that the accepted calls leave standing, and then unused rows, zero
  -- throughout
  pub rows : booked (empty_book p n) cs ≡ rows_of p (n - length (movements p n cs)) (movements p n cs)
  -- in rising identity
  pub order : in_order (movements p n cs) ≡ true
  -- each movement once, and no other
  pub once : (x : ℕ) → 1 ≤ x
      → how_often x (booked (empty_book p n) cs).identities ≡ cond (standing x (movements p n cs)) 1 0
  -- within the n rows
  pub room : length (movements p n cs) ≤ n
  -- each call is answered as the list alone says, and so the accepted calls are those that the list alone says
  pub answers : answered (empty_book p n) cs ≡ list_answered p n [] cs
  pub same : accepted_by_rows (empty_book p n) cs ≡ accepted p n [] cs
  -- the book stays sound, where its size is in range
  pub kept : sound p (booked (empty_book p n) cs) ≡ sizes_fit p n
