-- What each movement brings to a point: its group, and its energy there or none.
-- From the rows of a book, and from the list of movements.
-- Assumes nothing.
use Rattle.std.specs.Prelude.{ℕ, zero, suc, ◌+◌, ◌*◌, ◌<◌, ◌≡◌, Bool, true, false, cond, List, [], ◌∷◌, ◌++◌, length}
use Rattle.std.specs.Prelude.{get_or, eqb}
use Rattle.level.specs.Energy.{energy_of}
use Rattle.movement.specs.Period.{weight_of}
use Rattle.movement.specs.Group.{group_period}
use Rattle.book_rules.specs.Columns.{Book}
use Rattle.book_rules.specs.History.{Held, Movement, movement}
use Rattle.book_rules.specs.History.Held.{none, holds}

pub data Share : Type 0 where
  has : (group energy : ℕ) → Share
  lacks : (group : ℕ) → Share

-- the energy of a level in group g: the weight of the group's period is added to the level
unfoldable pub energy_in : ℕ → ℕ → ℕ
energy_in g l = energy_of (l + weight_of (group_period g))

-- at least one is computed
unfoldable pub any_computed : List Share → Bool
any_computed [] = false
any_computed (has g e ∷ ss) = true
any_computed (lacks g ∷ ss) = any_computed ss

-- The list of movements

-- those that count at the point
unfoldable pub counting_at : (point : ℕ) → List Movement → List Movement
counting_at pt [] = []
counting_at pt (m ∷ ms) = cond (eqb (get_or m.counts pt 0) 0) (counting_at pt ms) (m ∷ counting_at pt ms)

-- each of these movements counts at every one of p points
abbrev pub Everywhere : (points : ℕ) → List Movement → Type 0
Everywhere p ms = (i pt : ℕ) → i < length ms → pt < p → get_or (get_or ms i (movement 0 0 [] none)).counts pt 0 ≡ 1

unfoldable pub held_share : (point group : ℕ) → Held → Share
held_share pt g none = lacks g
held_share pt g (holds ls) = has g (energy_in g (get_or ls pt 0))

unfoldable pub shares_of : ℕ → List Movement → List Share
shares_of pt [] = []
shares_of pt (m ∷ ms) = held_share pt m.group m.held ∷ shares_of pt ms

-- The rows of a book

-- group, mark, and whether the row counts at the point and its level there: a row that doesn't count brings nothing,
-- and an unused row counts nowhere
unfoldable pub row_share : (group mark count level : ℕ) → List Share
row_share g m c l = cond (eqb c 0) [] (cond (eqb m 0) (lacks g) (has g (energy_in g l)) ∷ [])

-- the shares of the first n rows, at point pt of p
unfoldable pub shares_to : (points point : ℕ) (book : Book) (rows : ℕ) → List Share
shares_to p pt b zero = []
shares_to p pt b (suc n) =
    shares_to p pt b n
    ++ row_share (get_or b.groups n 0) (get_or b.marks n 0) (get_or b.counts (n * p + pt) 0)
    (get_or b.levels (n * p + pt) 0)

unfoldable pub book_shares : (points point : ℕ) → Book → List Share
book_shares p pt b = shares_to p pt b (length b.identities)
