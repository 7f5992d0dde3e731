-- Inner steps: no promise uses them. The free tracks as two lists: those before a movement's class and moment, nearest
-- first, and those from it on. Assumes nothing.
use Rattle.std.specs.Prelude.{◌≡◌, cond, List, [], ◌∷◌, ◌⊎◌, ℕ, suc, ◌≤◌, ◌<◌, eqb, leb, length}
use Rattle.coupling_rules.specs.Rule.{best, after}

abbrev pub In : ℕ → List ℕ → Type 0
In x [] = ⊥
In x (y ∷ l) = (x ≡ y) ⊎ In x l

-- how many of a list's first have rank q
unfoldable pub leading : (rank : ℕ → ℕ) → ℕ → List ℕ → ℕ
leading rank q [] = 0
leading rank q (x ∷ l) = cond (eqb (rank x) q) (suc (leading rank q l)) 0

-- the gap of a list's first; 0 where there is none
abbrev pub head_gap : (gap : ℕ → ℕ) → List ℕ → ℕ
head_gap gap [] = 0
head_gap gap (x ∷ l) = gap x

-- 1 where the first is the nearer, 2 where the second is, 0 where neither fits
unfoldable pub nearer : ℕ → ℕ → ℕ
nearer a b = cond (eqb a 0) (cond (eqb b 0) 0 2) (cond (eqb b 0) 1 (cond (leb a b) 1 2))

-- each before all after it
abbrev pub Chain : (ℕ → ℕ → Type 0) → List ℕ → Type 0
Chain R [] = Unit {0}
Chain R (x ∷ l) = ((y : ℕ) → In y l → R x y) × Chain R l

-- `rank` is the class and moment of a track as one number
module _ (rank : ℕ → ℕ) where
  abbrev pub Under : ℕ → ℕ → Type 0
  Under x y = (rank y < rank x) ⊎ ((rank y ≡ rank x) × (x < y))

  abbrev pub Over : ℕ → ℕ → Type 0
  Over x y = (rank x < rank y) ⊎ ((rank x ≡ rank y) × (x < y))

  -- the free tracks, as those passed, nearest first, and those to come
  pub record Split (free left right : List ℕ) : Type 0 where
    pub whole : (j : ℕ) → In j free → In j left ⊎ In j right
    pub left_in : (j : ℕ) → In j left → In j free
    pub right_in : (j : ℕ) → In j right → In j free
    pub down : Chain Under left
    pub up : Chain Over right
    pub apart : (x y : ℕ) → In x left → In y right → rank x < rank y

  abbrev pub Below : ℕ → List ℕ → Type 0
  Below at left = (j : ℕ) → In j left → rank j < at

  abbrev pub From : ℕ → List ℕ → Type 0
  From at right = (j : ℕ) → In j right → at ≤ rank j

-- What a turn's first half hands on: the tracks before `at` have gone over to the left
pub record Pulled (rank : ℕ → ℕ) (at : ℕ) (left right left' right' : List ℕ) : Type 0 where
  pub split : (free : List ℕ) → Split rank free left right → Split rank free left' right'
  pub below : Below rank at left → Below rank at left'
  pub from : Chain (Over rank) right → From rank at right'

-- What a whole turn hands on: the answer, and the track that it names gone
pub record Turned (rank gap time : ℕ → ℕ) (at answer : ℕ)
    (left right left' right' : List ℕ) : Type 0 where
  pub is_best : (free : List ℕ) → Split rank free left right → Below rank at left
      → best gap time free ≡ answer
  pub split : (free : List ℕ) → Split rank free left right → Below rank at left
      → Split rank (after answer free) left' right'
  pub below : (free : List ℕ) → Split rank free left right → Below rank at left → Below rank at left'

-- What the pairing asks of the orders, with `at` the rank of a movement: the movements' ranks rise, each has its place
-- in the answers, and the tracks stand in order with none passed
pub record Ordered (rank at : ℕ → ℕ) (turns order free answers : List ℕ) : Type 0 where
  pub rising : Chain (λ (i k : ℕ). at i ≤ at k) turns
  pub placed : (i : ℕ) → In i turns → i < length answers
  pub split : Split rank free [] order
  pub small : (j : ℕ) → In j free → j < 4294967295
