-- Demand 3: a load worked afresh from the list of movements, without rows, and what it says of each movement.
-- Assumes nothing.
use Rattle.std.specs.Prelude.{ℕ, zero, suc, ◌+◌, ◌*◌, ◌%◌, ◌^◌, ◌<◌, ◌≡◌, Bool, true, false, cond, not, ◌&&◌, ◌||◌}
use Rattle.std.specs.Prelude.{List, [], ◌∷◌, ◌++◌, ◌↔◌, length, get_or, eqb, ltb}
use Rattle.level.specs.Energy.{energy_of, mean_of}
use Rattle.level.specs.Level.{level_of, level_given, level_value}
use Rattle.level.specs.Neighbours.{Quotient}
use Rattle.movement.specs.Limits.{group_count}
use Rattle.movement.specs.Period.{weight_of}
use Rattle.movement.specs.Group.{group_period}
use Rattle.book_rules.specs.History.{Held, Movement, movement, sizes_fit, has_levels, Made, empty_book, booked}
use Rattle.book_rules.specs.History.{movements}
use Rattle.book_rules.specs.History.Held.{none, holds}
use Rattle.load_rules.specs.declared.Counts.{Counts}
use Rattle.load_rules.specs.Told.{LoadTold, Judged}
use Rattle.load_rules.specs.Shares.{counting_at, Everywhere, shares_of}
use Rattle.load_rules.specs.Factors.{Fraction, whole_fraction, times, plus, Equal, scaled_by}
use Rattle.load_rules.specs.Factors.{sum_to, group_factor, general_factor}
use Rattle.load_rules.specs.Load.{days_fit, load_of, book_load}
use Rattle.load_rules.specs.Verdict.{refusal_number, over_number, judged_of, book_verdict}
use Rattle.load_rules.specs.Refusals.{InRange, DaysInRange, LimitInRange, NoneHeld, NoneComputed}
use Rattle.load_rules.specs.Refusals.{LoadNumbers, VerdictNumbers}

-- the load and the verdict at point pt of movements in a book of n rows and p points: those that count there
unfoldable pub list_load : (p n pt : ℕ) (movements : List Movement) (days : ℕ) → LoadTold
list_load p n pt ms days = load_of (sizes_fit p n && ltb pt p) (shares_of pt (counting_at pt ms)) days

unfoldable pub list_verdict : (p n pt : ℕ) (movements : List Movement) (days limit : ℕ) → Judged
list_verdict p n pt ms days limit = judged_of (sizes_fit p n && ltb pt p) (shares_of pt (counting_at pt ms)) days limit

-- Each movement, one by one

unfoldable pub some_computed : List Movement → Bool
some_computed [] = false
some_computed (m ∷ ms) = has_levels m.held || some_computed ms

-- V and U of group g
unfoldable pub computed_in : ℕ → List Movement → ℕ
computed_in g [] = 0
computed_in g (m ∷ ms) = cond (eqb m.group g && has_levels m.held) 1 0 + computed_in g ms

unfoldable pub missing_in : ℕ → List Movement → ℕ
missing_in g [] = 0
missing_in g (m ∷ ms) = cond (eqb m.group g && not (has_levels m.held)) 1 0 + missing_in g ms

-- the energy at point pt of a movement of group g that holds levels
unfoldable pub held_energy : (pt g : ℕ) → Held → ℕ
held_energy pt g none = 0
held_energy pt g (holds ls) = energy_of (get_or ls pt 0 + weight_of (group_period g))

-- S of group g at point pt
unfoldable pub energy_of_group : (pt g : ℕ) → List Movement → ℕ
energy_of_group pt g [] = 0
energy_of_group pt g (m ∷ ms) = cond (eqb m.group g) (held_energy pt m.group m.held) 0 + energy_of_group pt g ms

-- V, U and S of group g at point pt, over those of these movements that count there
pub record Brought (pt g : ℕ) (ms : List Movement) (v u s : ℕ) : Type 0 where
  pub computed : computed_in g (counting_at pt ms) ≡ v
  pub missing : missing_in g (counting_at pt ms) ≡ u
  pub energy : energy_of_group pt g (counting_at pt ms) ≡ s

-- what movements bring, by look-up: nothing by none, each its own to its own group, and two lists the sum of both
pub record EachBrings (pt : ℕ) : Type 0 where
  pub nobody : (g : ℕ) → Brought pt g [] 0 0 0
  -- a computed one counts in V, with the energy of its level at the point and 0, 500 or 1,000 hundredths by its period
  pub computed : (x g : ℕ) (cs ls : List ℕ) → get_or cs pt 0 ≡ 1
      → Brought pt g (movement x g cs (holds ls) ∷ []) 1 0 (energy_of (get_or ls pt 0 + 500 * (g % 3)))
  -- any other in U, with no energy
  pub missing : (x g : ℕ) (cs : List ℕ) → get_or cs pt 0 ≡ 1 → Brought pt g (movement x g cs none ∷ []) 0 1 0
  pub elsewhere : (g : ℕ) (m : Movement) → ¬ (m.group ≡ g) → Brought pt g (m ∷ []) 0 0 0
  -- one that doesn't count at the point brings nothing to any group
  pub not_there : (g : ℕ) (m : Movement) → get_or m.counts pt 0 ≡ 0 → Brought pt g (m ∷ []) 0 0 0
  pub joined : (g v u s v' u' s' : ℕ) (xs ys : List Movement) → Brought pt g xs v u s → Brought pt g ys v' u' s'
      → Brought pt g (xs ++ ys) (v + v') (u + u') (s + s')
  -- those that count at the point are kept in their order, those that don't are left out
  pub left_none_rule : counting_at pt [] ≡ []
  pub kept : (m : Movement) (ms : List Movement) → get_or m.counts pt 0 ≡ 1
      → counting_at pt (m ∷ ms) ≡ m ∷ counting_at pt ms
  pub left_out : (m : Movement) (ms : List Movement) → get_or m.counts pt 0 ≡ 0
      → counting_at pt (m ∷ ms) ≡ counting_at pt ms
  -- all of them, where each counts everywhere
  pub everybody : (p : ℕ) (ms : List Movement) → pt < p → Everywhere p ms → counting_at pt ms ≡ ms
  -- and one is computed exactly if not every one lacks levels
  pub some : (ms : List Movement) → some_computed ms ≡ false ↔ NoneHeld ms

-- Every movement is counted once

-- V and U of group g in an answer
abbrev pub counts_at : LoadTold → ℕ → Counts
counts_at a g = get_or a.counts g (record { computed = 0; missing = 0 })

-- the sum, over the groups below n with V > 0, of V times its group factor and the general factor
unfoldable pub weight_to : (ℕ → Counts) → ℕ → Fraction
weight_to f zero = whole_fraction 0
weight_to f (suc n) =
    cond (eqb (f n).computed 0) (weight_to f n)
    (plus (weight_to f n) (times (times (whole_fraction (f n).computed) (group_factor (f n))) (general_factor f)))

-- a total as the rules work it out, from V, U and S of each group, every step by its bounds on both sides
pub record TotalHolds (v u s : ℕ → ℕ) (total : ℕ) : Type 0 where
  -- a group with V > 0 gives S·(V+U)/V rounded down (formula 10), any other nothing
  pub gives : ℕ → ℕ
  pub scaled : (g : ℕ) → g < 18 → 0 < v g → Quotient (s g * (v g + u g)) (v g) (gives g)
  pub nothing : (g : ℕ) → g < 18 → v g ≡ 0 → gives g ≡ 0
  -- V and U summed over the groups with V > 0, and W, the U of the others
  pub known : ℕ
  pub known_is : known ≡ sum_to (λ g. cond (ltb 0 (v g)) (v g + u g) 0) 18
  pub unknown : ℕ
  pub unknown_is : unknown ≡ sum_to (λ g. cond (ltb 0 (v g)) 0 (u g)) 18
  -- P being the sum of what the groups give, total = P·(V+U+W)/(V+U) rounded down (formula 11); 0 with none computed
  pub total_is : 0 < known → Quotient (sum_to gives 18 * (known + unknown)) known total
  pub empty : known ≡ 0 → total ≡ 0

-- what an answered load over these days says of the movements that stand and count at the point
pub record CountsEach (a : LoadTold) (pt : ℕ) (ms : List Movement) (days : ℕ) : Type 0 where
  -- its V and U are those of the list
  pub computed : (g : ℕ) → g < group_count → (counts_at a g).computed ≡ computed_in g ms
  pub missing : (g : ℕ) → g < group_count → (counts_at a g).missing ≡ missing_in g ms
  -- and add up to the number standing that count there
  pub standing : sum_to (λ g. (counts_at a g).computed + (counts_at a g).missing) group_count ≡ length ms
  -- where one is computed, the computed ones times both factors add up to the number standing that count there
  pub weighed : some_computed ms ≡ true → Equal (weight_to (counts_at a) group_count) (whole_fraction (length ms))
  -- and its total is their energy times those very factors, each product rounded down
  pub energy : a.total
      ≡ scaled_by (general_factor (counts_at a))
      (sum_to (λ g. scaled_by (group_factor (counts_at a g)) (energy_of_group pt g ms)) group_count)
  -- which is the rules' formulas 10 and 11
  pub formulas : TotalHolds (λ g. (counts_at a g).computed) (λ g. (counts_at a g).missing)
      (λ g. energy_of_group pt g ms)
      a.total
  -- its level is that of M, and M is that of the total answered, and of 64 bits, for which levels are told
  pub level : a.level ≡ level_of (mean_of a.total days)
  pub fits : mean_of a.total days < 2 ^ 64
  -- where none counts there the total is 0 and the level below zero
  pub no_movement : length ms ≡ 0 → (a.total ≡ 0) × (level_given a.level ≡ 0)

-- a refusal's number alone: nothing is answered beside it
pub record Alone (a : LoadTold) : Type 0 where
  pub total : a.total ≡ 0
  pub level : level_given a.level ≡ 0
  pub counts : (g : ℕ) → g < 18 → ((counts_at a g).computed ≡ 0) × ((counts_at a g).missing ≡ 0)

-- the answer where nobody counts at the point
pub record NobodyThere (a : LoadTold) : Type 0 where
  pub answered : a.refused ≡ 0
  pub total : a.total ≡ 0
  pub below : level_given a.level ≡ 0

-- the load and the verdict at point pt after calls cs, refused ones included, on an empty book of n rows and p points
abbrev pub load_after : (p n pt : ℕ) (calls : List Made) (days : ℕ) → LoadTold
load_after p n pt cs days = book_load p pt (booked (empty_book p n) cs) days

abbrev pub verdict_after : (p n pt : ℕ) (calls : List Made) (days limit : ℕ) → Judged
verdict_after p n pt cs days limit = book_verdict p pt (booked (empty_book p n) cs) days limit

-- the movements that such calls leave standing and that count at point pt
abbrev pub standing_at : (p n pt : ℕ) (calls : List Made) → List Movement
standing_at p n pt cs = counting_at pt (movements p n cs)

-- Demand 3, after any calls, at each point
pub record EachCountedOnce (p n pt : ℕ) (cs : List Made) (days : ℕ) : Type 0 where
  -- load and verdict are those worked afresh from the list of movements
  pub afresh : load_after p n pt cs days ≡ list_load p n pt (movements p n cs) days
  pub verdict : (limit : ℕ) → verdict_after p n pt cs days limit ≡ list_verdict p n pt (movements p n cs) days limit
  -- where one that counts there is computed, the load is not refused
  pub answered : sizes_fit p n ≡ true → pt < p → days_fit days ≡ true → some_computed (standing_at p n pt cs) ≡ true
      → (load_after p n pt cs days).refused ≡ 0
  -- and one that is not refused counts each movement that counts there
  pub counts : (load_after p n pt cs days).refused ≡ 0
      → CountsEach (load_after p n pt cs days) pt (standing_at p n pt cs) days
  -- where nobody counts, whoever stands elsewhere, the total is 0 and the level below zero
  pub nobody : InRange p n pt → DaysInRange days → length (standing_at p n pt cs) ≡ 0
      → NobodyThere (load_after p n pt cs days)
  -- each refusal is given exactly where its reason holds and no earlier one does, and alone
  pub refusals : LoadNumbers (InRange p n pt) (DaysInRange days) (NoneComputed (standing_at p n pt cs))
      (load_after p n pt cs days).refused
  pub alone : ¬ ((load_after p n pt cs days).refused ≡ 0) → Alone (load_after p n pt cs days)
  -- of a verdict too
  pub verdict_refusals : (limit : ℕ)
      → VerdictNumbers (InRange p n pt) (DaysInRange days) (LimitInRange limit) (NoneComputed (standing_at p n pt cs))
      (refusal_number (verdict_after p n pt cs days limit))
  -- a verdict is over exactly if it is given, and the load over the same days has a level, greater than the limit
  pub over : (limit : ℕ) → over_number (verdict_after p n pt cs days limit) ≡ 1
      ↔ (refusal_number (verdict_after p n pt cs days limit) ≡ 0)
      × (level_given (load_after p n pt cs days).level ≡ 1)
      × (limit < level_value (load_after p n pt cs days).level)
