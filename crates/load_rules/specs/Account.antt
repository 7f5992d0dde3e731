-- How a load comes about, in 78 numbers: RULES, "Energy and load". Each of them is one of the load's own.
-- Assumes nothing.
use Rattle.std.specs.Prelude.{ℕ, zero, suc, ◌+◌, ◌*◌, ◌<◌, ◌≡◌, cond, List, [], ◌∷◌, ◌++◌, length, get_or, ltb}
use Rattle.level.specs.declared.Level.{Level}
use Rattle.level.specs.Level.{level_given, level_value}
use Rattle.level.specs.Neighbours.{Quotient}
use Rattle.movement.specs.Limits.{group_count}
use Rattle.book_rules.specs.Columns.{Book}
use Rattle.book_rules.specs.History.{Made, empty_book, booked}
use Rattle.load_rules.specs.declared.Group.{Group}
use Rattle.load_rules.specs.Told.{LoadTold}
use Rattle.load_rules.specs.Shares.{book_shares}
use Rattle.load_rules.specs.Tally.{tally}
use Rattle.load_rules.specs.Factors.{Fraction, sum_to, general_factor}
use Rattle.load_rules.specs.Load.{counts_of, scaled_energy, scaled_sum, answer}
use Rattle.load_rules.specs.Afresh.{computed_in, missing_in, energy_of_group, counts_at, load_after, standing_at}

-- V, U, S and the scaled energy of a group
abbrev pub group_numbers : Group → List ℕ
group_numbers c = c.computed ∷ c.missing ∷ c.energy ∷ scaled_energy c ∷ []

-- those of the groups below n, by number
unfoldable pub groups_to : (ℕ → Group) → ℕ → List ℕ
groups_to f zero = []
groups_to f (suc n) = groups_to f n ++ group_numbers (f n)

-- upper and lower of the general factor, P, total, 1 where a level is given, the level
abbrev pub whole_numbers : (factor : Fraction) (energy total : ℕ) → Level → List ℕ
whole_numbers factor energy total level =
    factor.upper ∷ factor.lower ∷ energy ∷ total ∷ level_given level ∷ level_value level ∷ []

-- the account of groups over a number of days
unfoldable pub account_from : (ℕ → Group) → (days : ℕ) → List ℕ
account_from f days =
    groups_to f group_count
    ++ whole_numbers (general_factor (λ g. counts_of (f g))) (scaled_sum f) (answer f days).total (answer f days).level

-- V, U and S of each group at point pt of a book with p points
abbrev pub groups_of : (points point : ℕ) → Book → ℕ → Group
groups_of p pt b = tally (book_shares p pt b)

-- the account of the load at point pt of a book with p points
unfoldable pub account_of : (points point : ℕ) (book : Book) (days : ℕ) → List ℕ
account_of p pt b days = account_from (groups_of p pt b) days

-- the whole numbers follow the groups' four each
abbrev pub whole_from : ℕ
whole_from = 4 * group_count

abbrev pub account_size : ℕ
account_size = whole_from + 6

-- What an account says, number by number

-- the 78 numbers for these V, U and S of each group and this load, every step by its bounds on both sides
pub record AccountTells (v u s : ℕ → ℕ) (load : LoadTold) (numbers : List ℕ) : Type 0 where
  pub size : length numbers ≡ 78
  -- four numbers a group: V, U, S, and S·(V+U)/V rounded down, or 0 where none is computed
  pub computed : (g : ℕ) → g < 18 → get_or numbers (4 * g) 0 ≡ v g
  pub missing : (g : ℕ) → g < 18 → get_or numbers (4 * g + 1) 0 ≡ u g
  pub energy : (g : ℕ) → g < 18 → get_or numbers (4 * g + 2) 0 ≡ s g
  pub scaled : (g : ℕ) → g < 18 → 0 < v g → Quotient (s g * (v g + u g)) (v g) (get_or numbers (4 * g + 3) 0)
  pub nothing : (g : ℕ) → g < 18 → v g ≡ 0 → get_or numbers (4 * g + 3) 0 ≡ 0
  -- the general factor: V+U over the groups with V > 0, below V+U+W
  pub lower : get_or numbers 73 0 ≡ sum_to (λ g. cond (ltb 0 (v g)) (v g + u g) 0) 18
  pub upper : get_or numbers 72 0 ≡ get_or numbers 73 0 + sum_to (λ g. cond (ltb 0 (v g)) 0 (u g)) 18
  -- P, and P·(V+U+W)/(V+U) rounded down, or 0 where none is computed
  pub summed : get_or numbers 74 0 ≡ sum_to (λ g. get_or numbers (4 * g + 3) 0) 18
  pub product : 0 < get_or numbers 73 0
      → Quotient (get_or numbers 74 0 * get_or numbers 72 0) (get_or numbers 73 0) (get_or numbers 75 0)
  pub empty : get_or numbers 73 0 ≡ 0 → get_or numbers 75 0 ≡ 0
  -- V, U, total and level are those that the load answers
  pub load_computed : (g : ℕ) → g < 18 → (counts_at load g).computed ≡ v g
  pub load_missing : (g : ℕ) → g < 18 → (counts_at load g).missing ≡ u g
  pub total : get_or numbers 75 0 ≡ load.total
  pub given : get_or numbers 76 0 ≡ level_given load.level
  pub level : get_or numbers 77 0 ≡ level_value load.level

-- the account at point pt after calls cs, refused ones included, on an empty book of n rows and p points
abbrev pub account_after : (p n pt : ℕ) (calls : List Made) (days : ℕ) → List ℕ
account_after p n pt cs days = account_of p pt (booked (empty_book p n) cs) days

-- where its load is answered: V, U and S are those of the movements that stand and count at the point, and V+U+W is
-- their number
pub record AccountsEach (p n pt : ℕ) (cs : List Made) (days : ℕ) : Type 0 where
  pub tells : AccountTells (λ g. computed_in g (standing_at p n pt cs)) (λ g. missing_in g (standing_at p n pt cs))
      (λ g. energy_of_group pt g (standing_at p n pt cs)) (load_after p n pt cs days) (account_after p n pt cs days)
  pub standing : get_or (account_after p n pt cs days) 72 0 ≡ length (standing_at p n pt cs)
