-- Inner steps: no promise uses them. What the functions of the crate require of and ensure to one another.
-- Assumes nothing.
use Rattle.std.specs.Prelude.{◌≡◌, ℕ, ◌+◌, ◌*◌, ◌/◌, ◌%◌, ◌<◌, ◌≤◌, Bool, cond, ◌&&◌, List, [], ◌==◌, nat_lt}
use Rattle.std.specs.Prelude.{slice_index_or}
use Rattle.level.specs.Tables.{IsTableA, ArePowers}
use Rattle.level.specs.Limits.{max_movements, max_energy, max_total}
use Rattle.level.specs.Energy.{mean_of}
use Rattle.level.specs.Level.{level_of}
use Rattle.movement.specs.Limits.{group_count}
use Rattle.refusal.specs.Refuse.{refuse}
use Rattle.load_rules.specs.declared.Group.{Group}
use Rattle.book_rules.specs.Columns.{Book, book_lent}
use Rattle.load_rules.specs.Shares.{Share, energy_in, book_shares}
use Rattle.load_rules.specs.Tally.{group_with, list_from}
use Rattle.load_rules.specs.Factors.{ratio, scaled_by, sum_to, known, unknown, known_sum, unknown_sum}
use Rattle.load_rules.specs.Load.{counts_of, scaled_energy, days_fit, answer, refused_load}
use Rattle.load_rules.specs.Told.{LoadTold}
use Rattle.load.specs.declared.asked.Asked.{Asked}
use Rattle.load.specs.declared.sums.Sums.{Sums}
use Rattle.load.specs.declared.sums.Totals.{Totals}

-- table A and the powers of ten, as they are lent
pub record Tables (a powers : List ℕ) : Type 0 where
  pub table_a_rule : IsTableA a
  pub powers_of_ten : ArePowers powers

-- one movement more fits into a group
pub record RoomForOne (c : Group) : Type 0 where
  pub computed : c.computed < max_movements
  pub missing : c.missing < max_movements
  pub energy : c.energy ≤ max_total

-- a group with one row more that counts: group g, mark m and level l
unfoldable pub with_row : (seen : Group) (group mark level : ℕ) → Group
with_row c g m l =
    cond (m == 0) (group_with c.computed (c.missing + 1) c.energy)
    (group_with (c.computed + 1) c.missing (c.energy + energy_in g l))

-- an energy and a factor whose product fits
pub record Scalable (e upper lower : ℕ) : Type 0 where
  pub movements : upper ≤ max_movements
  pub energy : e ≤ lower * max_energy

-- The array of arrays that holds V, U and S of each group

-- group 6·type + 3·kind + period, of 3 types, 2 kinds and 3 periods
unfoldable pub table : (ℕ → Group) → List (List (List Group))
table f = list_from (λ t. list_from (λ k. list_from (λ d. f (6 * t + 3 * k + d)) 0 3) 0 2) 0 3

-- what stands at group g
unfoldable pub group_at : List (List (List Group)) → ℕ → Group
group_at cs g = slice_index_or (slice_index_or (slice_index_or cs (g / 6) []) (g % 6 / 3) []) (g % 3) (group_with 0 0 0)

-- the same groups side by side, by number
unfoldable pub flat : (ℕ → Group) → List Group
flat f = list_from f 0 group_count

unfoldable pub flat_at : List Group → ℕ → Group
flat_at cs g = slice_index_or cs g (group_with 0 0 0)

-- groups that movements within the bounds could give
pub record Bounded (cs : List (List (List Group))) : Type 0 where
  pub movements : sum_to (λ g. (group_at cs g).computed + (group_at cs g).missing) group_count ≤ max_movements
  pub energies : (g : ℕ) → g < group_count → (group_at cs g).energy ≤ (group_at cs g).computed * max_energy

abbrev pub sums : (scaled known unknown : ℕ) → Sums
sums p n w = record { scaled = p; known = n; unknown = w }

-- P, V + U and W over the groups below n
unfoldable pub sums_of : (ℕ → Group) → ℕ → Sums
sums_of f n =
    sums (sum_to (λ g. scaled_energy (f g)) n) (sum_to (λ g. known (counts_of (f g))) n)
    (sum_to (λ g. unknown (counts_of (f g))) n)

unfoldable pub added_to : Sums → Group → Sums
added_to s c = sums (s.scaled + scaled_energy c) (s.known + known (counts_of c)) (s.unknown + unknown (counts_of c))

-- the total of the sums, and its level
unfoldable pub totals_of : Sums → (days : ℕ) → Totals
totals_of s days =
    record {
      total = scaled_by (ratio (s.known + s.unknown) s.known) s.scaled;
      level = level_of (mean_of (scaled_by (ratio (s.known + s.unknown) s.known) s.scaled) days);
    }

-- one group more fits into the sums
pub record Fitting (s : Sums) (c : Group) : Type 0 where
  pub movements : s.known + s.unknown + (c.computed + c.missing) ≤ max_movements
  pub scaled : s.scaled ≤ max_energy * s.known
  pub energy : c.energy ≤ c.computed * max_energy

-- the first two refusals of a load, of its account and of a verdict. `fits`: the book is sound and the point is there
unfoldable pub asked_refusal : (fits : Bool) (days : ℕ) → ℕ
asked_refusal fits days = refuse 9 fits (refuse 11 (days_fit days) 0)

-- the book that is asked, and what is asked of it
abbrev pub book_asked : Asked → Book
book_asked a = book_lent a.ids.now a.groups.now a.marks.now a.counts.now a.levels.now

pub record AskedOf (points point : ℕ) (book : Book) (a : Asked) : Type 0 where
  pub points_same : a.points ≡ points
  pub point_same : a.point ≡ point
  pub book_same : book_asked a ≡ book

-- its shares
abbrev pub shares_asked : Asked → List Share
shares_asked a = book_shares a.points a.point (book_asked a)

-- the load of what the groups hold, where neither 9 nor 11 is given: 10 where none is known and some are unknown
unfoldable pub load_from : (ℕ → Group) → ℕ → LoadTold
load_from f days =
    cond (known_sum (λ g. counts_of (f g)) == 0 && nat_lt 0 (unknown_sum (λ g. counts_of (f g)))) (refused_load 10)
    (answer f days)
