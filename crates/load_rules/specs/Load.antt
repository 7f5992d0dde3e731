-- The load at a point: RULES, "Energy and load".
-- Assumes nothing.
use Rattle.std.specs.Prelude.{ℕ, Bool, cond, not, ◌&&◌, List, length, replicate, eqb, leb, ltb}
use Rattle.std.specs.Prelude.{Result, Ok, Err}
use Rattle.level.specs.Energy.{mean_of}
use Rattle.level.specs.declared.Level.TheVariants.{BelowZero}
use Rattle.level.specs.Level.{level_of}
use Rattle.movement.specs.Limits.{group_count, max_days}
use Rattle.refusal.specs.Refuse.{refuse}
use Rattle.refusal.specs.Refusal.{number_of}
use Rattle.refusal.specs.declared.Refusal.{Refusal}
use Rattle.book_rules.specs.Columns.{Book, sound}
use Rattle.load_rules.specs.declared.Group.{Group}
use Rattle.load_rules.specs.declared.Counts.{Counts}
use Rattle.load_rules.specs.declared.Load.{Load}
use Rattle.load_rules.specs.Told.{LoadTold}
use Rattle.load_rules.specs.Shares.{Share, any_computed, book_shares}
use Rattle.load_rules.specs.Tally.{tally, list_from}
use Rattle.load_rules.specs.Factors.{scaled_by, sum_to, group_factor, general_factor}

abbrev pub counts_of : Group → Counts
counts_of c = record { computed = c.computed; missing = c.missing }

-- S·(V+U)/V of a group with computed movements
unfoldable pub scaled_energy : Group → ℕ
scaled_energy c = scaled_by (group_factor (counts_of c)) c.energy

-- P
unfoldable pub scaled_sum : (ℕ → Group) → ℕ
scaled_sum f = sum_to (λ g. scaled_energy (f g)) group_count

-- P·(V+U+W)/(V+U)
unfoldable pub total_of : (ℕ → Group) → ℕ
total_of f = scaled_by (general_factor (λ g. counts_of (f g))) (scaled_sum f)

-- Refusals

unfoldable pub days_fit : ℕ → Bool
days_fit days = leb 1 days && leb days max_days

-- movements count at the point, none of them computed
unfoldable pub none_computed : List Share → Bool
none_computed ss = not (any_computed ss) && ltb 0 (length ss)

-- load: 9, 11, 10. `fits`: the book is sound and the point is there
unfoldable pub load_refusal : (fits : Bool) → List Share → (days : ℕ) → ℕ
load_refusal fits ss days = refuse 9 fits (refuse 11 (days_fit days) (refuse 10 (not (none_computed ss)) 0))

-- Answers

-- total, level, and V and U of each group
unfoldable pub answer : (ℕ → Group) → (days : ℕ) → LoadTold
answer f days =
    record {
      refused = 0;
      total = total_of f;
      level = level_of (mean_of (total_of f) days);
      counts = list_from (λ g. counts_of (f g)) 0 group_count;
    }

-- a refusal's number alone
unfoldable pub refused_load : ℕ → LoadTold
refused_load n =
    record {
      refused = n;
      total = 0;
      level = BelowZero;
      counts = replicate group_count (record { computed = 0; missing = 0 });
    }

-- what a call for a load tells, answered or refused
abbrev pub load_told : Result Load Refusal → LoadTold
load_told (Ok load) = record { refused = 0; total = load.total; level = load.level; counts = load.counts }
load_told (Err why) = refused_load (number_of why)

unfoldable pub load_of : (fits : Bool) → List Share → (days : ℕ) → LoadTold
load_of fits ss days =
    cond (eqb (load_refusal fits ss days) 0) (answer (tally ss) days) (refused_load (load_refusal fits ss days))

-- the load at point pt of a book with p points
unfoldable pub book_load : (points point : ℕ) (book : Book) (days : ℕ) → LoadTold
book_load p pt b days = load_of (sound p b && ltb pt p) (book_shares p pt b) days
