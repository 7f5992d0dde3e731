-- How each load comes about, as text, from the limits and a book: RULES, "The program explain".
-- Assumes nothing.
use Rattle.std.specs.Prelude.{ℕ, zero, suc, ◌+◌, ◌/◌, ◌%◌, Bool, cond, List, [], ◌∷◌, ◌++◌, ◌==◌, nat_lt}
use Prim.Native.Char.{code}
use Rattle.movement.specs.Limits.{group_count}
use Rattle.movement.specs.declared.period.Period.{Period}
use Rattle.movement.specs.declared.period.Period.TheVariants.{Day, Evening, Night}
use Rattle.movement.specs.Group.{group_period}
use Rattle.book_rules.specs.Columns.{Book}
use Rattle.load_rules.specs.declared.Group.{Group}
use Rattle.load_rules.specs.Factors.{Fraction, sum_to, group_factor, general_factor}
use Rattle.load_rules.specs.Load.{counts_of, scaled_energy, scaled_sum, total_of}
use Rattle.load_rules.specs.Account.{groups_of}
use Rattle.text.specs.Sheet.{ended, line, refused_text}
use Rattle.text.specs.Number.{show_number}
use Rattle.text.specs.Spelled.{bytes}
use Rattle.text.specs.Letter.{show_letter}
use Rattle.register.specs.Letter.{type_letters, kind_letters}
use Rattle.register.specs.LimitsFile.{LimitsFile}
use Rattle.report_text.specs.Text.{book_refusal}
use Rattle.explain_text.specs.declared.amounts.Amounts.{Amounts}

-- Numbers of a line

abbrev pub amounts : (computed missing : ℕ) (factor : Fraction) (energy counted : ℕ) → Amounts
amounts v u factor s counted =
    record {
      computed = v;
      missing = u;
      upper = factor.upper;
      lower = factor.lower;
      energy = s;
      counted = counted;
    }

-- a group: V, U, (V+U)/V, S, and S scaled by that factor
unfoldable pub group_amounts : Group → Amounts
group_amounts c = amounts c.computed c.missing (group_factor (counts_of c)) c.energy (scaled_energy c)

-- all groups: V and U of all of them, the general factor, P, and the total
unfoldable pub all_amounts : (ℕ → Group) → Amounts
all_amounts f =
    amounts (sum_to (λ g. (f g).computed) group_count) (sum_to (λ g. (f g).missing) group_count)
    (general_factor (λ g. counts_of (f g))) (scaled_sum f) (total_of f)

-- Fields

-- group 6·type + 3·kind + period: type G, K or H, kind S or L, and the period in a word
abbrev pub type_text : ℕ → List ℕ
type_text g = show_letter type_letters (g / 6)

abbrev pub kind_text : ℕ → List ℕ
kind_text g = show_letter kind_letters (g % 6 / 3)

abbrev pub period_text : Period → List ℕ
period_text Day = bytes "day"
period_text Evening = bytes "evening"
period_text Night = bytes "night"

abbrev pub slash : ℕ
slash = code "/"

-- a factor, not shortened: upper, slash, lower; blank where the lower is 0
unfoldable pub factor_text : (upper lower : ℕ) → List ℕ
factor_text upper lower = cond (lower == 0) [] (show_number upper ++ (slash ∷ show_number lower))

abbrev pub amount_fields : Amounts → List (List ℕ)
amount_fields a =
    show_number a.computed
    ∷ show_number a.missing
    ∷ factor_text a.upper a.lower
    ∷ show_number a.energy
    ∷ show_number a.counted
    ∷ []

-- a group at a point, whose number is from 1
abbrev pub group_fields : (point group : ℕ) → Amounts → List (List ℕ)
group_fields point g a =
    show_number (point + 1) ∷ type_text g ∷ kind_text g ∷ period_text (group_period g) ∷ amount_fields a

abbrev pub all_fields : (point : ℕ) → Amounts → List (List ℕ)
all_fields point a = show_number (point + 1) ∷ bytes "all" ∷ [] ∷ [] ∷ amount_fields a

-- Lines

-- a group has a movement: V + U > 0
abbrev pub stands : Amounts → Bool
stands a = nat_lt 0 (a.computed + a.missing)

-- the line of a group that has a movement; any other has none
unfoldable pub group_line : (point group : ℕ) → Amounts → List (List ℕ)
group_line point g a = cond (stands a) (line (group_fields point g a) ∷ []) []

-- the groups below n, in order of group number
unfoldable pub group_lines : (point : ℕ) → (ℕ → Amounts) → ℕ → List (List ℕ)
group_lines point a zero = []
group_lines point a (suc g) = group_lines point a g ++ group_line point g (a g)

-- a point: its groups and the line `all`
unfoldable pub point_lines : (point : ℕ) → (ℕ → Amounts) → Amounts → List (List ℕ)
point_lines point a all = group_lines point a group_count ++ (line (all_fields point all) ∷ [])

-- point pt of a book with p points
unfoldable pub lines_at : (points point : ℕ) → Book → List (List ℕ)
lines_at p pt b = point_lines pt (λ g. group_amounts (groups_of p pt b g)) (all_amounts (groups_of p pt b))

-- the points below n
unfoldable pub lines_to : (points : ℕ) → Book → ℕ → List (List ℕ)
lines_to p b zero = []
lines_to p b (suc n) = lines_to p b n ++ lines_at p n b

abbrev pub header_line : List ℕ
header_line = bytes "point,type,kind,period,computed,missing,factor,energy,counted"

-- the header, and the lines of each point
unfoldable pub points_text : LimitsFile → Book → List ℕ
points_text l b = ended (header_line ∷ lines_to l.points b l.points)

-- the text of a book; a refusal of the whole book is the report's, with line 0
unfoldable pub explain_text : LimitsFile → Book → List ℕ
explain_text l b = cond (book_refusal l b == 0) (points_text l b) (refused_text (book_refusal l b) 0)
