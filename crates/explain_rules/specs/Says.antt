-- What the text of explain says of the movements that stand, read back from its own bytes: RULES, "The program
-- explain". Assumes nothing.
use Rattle.std.specs.Prelude.{ℕ, ◌+◌, ◌*◌, ◌<◌, ◌≡◌, Bool, cond, List, [], ◌∷◌, ◌++◌, length, get_or, ltb}
use Rattle.level.specs.Neighbours.{Quotient}
use Rattle.book_rules.specs.History.{Movement, Made, empty_book, booked, movements}
use Rattle.load_rules.specs.Shares.{counting_at}
use Rattle.load_rules.specs.Factors.{sum_to}
use Rattle.load_rules.specs.Afresh.{computed_in, missing_in, energy_of_group, load_after}
use Rattle.text.specs.Line.{lines_of}
use Rattle.text.specs.Field.{count_of, field_of}
use Rattle.text.specs.Index.{many}
use Rattle.text.specs.Number.{show_number}
use Rattle.text.specs.Spelled.{bytes}
use Rattle.register.specs.LimitsFile.{LimitsFile}
use Rattle.report_text.specs.Text.{book_refusal, book_text}
use Rattle.explain_text.specs.Text.{explain_text}

-- Where a line stands

-- a group has a movement
abbrev pub has_movement : List Movement → ℕ → Bool
has_movement ms g = ltb 0 (computed_in g ms + missing_in g ms)

-- a point has a line for each of the 18 groups that has a movement that counts there, and one for all
abbrev pub lines_of_point : List Movement → (point : ℕ) → ℕ
lines_of_point ms pt = many (has_movement (counting_at pt ms)) 18 + 1

-- the lines of the points before pt
abbrev pub lines_before : List Movement → (point : ℕ) → ℕ
lines_before ms pt = sum_to (lines_of_point ms) pt

-- The line of a group, counted from 0: behind the header, the points before its own, and the groups of a lower number
-- that have a movement there. The line for all stands where a group 18 would
abbrev pub place_of : List Movement → (point group : ℕ) → ℕ
place_of ms pt g = 1 + (lines_before ms pt + many (has_movement (counting_at pt ms)) g)

-- What it says

-- nine fields, parted by eight commas, of which 0 is the point's number from 1
pub record NineFields (pt : ℕ) (line : List ℕ) : Type 0 where
  pub commas : count_of 44 line ≡ 8
  pub number : field_of 44 0 line ≡ show_number (pt + 1)

-- upper, slash, 47, and lower as they are; blank where the lower is 0
pub record FactorSays (upper lower : ℕ) (field : List ℕ) : Type 0 where
  pub given : 0 < lower → field ≡ show_number upper ++ (47 ∷ show_number lower)
  pub blank : lower ≡ 0 → field ≡ []

-- type, kind and period of group 6·type + 3·kind + period
pub record NamesSay (type kind period : ℕ) (line : List ℕ) : Type 0 where
  pub large : type ≡ 0 → field_of 44 1 line ≡ bytes "G"
  pub small : type ≡ 1 → field_of 44 1 line ≡ bytes "K"
  pub helicopter : type ≡ 2 → field_of 44 1 line ≡ bytes "H"
  pub start : kind ≡ 0 → field_of 44 2 line ≡ bytes "S"
  pub landing : kind ≡ 1 → field_of 44 2 line ≡ bytes "L"
  pub day : period ≡ 0 → field_of 44 3 line ≡ bytes "day"
  pub evening : period ≡ 1 → field_of 44 3 line ≡ bytes "evening"
  pub night : period ≡ 2 → field_of 44 3 line ≡ bytes "night"

-- a group with V computed, U missing and energy S that gives `gives`
pub record GroupSays (pt g v u s gives : ℕ) (line : List ℕ) : Type 0 where
  pub nine : NineFields pt line
  pub names : (type kind period : ℕ) → type < 3 → kind < 2 → period < 3
      → g ≡ 6 * type + 3 * kind + period
      → NamesSay type kind period line
  pub computed : field_of 44 4 line ≡ show_number v
  pub missing : field_of 44 5 line ≡ show_number u
  pub factor : FactorSays (v + u) v (field_of 44 6 line)
  pub energy : field_of 44 7 line ≡ show_number s
  pub counted : field_of 44 8 line ≡ show_number gives

-- all groups: V and U of all, V+U+W over V+U, P and the total
pub record AllSay (pt v u upper lower p total : ℕ) (line : List ℕ) : Type 0 where
  pub nine : NineFields pt line
  pub word : field_of 44 1 line ≡ bytes "all"
  pub no_kind : field_of 44 2 line ≡ []
  pub no_period : field_of 44 3 line ≡ []
  pub computed : field_of 44 4 line ≡ show_number v
  pub missing : field_of 44 5 line ≡ show_number u
  pub factor : FactorSays upper lower (field_of 44 6 line)
  pub energy : field_of 44 7 line ≡ show_number p
  pub counted : field_of 44 8 line ≡ show_number total

-- the lines of point pt, each at its group's place, where these movements count and the load has this total
pub record PointSays (pt : ℕ) (ms : List Movement) (place : ℕ → ℕ) (total : ℕ) (lines : List (List ℕ)) : Type 0 where
  -- a group with V > 0 gives S·(V+U)/V rounded down, any other nothing
  pub gives : ℕ → ℕ
  pub scaled : (g : ℕ) → g < 18 → 0 < computed_in g ms
      → Quotient (energy_of_group pt g ms * (computed_in g ms + missing_in g ms)) (computed_in g ms) (gives g)
  pub nothing : (g : ℕ) → g < 18 → computed_in g ms ≡ 0 → gives g ≡ 0
  pub groups : (g : ℕ) → g < 18 → 0 < computed_in g ms + missing_in g ms
      → GroupSays pt g (computed_in g ms) (missing_in g ms) (energy_of_group pt g ms) (gives g)
      (get_or lines (place g) [])
  -- V+U+W is the number of all these, V+U that of the groups with V > 0; the total is the load's
  pub all : AllSay pt (sum_to (λ g. computed_in g ms) 18) (sum_to (λ g. missing_in g ms) 18) (length ms)
      (sum_to (λ g. cond (ltb 0 (computed_in g ms)) (computed_in g ms + missing_in g ms) 0) 18) (sum_to gives 18) total
      (get_or lines (place 18) [])

-- the text of the book that calls cs, refused ones included, leave of an empty one of n rows
abbrev pub text_after : LimitsFile → (n : ℕ) (calls : List Made) → List ℕ
text_after l n cs = explain_text l (booked (empty_book l.points n) cs)

pub record ExplainSays (l : LimitsFile) (n : ℕ) (cs : List Made) : Type 0 where
  pub header : get_or (lines_of (text_after l n cs)) 0 []
      ≡ bytes "point,type,kind,period,computed,missing,factor,energy,counted"
  -- the lines of each point and no other
  pub lines : length (lines_of (text_after l n cs)) ≡ 1 + lines_before (movements l.points n cs) l.points
  pub points : (pt : ℕ) → pt < l.points
      → PointSays pt (counting_at pt (movements l.points n cs)) (place_of (movements l.points n cs) pt)
      (load_after l.points n pt cs l.days).total (lines_of (text_after l n cs))
  -- and the last line has its CRLF
  pub before : List ℕ
  pub ended : text_after l n cs ≡ before ++ (13 ∷ 10 ∷ [])

-- a refusal of the whole book is the report's, to its last byte; any other book is explained
pub record ExplainText (l : LimitsFile) (n : ℕ) (cs : List Made) : Type 0 where
  pub refused : (book_refusal l (booked (empty_book l.points n) cs) ≡ 0 → ⊥)
      → text_after l n cs ≡ book_text l (booked (empty_book l.points n) cs)
  pub says : book_refusal l (booked (empty_book l.points n) cs) ≡ 0 → ExplainSays l n cs
