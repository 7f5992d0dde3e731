-- The report as text, from the limits and a book: RULES, "Files and the report program". Assumes nothing.
use Rattle.std.specs.Prelude.{ℕ, zero, suc, ◌+◌, cond, List, [], ◌∷◌, ◌==◌, slice_index}
use Rattle.level.specs.declared.Level.{Level}
use Rattle.level.specs.declared.Level.TheVariants.{BelowZero, At}
use Rattle.level.specs.declared.Verdict.{Verdict}
use Rattle.level.specs.declared.Verdict.TheVariants.{Within, Over}
use Rattle.level.specs.Level.{verdict_of}
use Rattle.book_rules.specs.Columns.{Book}
use Rattle.book_rules.specs.Calls.{refused_or}
use Rattle.load_rules.specs.Told.{LoadTold}
use Rattle.load_rules.specs.Load.{book_load}
use Rattle.text.specs.Number.{show_number, show_level}
use Rattle.text.specs.Index.{listing}
use Rattle.text.specs.Spelled.{bytes}
use Rattle.text.specs.Sheet.{ended, line, refused_text}
use Rattle.register.specs.LimitsFile.{LimitsFile}
use Rattle.report_text.specs.Totals.{all_computed, all_missing}

-- the rounded level or `below`; `over` or `within`
abbrev pub level_text : Level → List ℕ
level_text BelowZero = bytes "below"
level_text (At n) = show_level n

abbrev pub verdict_text : Verdict → List ℕ
verdict_text Within = bytes "within"
verdict_text Over = bytes "over"

-- one point: its number from 1, rounded level, limit, verdict, movements computed, movements without levels
abbrev pub point_fields : (point limit : ℕ) → LoadTold → List (List ℕ)
point_fields point limit load =
    show_number (point + 1)
    ∷ level_text load.level
    ∷ show_level limit
    ∷ verdict_text (verdict_of load.level limit)
    ∷ show_number (all_computed load.counts)
    ∷ show_number (all_missing load.counts)
    ∷ []

unfoldable pub point_line : LimitsFile → Book → ℕ → List ℕ
point_line l b point = line (point_fields point (slice_index l.limits point) (book_load l.points point b l.days))

abbrev pub header_line : List ℕ
header_line = bytes "point,level,limit,verdict,computed,missing"

-- the header, and a line for each point
unfoldable pub points_text : LimitsFile → Book → List ℕ
points_text l b = ended (header_line ∷ listing (point_line l b) l.points)

-- the refusal of the points below n: that of the first one that is refused, 0 where each is answered
unfoldable pub refused_to : (points days : ℕ) → Book → ℕ → ℕ
refused_to p days b zero = 0
refused_to p days b (suc n) = refused_or (refused_to p days b n) (book_load p n b days).refused

-- the refusal of the whole book, 0 for none: each of its points is judged
abbrev pub book_refusal : LimitsFile → Book → ℕ
book_refusal l b = refused_to l.points l.days b l.points

-- the report of a book; a refusal of the whole book has line 0
unfoldable pub book_text : LimitsFile → Book → List ℕ
book_text l b = cond (book_refusal l b == 0) (points_text l b) (refused_text (book_refusal l b) 0)
