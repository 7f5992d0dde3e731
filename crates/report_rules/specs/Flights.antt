-- No flight drops out: what a register that is accepted leaves standing, and what its report says of it: RULES, "Files
-- and the report program". Assumes nothing.
use Rattle.std.specs.Prelude.{ℕ, suc, ◌+◌, ◌-◌, ◌≤◌, ◌<◌, ◌≡◌, Bool, true, cond, not, List, [], ◌∷◌, length, get_or}
use Rattle.std.specs.Prelude.{take, drop, replicate, eqb, ltb, Result, Ok}
use Prim.Native.Char.{code}
use Rattle.level.specs.declared.Level.{Level}
use Rattle.level.specs.Level.{level_given, level_value}
use Rattle.movement.specs.Group.{group_of}
use Rattle.movement.specs.Rules.{fields_fit}
use Rattle.book_rules.specs.Columns.{Book, sound}
use Rattle.book_rules.specs.History.{Movement, movement, has_levels, empty_book, movements, rows_of}
use Rattle.book_rules.specs.History.Held.{none, holds}
use Rattle.load_rules.specs.Load.{book_load}
use Rattle.text.specs.Line.{lines_of}
use Rattle.text.specs.Field.{field_of}
use Rattle.text.specs.Number.{show_number, show_level}
use Rattle.text.specs.Spelled.{bytes}
use Rattle.register.specs.Row.{Layout}
use Rattle.register.specs.LimitsFile.{LimitsFile}
use Rattle.register.specs.LimitsFile.{limits_of}
use Rattle.register.specs.Row.{layout_of}
use Rattle.refusal.specs.declared.Refusal.{Refusal}
use Rattle.report_steps.specs.declared.Entry.{Entry}
use Rattle.report_steps.specs.declared.Entry.TheVariants.{Skipped}
use Rattle.report_steps.specs.Intake.Taken.{PassedOver}
use Rattle.report_steps.specs.Intake.{taken_of, row_taken}
use Rattle.report_steps.specs.Reading.{registered}
use Rattle.report_steps.specs.Booking.{register_calls}
use Rattle.report_rules.specs.Report.{book_rows, report_of}

-- The flights of a register

-- its rows are its lines behind the header
abbrev pub rows_in : List ℕ → List (List ℕ)
rows_in register = drop 1 (lines_of register)

-- a row's movement: identity, group by type, kind and time, counting at every point, and its levels, or none where
-- they are blank
abbrev pub flight_of : ℕ → Layout → Movement
flight_of p row =
    movement row.fields.identity (group_of row.fields.ty row.fields.kind row.fields.time)
    (replicate p 1) (cond (eqb row.fields.computed 0) none (holds (take p row.levels)))

-- a flight is a row over 150 kg
unfoldable pub flights_in : ℕ → List (List ℕ) → List Movement
flights_in p [] = []
flights_in p (row ∷ rows) =
    cond (ltb 150 (layout_of p row).fields.mass)
    (flight_of p (layout_of p row) ∷ flights_in p rows)
    (flights_in p rows)

-- how many of some movements pass a test
unfoldable pub how_many : (Movement → Bool) → List Movement → ℕ
how_many test [] = 0
how_many test (m ∷ ms) = cond (test m) 1 0 + how_many test ms

-- What stands

-- the book that a register of p points gives, and the movements that its calls leave standing
abbrev pub book_in : ℕ → List ℕ → Book
book_in p register = (registered p (empty_book p book_rows) register).held

abbrev pub standing_in : ℕ → List ℕ → List Movement
standing_in p register = movements p book_rows (register_calls p (empty_book p book_rows) register)

-- a register of p points that is refused nowhere:
pub record AllStand (p : ℕ) (register : List ℕ) : Type 0 where
  -- every row is on its layout
  pub read : (i : ℕ) → i < length (rows_in register)
      → (layout_of p (get_or (rows_in register) i [])).refusal ≡ 0
  -- the movements standing are its flights, each once: whatever is asked of a movement, as many of them pass
  pub each : (test : Movement → Bool)
      → how_many test (standing_in p register) ≡ how_many test (flights_in p (rows_in register))
  pub count : length (standing_in p register) ≡ length (flights_in p (rows_in register))
  -- and the book holds them and nothing else: the rows behind them are unused
  pub book : book_in p register ≡ rows_of p (book_rows - length (standing_in p register)) (standing_in p register)

-- What is printed

-- field k of the line of a point, as the report's own bytes have it
abbrev pub printed : List ℕ → ℕ → ℕ → List ℕ
printed text point k = field_of (code ",") k (get_or (lines_of text) (suc point) [])

abbrev pub computed : Movement → Bool
computed m = has_levels m.held

-- the level at a point, as the load answers it
abbrev pub level_at : LimitsFile → List ℕ → ℕ → Level
level_at l register point = (book_load l.points point (book_in l.points register) l.days).level

-- the line of a point: its number from 1, level, limit, verdict, and the flights with levels and without
pub record PointSays (l : LimitsFile) (register text : List ℕ) (point : ℕ) : Type 0 where
  pub number : printed text point 0 ≡ show_number (point + 1)
  -- the level, or `below` where none is given
  pub rounded : level_given (level_at l register point) ≡ 1
      → printed text point 1 ≡ show_level (level_value (level_at l register point))
  pub below : level_given (level_at l register point) ≡ 0 → printed text point 1 ≡ bytes "below"
  pub limit : printed text point 2 ≡ show_level (get_or l.limits point 0)
  -- `over` where a level is given and is greater than the limit, otherwise `within`
  pub over : level_given (level_at l register point) ≡ 1
      → get_or l.limits point 0 < level_value (level_at l register point)
      → printed text point 3 ≡ bytes "over"
  pub within : level_value (level_at l register point) ≤ get_or l.limits point 0
      → printed text point 3 ≡ bytes "within"
  pub none : level_given (level_at l register point) ≡ 0 → printed text point 3 ≡ bytes "within"
  pub with_levels_rule : printed text point 4
      ≡ show_number (how_many computed (flights_in l.points (rows_in register)))
  pub without : printed text point 5
      ≡ show_number (how_many (λ m. not (computed m)) (flights_in l.points (rows_in register)))

-- limits.csv and register accepted, and the book not refused (10): the report
pub record ReportSays (limits register : List ℕ) : Type 0 where
  pub header : get_or (lines_of (report_of limits register)) 0 [] ≡ bytes "point,level,limit,verdict,computed,missing"
  -- a line for each point and no other
  pub lines : length (lines_of (report_of limits register)) ≡ 1 + (limits_of limits).points
  pub points : (point : ℕ) → point < (limits_of limits).points
      → PointSays (limits_of limits) register (report_of limits register) point
  -- no flight drops out: the two numbers printed at each point add up to the flights of the register
  pub adds_up : how_many computed (flights_in (limits_of limits).points (rows_in register))
      + how_many (λ m. not (computed m)) (flights_in (limits_of limits).points (rows_in register))
      ≡ length (flights_in (limits_of limits).points (rows_in register))

-- A row is passed over exactly where its layout is right, rule 1 holds and its mass is 150 kg or less, whatever stands
-- in a sound book
pub record Light (p : ℕ) (row : List ℕ) : Type 0 where
  pub read : (layout_of p row).refusal ≡ 0
  pub rule_1 : let f = (layout_of p row).fields in fields_fit f.ty f.kind f.time f.mass ≡ true
  pub light : (layout_of p row).fields.mass ≤ 150

pub record PassedExactly (p : ℕ) (b : Book) (row : List ℕ) : Type 0 where
  pub when : row_taken p b row ≡ PassedOver → Light p row
  pub only : sound p b ≡ true → Light p row → row_taken p b row ≡ PassedOver
  -- and the code answers `Skipped` exactly there, where its answer tells what the row did
  pub skipped : (r : Result Entry Refusal) → taken_of r ≡ row_taken p b row → r ≡ Ok Skipped → Light p row
  pub skips : sound p b ≡ true → Light p row → (r : Result Entry Refusal) → taken_of r ≡ row_taken p b row
      → r ≡ Ok Skipped
