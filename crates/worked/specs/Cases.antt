-- The cases of docs/WORKED.md that are marked P.
-- Assumes nothing.
use Rattle.std.specs.Prelude.{ℕ, ◌+◌, ◌*◌, ◌^◌, ◌≤◌, ◌≡◌, true, false, List, [], ◌∷◌}
use Rattle.movement.specs.Period.{period_number}
use Rattle.movement.specs.Ranges.{CountsInRange}
use Rattle.movement.specs.Group.{group_period}
use Rattle.book_rules.specs.Columns.{Book}
use Rattle.book_rules.specs.Calls.{Called, refusal}
use Rattle.book_rules.specs.Calls.Call.{enter}
use Rattle.book_rules.specs.History.{empty_book}
use Rattle.book_rules.specs.Lookup.{found, bare}
use Rattle.level.specs.Energy.{energy_of}
use Rattle.network.specs.declared.Frame.{Frame}
use Rattle.contour_rules.specs.Picture.{picture}
use Rattle.contour_rules.specs.Contours.{Contour, contours_of}
use Rattle.text.specs.Spelled.{bytes}
use Rattle.wkt.specs.Calls.{network_text}

pub data Case : Type 0 where
  -- a movement at this second falls in the period of this number
  period : (second number : ℕ) → Case
  -- a movement of this type and mass gets this refusal, 0 where it is accepted
  mass : (type kg refusal : ℕ) → Case
  -- a weighted level has this energy
  energy : (c e : ℕ) → Case
  -- a network has these contours at level v, which print as this text
  contour : (levels : List ℕ) (frame : Frame) (v : ℕ) (contours : List Contour) (text : List ℕ) → Case

-- an accepted *enter* at this second stores a group of the period of this number, which the load reads from it
pub record InPeriod (second number : ℕ) : Type 0 where
  pub stored : (p x t k m : ℕ) (cs : List ℕ) (b b' : Book) → Called p b (enter x t k second m cs) 0 b'
      → found x p b' ≡ bare p (6 * t + 3 * k + number) cs
  pub loaded : (t k : ℕ) → period_number (group_period (6 * t + 3 * k + number)) ≡ number

-- an *enter* of this type and mass, on an empty book of any size, is answered so
abbrev pub EnterAnswered : (type kg answer : ℕ) → Type 0
EnterAnswered t kg answer =
    (p n x k s : ℕ) (cs : List ℕ) → (1 ≤ p) × (p ≤ 8) → (1 ≤ n) × (n ≤ 50000) → (1 ≤ x) × (x ≤ 99999)
    → CountsInRange p cs → k ≤ 1 → s ≤ 86399 → refusal p (empty_book p n) (enter x t k s kg cs) ≡ answer

-- what each says: of the row that *enter* makes and the load reads, of the very *enter*, of the energy that the load
-- adds up, and of the contours that the calls list and print
abbrev pub CaseHolds : Case → Type 0
CaseHolds (period second number) = InPeriod second number
CaseHolds (mass type kg refusal) = EnterAnswered type kg refusal
CaseHolds (energy c e) = energy_of c ≡ e
CaseHolds (contour levels frame v contours text) =
    (contours_of (picture levels frame.columns frame.rows v) ≡ contours) × (network_text levels frame v ≡ text)

abbrev pub AllHold : List Case → Type 0
AllHold [] = Unit {0}
AllHold (x ∷ xs) = CaseHolds x × AllHold xs

-- three by three points, 100 m, origin 0, the middle 50.000 and the others 40.000
abbrev pub hill : List ℕ
hill = 40000 ∷ 40000 ∷ 40000 ∷ 40000 ∷ 50000 ∷ 40000 ∷ 40000 ∷ 40000 ∷ 40000 ∷ []

abbrev pub hill_frame : Frame
hill_frame = record { columns = 3; rows = 3; spacing = 100; west = 0; south = 0 }

-- edges 2, 7, 3, 10, closed
abbrev pub hill_contours : List Contour
hill_contours = record { edges = 2 ∷ 7 ∷ 3 ∷ 10 ∷ []; closes = true } ∷ []

abbrev pub hill_text : List ℕ
hill_text =
    bytes "MULTILINESTRING ((50.000 100.000, 100.000 50.000, 150.000 100.000, 100.000 150.000, 50.000 100.000))"

-- a thousandth higher the line lies 10 mm further in
abbrev pub inner_text : List ℕ
inner_text =
    bytes "MULTILINESTRING ((50.010 100.000, 100.000 50.010, 149.990 100.000, 100.000 149.990, 50.010 100.000))"

-- the middle at 45.000 exactly: at v = 45.000 it is in, and the line around it lies in the point itself
abbrev pub peak : List ℕ
peak = 40000 ∷ 40000 ∷ 40000 ∷ 40000 ∷ 45000 ∷ 40000 ∷ 40000 ∷ 40000 ∷ 40000 ∷ []

abbrev pub peak_text : List ℕ
peak_text =
    bytes "MULTILINESTRING ((100.000 100.000, 100.000 100.000, 100.000 100.000, 100.000 100.000, 100.000 100.000))"

-- the saddle of docs/CONTOURS.md: two by two points, 100 m, origin 0
abbrev pub saddle : List ℕ
saddle = 50000 ∷ 40000 ∷ 40000 ∷ 50000 ∷ []

abbrev pub saddle_frame : Frame
saddle_frame = record { columns = 2; rows = 2; spacing = 100; west = 0; south = 0 }

-- two open contours of two edges
abbrev pub two : (a b c d : ℕ) → List Contour
two a b c d =
    record { edges = a ∷ b ∷ []; closes = false } ∷ record { edges = c ∷ d ∷ []; closes = false } ∷ []

-- further contours: a point at v itself, and the saddle at three levels
abbrev pub contour_cases : List Case
contour_cases =
    contour peak hill_frame 45000 hill_contours peak_text
    ∷ contour saddle saddle_frame 44000 (two 0 3 1 2)
    (bytes "MULTILINESTRING ((60.000 0.000, 100.000 40.000), (40.000 100.000, 0.000 60.000))")
    ∷ contour saddle saddle_frame 45000 (two 0 3 1 2)
    (bytes "MULTILINESTRING ((50.000 0.000, 100.000 50.000), (50.000 100.000, 0.000 50.000))")
    ∷ contour saddle saddle_frame 46000 (two 0 2 1 3)
    (bytes "MULTILINESTRING ((40.000 0.000, 0.000 40.000), (60.000 100.000, 100.000 60.000))")
    ∷ []

abbrev pub cases : List Case
cases =
    period 25199 2
    ∷ period 25200 0
    ∷ period 68399 0
    ∷ period 68400 1
    ∷ period 82799 1
    ∷ period 82800 2
    ∷ mass 0 150 2
    ∷ mass 0 151 0
    ∷ mass 1 5999 0
    ∷ mass 1 6000 1
    ∷ energy 0 1
    ∷ energy 500 3
    ∷ energy 3500 3162
    ∷ energy 6500 3162277
    ∷ energy 7500 31622770
    ∷ energy 13000 (10 ^ 13)
    ∷ contour hill hill_frame 45000 hill_contours hill_text
    ∷ contour hill hill_frame 45001 hill_contours inner_text
    ∷ []
