-- Which track each movement takes: RULES, "Radar tracks" (source 003, annex A4, coupling steps 1 and 2). Movements and
-- tracks go by their place from 0. Assumes nothing.
use Rattle.std.specs.Prelude.{ℕ, zero, suc, ◌+◌, ◌*◌, ◌-◌, Bool, cond, not, ◌&&◌, List, [], ◌∷◌}
use Rattle.std.specs.Prelude.{eqb, ltb, leb, get_or, set, replicate}
use Rattle.movement.specs.Limits.{seconds_a_day}
use Rattle.date.specs.Calendar.{day_number}
use Rattle.sorting.specs.Sorted.{sorted}
use Rattle.coupling_rules.specs.Limits.{aeroplane_window, helicopter_window}
use Rattle.coupling_rules.specs.Flights.{Flights, Movements, many}

-- the second of a day, numbered through the calendar
abbrev pub moment : (date time : ℕ) → ℕ
moment date time = day_number date * seconds_a_day + time

unfoldable pub moment_of : Flights → ℕ → ℕ
moment_of f i = moment (get_or f.dates i 0) (get_or f.times i 0)

-- the seconds between two moments
abbrev pub distance : ℕ → ℕ → ℕ
distance a b = (a - b) + (b - a)

-- a movement and a track agree in class, kind, runway, airport and type designator
unfoldable pub agree : Flights → ℕ → Flights → ℕ → Bool
agree m i t j =
    eqb (get_or m.classes i 0) (get_or t.classes j 0)
    && (eqb (get_or m.kinds i 0) (get_or t.kinds j 0)
    && (eqb (get_or m.runways i 0) (get_or t.runways j 0)
    && (eqb (get_or m.airports i 0) (get_or t.airports j 0) && eqb (get_or m.types i 0) (get_or t.types j 0))))

-- how far away a track may be: 5 minutes for an aeroplane, 10 for a helicopter
abbrev pub window_of : (class : ℕ) → ℕ
window_of class = cond (eqb class 0) aeroplane_window helicopter_window

-- an aeroplane's circuit takes no track
abbrev pub left_out : (aeroplane circuit : Bool) → Bool
left_out aeroplane circuit = aeroplane && circuit

unfoldable pub takes_none : (class circuit : ℕ) → Bool
takes_none class circuit = left_out (eqb class 0) (not (eqb circuit 0))

-- track j may be taken by movement i
unfoldable pub fits : Movements → Flights → ℕ → ℕ → Bool
fits m t i j =
    not (takes_none (get_or m.flights.classes i 0) (get_or m.circuits i 0))
    && (agree m.flights i t j
    && leb (distance (moment_of m.flights i) (moment_of t j)) (window_of (get_or m.flights.classes i 0)))

-- 0 where track j may not be taken by movement i, else one more than the seconds between them
unfoldable pub gap : Movements → Flights → ℕ → ℕ → ℕ
gap m t i j = cond (fits m t i j) (distance (moment_of m.flights i) (moment_of t j) + 1) 0

-- Of several, the nearest in time, then the earlier, then the lower place

abbrev pub earlier : (moment other : ℕ) → Bool
earlier moment other = ltb moment other

-- whether j is nearer than k, or as near and earlier, or as early too and of no higher place
unfoldable pub closer : (gap time : ℕ → ℕ) → ℕ → ℕ → Bool
closer gap time j k =
    cond (eqb (gap j) (gap k))
    (cond (eqb (time j) (time k)) (leb j k) (earlier (time j) (time k)))
    (ltb (gap j) (gap k))

-- track j, or the one of the rest (its place from 1; 0 for none) if that is closer
unfoldable pub against : (gap time : ℕ → ℕ) → ℕ → ℕ → ℕ
against gap time j zero = suc j
against gap time j (suc k) = cond (closer gap time j k) (suc j) (suc k)

-- of the tracks that are free the closest that fits: its place from 1; 0 for none
unfoldable pub best : (gap time : ℕ → ℕ) → List ℕ → ℕ
best gap time [] = 0
best gap time (j ∷ free) = cond (ltb 0 (gap j)) (against gap time j (best gap time free)) (best gap time free)

-- whether track k goes where track j is taken
abbrev pub goes_with : ℕ → ℕ → Bool
goes_with j k = eqb j k

unfoldable pub without : ℕ → List ℕ → List ℕ
without j [] = []
without j (k ∷ free) = cond (goes_with j k) (without j free) (k ∷ without j free)

-- what is free once the track of an answer is taken
unfoldable pub after : ℕ → List ℕ → List ℕ
after zero free = free
after (suc j) free = without j free

-- the answers once the movements take their tracks in turn; `gaps i` is the gap of each track from movement i
unfoldable pub couple : (gaps : ℕ → ℕ → ℕ) (time : ℕ → ℕ) (turns free answers : List ℕ) → List ℕ
couple gaps time [] free answers = answers
couple gaps time (i ∷ turns) free answers =
    couple gaps time turns (after (best (gaps i) time free) free) (set answers i (best (gaps i) time free))

-- the places from k on, n of them
unfoldable pub places_from : ℕ → ℕ → List ℕ
places_from k zero = []
places_from k (suc n) = k ∷ places_from (k + 1) n

abbrev pub places : ℕ → List ℕ
places n = places_from 0 n

-- the movements by date and time, oldest first, equal ones by their place
unfoldable pub turns_of : Flights → List ℕ
turns_of m = sorted (moment_of m) (places (many m))

-- a number a movement: the place of its track counted from 1, or 0 for none
unfoldable pub tracks_for : Movements → Flights → List ℕ
tracks_for m t =
    couple (gap m t) (moment_of t) (turns_of m.flights) (places (many t)) (replicate (many m.flights) 0)
