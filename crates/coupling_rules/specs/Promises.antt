-- What a person may count on in the tracks that movements take, by look-up in the columns and in the answer: RULES,
-- "Radar tracks". Assumes nothing.
use Rattle.std.specs.Prelude.{ℕ, suc, ◌+◌, ◌*◌, ◌≤◌, ◌<◌, ◌≡◌, ◌⊎◌, List, length, get_or}
use Rattle.date.specs.Calendar.{day_number}
use Rattle.coupling_rules.specs.Flights.{Flights, Movements}

-- the second of flight i, over midnight by its date
abbrev pub second_of : Flights → ℕ → ℕ
second_of f i = day_number (get_or f.dates i 0) * 86400 + get_or f.times i 0

-- flight i comes before flight k: by date, then by time, then by place
pub data Sooner (f : Flights) (i k : ℕ) : Type 0 where
  date : get_or f.dates i 0 < get_or f.dates k 0 → Sooner f i k
  time : get_or f.dates i 0 ≡ get_or f.dates k 0 → get_or f.times i 0 < get_or f.times k 0 → Sooner f i k
  place : get_or f.dates i 0 ≡ get_or f.dates k 0 → get_or f.times i 0 ≡ get_or f.times k 0 → i < k
      → Sooner f i k

-- movement i and track j are alike
pub record Alike (m : Flights) (i : ℕ) (t : Flights) (j : ℕ) : Type 0 where
  pub class : get_or m.classes i 0 ≡ get_or t.classes j 0
  pub kind : get_or m.kinds i 0 ≡ get_or t.kinds j 0
  pub runway : get_or m.runways i 0 ≡ get_or t.runways j 0
  pub airport : get_or m.airports i 0 ≡ get_or t.airports j 0
  pub type : get_or m.types i 0 ≡ get_or t.types j 0

-- two seconds lie no more than so many apart
abbrev pub Within : (window a b : ℕ) → Type 0
Within window a b = (a ≤ b + window) × (b ≤ a + window)

-- within 5 minutes for an aeroplane, 10 for a helicopter
pub record InWindow (m : Flights) (i : ℕ) (t : Flights) (j : ℕ) : Type 0 where
  pub aeroplane : get_or m.classes i 0 ≡ 0 → Within 300 (second_of m i) (second_of t j)
  pub helicopter : get_or m.classes i 0 ≡ 1 → Within 600 (second_of m i) (second_of t j)

-- two seconds lie so many apart
abbrev pub Apart : (a b seconds : ℕ) → Type 0
Apart a b seconds = (a ≡ b + seconds) ⊎ (b ≡ a + seconds)

-- for movement i track j goes before track k: nearer in time, or as near and earlier, or as near and as early and of a
-- lower place
pub data Rather (m t : Flights) (i j k : ℕ) : Type 0 where
  nearer : (d e : ℕ) → Apart (second_of m i) (second_of t j) d → Apart (second_of m i) (second_of t k) e → d < e
      → Rather m t i j k
  earlier : (d : ℕ) → Apart (second_of m i) (second_of t j) d → Apart (second_of m i) (second_of t k) d
      → second_of t j < second_of t k → Rather m t i j k
  lower : second_of t j ≡ second_of t k → j < k → Rather m t i j k

-- no movement before i has taken track j
abbrev pub FreeFor : (m : Movements) (answer : List ℕ) (i j : ℕ) → Type 0
FreeFor m answer i j =
    (h : ℕ) → h < length m.flights.dates → Sooner m.flights h i → get_or answer h 0 ≡ suc j → ⊥

-- movement i may take track j
pub record MayTake (m : Movements) (t : Flights) (i j : ℕ) : Type 0 where
  pub there : j < length t.dates
  pub alike : Alike m.flights i t j
  pub window : InWindow m.flights i t j

-- The answer to movements and tracks that are not refused
pub record Coupled (m : Movements) (t : Flights) (answer : List ℕ) : Type 0 where
  -- one number a movement
  pub each : length answer ≡ length m.flights.dates
  -- no track is taken twice
  pub once : (h i j : ℕ) → h < length m.flights.dates → i < length m.flights.dates
      → get_or answer h 0 ≡ suc j → get_or answer i 0 ≡ suc j → h ≡ i
  -- a movement and its track agree and lie within the window, and the track was free at the movement's turn
  pub agrees : (i j : ℕ) → i < length m.flights.dates → get_or answer i 0 ≡ suc j
      → MayTake m t i j × FreeFor m answer i j
  -- no other track that was free then and may be taken goes before it
  pub nearest : (i j k : ℕ) → i < length m.flights.dates → get_or answer i 0 ≡ suc j → (k ≡ j → ⊥)
      → MayTake m t i k → FreeFor m answer i k → Rather m.flights t i j k
  -- an aeroplane's circuit has none
  pub circuit : (i : ℕ) → i < length m.flights.dates → get_or m.flights.classes i 0 ≡ 0
      → (get_or m.circuits i 0 ≡ 0 → ⊥) → get_or answer i 0 ≡ 0
  -- any other movement without a track, a helicopter's circuit too, found none free at its turn
  pub none : (i k : ℕ) → i < length m.flights.dates → get_or answer i 0 ≡ 0
      → (get_or m.flights.classes i 0 ≡ 1) ⊎ (get_or m.circuits i 0 ≡ 0)
      → MayTake m t i k → FreeFor m answer i k → ⊥
