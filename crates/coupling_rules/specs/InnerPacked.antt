-- Inner steps: no promise uses them. Class, kind, runway, airport and type designator of a flight as two numbers that
-- agree exactly if the five do, and the moment beside them. Assumes nothing.
use Rattle.std.specs.Prelude.{ℕ, ◌+◌, ◌*◌, ◌<◌, ◌≡◌, cond, List, eqb, ltb, get_or}
use Rattle.sorting.specs.Sorted.{key_of, sorted}
use Rattle.room.specs.Lent.{Lent, LentRoom}
use Rattle.std.specs.Borrow.{Bor}
use Rattle.coupling_rules.specs.Flights.{Flights, many}
use Rattle.coupling_rules.specs.Rule.{moment, distance, window_of, takes_none, places}

-- two numbers as one, the first the weightier
unfoldable pub ranked : (high low : ℕ) → ℕ
ranked high low = high * 18446744073709551616 + low

abbrev pub high_of : (airport type : ℕ) → ℕ
high_of airport type = airport * 4294967296 + type

abbrev pub low_of : (runway class kind : ℕ) → ℕ
low_of runway class kind = runway * 4 + class * 2 + kind

-- three packed columns of a list of flights
pub record Packed : Type 0 where
  pub highs : List ℕ
  pub lows : List ℕ
  pub moments : List ℕ

abbrev pub packed_now : (highs lows moments : Bor (List ℕ)) → Packed
packed_now hs ls ms = record { highs = hs.now; lows = ls.now; moments = ms.now }

abbrev pub packed_before : (highs lows moments : Lent) → Packed
packed_before hs ls ms = packed_now hs.entry ls.entry ms.entry

abbrev pub packed_after : (highs lows moments : LentRoom) → Packed
packed_after hs ls ms = record { highs = hs.exit.now; lows = ls.exit.now; moments = ms.exit.now }

abbrev pub class_in : Packed → ℕ → ℕ
class_in p j = ranked (key_of p.highs j) (key_of p.lows j)

abbrev pub moment_in : Packed → ℕ → ℕ
moment_in p j = key_of p.moments j

-- class and moment as one number
abbrev pub rank_in : Packed → ℕ → ℕ
rank_in p j = ranked (class_in p j) (moment_in p j)

-- the first n places by class and moment, equal ones by place
abbrev pub in_order : Packed → ℕ → List ℕ
in_order p n = sorted (key_of p.highs) (sorted (key_of p.lows) (sorted (key_of p.moments) (places n)))

-- a column holds what `f` says of the first n places
abbrev pub Filled : (f : ℕ → ℕ) (n : ℕ) (column : List ℕ) → Type 0
Filled f n column = (i : ℕ) → i < n → key_of column i ≡ f i

-- the columns are those of flights
pub record Packs (f : Flights) (p : Packed) : Type 0 where
  pub high : Filled (λ (i : ℕ). high_of (get_or f.airports i 0) (get_or f.types i 0)) (many f) p.highs
  pub low : Filled (λ (i : ℕ). low_of (get_or f.runways i 0) (get_or f.classes i 0) (get_or f.kinds i 0)) (many f)
      p.lows
  pub at : Filled (λ (i : ℕ). moment (get_or f.dates i 0) (get_or f.times i 0)) (many f) p.moments

-- one more than the seconds that a track may be away; 0 where the movement takes none
unfoldable pub reach_of : (class circuit : ℕ) → ℕ
reach_of class circuit = cond (takes_none class circuit) 0 (window_of class + 1)

-- 0 where a track of another class or out of reach doesn't fit, else one more than the seconds between
unfoldable pub gap_between : (class moment reach theirs at : ℕ) → ℕ
gap_between class moment reach theirs at =
    cond (eqb theirs class) (cond (ltb (distance moment at) reach) (distance moment at + 1) 0) 0

-- the gap of track j from a movement of that class, moment and reach
abbrev pub packed_gap : (classes moments : ℕ → ℕ) (class moment reach : ℕ) → ℕ → ℕ
packed_gap classes moments class moment reach j = gap_between class moment reach (classes j) (moments j)

-- the gap of track j from movement i
abbrev pub gaps_in : (tracks movements : Packed) (classes circuits : List ℕ) → ℕ → ℕ → ℕ
gaps_in t m classes circuits i =
    packed_gap (class_in t) (moment_in t) (class_in m i) (moment_in m i)
    (reach_of (get_or classes i 0) (get_or circuits i 0))
