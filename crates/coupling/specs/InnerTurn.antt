-- Inner steps: no promise uses them. What a movement asks of a track, as the code hands it on. Assumes nothing.
use Rattle.std.specs.Prelude.{ℕ, ◌+◌, cond, Option, None, Some, slice_index}
use mathlib.Core.{Path.◌≡◌, List.List}
use Rattle.sorting.specs.Sorted.{key_of, sorted}
use Rattle.coupling_rules.specs.{Flights.Flights, Flights.many}
use Rattle.coupling_rules.specs.Rule.{couple, places, takes_none, window_of}
use Rattle.coupling_rules.specs.InnerPacked.{Packed, Packs, ranked, class_in, moment_in, packed_gap, gaps_in}
use Rattle.coupling.specs.declared.columns.{Packed.Packed as PackedColumns, Rank.Rank}
use Rattle.coupling.specs.declared.gap.Wanted.{Wanted}
use Rattle.coupling.specs.declared.pair.Asked.{Asked}
use Rattle.coupling.specs.declared.turn.Side.{Side}
use Rattle.coupling.specs.declared.turn.Side.TheVariants.{Passed, Coming}

abbrev pub packed_of : PackedColumns → Packed
packed_of p = record { highs = p.highs.now; lows = p.lows.now; moments = p.moments.now }

-- the packed numbers of flight j
abbrev pub rank_at : Packed → ℕ → Rank
rank_at p j = record { high = key_of p.highs j; low = key_of p.lows j; moment = key_of p.moments j }

abbrev pub class_of : Rank → ℕ
class_of r = ranked r.high r.low

-- class and moment as one number
abbrev pub rank_of : Rank → ℕ
rank_of r = ranked (class_of r) r.moment

-- 0 for none, else one more
abbrev pub from_one : Option ℕ → ℕ
from_one None = 0
from_one (Some n) = n + 1

-- 1 for the first of those passed, 2 for the first of those to come, 0 for neither
abbrev pub side_of : Option Side → ℕ
side_of None = 0
side_of (Some Passed) = 1
side_of (Some Coming) = 2

-- the gap of a track
abbrev pub gap_from : (tracks : Packed) → Wanted → ℕ → ℕ
gap_from t w = packed_gap (class_in t) (moment_in t) (class_of w.rank) w.rank.moment (from_one w.window)

-- the seconds that a track may be away, where the movement takes one
abbrev pub window_for : (class circuit : ℕ) → Option ℕ
window_for class circuit = cond (takes_none class circuit) None (Some (window_of class))

-- what movement i asks
abbrev pub wanted_of : (movements : Packed) (classes circuits : List ℕ) → ℕ → Wanted
wanted_of m classes circuits i =
    record { rank = rank_at m i; window = window_for (slice_index classes i) (slice_index circuits i) }

-- the gaps of tracks from movements
abbrev pub gaps_of : (tracks : Packed) → Asked → ℕ → ℕ → ℕ
gaps_of t m = gaps_in t (packed_of m.packed) m.classes.now m.circuits.now

-- what n movements take of tracks, whose packed columns these are
pub record Assigned (movements : Packed) (classes circuits : List ℕ) (n : ℕ) (t : Flights)
    (room room' : List ℕ) : Type 0
  where
    pub tracks : Packed
    pub packs : Packs t tracks
    pub answers : room' ≡ couple (gaps_in tracks movements classes circuits) (moment_in tracks)
        (sorted (moment_in movements) (places n)) (places (many t)) room
