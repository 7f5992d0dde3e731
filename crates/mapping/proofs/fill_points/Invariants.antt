-- `mapping::fill_points` meets its contract. Assumes nothing.
use Rattle.std.specs.Prelude.{◌≡◌}
use lib.{ListN.length, ListN.take}
use Rattle.room.specs.Room.{front}
use Rattle.mapping.specs.{Many.numbers_of, Many.places_of}
use Rattle.mapping.proofs.fill_points.Given as goal

abbrev pub invariant-loop-i : goal.invariant-loop-i
invariant-loop-i l =
    (length l.which ≡ length l.initial.which) × ((length l.places ≡ length l.initial.places)
    × ((l.which ≡ front (numbers_of l.levels l.frame l.v (take l.i l.edges)) l.initial.which)
    × (l.places ≡ front (places_of l.levels l.frame l.v (take l.i l.edges)) l.initial.places)))
