-- A movement's reach as the code finds it. Assumes nothing.
use mathlib.Core.{Path.◌≡◌, Path.refl, Bool.Bool, Bool.true, Bool.false, Bool.cond}
use Rattle.std.specs.Prelude.{ℕ, None, Some, ◌+◌}
use Rattle.coupling_rules.specs.{Rule.takes_none, Rule.window_of, InnerPacked.reach_of}
use Rattle.coupling.specs.InnerTurn.{from_one, window_for}

reach_by : (n : ℕ) (none : Bool) → from_one (cond none None (Some n)) ≡ cond none 0 (n + 1)
reach_by n true = refl
reach_by n false = refl

-- one more than the seconds that a track may be away; 0 where a movement takes none
pub reaches : (class circuit : ℕ) → from_one (window_for class circuit) ≡ reach_of class circuit
unfolding reach_of
reaches class circuit = reach_by (window_of class) (takes_none class circuit)
