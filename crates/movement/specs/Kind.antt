-- The kind of a movement: RULES, "Movements and the book".
-- Assumes nothing.
use Rattle.std.specs.Prelude.{ℕ, cond, ◌==◌}
use Rattle.movement.specs.declared.kind.Kind.{Kind}
use Rattle.movement.specs.declared.kind.Kind.TheVariants.{Start, Landing}

-- the rules' number of a kind
abbrev pub kind_number : Kind → ℕ
kind_number Start = 0
kind_number Landing = 1

-- the kind of a number up to 1
abbrev pub kind_numbered : ℕ → Kind
kind_numbered n = cond (n == 0) Start Landing
