-- Lists that a caller lends, at entry and at exit of a call: to be read, behind a `&`, or to be written, behind a
-- `&mut`. Assumes nothing.
use Rattle.std.specs.Prelude.{ℕ, List}
use Rattle.std.specs.Borrow.{Bor, MutBor}
use denote.Triple.Both.{Both}

abbrev pub Lent : Type 0
Lent = Both (Bor (List ℕ)) (Bor (List ℕ))

abbrev pub LentRoom : Type 0
LentRoom = Both (MutBor (List ℕ)) (MutBor (List ℕ))
