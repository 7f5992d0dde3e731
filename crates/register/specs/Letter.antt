-- The letters of a register's types and kinds. Assumes nothing.
use Rattle.std.specs.Prelude.{ℕ, List}
use Rattle.text.specs.Spelled.{bytes}

-- types G, K, H are 0 large, 1 small, 2 helicopter; kinds S, L are 0 start, 1 landing
abbrev pub type_letters : List ℕ
type_letters = bytes "GKH"

abbrev pub kind_letters : List ℕ
kind_letters = bytes "SL"
