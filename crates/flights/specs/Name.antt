-- A runway, an airport or a type designator as text: one to four capital letters or digits. It is one number, its bytes
-- with the most significant first: `EHBK` is 69·256³ + 72·256² + 66·256 + 75. Assumes nothing.
use Rattle.std.specs.Prelude.{ℕ, ◌+◌, ◌*◌, Bool, cond, ◌&&◌, ◌||◌, List, [], ◌∷◌, length, nat_le}
use Rattle.text.specs.Number.{is_digit}
use Rattle.text.specs.Spelled.{byte}
use Rattle.std.specs.Prelude.{Option, Some, None}

abbrev pub is_capital : ℕ → Bool
is_capital c = nat_le (byte "A") c && nat_le c (byte "Z")

unfoldable pub in_name : ℕ → Bool
in_name c = is_digit c || is_capital c

-- the number of the bytes after `value`; off where one may not stand in a name
unfoldable pub code_of : ℕ → List ℕ → Option ℕ
code_of value [] = Some value
code_of value (c ∷ cs) = cond (in_name c) (code_of (value * 256 + c) cs) None

unfoldable pub name_of : List ℕ → Option ℕ
name_of s = cond (nat_le 1 (length s) && nat_le (length s) 4) (code_of 0 s) None
