-- Texts and bytes spelled as such. Every text of ours has plain characters, of one byte each. Assumes nothing.
use Rattle.std.specs.Prelude.{ℕ, List, [], ◌∷◌}
use Prim.Native.Char.{Char, code}
use Prim.Native.String as string
use Prim.Native.String.{String}

abbrev pub bytes : String → List ℕ
bytes string.[] = []
bytes (string.◌∷◌ c s) = code c ∷ bytes s

-- the byte of a character
abbrev pub byte : Char → ℕ
byte c = code c

-- the end of a line
abbrev pub crlf : List ℕ
crlf = bytes "\r\n"
