-- The lines of a text. Only CRLF ends a line: a bare one of the two is a byte of its line. The last CRLF may be
-- missing, and a text of no bytes has no line. Assumes nothing.
use Rattle.std.specs.Prelude.{ℕ, ◌+◌, ◌-◌, Bool, cond, ◌&&◌, List, [], ◌∷◌, length, take, ◌==◌, nat_le, slice_index}
use Rattle.text.specs.Spelled.{byte}

-- the two bytes are a CRLF
abbrev pub is_end : ℕ → ℕ → Bool
is_end c d = c == (byte "\r") && d == (byte "\n")

-- a CRLF stands at a place
abbrev pub end_at : List ℕ → ℕ → Bool
end_at s at = is_end (slice_index s at) (slice_index s (at + 1))

-- the text up to its first CRLF
unfoldable pub first_line : List ℕ → List ℕ
first_line [] = []
first_line (c ∷ s) = cond (is_end c (slice_index s 0)) [] (c ∷ first_line s)

-- a byte before the first of some lines
abbrev pub onto : ℕ → List (List ℕ) → List (List ℕ)
onto c [] = (c ∷ []) ∷ []
onto c (l ∷ ls) = (c ∷ l) ∷ ls

-- all lines, without their ends
unfoldable pub lines_of : List ℕ → List (List ℕ)
lines_of [] = []
lines_of (c ∷ []) = (c ∷ []) ∷ []
lines_of (c ∷ d ∷ s) = cond (is_end c d) ([] ∷ lines_of s) (onto c (lines_of (d ∷ s)))

-- one line without its CRLF, which may be missing
unfoldable pub bare_line : List ℕ → List ℕ
bare_line s = cond (nat_le 2 (length s) && end_at s (length s - 2)) (take (length s - 2) s) s
