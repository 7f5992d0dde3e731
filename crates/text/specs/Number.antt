-- Numbers as text: whole ones, and numbers with decimals, which are read and written over the number of their decimals.
-- RULES, "Files and the report program". Assumes nothing.
use Rattle.std.specs.Prelude.{◌≡◌, ℕ, zero, suc, ◌+◌, ◌-◌, ◌*◌, ◌/◌, ◌%◌, ◌^◌, Bool, true, false, cond, not, ◌&&◌, ◌⊎◌}
use Rattle.std.specs.Prelude.{List, [], ◌∷◌, ◌++◌, length, take, drop, ◌==◌, nat_le, nat_lt, slice_index}
use Rattle.text.specs.Spelled.{byte}
use Rattle.std.specs.Prelude.{Option, Some, None}

-- what a field that is off its layout is refused with, 16 in register and limits text and 17 in network text, and the
-- value of one that is not
abbrev pub refusal_of : ℕ → Option ℕ → ℕ
refusal_of off (Some n) = 0
refusal_of off None = off

abbrev pub value_of : Option ℕ → ℕ
value_of (Some n) = n
value_of None = 0

abbrev pub is_got : Option ℕ → Bool
is_got (Some n) = true
is_got None = false

abbrev pub is_digit : ℕ → Bool
is_digit c = nat_le (byte "0") c && nat_le c (byte "9")

-- the number that a run of digits spells after `value`; off where a byte is no digit
unfoldable pub digits_of : ℕ → List ℕ → Option ℕ
digits_of value [] = Some value
digits_of value (c ∷ cs) = cond (is_digit c) (digits_of (value * 10 + (c - byte "0")) cs) None

-- ---- whole numbers

-- one to seven digits, with no needless leading zero
unfoldable pub whole_of : List ℕ → Option ℕ
whole_of s =
    cond (nat_le 1 (length s) && nat_le (length s) 7 && not (nat_lt 1 (length s) && slice_index s 0 == (byte "0")))
    (digits_of 0 s)
    None

-- a number under ten is its digit; any other the text of its tenth and then its last digit (`k` digits at most)
unfoldable pub shown : ℕ → ℕ → List ℕ
shown zero n = []
shown (suc k) n = cond (nat_lt n 10) ((byte "0" + n) ∷ []) (shown k (n / 10) ++ ((byte "0" + n % 10) ∷ []))

abbrev pub show_whole : ℕ → List ℕ
show_whole n = shown 7 n

-- any number of the report, which may be larger: a line's number has up to 20 digits
abbrev pub show_number : ℕ → List ℕ
show_number n = shown 20 n

-- ---- numbers with d decimals, counted in parts of which 10 to the d make one unit

-- no number of a file has more decimals
abbrev pub max_decimals : ℕ
max_decimals = 6

-- parts from the units and the decimals beside them
abbrev pub joined : ℕ → Option ℕ → Option ℕ → Option ℕ
joined d (Some units) (Some parts) = Some (units * 10 ^ d + parts)
joined d None parts = None
joined d (Some units) None = None

-- units before a point that stands at `point`, decimals after it
abbrev pub pointed : (d : ℕ) (s : List ℕ) (point : ℕ) → Option ℕ
pointed d s point =
    cond (slice_index s point == (byte "."))
    (joined d (whole_of (take point s)) (digits_of 0 (drop (point + 1) s)))
    None

-- one to three digits with no needless leading zero, a point, d digits
unfoldable pub decimal_of : (d : ℕ) (s : List ℕ) → Option ℕ
decimal_of d s = cond (nat_le (d + 2) (length s) && nat_le (length s) (d + 4)) (pointed d s (length s - (d + 1))) None

-- d digits of a number below 10 to the d
abbrev pub show_digits : (d n : ℕ) → List ℕ
show_digits zero n = []
show_digits (suc zero) n = (byte "0" + n) ∷ []
show_digits (suc (suc d)) n = (byte "0" + n / 10 ^ suc d) ∷ show_digits (suc d) (n % 10 ^ suc d)

-- the units, a point, d digits
abbrev pub show_decimal : (d n : ℕ) → List ℕ
show_decimal d n = show_whole (n / 10 ^ d) ++ (byte "." ∷ show_digits d (n % 10 ^ d))

-- a level has two decimals
abbrev pub level_of : List ℕ → Option ℕ
level_of s = decimal_of 2 s

abbrev pub show_level : ℕ → List ℕ
show_level n = show_decimal 2 n

-- ---- levels of a network, counted in thousandths

-- they are written with three decimals
abbrev pub show_thousandths : ℕ → List ℕ
show_thousandths n = show_decimal 3 n

-- hundredths as thousandths
abbrev pub tenfold : Option ℕ → Option ℕ
tenfold (Some n) = Some (n * 10)
tenfold None = None

-- the first, or the second where the first is off
abbrev pub or_else : Option ℕ → Option ℕ → Option ℕ
or_else (Some n) other = Some n
or_else None other = other

-- and read with three decimals or with two
unfoldable pub thousandths_of : List ℕ → Option ℕ
thousandths_of s = or_else (decimal_of 3 s) (tenfold (decimal_of 2 s))

-- so many thousandths, spelled with three decimals, or with two, behind which a zero is left out
abbrev pub InThousandths : List ℕ → ℕ → Type 0
InThousandths t n = (t ≡ show_thousandths n) ⊎ (t ++ (byte "0" ∷ []) ≡ show_thousandths n)
