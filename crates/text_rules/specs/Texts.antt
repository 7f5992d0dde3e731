-- What the lines and the fields of a text are, and how a number is spelled, said of the bytes themselves: RULES,
-- "Files and the report program". Each says all that a definition can mean. Assumes nothing.
use Rattle.std.specs.Prelude.{ℕ, suc, ◌+◌, ◌-◌, ◌/◌, ◌%◌, ◌^◌, ◌≤◌, ◌<◌, ◌≡◌, ◌↔◌, ◌⊎◌, List, [], ◌∷◌, ◌++◌, length}
use Rattle.std.specs.Prelude.{get_or}
use Rattle.text.specs.Line.{lines_of, bare_line}
use Rattle.text.specs.Field.{count_of, field_of}
use Rattle.text.specs.Number.{whole_of, level_of, thousandths_of, show_whole, show_number, show_digits, show_level}
use Rattle.text.specs.Number.{show_thousandths, InThousandths}
use Rattle.std.specs.Prelude.{Some}

-- Lines

-- no CR, 13, with an LF, 10, behind it stands in these bytes
abbrev pub Unbroken : List ℕ → Type 0
Unbroken s = (i : ℕ) → (get_or s i 0 ≡ 13) × (get_or s (suc i) 0 ≡ 10) → ⊥

-- a CRLF ends a line and nothing else does; the last one may be missing; a text of no bytes has no line
pub record LinesAre : Type 0 where
  pub none : lines_of [] ≡ []
  pub ended : (line rest : List ℕ) → Unbroken line
      → lines_of (line ++ (13 ∷ 10 ∷ rest)) ≡ line ∷ lines_of rest
  pub last : (line : List ℕ) → Unbroken line → 1 ≤ length line → lines_of line ≡ line ∷ []

-- bytes that end in CR and LF
pub record EndsInCrlf (s : List ℕ) : Type 0 where
  pub before : List ℕ
  pub is : s ≡ before ++ (13 ∷ 10 ∷ [])

-- of one line that may have its end with it only a CRLF goes, and one only; every other byte is the line's
pub record BareIs : Type 0 where
  pub ended : (line : List ℕ) → bare_line (line ++ (13 ∷ 10 ∷ [])) ≡ line
  pub plain : (line : List ℕ) → (EndsInCrlf line → ⊥) → bare_line line ≡ line

-- Fields

-- the byte d doesn't stand in these bytes
abbrev pub Without : ℕ → List ℕ → Type 0
Without d s = (i : ℕ) → i < length s → get_or s i 0 ≡ d → ⊥

-- the byte d parts the fields of a line, and nothing else does; they are counted from 0
pub record FieldsAre (d : ℕ) : Type 0 where
  pub first : (field rest : List ℕ) → Without d field → field_of d 0 (field ++ (d ∷ rest)) ≡ field
  pub later : (field rest : List ℕ) → Without d field → (k : ℕ)
      → field_of d (suc k) (field ++ (d ∷ rest)) ≡ field_of d k rest
  pub only : (field : List ℕ) → Without d field → field_of d 0 field ≡ field
  pub more : (field rest : List ℕ) → Without d field → count_of d (field ++ (d ∷ rest)) ≡ 1 + count_of d rest
  pub one : (field : List ℕ) → Without d field → count_of d field ≡ 0

-- Numbers

-- a number in its digits, 48 to 57, the units last, and no needless zero in front
pub record InDigits (n : ℕ) (s : List ℕ) : Type 0 where
  pub some : 1 ≤ length s
  pub digit : (i : ℕ) → i < length s → get_or s i 0 ≡ 48 + n / 10 ^ (length s - suc i) % 10
  pub all : n < 10 ^ length s
  pub needed : 1 < length s → 10 ^ (length s - 1) ≤ n

pub record NumbersAre : Type 0 where
  -- any number of the report, and a whole number of a file
  pub number : (n : ℕ) → n < 10 ^ 20 → InDigits n (show_number n)
  pub whole : (n : ℕ) → n < 10 ^ 7 → InDigits n (show_whole n)
  -- two digits
  pub two : (n : ℕ) → n < 100 → show_digits 2 n ≡ (48 + n / 10) ∷ ((48 + n % 10) ∷ [])
  -- a level: the whole dB, a point, 46, tenths and hundredths
  pub level : (n : ℕ)
      → show_level n ≡ show_whole (n / 100) ++ (46 ∷ ((48 + n / 10 % 10) ∷ ((48 + n % 10) ∷ [])))
  -- a level of a network: the whole dB, a point, tenths, hundredths and thousandths
  pub thousandths : (n : ℕ) → show_thousandths n
      ≡ show_whole (n / 1000) ++ (46 ∷ ((48 + n / 100 % 10) ∷ ((48 + n / 10 % 10) ∷ ((48 + n % 10) ∷ []))))
  -- a text is read as a number exactly if it is how the number is spelled: up to seven digits, up to 999.99
  pub whole_read_rule : (s : List ℕ) (n : ℕ) → whole_of s ≡ Some n ↔ (n < 10 ^ 7) × (s ≡ show_whole n)
  pub level_read : (s : List ℕ) (n : ℕ) → level_of s ≡ Some n ↔ (n < 100000) × (s ≡ show_level n)
  -- a level of a network with three decimals, or with two, where the third would be a zero, 48: up to 999.999
  pub thousandths_read : (s : List ℕ) (n : ℕ)
      → thousandths_of s ≡ Some n ↔ (n < 1000000) × ((s ≡ show_thousandths n) ⊎ (s ++ (48 ∷ []) ≡ show_thousandths n))
  -- and that is what promises about networks and contours call spelled in thousandths
  pub in_thousandths : (s : List ℕ) (n : ℕ)
      → InThousandths s n ↔ ((s ≡ show_thousandths n) ⊎ (s ++ (48 ∷ []) ≡ show_thousandths n))
