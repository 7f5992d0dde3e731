-- How a row of tracks.csv or of the movements is spelled, column by column and letter by letter: RULES, "Radar tracks".
-- Assumes nothing.
use Rattle.std.specs.Prelude.{◌≡◌, ℕ, ◌+◌, ◌*◌, ◌/◌, ◌%◌, ◌<◌, ◌≤◌, ◌⊎◌, List, [], ◌∷◌, ◌++◌, length}
use Rattle.std.specs.Prelude.{slice_index, slice_index_or}
use Rattle.text.specs.Line.{bare_line}
use Rattle.text.specs.Field.{count_of, field_of}
use Rattle.text.specs.Number.{show_whole, show_digits}
use Rattle.text.specs.Spelled.{bytes}

-- a digit or a capital letter
abbrev pub NameByte : ℕ → Type 0
NameByte c = ((48 ≤ c) × (c ≤ 57)) ⊎ ((65 ≤ c) × (c ≤ 90))

-- one to four of them, and their number, the first of them the most significant
pub data Named (text : List ℕ) (number : ℕ) : Type 0 where
  one : (a : ℕ) → NameByte a → text ≡ a ∷ [] → number ≡ a → Named text number
  two : (a b : ℕ) → NameByte a → NameByte b → text ≡ a ∷ b ∷ [] → number ≡ 256 * a + b
      → Named text number
  three : (a b c : ℕ) → NameByte a → NameByte b → NameByte c → text ≡ a ∷ b ∷ c ∷ []
      → number ≡ 65536 * a + 256 * b + c → Named text number
  four : (a b c d : ℕ) → NameByte a → NameByte b → NameByte c → NameByte d
      → text ≡ a ∷ b ∷ c ∷ d ∷ [] → number ≡ 16777216 * a + 65536 * b + 256 * c + d
      → Named text number

-- C for a circuit, and nothing for any other movement
pub data Circuit (text : List ℕ) (mark : ℕ) : Type 0 where
  blank : text ≡ [] → mark ≡ 0 → Circuit text mark
  marked : text ≡ bytes "C" → mark ≡ 1 → Circuit text mark

-- the last digit of a number
abbrev pub digit : ℕ → ℕ
digit n = 48 + n % 10

-- column k of a row, counted from 0, between its commas
abbrev pub column : List ℕ → ℕ → List ℕ
column row k = field_of 44 k (bare_line row)

-- a row of 8 or 9 columns that spells these values; a track's circuit is 0
pub record Spells (columns : ℕ) (row values : List ℕ) : Type 0 where
  pub layout : (columns ≡ 8) ⊎ (columns ≡ 9)
  pub commas : count_of 44 (bare_line row) + 1 ≡ columns
  pub each : length values ≡ 9
  -- up to seven digits, and no needless zero in front
  pub number : column row 0 ≡ show_whole (slice_index values 0)
  pub number< : slice_index_or values 0 0 < 10000000
  -- the eight digits of the date, with a hyphen behind its year and one behind its month
  pub date : let d = slice_index_or values 1 0 in
      column row 1
      ≡ digit (d / 10000000) ∷ digit (d / 1000000) ∷ digit (d / 100000) ∷ digit (d / 10000) ∷ 45
      ∷ digit (d / 1000) ∷ digit (d / 100) ∷ 45 ∷ digit (d / 10) ∷ digit d ∷ []
  pub date< : slice_index_or values 1 0 < 100000000
  -- hours, minutes and seconds in two digits, colons between them
  pub time : column row 2
      ≡ show_digits 2 (slice_index values 2 / 3600) ++ (58 ∷ show_digits 2 (slice_index values 2 / 60 % 60))
      ++ (58 ∷ show_digits 2 (slice_index values 2 % 60))
  pub time< : slice_index_or values 2 0 < 86400
  -- classes are V, H; kinds S, L
  pub class : column row 3 ≡ slice_index (bytes "VH") (slice_index values 3) ∷ []
  pub class< : slice_index_or values 3 0 < 2
  pub kind : column row 4 ≡ slice_index (bytes "SL") (slice_index values 4) ∷ []
  pub kind< : slice_index_or values 4 0 < 2
  pub runway : Named (column row 5) (slice_index values 5)
  pub airport : Named (column row 6) (slice_index values 6)
  pub type : Named (column row 7) (slice_index values 7)
  pub circuit : columns ≡ 9 → Circuit (column row 8) (slice_index values 8)
  pub track : columns ≡ 8 → slice_index values 8 ≡ 0
