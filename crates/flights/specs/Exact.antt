-- What is read, and with what number the rest is refused: RULES, "Radar tracks". Assumes nothing.
use Rattle.std.specs.Prelude.{◌≡◌, ℕ, true, false, ◌↔◌, List, [], ◌∷◌, replicate, ◌≢◌, slice_index}
use Rattle.date.specs.Calendar.{date_exists}
use Rattle.text.specs.Spelled.{bytes}
use Rattle.std.specs.Prelude.{Some}
use Rattle.flights.specs.Name.{name_of}
use Rattle.flights.specs.Row.{flight_of}
use Rattle.flights.specs.Header.{header_refusal}
use Rattle.flights.specs.Spelled.{Named, Spells}

-- A row is read exactly if it is spelled so and its date exists
pub record RowExactly (columns : ℕ) (row : List ℕ) : Type 0 where
  -- a row that is read spells what is read of it, and its date exists
  pub on : (flight_of columns row).refusal ≡ 0
      → Spells columns row (flight_of columns row).values
      × (date_exists (slice_index (flight_of columns row).values 1) ≡ true)
  -- one that spells values with a date that exists is read, and just these values
  pub only : (values : List ℕ) → Spells columns row values → date_exists (slice_index values 1) ≡ true
      → flight_of columns row ≡ record { refusal = 0; values = values }
  -- one that spells values with a date that doesn't exist is refused 18
  pub undated : (values : List ℕ) → Spells columns row values → date_exists (slice_index values 1) ≡ false
      → flight_of columns row ≡ record { refusal = 18; values = replicate 9 0 }
  -- and one that spells none is refused 16
  pub off : ((values : List ℕ) → Spells columns row values → ⊥)
      → flight_of columns row ≡ record { refusal = 16; values = replicate 9 0 }

-- A header is accepted exactly if it has these bytes, and any other line is refused 16
pub record HeadersAre : Type 0 where
  pub tracks : (line : List ℕ)
      → header_refusal 8 line ≡ 0 ↔ line ≡ bytes "track,date,time,class,kind,runway,airport,type"
  pub movements : (line : List ℕ)
      → header_refusal 9 line ≡ 0 ↔ line ≡ bytes "id,date,time,class,kind,runway,airport,type,circuit"
  pub other : (columns : ℕ) (line : List ℕ) → (header_refusal columns line ≢ 0)
      → header_refusal columns line ≡ 16
  -- of another number of columns there is none
  pub none : (columns : ℕ) (line : List ℕ) → (columns ≢ 8) → (columns ≢ 9)
      → header_refusal columns line ≡ 16

-- A name is read as its number, and two names of one number are one name
pub record NamesAre : Type 0 where
  pub read : (text : List ℕ) (number : ℕ) → name_of text ≡ Some number ↔ Named text number
  pub apart : (a b : List ℕ) (number : ℕ) → Named a number → Named b number → a ≡ b
  -- 0x4548424B and 0x3036
  pub airport : name_of (bytes "EHBK") ≡ Some 1162363467
  pub runway : name_of (bytes "06") ≡ Some 12342

-- The rows that the rules show, and dates that don't exist
pub record ShownRows : Type 0 where
  pub movement : flight_of 9 (bytes "17,2026-03-31,23:58:10,V,S,06,EHBK,B738,") ≡ record {
    refusal = 0;
    values = 17 ∷ 20260331 ∷ 86290 ∷ 0 ∷ 0 ∷ 12342 ∷ 1162363467 ∷ 1110913848 ∷ 0 ∷ [];
  }
  pub circuit : flight_of 9 (bytes "18,2026-04-01,00:00:00,H,L,06,EHBK,R44,C") ≡ record {
    refusal = 0;
    values = 18 ∷ 20260401 ∷ 0 ∷ 1 ∷ 1 ∷ 12342 ∷ 1162363467 ∷ 5387316 ∷ 1 ∷ [];
  }
  pub track : flight_of 8 (bytes "4,2026-04-01,00:01:00,V,S,06,EHBK,B738") ≡ record {
    refusal = 0;
    values = 4 ∷ 20260401 ∷ 60 ∷ 0 ∷ 0 ∷ 12342 ∷ 1162363467 ∷ 1110913848 ∷ 0 ∷ [];
  }
  pub february : (flight_of 8 (bytes "4,2026-02-30,00:01:00,V,S,06,EHBK,B738")).refusal ≡ 18
  pub nought : (flight_of 8 (bytes "4,0000-00-00,00:01:00,V,S,06,EHBK,B738")).refusal ≡ 18
