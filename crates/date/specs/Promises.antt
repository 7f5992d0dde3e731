-- What a person may count on in dates, with the calendar's own numbers: a definition with another of them, or with
-- another rule, is stopped here. Assumes nothing.
use Rattle.std.specs.Prelude.{ℕ, ◌+◌, ◌*◌, ◌-◌, ◌%◌, ◌≤◌, ◌<◌, ◌≡◌, true, List, [], ◌∷◌, ◌↔◌, ◌⊎◌, get_or}
use Rattle.date.specs.Calendar.{date_exists, day_number}

-- 4 divides the year, and 100 doesn't or 400 does
abbrev pub LeapYear : ℕ → Type 0
LeapYear year = (year % 4 ≡ 0) × ((year % 100 ≡ 0 → ⊥) ⊎ (year % 400 ≡ 0))

-- the days of January to December where the year is no leap year
abbrev pub lengths : List ℕ
lengths = 31 ∷ 28 ∷ 31 ∷ 30 ∷ 31 ∷ 30 ∷ 31 ∷ 31 ∷ 30 ∷ 31 ∷ 30 ∷ 31 ∷ []

-- a month has that day: by look-up, or as 29 February of a leap year
abbrev pub HasDay : (year month day : ℕ) → Type 0
HasDay year month day = (day ≤ get_or lengths (month - 1) 0) ⊎ ((month ≡ 2) × (day ≡ 29) × LeapYear year)

-- a number that is a date of the calendar from 1900 to 9999
pub record OnCalendar (date : ℕ) : Type 0 where
  pub year : ℕ
  pub month : ℕ
  pub day : ℕ
  pub written : date ≡ year * 10000 + month * 100 + day
  pub years : (1900 ≤ year) × (year ≤ 9999)
  pub months : (1 ≤ month) × (month ≤ 12)
  pub days : (1 ≤ day) × HasDay year month day

-- the next date: it exists, it is later, no date that exists lies between, and its day number is one more
pub record Next (date next : ℕ) : Type 0 where
  pub exists : date_exists next ≡ true
  pub later : date < next
  pub none_between : (other : ℕ) → date_exists other ≡ true → date < other → next ≤ other
  pub one_more : day_number next ≡ day_number date + 1

pub record CalendarHolds : Type 0 where
  -- a date exists exactly if the calendar has it
  pub exactly : (date : ℕ) → date_exists date ≡ true ↔ OnCalendar date
  -- every date but 9999-12-31 has a next one
  pub following : (date : ℕ) → date_exists date ≡ true → (date ≡ 99991231 → ⊥)
      → (next : ℕ) × Next date next
  -- of two dates the lower has the lower day number, and no two have the same
  pub rising : (d e : ℕ) → date_exists d ≡ true → date_exists e ≡ true → d < e ↔ day_number d < day_number e
  pub same : (d e : ℕ) → date_exists d ≡ true → date_exists e ≡ true → d ≡ e ↔ day_number d ≡ day_number e
  -- seconds numbered through the calendar fit 64 bits: 4,000,000 days of 86,400 seconds are fewer than 2^39
  pub small : (d : ℕ) → date_exists d ≡ true → day_number d < 4000000
