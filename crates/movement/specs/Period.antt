-- The period of the day and its weight: RULES, "Movements and the book" and "Energy and load".
-- Assumes nothing.
use Rattle.std.specs.Prelude.{ℕ, cond, ◌==◌, nat_lt}
use Rattle.movement.specs.declared.period.Period.{Period}
use Rattle.movement.specs.declared.period.Period.TheVariants.{Day, Evening, Night}

-- 07:00:00, 19:00:00 and 23:00:00, as seconds of the local day
abbrev pub day_from : ℕ
day_from = 25200

abbrev pub evening_from : ℕ
evening_from = 68400

abbrev pub night_from : ℕ
night_from = 82800

-- day from 07:00:00 to before 19:00:00, evening to before 23:00:00, night otherwise
abbrev pub period_of : ℕ → Period
period_of s = cond (nat_lt s day_from) Night
    (cond (nat_lt s evening_from) Day (cond (nat_lt s night_from) Evening Night))

-- the rules' number of a period
abbrev pub period_number : Period → ℕ
period_number Day = 0
period_number Evening = 1
period_number Night = 2

-- the period of a number up to 2
abbrev pub period_numbered : ℕ → Period
period_numbered n = cond (n == 0) Day (cond (n == 1) Evening Night)

-- the weights 1, √10 and 10, as hundredths of a dB that are added to a level
abbrev pub weight_of : Period → ℕ
weight_of Day = 0
weight_of Evening = 500
weight_of Night = 1000
