-- A date as text: four digits, two and two, parted by hyphens, as 2026-03-31. Whether it exists is another matter.
-- Assumes nothing.
use Rattle.std.specs.Prelude.{ℕ, ◌+◌, ◌*◌, ◌/◌, ◌%◌, cond, ◌&&◌, List, ◌∷◌, ◌++◌, length, take, drop, ◌==◌, slice_index}
use Rattle.text.specs.Number.{digits_of, show_digits}
use Rattle.text.specs.Spelled.{byte}
use Rattle.std.specs.Prelude.{Option, Some, None}

-- so many digits at a place
abbrev pub digits_at : (s : List ℕ) (at count : ℕ) → Option ℕ
digits_at s at count = digits_of 0 (take count (drop at s))

-- a date from its year, month and day
abbrev pub dated : Option ℕ → Option ℕ → Option ℕ → Option ℕ
dated None m d = None
dated (Some y) None d = None
dated (Some y) (Some m) None = None
dated (Some y) (Some m) (Some d) = Some (y * 10000 + m * 100 + d)

unfoldable pub date_of : List ℕ → Option ℕ
date_of s =
    cond (length s == 10 && slice_index s 4 == (byte "-") && slice_index s 7 == (byte "-"))
    (dated (digits_at s 0 4) (digits_at s 5 2) (digits_at s 8 2))
    None

abbrev pub show_date : ℕ → List ℕ
show_date n =
    show_digits 4 (n / 10000) ++ (byte "-" ∷ show_digits 2 (n / 100 % 100)) ++ (byte "-" ∷ show_digits 2 (n % 100))
