-- Times of day as text, hh:mm:ss: RULES, "Files and the report program". Assumes nothing.
use Rattle.std.specs.Prelude.{ℕ, ◌+◌, ◌*◌, ◌/◌, ◌%◌, cond, ◌&&◌, List, ◌∷◌, ◌++◌, length, take, drop, ◌==◌, nat_lt}
use Rattle.std.specs.Prelude.{slice_index}
use Rattle.text.specs.Number.{digits_of, show_digits}
use Rattle.text.specs.Spelled.{byte}
use Rattle.std.specs.Prelude.{Option, Some, None}

-- a number under `bound`
abbrev pub under : ℕ → Option ℕ → Option ℕ
under bound None = None
under bound (Some n) = cond (nat_lt n bound) (Some n) None

-- two digits at a place, for a number under `bound`
unfoldable pub two_at : (s : List ℕ) (at bound : ℕ) → Option ℕ
two_at s at bound = under bound (digits_of 0 (take 2 (drop at s)))

-- a second of the day from its hour, minute and second
abbrev pub clock : Option ℕ → Option ℕ → Option ℕ → Option ℕ
clock None m s = None
clock (Some h) None s = None
clock (Some h) (Some m) None = None
clock (Some h) (Some m) (Some s) = Some (h * 3600 + m * 60 + s)

-- hh:mm:ss, up to 23:59:59
unfoldable pub time_of : List ℕ → Option ℕ
time_of s =
    cond (length s == 8 && slice_index s 2 == (byte ":") && slice_index s 5 == (byte ":"))
    (clock (two_at s 0 24) (two_at s 3 60) (two_at s 6 60))
    None

abbrev pub show_time : ℕ → List ℕ
show_time n =
    show_digits 2 (n / 3600) ++ (byte ":" ∷ show_digits 2 (n / 60 % 60)) ++ (byte ":" ∷ show_digits 2 (n % 60))
