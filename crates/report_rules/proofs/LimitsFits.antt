-- limits.csv that is accepted has 1 to 8 points, and limits that have a text. Assumes nothing.
use mathlib.Core.{Path.◌≡◌, Path.refl, Bool.◌&&◌, List.List, List.[]}
use Prim.Native.Nat.{ℕ, ◌+◌, ◌≤◌}
use native.Mathlib.Omega.{arith}
use lib.{Dec.leb, ListN.length, ListN.get_or}
use Rattle.refusal.specs.Range.{all_within}
use Rattle.refusal.proofs.Ranges.{within_at}
use Rattle.movement.specs.Limits.{max_days, max_limit}
use Rattle.text.specs.Line.{lines_of}
use Rattle.std.specs.Prelude.{Option, Some, None}
use Rattle.text.proofs.Digits.{either}
use Rattle.register.specs.{Cell.cells_of, Row.eight_from, Header.header_of, Header.limits_header}
use Rattle.register.specs.declared.cell.Table.TheVariants as table
use Rattle.register.specs.LimitsFile.{judged_limits, second_limits, headed_limits, limits_of}
use Rattle.register.proofs.Rows.{header_range}
use Rattle.report_text.specs.InnerRoom.{LimitsFit}

judged_fit : (n : ℕ) (v : List ℕ) → 1 ≤ n → n ≤ 8 → (judged_limits n v).refusal ≡ 0
    → LimitsFit (judged_limits n v)
unfolding judged_limits
judged_fit n v some few z =
    let days = leb 1 (get_or v 0 0) && leb (get_or v 0 0) max_days in
    let limits = all_within max_limit (eight_from 1 v) in
    either days
    (λ fit. either limits
    (λ low. rw (fit, low)
    (record { some = some; few = few; low = λ i. omega (arith, within_at max_limit (eight_from 1 v) i low) }))
    (λ high. absurd (omega (arith, rw (fit, high) at z))))
    (λ off. absurd (omega (arith, rw off at z)))

headed_fit : (r : Option ℕ) (second : List ℕ) (lines : ℕ) → ((n : ℕ) → r ≡ Some n → (1 ≤ n) × (n ≤ 8))
    → (headed_limits r second lines).refusal ≡ 0
    → LimitsFit (headed_limits r second lines)
unfolding second_limits
headed_fit None second lines fits z = absurd (omega arith)
headed_fit (Some n) second lines fits z =
    let read = (cells_of table.LimitsFile (1 + n) second).read in
    let range = fits n refl in
    either read
    (λ on. either (leb lines 2)
    (λ two. rw (on, two) (judged_fit n (cells_of table.LimitsFile (1 + n) second).values range.0 range.1
    (rw (on, two) at z)))
    (λ more. absurd (omega (arith, rw (on, more) at z))))
    (λ off. absurd (omega (arith, rw off at z)))

pub limits_fit_lem : (s : List ℕ) → (limits_of s).refusal ≡ 0 → LimitsFit (limits_of s)
unfolding limits_of
limits_fit_lem s z =
    let first = get_or (lines_of s) 0 [] in
    headed_fit (header_of limits_header 4 first) (get_or (lines_of s) 1 []) (length (lines_of s))
    (λ n e. let range = header_range limits_header 4 first n e in (range.0, range.1)) z
