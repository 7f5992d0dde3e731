-- `register::limits_csv::read_limits` meets its contract: the first line, and what follows its CRLF. Assumes nothing.
use Rattle.std.specs.Prelude.{ℕ, List, ◌+◌, ◌≤◌}
use mathlib.Core.{Path.◌≡◌, Path.sym, Path.ap, Path.◌∙◌, List.[]}
use native.Mathlib.Omega.{arith}
use lib.{ListN.length, ListN.take, ListN.drop, ListN.get_or, Seq.length-take-le}
use Rattle.text.specs.Line.{first_line, lines_of}
use Rattle.std.specs.Prelude.{Some}
use Rattle.text.proofs.Lines.{line_take, line_length, line_none, lines_first_lem, lines_next, lines_rest}
use Rattle.register.specs.{Header.header_of, Header.limits_header, LimitsFile.limits_of, LimitsFile.second_limits}
use Rattle.register.specs.declared.cell.Table.TheVariants.{LimitsFile}
use Rattle.register.proofs.Rows.{header_range, cells_empty}
use Rattle.register.proofs.limits_csv.read_limits.Goals as goal
use Rattle.register.proofs.limits_csv.read_limits.Goals.{After-limits_points, After-line_end-end, In-Some}

-- where the first line ends
end : (c : After-line_end-end) → c.line_end-end.result ≡ length (first_line c.args.s.now)
end c = omega (arith, c.line_end-end.ensures)

within : (c : After-line_end-end) → c.line_end-end.result ≤ length c.args.s.now
within c = omega (arith, end c, line_length c.args.s.now)

-- the header up to there is the first line's
read : (s : List ℕ) (n : ℕ) → n ≡ length (first_line s)
    → header_of limits_header 4 (take n s) ≡ header_of limits_header 4 (get_or (lines_of s) 0 [])
read s n e = ap (header_of limits_header 4) (ap (λ k. take k s) e ∙ line_take s ∙ sym (lines_first_lem s))

-- its points are those of the first line's header
points : (c : After-limits_points)
    → c.limits_points.result ≡ header_of limits_header 4
    (get_or (lines_of c.args.s.now) 0 [])
points c =
    let s = c.args.s.now in
    c.limits_points.ensures
    ∙ read s c.line_end-end.result (omega (arith, c.line_end-end.ensures))

pub returns-in_default : goal.returns-in_default
unfolding limits_of
returns-in_default c =
    rw (sym (points (goal.at.returns-in_default c).After-limits_points) ∙ c.in_default.is)

-- the header was read, so there is a line
headed : (c : In-Some)
    → let s = c.args.s.now in
    header_of limits_header 4 (get_or (lines_of s) 0 []) ≡ Some c.in-Some.points
headed c =
    sym (c.limits_points.ensures ∙ read c.args.s.now c.line_end-end.result (omega (arith, c.line_end-end.ensures)))
    ∙ c.in-Some.is

range : (c : In-Some)
    → let s = c.args.s.now in
    (1 ≤ c.in-Some.points) × (c.in-Some.points ≤ 8) × (1 ≤ length s)
range c =
    let s = c.args.s.now in
    let r = header_range limits_header 4 (get_or (lines_of s) 0 []) c.in-Some.points (headed c) in
    (r.0, r.1, omega (arith, r.2, ap length (lines_first_lem s), line_length s))

-- the second line, and how many there are
second : (c : In-Some)
    → let s = c.args.s.now in
    (get_or (lines_of s) 1 [] ≡ first_line (drop (c.line_end-end.result + 2) s))
    × (length (lines_of s) ≡ 1 + length
    (lines_of (drop (c.line_end-end.result + 2) s)))
second c =
    let s = c.args.s.now in
    let some = (range c).2 in
    let e : c.line_end-end.result ≡ length (first_line s) = omega (arith, c.line_end-end.ensures) in
    rw e (lines_next s 0 some ∙ lines_first_lem (drop (length (first_line s) + 2) s), lines_rest s some)

pub returns-then-s-end-lt2 : goal.returns-then-s-end-lt2
unfolding limits_of second_limits
returns-then-s-end-lt2 c =
    let s = c.args.s.now in
    let n = c.in-Some.points in
    let empty : first_line (drop (c.line_end-end.result + 2) s) ≡ [] =
    line_none s (c.line_end-end.result + 2)
    (omega (arith, c.if-s-end-lt2.true, within (goal.at.returns-then-s-end-lt2 c).After-line_end-end)) in
    rw (
      headed (goal.at.returns-then-s-end-lt2 c).In-Some,
      (second (goal.at.returns-then-s-end-lt2 c).In-Some).0
          ∙ empty,
      cells_empty LimitsFile (1 + n) (omega (arith, (range (goal.at.returns-then-s-end-lt2 c).In-Some).0)),
    )

pub second_limits-requires : goal.second_limits-requires
second_limits-requires c = (
  omega (arith, c.if-s-end-lt2.false, within (goal.at.second_limits-requires c).After-line_end-end),
  (range (goal.at.second_limits-requires c).In-Some).0,
  (range (goal.at.second_limits-requires c).In-Some).1,
)

pub returns : goal.returns
unfolding limits_of
returns c =
    let m = second (goal.at.returns c).In-Some in
    c.second_limits.ensures ∙ rw (headed (goal.at.returns c).In-Some, m.0, m.1)

pub slice_bounds-limits_points-end : goal.slice_bounds-limits_points-end
slice_bounds-limits_points-end c = sym (length-take-le _ _ (within c))

pub overflow_sub-s : goal.overflow_sub-s
overflow_sub-s c = within (goal.at.overflow_sub-s c).After-line_end-end
