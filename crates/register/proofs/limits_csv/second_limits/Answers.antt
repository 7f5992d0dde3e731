-- `register::limits_csv::second_limits` meets its contract. Assumes nothing.
use Rattle.std.specs.Prelude.{◌+◌, ◌-◌, ◌≤◌}
use mathlib.Core.{Path.◌≡◌, Path.sym, Path.ap, Path.◌∙◌, Bool.cond}
use native.Mathlib.Omega.{arith}
use borrow.Author.{Tests.le-leb, Tests.lt-leb}
use lib.{Dec.leb, ListN.length, ListN.take, ListN.drop, ListN.length-drop}
use Rattle.text.specs.Line.{first_line, lines_of}
use Rattle.text.proofs.Lines.{line_take, line_length, lines-one}
use Rattle.register.specs.{Cell.cells_of, InnerCell.cells_told}
use Rattle.register.specs.LimitsFile.{judged_limits, refused_limits, second_limits}
use Rattle.register.specs.declared.cell.Table.TheVariants.{LimitsFile}
use Rattle.register.proofs.limits_csv.second_limits.Goals as goal
use Rattle.register.proofs.limits_csv.second_limits.Goals.{After-line_end-end, After-read_cells, In-Some}

-- the line ends within the text
within : (c : After-line_end-end) → c.line_end-end.result ≤ length c.args.s.now
within c =
    let a = c.args in
    omega (
      arith,
      line_length (drop a.start a.s.now),
      length-drop a.start a.s.now,
      c.line_end-end.ensures,
      c.requires.0,
    )

-- the cells are those of the second line
second : (c : After-read_cells) → let a = c.args in
    cells_told c.read_cells.result ≡ cells_of LimitsFile (1 + a.points) (first_line (drop a.start a.s.now))
second c =
    let a = c.args in
    let t = drop a.start a.s.now in
    let n : c.line_end-end.result - a.start ≡ length (first_line t) = omega (arith, c.line_end-end.ensures) in
    c.read_cells.ensures ∙ ap (cells_of LimitsFile (1 + a.points)) (ap (λ k. take k t) n ∙ line_take t)

pub returns-in_default : goal.returns-in_default
unfolding second_limits
returns-in_default c =
    let off = ap cells_told (sym c.in_default.is) ∙ second (goal.at.returns-in_default c).After-read_cells in rw (← off)

-- past the first test the bytes behind the line decide
past : (c : In-Some) →
    let a = c.args in
    let t = drop a.start a.s.now in
    second_limits a.points (first_line t) (1 + length (lines_of t))
    ≡ cond (leb (length t) (length (first_line t) + 2)) (judged_limits a.points c.in-Some.line.values)
    (refused_limits 16 3)
unfolding second_limits
past c =
    let a = c.args in
    let on = ap cells_told (sym c.in-Some.is) ∙ second (goal.at.In-Some c).After-read_cells in
    rw (← on, lines-one (drop a.start a.s.now))

pub returns-then-s-end-gt2 : goal.returns-then-s-end-gt2
returns-then-s-end-gt2 c =
    let a = c.args in
    let t = drop a.start a.s.now in
    let long = length-drop a.start a.s.now in
    rw (
      past (goal.at.returns-then-s-end-gt2 c).In-Some,
      lt-leb (length t) (length (first_line t) + 2) (omega (arith, c.line_end-end.ensures, c.if-s-end-gt2.true)),
    )

pub returns : goal.returns
returns c =
    let a = c.args in
    let t = drop a.start a.s.now in
    let long = length-drop a.start a.s.now in
    let inside = within (goal.at.returns c).After-line_end-end in
    c.judged_limits.ensures
    ∙ rw (
      past (goal.at.returns c).In-Some,
      le-leb (length t) (length (first_line t) + 2) (omega (arith, c.line_end-end.ensures, c.if-s-end-gt2.false)),
    )

pub slice_bounds-read_cells-end : goal.slice_bounds-read_cells-end
slice_bounds-read_cells-end c = within c

pub overflow_sub-s : goal.overflow_sub-s
overflow_sub-s c = within (goal.at.overflow_sub-s c).After-line_end-end
