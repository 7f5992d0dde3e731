-- `register::row::read_layout` meets its contract: the line without its end, read column by column. Assumes nothing.
use Rattle.std.specs.Prelude.{◌≡◌, ◌+◌, ◌≤◌, length, take}
use Rattle.std.proofs.Common.{arith, sym, ap, ◌∙◌}
use lib.Seq.{length-take-le}
use Rattle.text.specs.Line.{bare_line}
use Rattle.text.proofs.Lines.{bare_take, bare_most}
use Rattle.register.specs.{Cell.cells_of, Row.layout_of, Row.cells_layout, InnerCell.cells_told}
use Rattle.register.specs.declared.cell.Table.TheVariants.{Register}
use Rattle.register.proofs.row.read_layout.Goals as goal
use Rattle.register.proofs.row.read_layout.Goals.{Else-not-points_fit, After-bare_length-n, After-read_cells}

pub returns-then-not-points_fit : goal.returns-then-not-points_fit
unfolding layout_of
returns-then-not-points_fit c = rw (sym c.points_fit.ensures ∙ c.if-not-points_fit.true)

-- the line without its end is a front of the text
within : (c : After-bare_length-n) → c.bare_length-n.result ≤ length c.args.s.now
within c = omega (arith, c.bare_length-n.ensures, bare_most c.args.s.now)

-- so its columns were read
read : (c : After-read_cells) → let a = c.args in
    cells_told c.read_cells.result ≡ cells_of Register (5 + a.points) (bare_line a.s.now)
read c =
    let a = c.args in
    c.read_cells.ensures
    ∙ ap (cells_of Register (5 + a.points)) (ap (λ n. take n a.s.now) c.bare_length-n.ensures ∙ bare_take a.s.now)

pub returns-in_default : goal.returns-in_default
unfolding layout_of cells_layout
returns-in_default c =
    let off = ap cells_told (sym c.in_default.is) ∙ read (goal.at.returns-in_default c).After-read_cells in
    rw (sym c.points_fit.ensures ∙ c.if-not-points_fit.false, ← off)

pub returns : goal.returns
unfolding layout_of
returns c =
    let on = ap cells_told (sym c.in-Some.is) ∙ read (goal.at.returns c).After-read_cells in
    c.line_layout.ensures ∙ ap (cells_layout c.args.points) on
    ∙ rw (sym c.points_fit.ensures ∙ c.if-not-points_fit.false)

pub slice_bounds-read_cells-end : goal.slice_bounds-read_cells-end
slice_bounds-read_cells-end c = sym (length-take-le _ _ (within c))
