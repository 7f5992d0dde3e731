-- `grid::read::read_network` meets its contract: off the layout, refused for its shape, too little room, or read.
-- Assumes nothing.
use Rattle.std.specs.Prelude.{◌≡◌}
use mathlib.Core.Path.{sym, ap, ◌∙◌}
use native.Mathlib.Omega.{arith}
use Rattle.std.proofs.Common.{rules, Err}
use Rattle.refusal.specs.Refusal.{told}
use Rattle.refusal.specs.declared.Refusal.TheVariants.{NetworkOffLayout}
use Rattle.refusal.proofs.Laws.{numbered}
use Rattle.room.specs.Room.{front}
use Rattle.grid.specs.{Row.levels_of, Read.numbers_of, InnerSteps.shape_refusal}
use Rattle.grid.proofs.ReadLaws.{off_layout_rule, shape_refused, rows_ready, product_small, no_header, no_levels}
use Rattle.grid.proofs.ReadLaws.{roomy_both, refused_outcome, read_outcome}
use Rattle.grid.proofs.read.read_network.Goals as goal
use Rattle.grid.proofs.read.read_network.Goals.{In_ok-shape_refusal}
use Rattle.grid.proofs.read.read_network.Goals.{then-header-lt-HEADER_SIZE-via-then-header-lt-HEADER_SIZE}
use Rattle.grid.proofs.read.read_network.Goals.{
  then-header-lt-HEADER_SIZE-via-else-header-lt-HEADER_SIZE+then-levels-rows,
}

-- past the test of its shape
none : (c : In_ok-shape_refusal) → let f = c.in_ok-file.file in shape_refusal f.frame f.fits f.sound ≡ 0
none c = sym c.in_ok-shape_refusal.ensures

pub returns-in_err-file : goal.returns-in_err-file
returns-in_err-file c =
    let a = c.args in
    let f = c.in_err-file.ensures in
    let e : c.from_residual.result ≡ Err NetworkOffLayout = search rules in
    let told-now = ap told e in
    refused_outcome a.text.now a.header.now a.levels.now _
    (off_layout_rule a.text.now _ _ _ f.0 f.1 ∙ sym told-now) (λ z. omega (arith, told-now))

pub returns-in_err-shape_refusal : goal.returns-in_err-shape_refusal
returns-in_err-shape_refusal c =
    let a = c.args in
    let f = c.in_ok-file.ensures in
    let why = c.in_err-shape_refusal.field-0.0 in
    let e : c.from_residual-in_err-shape_refusal.result ≡ Err why = search rules in
    let told-now = ap told e in
    let low = numbered why in
    refused_outcome a.text.now a.header.now a.levels.now _
    (shape_refused a.text.now _ f.0 f.1 _ _ _ (told-now ∙ c.in_err-shape_refusal.ensures)
    (λ z. omega (arith, told-now)))
    (λ z. omega (arith, told-now))

pub returns-then-header-lt-HEADER_SIZE : goal.returns-then-header-lt-HEADER_SIZE
returns-then-header-lt-HEADER_SIZE c =
    let a = c.args in
    let f = c.in_ok-file.ensures in
    let sound = none (goal.at.returns-then-header-lt-HEADER_SIZE c).In_ok-shape_refusal in
    elim c.then-header-lt-HEADER_SIZE.branch [
      | then-header-lt-HEADER_SIZE-via-then-header-lt-HEADER_SIZE w ↦
          refused_outcome a.text.now a.header.now a.levels.now 14
          (no_header a.text.now _ f.0 f.1 sound _ _ w.if-header-lt-HEADER_SIZE.true)
          (λ z. omega arith)
      | then-header-lt-HEADER_SIZE-via-else-header-lt-HEADER_SIZE+then-levels-rows w ↦
          refused_outcome a.text.now a.header.now a.levels.now 14
          (no_levels a.text.now _ f.0 f.1 sound _ _ w.if-header-lt-HEADER_SIZE.false w.if-levels-rows.true)
          (λ z. omega arith)
    ]

pub overflow_mul-rows : goal.overflow_mul-rows
overflow_mul-rows c =
    let f = c.in_ok-file.ensures in
    omega (arith, product_small _ _ f.0 f.1 (none (goal.at.overflow_mul-rows c).In_ok-shape_refusal))

pub store_rows-requires : goal.store_rows-requires
store_rows-requires c =
    let f = c.in_ok-file.ensures in
    (rows_ready _ _ f.0 f.1 (none (goal.at.store_rows-requires c).In_ok-shape_refusal), c.if-levels-rows.false)

pub returns : goal.returns
returns c =
    let a = c.args in
    let f = c.in_ok-file.ensures in
    let o = read_outcome a.text.now a.header.now a.levels.now
    (roomy_both a.text.now _ f.0 f.1 (none (goal.at.returns c).In_ok-shape_refusal) _ _
    (omega (arith, c.if-header-lt-HEADER_SIZE.false))
    c.if-levels-rows.false) in (
      o.0,
      c.store_frame.ensures ∙ ap (λ x. front (numbers_of x) a.header.now) f.1.frame ∙ o.1,
      c.store_rows.ensures ∙ ap (λ l. front (levels_of l) a.levels.now) f.1.rows ∙ o.2,
    )
