-- `flights::read_flight` meets its contract: so many columns have a layout, and the line without its end is read.
-- Assumes nothing.
use Rattle.std.specs.Prelude.{◌≤◌, List, ℕ}
use mathlib.Core.{Path.◌≡◌, Path.sym, Path.refl, Path.ap, Path.subst, Path.◌∙◌, Bool.true, Logic.⊎_elim}
use native.Mathlib.Omega.{arith}
use lib.{ListN.length, ListN.take, Seq.length-take-le}
use Rattle.refusal.proofs.Laws.{settled}
use Rattle.text.specs.Line.{bare_line}
use Rattle.text.proofs.Lines.{bare_take, bare_most}
use Rattle.flights.specs.{Row.flight_of, Row.row_of, Row.IsFlight, Column.has_layout}
use Rattle.flights.proofs.Exact.{layout_of}
use Rattle.flights.proofs.read_flight.Goals as goal
use Rattle.flights.proofs.read_flight.Goals.{After-bare_length-n, Else-not-has_layout}

pub returns-then-not-has_layout : goal.returns-then-not-has_layout
unfolding flight_of
returns-then-not-has_layout c =
    rw (settled c.has_layout.ensures c.if-not-has_layout.true) (record { number = refl; answer = tt })

-- past the test there are 8 columns, or 9
laid : (c : Else-not-has_layout) → has_layout c.args.columns ≡ true
laid c = settled c.has_layout.ensures c.if-not-has_layout.false

-- the line without its end is a front of the text
within : (c : After-bare_length-n) →
    c.bare_length-n.result ≤ length c.args.s.now
within c = omega (arith, c.bare_length-n.ensures, bare_most c.args.s.now)

pub read_row-requires : goal.read_row-requires
read_row-requires c =
    ⊎_elim (λ e. (omega arith, omega arith)) (λ e. (omega arith, omega arith))
    (layout_of c.args.columns (laid (goal.at.read_row-requires c).Else-not-has_layout))

pub returns : goal.returns
unfolding flight_of
returns c =
    let s = c.args.s.now in
    let line : take c.bare_length-n.result s ≡ bare_line s =
    ap (λ n. take n s) c.bare_length-n.ensures ∙ bare_take s in
    rw (laid (goal.at.returns c).Else-not-has_layout)
    (subst (λ (l : List ℕ). IsFlight (row_of c.args.columns l) c.read_row.result) line c.read_row.ensures)

pub slice_bounds-read_row-end : goal.slice_bounds-read_row-end
slice_bounds-read_row-end c = sym (length-take-le _ _ (within (goal.at.slice_bounds-read_row-end c).After-bare_length-n))
