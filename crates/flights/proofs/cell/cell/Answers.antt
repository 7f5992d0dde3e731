-- `flights::cell::cell` meets its contract: each column by its own reader. Assumes nothing.
use mathlib.Core.Path.{sym, ◌∙◌}
use native.Mathlib.Omega.{arith}
use Rattle.flights.specs.Cell.{cell_of}
use Rattle.flights.proofs.Readings.{cell_name_lem, cell_circuit}
use Rattle.flights.proofs.cell.cell.Goals as goal

pub returns-in_default : goal.returns-in_default
returns-in_default c =
    c.name.ensures ∙ sym (cell_name_lem c.args.k (omega arith) (omega arith) c.args.t.now)

pub returns-in_default-2 : goal.returns-in_default-2
returns-in_default-2 c =
    c.circuit.ensures ∙ sym (cell_circuit c.args.k (omega arith) c.args.t.now)

pub returns-in-0 : goal.returns-in-0
returns-in-0 c = unfold cell_of in c.whole.ensures ∙ rw c.in-0.is

pub returns-in-1 : goal.returns-in-1
returns-in-1 c = unfold cell_of in c.date.ensures ∙ rw c.in-1.is

pub returns-in-2 : goal.returns-in-2
returns-in-2 c = unfold cell_of in c.time.ensures ∙ rw c.in-2.is

pub returns-in-3 : goal.returns-in-3
returns-in-3 c = unfold cell_of in c.letter.ensures ∙ rw c.in-3.is

pub returns-in-4 : goal.returns-in-4
returns-in-4 c = unfold cell_of in c.letter-in-4.ensures ∙ rw c.in-4.is
