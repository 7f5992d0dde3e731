-- `couple_steps::inner::feeding::take_line` meets its contract: the header, or a row. Assumes nothing.
use Rattle.std.proofs.Common.{rules, arith, ◌≡◌, sym, refl}
use Rattle.std.specs.Prelude.{ℕ, List, ◌+◌, ◌-◌, ◌∷◌, [], ◌++◌, get_or}
use mathlib.Core.Path.{subst}
use Rattle.refusal.specs.Refusal.{told}
use Rattle.refusal.proofs.Laws.{numbered}
use Rattle.text.specs.Index.{listing}
use Rattle.flights.specs.Row.{flight_of}
use Rattle.stream.specs.InnerTaken.{LineTaken, next_line}
use Rattle.couple_steps.specs.Table.{table_step}
use Rattle.couple_steps.specs.InnerTable.{rows_in, held_in}
use Rattle.couple_steps.proofs.Takes.{header_taken, row_refused, row_over_rule, row_stored}
use Rattle.couple_steps.proofs.inner.feeding.take_line.Goals as goal

pub returns-then-number-eq1 : goal.returns-then-number-eq1
returns-then-number-eq1 c =
    let a = c.args in
    header_taken a.columns a.number a.table.now a.line.now c.if-number-eq1.true c.header_refusal.ensures

pub returns-in_err-values : goal.returns-in_err-values
returns-in_err-values c =
    let a = c.args in
    let f = flight_of a.columns a.line.now in
    let e : told c.from_residual.result ≡ f.refusal = search rules in
    let low = numbered c.in_err-values.field-0.0 in
    subst
    (λ (r : ℕ). LineTaken (table_step a.columns) a.number (held_in a.columns a.table.now a.number) a.line.now r
    (held_in a.columns a.table.now (next_line a.number r))) (sym e)
    (row_refused a.columns a.number a.table.now a.line.now c.if-number-eq1.false refl
    (λ z. omega (arith, low, z, c.in_err-values.ensures.number)))

pub returns-then-number-gt-LAST_LINE : goal.returns-then-number-gt-LAST_LINE
returns-then-number-gt-LAST_LINE c =
    let a = c.args in
    row_over_rule a.columns a.number a.table.now a.line.now c.if-number-eq1.false refl
    (sym c.in_ok-values.ensures.number) c.if-number-gt-LAST_LINE.true

pub returns : goal.returns
returns c =
    let a = c.args in
    let stored =
    subst
    (λ (v : List ℕ). rows_in a.columns c.put_row.new.table (a.number - 2 + 1)
    ≡ rows_in a.columns a.table.now (a.number - 2) ++ (listing (λ k. get_or v k 0) a.columns ∷ []))
    c.in_ok-values.ensures.answer c.put_row.ensures in
    row_stored a.columns a.number a.table.now a.line.now c.if-number-eq1.false refl c.put_row.new.table
    (sym c.in_ok-values.ensures.number) c.if-number-gt-LAST_LINE.false c.requires.le_number stored
