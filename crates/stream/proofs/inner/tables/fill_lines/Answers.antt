use mathlib.Core.Path.{refl, ◌∙◌}
use native.Mathlib.Omega.{arith}
use Rattle.refusal.proofs.Laws.{settled}
use Rattle.stream.proofs.Takings.{taking_inside, taking_next, taking_refused}
use Rattle.stream.proofs.Told.{err_some, fine_none, taken_err, taken_ok}
use Rattle.stream.proofs.inner.tables.fill_lines.Goals as goal

pub overflow_sub-bytes : goal.overflow_sub-bytes
overflow_sub-bytes g c = (taking_inside c.loop-end.invariant.0).1

pub returns-then-is_err-clause-taken : goal.returns-then-is_err-clause-taken
returns-then-is_err-clause-taken g c =
    let l = c.take_line-refusal in
    let off = settled c.is_err.ensures.value c.if-is_err.true in
    let taken = taken_err (g.T.Table.held l.new.self) l.result (rw c.loop-end.invariant.2 at l.ensures.taken) off in
    taking_refused c.loop-end.invariant.0 (omega arith) taken (err_some l.result off)

pub loop-end-preserved : goal.loop-end-preserved
loop-end-preserved g c =
    let l = c.take_line-refusal in
    let fine = settled c.is_err.ensures.value c.if-is_err.false in
    let taken = taken_ok (g.T.Table.held l.new.self) l.result (rw c.loop-end.invariant.2 at l.ensures.taken) fine in (
      taking_next c.loop-end.invariant.0 (omega arith) taken _ (fine_none l.result fine)
          c.line_end-end-in-loop-end.ensures,
      l.ensures.kept,
      l.ensures.same ∙ c.loop-end.invariant.2,
      l.ensures.lent ∙ c.loop-end.invariant.3,
    )
