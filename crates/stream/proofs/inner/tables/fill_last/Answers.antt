-- `stream::inner::tables::fill_last` meets its contract: the last line, or none. Assumes nothing.
use borrow.Author.Tests.{eqb-true, eqb-false}
use Rattle.refusal.proofs.Laws.{settled}
use Rattle.stream.proofs.Takings.{last_headless, last_empty, last_refused, last_taken}
use Rattle.stream.proofs.Told.{err_some, fine_none, taken_err, taken_ok}
use Rattle.stream.proofs.inner.tables.fill_last.Goals as goal

pub returns-then-line-eq1-clause-taken : goal.returns-then-line-eq1-clause-taken
returns-then-line-eq1-clause-taken g c =
    last_headless c.args.line _ c.args.bytes.now (eqb-true _ _ (settled c.is_empty.ensures c.if-is_empty.true)) c.if-line-eq1.true

pub returns-else-line-eq1-clause-taken : goal.returns-else-line-eq1-clause-taken
returns-else-line-eq1-clause-taken g c =
    last_empty c.args.line _ c.args.bytes.now (eqb-true _ _ (settled c.is_empty.ensures c.if-is_empty.true)) c.if-line-eq1.false

pub returns-then-is_err-clause-taken : goal.returns-then-is_err-clause-taken
returns-then-is_err-clause-taken g c =
    let l = c.take_line-refusal in
    let off = settled c.is_err.ensures.value c.if-is_err.true in
    last_refused (taken_err (g.T.Table.held l.new.self) l.result l.ensures.taken off) c.requires.unended
    (eqb-false _ _ (settled c.is_empty.ensures c.if-is_empty.false)) (err_some l.result off)

pub returns-clause-taken : goal.returns-clause-taken
returns-clause-taken g c =
    let l = c.take_line-refusal in
    let fine = settled c.is_err.ensures.value c.if-is_err.false in
    rw (fine_none l.result fine)
    (last_taken (taken_ok (g.T.Table.held l.new.self) l.result l.ensures.taken fine) c.requires.unended
    (eqb-false _ _ (settled c.is_empty.ensures c.if-is_empty.false)) c.requires.countable.0 (fine_none l.result fine))
