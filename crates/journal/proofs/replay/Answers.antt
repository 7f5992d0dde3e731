-- `journal::replay` meets its contract: 16, 9 or 14 and nothing changed, or all calls made. Assumes nothing.
use mathlib.Core.Path.{sym}
use native.Mathlib.Omega.{arith}
use Rattle.std.proofs.lemmas.Result.{err_from_is_err_and}
use Rattle.refusal.proofs.Laws.{numbered}
use Rattle.journal.proofs.Replaying.{replay_ready, replay_refused, replay_done}
use Rattle.journal.proofs.replay.Goals as goal

pub run-requires : goal.run-requires
run-requires c =
    let r = replay_ready _ _ _ _ (sym c.in_ok-replay_refusal.ensures) in
    record { levels_value = r.0; journal_value = r.1.0; journal_in_bounds = r.1.1 }

pub returns : goal.returns
returns c =
    replay_done (sym c.in_ok-replay_refusal.ensures) c.run.ensures.book_of_calls c.run.ensures.answers_of_calls

pub returns-in_err-replay_refusal : goal.returns-in_err-replay_refusal
returns-in_err-replay_refusal c =
    let p = err_from_is_err_and c.from_residual.result c.from_residual.ensures.1 in
    let low = numbered c.in_err-replay_refusal.field-0.0 in
    rw (p.1, p.2) (replay_refused c.in_err-replay_refusal.ensures (λ e. omega arith))
