-- `journal::replay_refusal` meets its contract. Assumes nothing.
use Rattle.std.proofs.Common.{rules}
use Rattle.journal.specs.Journal.{replay_refusal}
use Rattle.journal.proofs.replay_refusal.Goals as goal

pub returns-then-not-is_laid_out : goal.returns-then-not-is_laid_out
unfolding replay_refusal
returns-then-not-is_laid_out c = search rules

pub returns-then-not-is_sound : goal.returns-then-not-is_sound
unfolding replay_refusal
returns-then-not-is_sound c = search rules

pub returns-then-room-count_calls : goal.returns-then-room-count_calls
unfolding replay_refusal
returns-then-room-count_calls c = search rules

pub returns : goal.returns
unfolding replay_refusal
returns c = search rules
