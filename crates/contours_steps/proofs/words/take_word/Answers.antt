-- `contours_steps::words::take_word` meets its contract: no level, one that is stored, or one past the room.
-- Assumes nothing.
use native.Mathlib.Omega.{arith}
use Rattle.contours_steps.proofs.Gathering.{word_none, word_stored, word_passed}
use Rattle.contours_steps.proofs.words.take_word.Goals as goal

pub returns-in_default : goal.returns-in_default
returns-in_default c = let a = c.args in word_none a.asked.now a.place a.word.now c.in_default.ensures

pub returns-then-place-asked : goal.returns-then-place-asked
returns-then-place-asked c =
    let a = c.args in word_stored a.asked.now a.place a.word.now c.in-Some.v c.in-Some.ensures

pub returns-else-place-asked : goal.returns-else-place-asked
returns-else-place-asked c =
    let a = c.args in word_passed a.asked.now a.place a.word.now c.in-Some.v c.in-Some.ensures (omega arith)
