-- `sentence::inner::of_later` meets its contract: each number has its own text. Assumes nothing.
use Rattle.room.proofs.Laws.{wrote_none}
use Rattle.sentence.specs.Sentence.{sentences, sentence_of}
use Rattle.sentence.proofs.{Says.past_all, Spelled.of_number}
use native.Mathlib.Omega.{arith}
use Rattle.sentence.proofs.inner.of_later.Goals as goal

pub returns-in-18 : goal.returns-in-18
unfolding sentence_of sentences
returns-in-18 c =
    of_number 18 c.in-18.is c.put_about.ensures

pub returns-in-19 : goal.returns-in-19
unfolding sentence_of sentences
returns-in-19 c =
    of_number 19 c.in-19.is c.put_text.ensures

pub returns-in_default : goal.returns-in_default
returns-in_default c = rw (past_all c.args.number (omega arith)) (wrote_none _ 0)
