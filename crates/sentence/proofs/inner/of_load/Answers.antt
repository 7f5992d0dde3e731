-- `sentence::inner::of_load` meets its contract: each number has its own text. Assumes nothing.
use Rattle.sentence.specs.Sentence.{sentences, sentence_of}
use Rattle.sentence.proofs.Spelled.{of_number}
use native.Mathlib.Omega.{arith}
use Rattle.sentence.proofs.inner.of_load.Goals as goal

pub returns-in-7 : goal.returns-in-7
unfolding sentence_of sentences
returns-in-7 c =
    of_number 7 c.in-7.is c.put_text.ensures

pub returns-in-8 : goal.returns-in-8
unfolding sentence_of sentences
returns-in-8 c =
    of_number 8 c.in-8.is c.put_text-in-8.ensures

pub returns-in-9 : goal.returns-in-9
unfolding sentence_of sentences
returns-in-9 c =
    of_number 9 c.in-9.is c.put_text-in-9.ensures

pub returns-in-10 : goal.returns-in-10
unfolding sentence_of sentences
returns-in-10 c =
    of_number 10 c.in-10.is c.put_text-in-10.ensures

pub returns-in_default : goal.returns-in_default
unfolding sentence_of sentences
returns-in_default c = of_number {number = c.args.number} 11 (omega arith) c.put_text-in_default.ensures
