-- `sentence::inner::of_file` meets its contract: each number has its own text. Assumes nothing.
use Rattle.sentence.specs.Sentence.{sentences, sentence_of}
use Rattle.sentence.proofs.Spelled.{of_number}
use native.Mathlib.Omega.{arith}
use Rattle.sentence.proofs.inner.of_file.Goals as goal

pub returns-in-12 : goal.returns-in-12
unfolding sentence_of sentences
returns-in-12 c =
    of_number 12 c.in-12.is c.put_about.ensures

pub returns-in-13 : goal.returns-in-13
unfolding sentence_of sentences
returns-in-13 c =
    of_number 13 c.in-13.is c.put_about-in-13.ensures

pub returns-in-14 : goal.returns-in-14
unfolding sentence_of sentences
returns-in-14 c =
    of_number 14 c.in-14.is c.put_text.ensures

pub returns-in-15 : goal.returns-in-15
unfolding sentence_of sentences
returns-in-15 c =
    of_number 15 c.in-15.is c.put_text-in-15.ensures

pub returns-in-16 : goal.returns-in-16
unfolding sentence_of sentences
returns-in-16 c =
    of_number 16 c.in-16.is c.put_text-in-16.ensures

pub returns-in_default : goal.returns-in_default
unfolding sentence_of sentences
returns-in_default c = of_number {number = c.args.number} 17 (omega arith) c.put_about-in_default.ensures
