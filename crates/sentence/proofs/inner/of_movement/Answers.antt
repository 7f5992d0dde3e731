-- `sentence::inner::of_movement` meets its contract: each number has its own text. Assumes nothing.
use Rattle.std.specs.Prelude.{◌≡◌}
use Rattle.room.proofs.Laws.{wrote_none}
use Rattle.sentence.specs.Sentence.{sentences, sentence_of}
use Rattle.sentence.proofs.Spelled.{of_number}
use native.Mathlib.Omega.{arith}
use Rattle.sentence.proofs.inner.of_movement.Goals as goal

pub returns-in-1 : goal.returns-in-1
unfolding sentence_of sentences
returns-in-1 c =
    of_number 1 c.in-1.is c.put_text.ensures

pub returns-in-2 : goal.returns-in-2
unfolding sentence_of sentences
returns-in-2 c =
    of_number 2 c.in-2.is c.put_text-in-2.ensures

pub returns-in-3 : goal.returns-in-3
unfolding sentence_of sentences
returns-in-3 c =
    of_number 3 c.in-3.is c.put_text-in-3.ensures

pub returns-in-4 : goal.returns-in-4
unfolding sentence_of sentences
returns-in-4 c =
    of_number 4 c.in-4.is c.put_text-in-4.ensures

pub returns-in-5 : goal.returns-in-5
unfolding sentence_of sentences
returns-in-5 c =
    of_number 5 c.in-5.is c.put_text-in-5.ensures

pub returns-in-6 : goal.returns-in-6
unfolding sentence_of sentences
returns-in-6 c =
    of_number 6 c.in-6.is c.put_text-in-6.ensures

pub returns-in_default : goal.returns-in_default
unfolding sentence_of sentences
returns-in_default c =
    let none : c.args.number ≡ 0 = omega arith in
    of_number 0 none (wrote_none _ 0)
