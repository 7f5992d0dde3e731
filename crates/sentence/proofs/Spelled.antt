-- A sentence that was put is its number's. Assumes nothing.
use Rattle.std.specs.Prelude.{ℕ}
use mathlib.Core.{Path.◌≡◌, List.List}
use Rattle.room.specs.Room.{Wrote}
use Rattle.sentence.specs.Sentence.{sentence_of}

pub of_number : {old new : List ℕ} {number r : ℕ} (k : ℕ) → number ≡ k → Wrote old 0 (sentence_of k) new r
    → Wrote old 0 (sentence_of number) new r
of_number k e w = rw e w
