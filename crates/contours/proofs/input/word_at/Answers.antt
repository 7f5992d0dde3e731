-- `contours::input::word_at` meets its contract: the argument is handed over into the room of a word. Assumes nothing.
use Rattle.std.specs.Prelude.{◌≡◌, ℕ, length}
use mathlib.Core.Path.{◌∙◌}
use lib.ListN.{length-replicate}
use Rattle.contours.proofs.input.word_at.Goals as goal

pub returns : goal.returns
returns c =
    let a = c.argument-n in
    let long : length a.new.room ≡ 16 = a.auto.room ∙ length-replicate {A = ℕ} 16 0 in
    record { word = _; named = rw long at a.ensures.is; taken = c.take_word.ensures }
