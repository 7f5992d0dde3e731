-- `contours::with_words`: the words' refusal, or none. Assumes nothing.
use mathlib.Core.Path.{sym, ◌∙◌}
use native.Mathlib.Omega.{arith}
use Rattle.refusal.proofs.Laws.{numbered}
use Rattle.contours_steps.proofs.Drawings.{refused_words}
use Rattle.contours.proofs.with_words.Goals as goal

pub draw-requires : goal.draw-requires
draw-requires c =
    let r = c.requires in
    let none = sym c.in_default.ensures in
    record {
      read_whole = r.read_whole;
      gathered = r.gathered;
      asked_len = r.asked_len;
      text_value = r.text_value;
      stored = r.stored;
      given_value = none;
      sent_value = r.sent_value;
    }

pub refusal-went-requires : goal.refusal-went-requires
refusal-went-requires c =
    let r = c.requires in
    let low = numbered c.in-Err.why in
    let why = refused_words r.gathered r.text_value (c.number.ensures ∙ c.in-Err.ensures)
    (λ e. omega (arith, c.number.ensures)) in
    record { read_whole = r.read_whole; refused = why; sent_value = r.sent_value }
