-- `contours::judged`: a network that is not refused is stored. Assumes nothing.
use Rattle.std.specs.Prelude.{◌≡◌, ℕ, replicate}
use mathlib.Core.Path.{refl, sym}
use lib.ListN.{length-replicate}
use Rattle.contours_steps.specs.Sheet.{text_refusal}
use Rattle.contours_steps.proofs.Drawings.{stored}
use Rattle.contours.proofs.judged.Goals as goal

pub refuse_network-requires : goal.refuse_network-requires
refuse_network-requires c =
    record {
      read_whole = c.requires.read_whole;
      gathered = c.requires.gathered;
      why_value =
          c.in-Err.ensures.0;
      sent_value = c.requires.sent_value;
    }

pub with_words-requires : goal.with_words-requires
with_words-requires c =
    let e = c.in_default.ensures in
    let z : text_refusal c.args.text.now ≡ 0 = sym e.0 in
    let kept = stored (replicate 65536 0) z refl (length-replicate {A = ℕ} 65536 0) e.1 e.2 in
    record {
      read_whole = c.requires.read_whole;
      gathered = c.requires.gathered;
      asked_len = c.requires.asked_len;
      text_value = z;
      stored = kept;
      sent_value = c.requires.sent_value;
    }
