-- `contours::run`: what was read and gathered is handed on. Assumes nothing.
use mathlib.Core.Path.{sym, ◌∙◌}
use Rattle.std.specs.Prelude.{ℕ}
use lib.ListN.{length-replicate}
use Rattle.contours.proofs.run.Goals as goal

pub answer-requires : goal.answer-requires
answer-requires c =
    let t = c.read_all-read in
    let g = c.gather-given in
    record {
      fills = t.ensures;
      text_len = t.auto.text ∙ length-replicate {A = ℕ} 590176 0;
      asked_len = g.auto.asked ∙ length-replicate {A = ℕ} 15000 0;
      gathered = g.ensures;
      sent_value = c.requires;
    }

pub slice_bounds-read_all-end : goal.slice_bounds-read_all-end
slice_bounds-read_all-end c = sym (length-replicate {A = ℕ} 590176 0)

pub slice_bounds-answer-end : goal.slice_bounds-answer-end
slice_bounds-answer-end c = sym (c.read_all-read.auto.text ∙ length-replicate {A = ℕ} 590176 0)

pub slice_bounds-answer-end-2 : goal.slice_bounds-answer-end-2
slice_bounds-answer-end-2 c = sym (c.gather-given.auto.asked ∙ length-replicate {A = ℕ} 15000 0)
