-- `contours::refuse_network` meets what its line asks for. Assumes nothing.
use mathlib.Core.Path.{sym, ap, ◌∙◌}
use native.Mathlib.Omega.{arith}
use Rattle.refusal.proofs.Laws.{numbered}
use Rattle.contours_steps.specs.Sheet.{refused_at}
use Rattle.contours_steps.proofs.Drawings.{refused_text_lem}
use Rattle.contours.proofs.refuse_network.Goals as goal

pub refusal-went-requires : goal.refusal-went-requires
refusal-went-requires c =
    let r = c.requires in
    let low = numbered c.args.why in
    record {
      read_whole = r.read_whole;
      refused = refused_text_lem r.gathered (c.number.ensures ∙ r.why_value) (λ e. omega (arith, c.number.ensures))
          (c.refused_line-line.ensures ∙ ap (refused_at c.args.text.now) (sym c.number.ensures));
      sent_value = r.sent_value;
    }
