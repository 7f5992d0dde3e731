-- `text::same::same_text` meets its contract: `==` compares byte for byte; `take_rest` serves slices that leave nothing
-- out. Assumes nothing.
use Rattle.std.proofs.Common.{◌∙◌}
use Rattle.std.proofs.lemmas.List.{take_rest}
use Rattle.text.proofs.Sames.{same_pointwise}
use Rattle.text.proofs.same.same_text.Goals as goal

pub returns : goal.returns
returns c = (simp (c.eq.ensures, take_rest)) ∙ same_pointwise c.args.a.now c.args.b.now
