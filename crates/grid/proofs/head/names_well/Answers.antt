-- `grid::head::names_well` meets its contract. Assumes nothing.
use mathlib.Core.Path.{sym, ap, ◌∙◌}
use native.Mathlib.Omega.{arith}
use borrow.Author.Tests.{leb-true}
use Rattle.text.proofs.Digits.{part-rest}
use Rattle.grid.specs.File.{names_well, is_spelling}
use Rattle.grid.proofs.HeadLaws.{names_short}
use Rattle.grid.proofs.head.names_well.Goals as goal
use Rattle.grid.proofs.head.names_well.Goals.{then-line-ge-SPELLED, else-line-ge-SPELLED}

pub returns-then-line-eq32 : goal.returns-then-line-eq32
unfolding names_well
returns-then-line-eq32 c =
    elim c.if-line-ge-SPELLED.branch [
      | then-line-ge-SPELLED w ↦ rw (sym w.value-is ∙ c.if-line-eq32.true)
          (c.is_spelling.ensures ∙ ap is_spelling (part-rest c.args.line.now 13))
      | else-line-ge-SPELLED w ↦ absurd
          (omega (arith, leb-true _ _ (sym w.value-is ∙ c.if-line-eq32.true)))
    ]

pub returns-else-line-eq32 : goal.returns-else-line-eq32
unfolding names_well
returns-else-line-eq32 c =
    elim c.if-line-ge-SPELLED.branch [
      | then-line-ge-SPELLED w ↦ c.if-line-eq32.false ∙ rw (sym w.value-is ∙ c.if-line-eq32.false)
      | else-line-ge-SPELLED w ↦ c.if-line-eq32.false ∙ sym (names_short _ w.if-line-ge-SPELLED.false)
    ]
