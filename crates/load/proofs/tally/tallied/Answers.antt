-- `load::tally::tallied` meets its contract: by that of `with_rows`, from one form of the groups to the other and back.
-- Assumes nothing.
use mathlib.Core.{Path.ap, Path.◌∙◌, List.[]}
use Rattle.load_rules.specs.Tally.{tally}
use Rattle.load.specs.InnerSteps.{table, group_at, flat, flat_at}
use Rattle.load.proofs.CellLaws.{flat-table, table-flat}
use Rattle.load.proofs.tally.tallied.Goals as goal

pub with_rows-requires : goal.with_rows-requires
with_rows-requires c = (
  c.side_by_side.ensures ∙ ap (λ cs. flat (group_at cs)) c.requires.0 ∙ flat-table (tally []),
  c.requires.1,
)

pub returns : goal.returns
returns c =
    c.arranged.ensures ∙ ap (λ cs. table (flat_at cs)) c.with_rows.ensures ∙ table-flat _
