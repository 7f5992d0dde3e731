-- `load::tally::with_row` meets its contract: by cases on the mark; the energy of a level in range is at most 10^13.
-- Assumes nothing.
use Rattle.std.specs.Prelude.{◌≡◌, ◌+◌, ◌≤◌}
use mathlib.Core.Path.{ap, ◌∙◌}
use native.Mathlib.Omega.{arith}
use Rattle.level.specs.{Limits.max_weighted, Energy.energy_of}
use Rattle.load_rules.specs.Shares.{energy_in}
use Rattle.load.proofs.MoreRows.{row_missing, row_computed}
use Rattle.load.proofs.RowLaws.{weighted_le, energy_in_small}
use Rattle.load.proofs.tally.with_row.Goals as goal
use Rattle.load.proofs.tally.with_row.Goals.{After-energy-e, After-group_weight}

pub returns-then-mark-eq0 : goal.returns-then-mark-eq0
returns-then-mark-eq0 c =
    let a = c.args in
    row_missing a.seen a.group a.mark a.level c.if-mark-eq0.true

-- the weighted level is in range
weighted : (c : After-group_weight)
    → c.args.level + c.group_weight.result ≤ max_weighted
weighted c =
    rw c.group_weight.ensures (weighted_le _ c.args.level c.requires.room_for_one.2)

known-energy : (c : After-energy-e)
    → c.energy-e.result ≡ energy_in c.args.group
    c.args.level
unfolding energy_in
known-energy c =
    c.energy-e.ensures
    ∙ ap (λ w. energy_of (c.args.level + w)) c.group_weight.ensures

pub overflow_add-result-3 : goal.overflow_add-result-3
overflow_add-result-3 c =
    omega (
      arith,
      known-energy (goal.at.overflow_add-result-3 c).After-energy-e,
      energy_in_small c.args.group c.args.level
          c.requires.room_for_one.2,
      c.requires.room_for_one.0.energy,
    )

pub returns : goal.returns
returns c =
    let a = c.args in
    row_computed a.seen a.group a.mark a.level c.energy-e.result c.if-mark-eq0.false
    (known-energy (goal.at.returns c).After-energy-e)
