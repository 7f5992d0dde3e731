-- `load::answer_from` meets its contract: the sums give refusal 10 or the total and its level. Assumes nothing.
use mathlib.Core.{Path.◌≡◌, Path.sym, Path.◌∙◌, Bool.◌&&◌}
use Rattle.std.specs.Prelude.{◌+◌, eqb, ltb}
use Rattle.load_rules.specs.{Factors.known_sum, Factors.unknown_sum, Load.counts_of}
use Rattle.load.specs.InnerSteps.{group_at, Scalable}
use Rattle.load.proofs.SumsLaws.{sums_fit, sums_totals, sums_none, from_refused, from_answered}
use Rattle.load.proofs.answer_from.Goals as goal
use Rattle.load.proofs.answer_from.Goals.{After-none_computed, After-summed-sums}

-- what the sums say
fits : (c : After-summed-sums)
    → Scalable c.summed-sums.result.scaled (c.summed-sums.result.known + c.summed-sums.result.unknown)
    c.summed-sums.result.known
fits c = sums_fit c.args.groups c.summed-sums.result c.summed-sums.ensures c.requires.bounded

none : (c : After-none_computed) → c.none_computed.result
    ≡ (eqb (known_sum (λ g. counts_of (group_at c.args.groups g))) 0 && ltb 0
    (unknown_sum (λ g. counts_of (group_at c.args.groups g))))
none c =
    sums_none c.args.groups c.summed-sums.result c.summed-sums.ensures
    c.none_computed.ensures

pub returns-then-none_computed : goal.returns-then-none_computed
returns-then-none_computed c =
    sym (from_refused (group_at c.args.groups) c.args.days
    (sym (none (goal.at.returns-then-none_computed c).After-none_computed)
    ∙ c.if-none_computed.true))

pub returns : goal.returns
returns c =
    let same = sums_totals c.args.groups c.summed-sums.result c.summed-sums.ensures c.args.days
    c.totals_of-totals.ensures in
    from_answered (group_at c.args.groups) c.args.days _
    (sym (none (goal.at.returns c).After-none_computed) ∙ c.if-none_computed.false) same.0 same.1
    c.counts_of.ensures

pub totals_of-totals-requires : goal.totals_of-totals-requires
totals_of-totals-requires c =
    record {
      scalable = fits (goal.at.totals_of-totals-requires c).After-summed-sums;
      days_value =
          c.requires.days_value;
    }
