-- `load::account::put_account` meets its contract: the sums give refusal 10, or the numbers of the groups and of the
-- whole are written where there is room. Assumes nothing.
use mathlib.Core.{Path.◌≡◌, Path.sym, Path.ap, Path.◌∙◌, Bool.◌&&◌}
use Rattle.std.specs.Prelude.{◌+◌, eqb, ltb}
use native.Mathlib.Omega.{arith}
use Rattle.room.proofs.Answers.{refuse, lack, write}
use Rattle.load_rules.specs.Told.{LoadTold}
use Rattle.load_rules.specs.{Factors.known_sum, Factors.unknown_sum, Load.counts_of, Load.refused_load}
use Rattle.load_rules.proofs.Accounts.{length_account}
use Rattle.load.specs.InnerSteps.{group_at, Scalable, load_from}
use Rattle.load.proofs.SumsLaws.{sums_fit, sums_none, from_refused, from_fine}
use Rattle.load.proofs.AccountLaws.{account_front}
use Rattle.load.proofs.account.put_account.Goals as goal
use Rattle.load.proofs.account.put_account.Goals.{After-none_computed, After-summed-sums, Else-none_computed}

-- what the sums say
fits : (c : After-summed-sums)
    → Scalable c.summed-sums.result.scaled (c.summed-sums.result.known + c.summed-sums.result.unknown)
    c.summed-sums.result.known
fits c = sums_fit c.args.groups c.summed-sums.result c.summed-sums.ensures c.requires.bounded

none : (c : After-none_computed) → c.none_computed.result
    ≡ (eqb (known_sum (λ g. counts_of (group_at c.args.groups g))) 0 && ltb 0
    (unknown_sum (λ g. counts_of (group_at c.args.groups g))))
none c =
    sums_none c.args.groups c.summed-sums.result c.summed-sums.ensures
    c.none_computed.ensures

fine : (c : Else-none_computed) → (load_from (group_at c.args.groups) c.args.days).refused ≡ 0
fine c =
    from_fine (group_at c.args.groups) c.args.days
    (sym (sums_none c.args.groups c.summed-sums.result c.summed-sums.ensures c.none_computed.ensures)
    ∙ c.if-none_computed.false)

pub returns-then-none_computed : goal.returns-then-none_computed
unfolding refused_load
returns-then-none_computed c =
    refuse (ap (λ (l : LoadTold). l.refused)
    (from_refused (group_at c.args.groups) c.args.days
    (sym (none (goal.at.returns-then-none_computed c).After-none_computed) ∙ c.if-none_computed.true)))
    (λ z. omega arith)

pub returns-then-answer-lt-ACCOUNT_NUMBERS : goal.returns-then-answer-lt-ACCOUNT_NUMBERS
returns-then-answer-lt-ACCOUNT_NUMBERS c =
    lack (fine (goal.at.returns-then-answer-lt-ACCOUNT_NUMBERS c).Else-none_computed)
    (omega (arith, length_account (group_at c.args.groups) c.args.days, c.if-answer-lt-ACCOUNT_NUMBERS.true))

pub put_whole-requires : goal.put_whole-requires
put_whole-requires c =
    record {
      scalable = fits (goal.at.put_whole-requires c).After-summed-sums;
      account_size_in_bounds = omega arith;
    }

pub returns : goal.returns
returns c =
    let a = c.args in
    write (fine (goal.at.returns c).Else-none_computed)
    (omega (arith, length_account (group_at a.groups) a.days, c.if-answer-lt-ACCOUNT_NUMBERS.false))
    (c.put_whole.ensures
    ∙ rw c.put_groups.ensures
    (account_front a.groups c.summed-sums.result c.summed-sums.ensures a.days c.totals_of.result
    c.totals_of.ensures a.answer.now))

pub totals_of-requires : goal.totals_of-requires
totals_of-requires c =
    record { scalable = fits (goal.at.totals_of-requires c).After-summed-sums; days_value = c.requires.days_value }
