-- `load::load_of` meets its contract: the tally of the rows is within the bounds, and its load is that of the shares.
-- Assumes nothing.
use mathlib.Core.Path.{ap, ◌∙◌}
use native.Mathlib.Omega.{arith}
use Rattle.std.specs.Prelude.{length}
use Rattle.load_rules.specs.{Shares.book_shares, Tally.tally}
use Rattle.load.specs.InnerSteps.{group_at, load_from, book_asked, shares_asked}
use Rattle.load.proofs.{RowLaws.rows_bounded, RowLaws.rows_grouped, SumsLaws.from_table_rule, SumsLaws.from_shares}
use Rattle.load.proofs.load_of.Goals as goal

pub answer_from-requires : goal.answer_from-requires
unfolding book_shares
answer_from-requires c =
    let a = c.args.asked in
    record {
      bounded = rw c.groups_of.ensures (rows_bounded a.points a.point (book_asked a) a.sound a.there);
      days_value = c.requires;
    }

pub returns : goal.returns
unfolding book_shares
returns c =
    let a = c.args.asked in
    let ss = shares_asked a in
    c.answer_from.ensures
    ∙ ap (λ cs. load_from (group_at cs) c.args.days) c.groups_of.ensures
    ∙ from_table_rule (tally ss) c.args.days
    ∙ from_shares ss c.args.days c.requires
    (rows_grouped a.points a.point (book_asked a) a.sound a.there (length a.ids.now) (omega arith))
