-- `files::inner::answer` meets its contract: limits.csv is refused, or the register is answered. Assumes nothing.
use Rattle.std.proofs.Common.{refl, sym, ap, subst, arith}
use Rattle.refusal.proofs.Laws.{numbered}
use Rattle.book_rules.specs.History.{empty_book}
use Rattle.register.specs.LimitsFile.{LimitsFile}
use Rattle.report_text.specs.InnerRoom.{LimitsFit}
use Rattle.report_rules.proofs.LimitsFits.{limits_fit_lem}
use Rattle.files.proofs.Texts.{limits_refused, limits_accepted}
use Rattle.files.specs.Kinds.{telling_of}
use Rattle.files.proofs.inner.answer.Goals as goal

pub returns-in-Err : goal.returns-in-Err
returns-in-Err c =
    let low = numbered c.in-Err.refused.why in
    limits_refused (telling_of c.args.kind) c.args.text.now c.requires.opened (rw c.in-Err.is at c.read_limits.ensures)
    (λ e. absurd (omega arith)) (rw c.number.ensures at c.put_refused.ensures)

pub report-requires : goal.report-requires
unfolding empty_book
report-requires c =
    let q = rw c.in-Ok.is at c.read_limits.ensures in
    record {
      levels_value = refl;
      limits_fit = (
        subst LimitsFit (sym q) (limits_fit_lem c.args.text.now (sym (ap (λ (l : LimitsFile). l.refusal) q))),
        c.requires.longest_text_in_bounds,
      );
    }

pub returns : goal.returns
returns c =
    limits_accepted (telling_of c.args.kind) c.args.text.now c.requires.opened (rw c.in-Ok.is at c.read_limits.ensures)
    refl c.report.ensures
