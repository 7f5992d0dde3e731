-- `files::inner::limits_text` meets its contract: all of limits.csv, as much as there is room for, or none.
-- Assumes nothing.
use Rattle.std.proofs.Common.{◌≡◌, refl, sym, arith, rules, length}
use lib.Seq.{length-take-le, take-length}
use Rattle.report_rules.specs.Report.Opened.{all, cut, unread}
use Rattle.files.proofs.inner.limits_text.Goals as goal

pub returns-in-Complete : goal.returns-in-Complete
returns-in-Complete c =
    let came = (rw c.in-Complete.is at c.read_file.ensures).filling in
    ((came.0, sym (length-take-le _ _ came.0)), all came.2)

pub returns-in-FailedAfter : goal.returns-in-FailedAfter
returns-in-FailedAfter c =
    let came = (rw c.in-FailedAfter.is at c.read_file.ensures).filling in
    ((omega arith, refl), unread _ came.2 refl)

pub returns-in-Full : goal.returns-in-Full
returns-in-Full c =
    let first = (rw c.in-Full.is at c.read_file.ensures).filling in
    let long : length c.read_file.new.text ≡ length c.args.text.now = search rules in
    rw (take-length c.read_file.new.text) ((omega arith, refl), cut first (omega (arith, long, c.requires)))
