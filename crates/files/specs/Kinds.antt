-- The two programs over the same files: which text each makes of a book. Assumes nothing.
use Rattle.std.specs.Prelude.{ℕ, cond, ◌==◌}
use Rattle.report_text.specs.Text.{book_text}
use Rattle.explain_text.specs.Text.{explain_text}
use Rattle.report_rules.specs.Report.{Telling}
use Rattle.files.specs.declared.inner.Kind.{Kind}
use Rattle.files.specs.declared.inner.Kind.TheVariants.{Report, Explain}

-- the report, or how each load comes about
abbrev pub telling_of : Kind → Telling
telling_of Report = book_text
telling_of Explain = explain_text

-- the kind that a number asks for: 1 how each load comes about, any other the report
abbrev pub kind_of : ℕ → Kind
kind_of number = cond (number == 1) Explain Report
