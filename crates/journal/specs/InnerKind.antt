-- Inner steps: no promise uses them. The kind of a call, by the number that a journal gives it. Assumes nothing.
use Rattle.std.specs.Prelude.{ℕ, cond, ◌==◌, Option, Some, None}
use Rattle.journal.specs.declared.numbers.Kind.{Kind}
use Rattle.journal.specs.declared.numbers.Kind.TheVariants.{Enter, Supply, TakeBack, Withdraw}

abbrev pub kind_numbered : ℕ → Option Kind
kind_numbered n =
    cond (n == 1) (Some Enter)
    (cond (n == 2) (Some Supply) (cond (n == 3) (Some TakeBack) (cond (n == 4) (Some Withdraw) None)))
