-- `soundness::may_follow` meets its contract. Assumes nothing.
use Rattle.std.proofs.Common.{rules}
use native.Mathlib.Nat.{pos_of_ne-zero, le_of_eq}
use borrow.Author.Tests.{lt-ltb, le-ltb, eq-eqb, ne_eqb}
use Rattle.book_rules.specs.Columns.{follows}
use Rattle.soundness.proofs.may_follow.Goals as goal

pub returns-in_default-eq0 : goal.returns-in_default-eq0
returns-in_default-eq0 c = unfold follows in simp (eq-eqb _ _ c.in_default-eq0.is-1)

pub returns-in-0-default : goal.returns-in-0-default
returns-in-0-default c = unfold follows in simp (ne_eqb _ _ c.in-0-default.is-1.1, le-ltb _ _ (le_of_eq c.in-0-default.is-0))

pub returns-in_default : goal.returns-in_default
returns-in_default c =
    unfold follows in simp (ne_eqb _ _ c.in_default.is-1.1, lt-ltb _ _ (pos_of_ne-zero c.in_default.is-0.1))
