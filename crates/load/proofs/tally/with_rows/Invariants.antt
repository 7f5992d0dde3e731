-- `load::tally::with_rows` meets its contract: the invariant is the groups of the first rows. A sound book says that
-- the next row fits. Assumes nothing.
use Rattle.std.specs.Prelude.{◌≡◌}
use Rattle.load_rules.specs.{Shares.shares_to, Tally.tally}
use Rattle.load.specs.InnerSteps.{flat, book_asked}
use Rattle.load.proofs.tally.with_rows.Given as goal

abbrev pub invariant-loop-i : goal.invariant-loop-i
invariant-loop-i l = l.cells ≡ flat (tally (shares_to l.asked.points l.asked.point (book_asked l.asked) l.i))
