-- `level::inner::level_of` meets its contract: below zero under 1000, and otherwise what the walk finds.
-- Assumes nothing.
use borrow.Author.{Tests.lt-ltb}
use Rattle.level.specs.Level.{level_of}
use Rattle.level.proofs.inner.level_of.Goals as goal

pub returns-then-m-lt1000 : goal.returns-then-m-lt1000
returns-then-m-lt1000 c = unfold level_of in rw (lt-ltb _ _ c.if-m-lt1000.true)
