-- `book::place::stands_at` meets its contract. Assumes nothing.
use mathlib.Core.Path.{sym, ◌∙◌}
use borrow.Author.Tests.{le-ltb}
use Rattle.book_rules.proofs.Search.{stands_here, stands_past}
use Rattle.book.proofs.place.stands_at.Goals as goal

pub returns-then-at-ids : goal.returns-then-at-ids
returns-then-at-ids c =
    stands_here c.args.x c.args.ids.now c.args.at
    c.requires.le_x c.requires.placed.rising= c.requires.placed.place
    c.if-at-ids.true

pub returns-else-at-ids : goal.returns-else-at-ids
returns-else-at-ids c =
    le-ltb _ _ c.if-at-ids.false ∙ sym (stands_past c.args.x c.args.ids.now c.args.at
    c.requires.placed.place c.if-at-ids.false)
