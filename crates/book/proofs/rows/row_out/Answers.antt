-- `book::rows::row_out` meets its contract. Assumes nothing.
use Rattle.book_rules.specs.{Calls.row_out, Columns.book_of, Columns.book_lent}
use Rattle.book_rules.proofs.Rooms.{RoomOut, room_out}
use Rattle.book.proofs.rows.row_out.Goals as goal
use Rattle.book.proofs.rows.row_out.Goals.{Start}

room : (s : Start)
    → RoomOut s.args.points
    (book_lent s.args.ids.now s.args.groups.now s.args.marks.now s.args.counts.now s.args.levels.now) s.args.at
    s.args.rows
room s = room_out _ _ _ _ s.requires.rows_to s.requires.at_lt_rows

-- the five columns, each as its own call left it
pub returns : goal.returns
unfolding row_out
returns c =
    λ i. book_of (c.close_at.ensures i) (c.close_at-2.ensures i) (c.close_at-3.ensures i)
    (c.close_at-4.ensures i) (c.close_at-5.ensures i)

pub overflow_mul-start : goal.overflow_mul-start
overflow_mul-start c = (room (goal.at.overflow_mul-start c).Start).at_fits

pub overflow_mul-cells : goal.overflow_mul-cells
overflow_mul-cells c = (room (goal.at.overflow_mul-cells c).Start).count_fits

pub close_at-requires : goal.close_at-requires
close_at-requires c = (room (goal.at.close_at-requires c).Start).ids

pub close_at-requires-2 : goal.close_at-requires-2
close_at-requires-2 c = (room (goal.at.close_at-requires-2 c).Start).groups

pub close_at-requires-3 : goal.close_at-requires-3
close_at-requires-3 c = (room (goal.at.close_at-requires-3 c).Start).marks

pub close_at-requires-4 : goal.close_at-requires-4
close_at-requires-4 c = (room (goal.at.close_at-requires-4 c).Start).counts

pub close_at-requires-5 : goal.close_at-requires-5
close_at-requires-5 c = (room (goal.at.close_at-requires-5 c).Start).levels
