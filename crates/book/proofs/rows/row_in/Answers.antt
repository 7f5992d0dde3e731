-- `book::rows::row_in` meets its contract. Assumes nothing.
use Rattle.book_rules.specs.{Calls.row_in, Columns.book_of, Columns.book_lent}
use Rattle.book_rules.proofs.Rooms.{RoomIn, room_in}
use Rattle.book.proofs.rows.row_in.Goals as goal
use Rattle.book.proofs.rows.row_in.Goals.{Start}

room : (s : Start)
    → RoomIn s.args.points
    (book_lent s.args.ids.now s.args.groups.now s.args.marks.now s.args.counts.now s.args.levels.now) s.args.at
    s.args.rows
room s = room_in _ _ _ _ s.requires.rows_to s.requires.rows_in_bounds

-- the five columns, each as its own call left it
pub returns : goal.returns
unfolding row_in
returns c =
    λ i. book_of (c.open_at.ensures i) (c.open_at-2.ensures i) (c.open_at-3.ensures i)
    (c.open_with.ensures i) (c.open_at-4.ensures i)

pub overflow_mul-start : goal.overflow_mul-start
overflow_mul-start c = (room (goal.at.overflow_mul-start c).Start).at_fits

pub overflow_mul-cells : goal.overflow_mul-cells
overflow_mul-cells c = (room (goal.at.overflow_mul-cells c).Start).count_fits

pub open_at-requires : goal.open_at-requires
open_at-requires c =
    let r = (room (goal.at.open_at-requires c).Start).ids in record { zero_from = r.0; w_in_bounds = r.1 }

pub open_at-requires-2 : goal.open_at-requires-2
open_at-requires-2 c =
    let r = (room (goal.at.open_at-requires-2 c).Start).groups in record { zero_from = r.0; w_in_bounds = r.1 }

pub open_at-requires-3 : goal.open_at-requires-3
open_at-requires-3 c =
    let r = (room (goal.at.open_at-requires-3 c).Start).marks in record { zero_from = r.0; w_in_bounds = r.1 }

pub open_with-requires : goal.open_with-requires
open_with-requires c =
    let r = (room (goal.at.open_with-requires c).Start).counts in
    record { zero_from = r.0; from_in_bounds = rw c.requires.given_len r.1 }

pub open_at-requires-4 : goal.open_at-requires-4
open_at-requires-4 c =
    let r = (room (goal.at.open_at-requires-4 c).Start).levels in record { zero_from = r.0; w_in_bounds = r.1 }
