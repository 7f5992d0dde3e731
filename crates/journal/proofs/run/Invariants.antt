-- `journal::run` meets its contract: the calls made so far and those still to come give what the whole journal gives.
-- Assumes nothing.
use Rattle.std.specs.Prelude.{◌≡◌, length}
use Rattle.book_rules.specs.Columns.{book_of}
use Rattle.journal.proofs.Replaying.{Replaying}
use Rattle.journal.proofs.run.Given as goal

abbrev pub invariant-loop-rest : goal.invariant-loop-rest
invariant-loop-rest l =
    Replaying l.points (book_of l.initial.ids l.initial.groups l.initial.marks l.initial.counts l.initial.levels)
    l.journal l.initial.answers l.rest l.made
    (book_of l.ids l.groups l.marks l.counts l.levels) l.answers
    × ((length l.ids ≡ length l.initial.ids)
    × ((length l.groups ≡ length l.initial.groups)
    × ((length l.marks ≡ length l.initial.marks)
    × ((length l.counts ≡ length l.initial.counts)
    × ((length l.levels ≡ length l.initial.levels) × (length l.answers ≡ length l.initial.answers))))))

abbrev pub decreases-loop-rest : goal.decreases-loop-rest
decreases-loop-rest l = length l.rest
