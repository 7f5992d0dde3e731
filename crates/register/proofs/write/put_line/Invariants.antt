-- `register::write::put_line` meets its contract. The invariant: the columns passed stand at the front. Assumes
-- nothing.
use Rattle.std.specs.Prelude.{◌*◌, ◌≤◌}
use Rattle.text.specs.{Field.joined_by, Index.listing}
use Rattle.room.specs.Room.{Wrote}
use Rattle.register.specs.{Write.text_at}
use Rattle.register.proofs.write.put_line.Given as goal

abbrev pub invariant-loop-k : goal.invariant-loop-k
invariant-loop-k l = record {
  wrote : Wrote l.initial.out 0 (joined_by 44 (listing (text_at l.f l.levels) l.k)) l.out l.at;
  within : l.at ≤ 9 * l.k;
}
