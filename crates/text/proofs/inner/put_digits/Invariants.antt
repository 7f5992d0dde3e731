-- `text::inner::put_digits` meets its contract. The invariant: what is written, and the digits that are left.
-- Assumes nothing.
use Rattle.std.specs.Prelude.{◌^◌, ◌<◌}
use Rattle.room.proofs.Writing.{Writing}
use Rattle.text.specs.Number.{show_digits}
use Rattle.text.proofs.inner.put_digits.Given as goal

abbrev pub invariant-loop-k : goal.invariant-loop-k
invariant-loop-k l = record {
  writing : Writing l.initial.out l.at (show_digits l.d l.n) l.out l.next (show_digits l.k l.left);
  below : l.left < 10 ^ l.k;
}
