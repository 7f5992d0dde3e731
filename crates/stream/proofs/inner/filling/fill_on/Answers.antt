-- `stream::inner::filling::fill_on` meets its contract: a read leaves the bytes that waited as they were, and what it
-- gave is a piece, the end or a failure. Assumes nothing.
use Rattle.std.specs.Prelude.{◌≡◌, ◌+◌, ◌-◌, ◌≤◌, List, ℕ, length, take}
use mathlib.Core.Path.{refl}
use native.Mathlib.Omega.{arith}
use lib.Seq.{length-take-le}
use borrow.Author.Rules.{rules}
use borrow.Rule.Slice.PartMut.{put_mid, take_put}
use Rattle.channel.specs.declared.input.Arrived.TheVariants.{Bytes, End, Failed}
use Rattle.channel.proofs.Behind.{front_behind, behind_fits, gave_as}
use Rattle.stream.specs.Feeding.{Waiting}
use Rattle.stream.proofs.Turns.{pieced, lasted, turn_piece, turn_last, turn_failed}
use Rattle.stream.proofs.inner.filling.fill_on.Goals as goal

inside : {row left line taken : ℕ} {bytes : List ℕ} → Waiting row bytes left line taken → left ≤ length bytes
inside k = omega (arith, k.short, k.room)

pub returns-in-Bytes-clause-turned : goal.returns-in-Bytes-clause-turned
returns-in-Bytes-clause-turned g c =
    let a = c.args in
    let n = c.in-Bytes.n in
    let w = c.requires.waiting in
    let rest = length a.bytes.now - a.left in
    let room = c.read_from.new.room in
    let buffer = put_mid a.left rest a.bytes.now room in
    let gave = gave_as c.read_from.ensures (Bytes n) c.in-Bytes.is in
    let within = behind_fits a.left rest n a.bytes.now room (inside w) gave.1 in
    let fits = length-take-le (a.left + n) buffer within in
    let long : length c.fill_piece.new.bytes ≡ length a.bytes.now = search rules in
    rw c.turned.ensures
    (turn_piece (take a.left a.bytes.now) (take n room) (pieced c.fill_piece.result refl c.fill_piece.ensures.taken)
    (front_behind a.left rest n a.bytes.now room (inside w) gave.1)
    w.first (omega (arith, w.room, long)) (omega (arith, w.lines, gave.2, fits)) gave.3
    (omega (arith, gave.0, gave.2)) gave.4)
