-- `text::inner::put_decimal` meets its contract: the units, a point and the decimals, each past the other.
-- Assumes nothing.
use Rattle.std.specs.Prelude.{◌+◌, ◌/◌, ◌%◌, ◌^◌, ◌<◌, ◌≤◌, length}
use native.Mathlib.{Nat.div-lt_iff_lt-mul, Nat.mod-lt, Omega.arith}
use Rattle.room.proofs.Laws.{wrote_then}
use Rattle.text.specs.Number.{show_whole}
use Rattle.text.proofs.Shown.{parts_some, digits_long, decimal_long}
use Rattle.text.proofs.inner.put_decimal.Goals as goal
use Rattle.text.proofs.inner.put_decimal.Goals.{After-power-parts}

-- the units are few, and the room, part by part
units : (c : After-power-parts) → c.args.n / c.power-parts.result < 10000000
units c =
    let d = c.args.d in
    rw c.power-parts.ensures ((div-lt_iff_lt-mul {k = 10 ^ d} {x = c.args.n} {y = 10000000} (parts_some d)).1
    c.requires.1)

room : (c : After-power-parts) → let a = c.args in
    a.at + length (show_whole (a.n / c.power-parts.result)) + 1 + a.d ≤ length a.out.now
room c =
    rw c.power-parts.ensures (omega (arith, c.requires.2, decimal_long c.args.d c.args.n))

pub put_byte-next-requires : goal.put_byte-next-requires
put_byte-next-requires c =
    let whole = c.put_whole-point in
    omega (arith, room (goal.at.put_byte-next-requires c).After-power-parts, whole.ensures.place, whole.auto.out)

pub put_digits-requires : goal.put_digits-requires
put_digits-requires c =
    let point = c.put_byte-next in
    let whole = c.put_whole-point in (
      c.requires.0,
      rw c.power-parts.ensures (mod-lt c.args.n (parts_some c.args.d)),
      omega (
        arith,
        room (goal.at.put_digits-requires c).After-power-parts,
        whole.ensures.place,
        whole.auto.out,
        point.ensures.place,
        point.auto.out,
      ),
    )

pub returns : goal.returns
returns c =
    let digits = c.put_digits in
    let whole = c.put_whole-point in
    let power = c.power-parts.ensures in
    let long = digits_long c.args.d (c.args.n % 10 ^ c.args.d) in
    wrote_then c.requires.2 (rw power at whole.ensures)
    (wrote_then (omega (arith, room (goal.at.returns c).After-power-parts, whole.ensures.place, whole.auto.out))
    c.put_byte-next.ensures (rw power at digits.ensures))

pub put_whole-point-requires : goal.put_whole-point-requires
put_whole-point-requires c = (
  units (goal.at.put_whole-point-requires c).After-power-parts,
  omega (arith, room (goal.at.put_whole-point-requires c).After-power-parts),
)
