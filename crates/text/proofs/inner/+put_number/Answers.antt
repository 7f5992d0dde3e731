-- `text::inner::put_number` meets its contract; its measure is the number. Assumes nothing.
use Rattle.std.specs.Prelude.{ℕ, ◌^◌, ◌<◌, length}
use mathlib.Core.Path.{ap}
use native.Mathlib.Omega.{arith}
use Rattle.text.proofs.Shown.{shown_last, shown_tenth, shown_longer}
use Rattle.room.proofs.Laws.{wrote_then}
use Rattle.text.proofs.inner.+put_number.Goals as goal

-- 20 digits are enough
small : (n : ℕ) → n < 2 ^ 64 → n < 10 ^ 20
small n h = omega arith

pub put_byte-requires : goal.put_byte-requires
put_byte-requires t c = omega (arith, ap length (shown_last 19 c.args.n c.if-n-lt10.true), c.requires)

pub returns-then-n-lt10 : goal.returns-then-n-lt10
returns-then-n-lt10 t c = rw (shown_last 19 c.args.n c.if-n-lt10.true) c.put_byte.ensures

pub put_number-next-requires : goal.put_number-next-requires
put_number-next-requires t c =
    let l = shown_longer 18 c.args.n c.if-n-lt10.false (small c.args.n (omega arith)) in
    (omega (arith, c.decreases), omega (arith, c.requires))

pub put_byte-requires-2 : goal.put_byte-requires-2
put_byte-requires-2 t c =
    let l = shown_longer 18 c.args.n c.if-n-lt10.false (small c.args.n (omega arith)) in
    omega (arith, c.requires, c.put_number-next.ensures.place, c.put_number-next.auto.out)

pub returns : goal.returns
returns t c =
    let m = shown_tenth 18 c.args.n c.if-n-lt10.false (small c.args.n (omega arith)) in
    rw m (wrote_then (rw m at c.requires) c.put_number-next.ensures c.put_byte-2.ensures)
