use Rattle.std.proofs.Common.{◌≡◌, ◌+◌, ◌-◌, ◌≤◌, arith, refl, length, take, rules}
use borrow.Rule.Slice.PartMut.{put_mid}
use Rattle.channel.specs.System.{none_came}
use Rattle.channel.specs.Input.{Came, origin_of}
use Rattle.channel.proofs.Behind.{read_more, read_end, read_broken, filled_up}
use Rattle.channel.proofs.whole.fill_from.Goals as goal
use Rattle.channel.proofs.whole.fill_from.Goals.{In-Bytes}

-- what a read that gave bytes gave
more : (c : In-Bytes) → let n = c.loop-n.n in let m = length c.loop-n.text - n in let now = put_mid n m c.loop-n.text
    c.read_from.new.room in
    (1 ≤ c.in-Bytes.k) × (n + c.in-Bytes.k ≤ length now)
    × Came (origin_of c.args.opened c.args.name.now) c.read_from.new.taken (take (n + c.in-Bytes.k) now)
more c =
    let l = c.loop-n in
    read_more c.read_from.ensures l.n (length l.text - l.n) l.text l.invariant.0 l.invariant.1 c.in-Bytes.k
    c.in-Bytes.is

pub loop-n-init : goal.loop-n-init
loop-n-init c = (omega arith, record { first = none_came _; long = refl })

pub loop-n-smaller : goal.loop-n-smaller
loop-n-smaller c = let m = more (goal.at.loop-n-smaller c).In-Bytes in omega (arith, m.0, m.1)

pub loop-n-preserved : goal.loop-n-preserved
loop-n-preserved c = let m = more c in (m.1, m.2)

pub returns-in-End : goal.returns-in-End
returns-in-End c =
    let l = c.loop-n in
    read_end c.read_from.ensures l.n (length l.text - l.n) l.text l.invariant.0 l.invariant.1 c.in-End.is

pub returns-in-Failed : goal.returns-in-Failed
returns-in-Failed c =
    let l = c.loop-n in
    let kept : length c.read_from.new.room ≡ length l.text - l.n = search rules in
    read_broken c.read_from.ensures l.n (length l.text - l.n) l.text l.invariant.0 l.invariant.1 (omega (arith, kept))
    c.in-Failed.is

pub returns : goal.returns
returns c = let l = c.loop-n in filled_up l.n l.text l.invariant.0 (omega arith) l.invariant.1
