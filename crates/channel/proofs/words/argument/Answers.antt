-- `channel::words::argument` meets its contract. Assumes nothing.
use Rattle.std.proofs.Common.{◌≤◌, ℕ, length, sym, arith, Result, Ok, Err, IfOk}
use Rattle.std.specs.Result.{result_unwrap_or}
use Rattle.std.proofs.Math.Seq.{length-take-le}
use Rattle.channel.specs.System.{system_named}
use Rattle.channel.proofs.words.argument.Goals as goal

-- what counts lies within the room
bounded : {E : Type 0} (r : Result ℕ E) (top : ℕ) → IfOk r (λ n. n ≤ top) → result_unwrap_or r 0 ≤ top
bounded (Ok n) top fits = fits
bounded (Err e) top fits = omega arith

pub returns : goal.returns
returns c =
    let fits : c.unwrap_or.result ≤ length c.arg.new.buf = rw c.unwrap_or.ensures (bounded c.arg.result _ c.arg.ensures.bound) in
    record {
      within = (fits, sym (length-take-le _ c.arg.new.buf fits));
      is = system_named c.args.i _ c.arg.new.buf fits;
    }
