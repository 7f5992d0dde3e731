-- What the contract of the very function `run` says of a run: `Post` is its own, as the check reads it from the code.
-- Assumes nothing.
use Rattle.std.specs.Prelude.{ℕ}
use Rattle.std.specs.Borrow.{Bor, MutBor}
use mathlib.Core.{Bool.Bool}
use contract.Lifetimes.{Lfts}
use Rattle.std.specs.declared.rt.LibcRuntime.{LibcRuntime}
use Rattle.channel.specs.Told.{RunTold}
use Rattle.couple_steps.specs.Told.{TextTold}
use Rattle.couple_steps.proofs.Running.{run_told}
use Rattle.couple.proofs.run.Reads.{Post}

pub couple_run : (lifetimes : Lfts 2) (rt : Bor LibcRuntime) (before after : MutBor ℕ) (r : Bool)
    → Post lifetimes (rt, (before, tt)) r (rt, (after, tt)) → RunTold TextTold r after.now
couple_run lifetimes rt before after r ends = run_told r after.now ends
