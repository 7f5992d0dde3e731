-- What the contract of the very function `run` says of a run: `Post` is its own, as the check reads it from the code.
-- Assumes nothing.
use Rattle.std.specs.Prelude.{ℕ, Bool}
use contract.Lifetimes.{Lfts}
use Rattle.std.specs.declared.rt.LibcRuntime.{LibcRuntime}
use denote.{Bor.Bor, MutBor.MutBor}
use Rattle.channel.specs.Told.{RunTold}
use Rattle.contours_steps.specs.RunTold.{SheetTold}
use Rattle.contours_steps.proofs.Running.{run_told}
use Rattle.contours.proofs.run.Reads.{Post}

pub contours_run : (lifetimes : Lfts 2) (rt : Bor LibcRuntime) (before after : MutBor ℕ) (r : Bool)
    → Post lifetimes (rt, (before, tt)) r (rt, (after, tt)) → RunTold SheetTold r after.now
contours_run lifetimes rt before after r ends = run_told r after.now ends
