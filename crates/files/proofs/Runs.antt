-- What the contract of the very function `run` says of each program: `Post` is its own, as the check reads it from the
-- code, so that no other contract can stand there under the same name. Assumes nothing.
use Rattle.std.specs.Prelude.{ℕ}
use mathlib.Core.{Path.◌≡◌, Path.subst, Bool.Bool}
use contract.Lifetimes.{Lfts}
use Rattle.std.specs.Borrow.{Bor, MutBor}
use Rattle.std.specs.declared.rt.LibcRuntime.{LibcRuntime}
use Rattle.report_text.specs.Text.{book_text}
use Rattle.explain_text.specs.Text.{explain_text}
use Rattle.channel.specs.{Run.Run, Told.RunTold}
use Rattle.report_rules.specs.{Report.MayWrite, Told.TextTold}
use Rattle.report_rules.proofs.Running.{run_told}
use Rattle.files.specs.Kinds.{kind_of, telling_of}
use Rattle.files.proofs.inner.run.Reads.{Post}

module _ (lifetimes : Lfts 2) (rt : Bor LibcRuntime) (kind : ℕ) (before after : MutBor ℕ) (r : Bool)
    (ends : Post lifetimes (rt, (kind, (before, tt))) r (rt, (kind, (after, tt)))) where
  run_of : (k : ℕ) → kind ≡ k → Run (MayWrite (telling_of (kind_of k))) r after.now
  run_of k e = subst (λ (x : ℕ). Run (MayWrite (telling_of (kind_of x))) r after.now) e ends

  pub report_run : kind ≡ 0 → RunTold (TextTold book_text) r after.now
  report_run e = run_told book_text r after.now (run_of 0 e)

  pub explain_run : kind ≡ 1 → RunTold (TextTold explain_text) r after.now
  explain_run e = run_told explain_text r after.now (run_of 1 e)
