-- `couple::run`: tracks.csv is read into its table, and is refused, or the movements follow. Assumes nothing.
use mathlib.Core.Path.{◌≡◌, sym, ap}
use Rattle.std.specs.Prelude.{ℕ}
use native.Mathlib.Omega.{arith}
use Rattle.refusal.specs.Refusal.{told, number_of}
use Rattle.refusal.proofs.Laws.{numbered}
use Rattle.text.specs.Sheet.{refused_text}
use Rattle.couple_steps.proofs.Answering.{may_tracks}
use Rattle.couple.proofs.run.Goals as goal

pub refuse-requires-clause-may_write : goal.refuse-requires-clause-may_write
refuse-requires-clause-may_write c =
    let read = c.read_tracks-read in
    let e : told read.result.refusal ≡ number_of c.in-Err.why = ap told c.in-Err.is in
    may_tracks read.ensures (λ z. omega (arith, numbered c.in-Err.why, e, z))
    (ap (λ (n : ℕ). refused_text n read.result.line) (sym e))
