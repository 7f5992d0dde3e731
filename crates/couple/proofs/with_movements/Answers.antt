-- `couple::with_movements`: the movements are read into a table of their own, and are refused or coupled.
-- Assumes nothing.
use mathlib.Core.Path.{◌≡◌, ap, subst}
use Rattle.std.specs.Prelude.{ℕ}
use native.Mathlib.Omega.{arith}
use Rattle.refusal.specs.Refusal.{told, number_of}
use Rattle.refusal.proofs.Laws.{numbered}
use Rattle.text.specs.Sheet.{refused_text}
use Rattle.couple_steps.specs.Written.{MayWrite}
use Rattle.couple_steps.proofs.Ready.{refused_movements}
use Rattle.couple.proofs.with_movements.Goals as goal

pub refuse-requires-clause-may_write : goal.refuse-requires-clause-may_write
refuse-requires-clause-may_write c =
    let next = c.read_movements-next in
    let e : told next.result.refusal ≡ number_of c.in-Err.why = ap told c.in-Err.is in
    subst (λ (n : ℕ). MayWrite (refused_text n next.result.line)) e
    (refused_movements c.requires.table_read next.ensures (λ z. omega (arith, numbered c.in-Err.why, e, z)))
