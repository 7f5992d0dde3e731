-- `okubinrafo::loads::okubinrafo_load` meets its contract: a refusal, or a load that is written. Assumes nothing.
use mathlib.Core.Path.{sym, ap, ◌∙◌}
use native.Mathlib.Omega.{arith}
use Rattle.refusal.proofs.Laws.{numbered}
use Rattle.load_rules.specs.Told.{LoadTold}
use Rattle.load_rules.specs.Load.{refused_load}
use Rattle.room.proofs.Answers.{refuse}
use Rattle.okubinrafo.proofs.loads.okubinrafo_load.Goals as goal

pub returns-in-Err : goal.returns-in-Err
unfolding refused_load
returns-in-Err c =
    refuse
    (ap (λ (l : LoadTold). l.refused) (sym c.in-Err.ensures) ∙ sym c.number.ensures)
    (λ z. omega (arith, numbered c.in-Err.why, c.number.ensures, z))
