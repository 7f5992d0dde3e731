-- `load::sums::added_to` meets its contract: by cases on V. Assumes nothing.
use Rattle.std.specs.Prelude.{◌+◌}
use native.Mathlib.{Nat.add-zero, Omega.arith}
use borrow.Author.{Tests.eq-eqb, Tests.ne_eqb}
use Rattle.load_rules.specs.{Factors.known, Factors.unknown, Load.scaled_energy}
use Rattle.load.specs.InnerSteps.{Scalable, added_to}
use Rattle.load.proofs.BoundLaws.{scaled_by_le}
use Rattle.load.proofs.sums.added_to.Goals as goal
use Rattle.load.proofs.sums.added_to.Goals.{Start}

-- the group's energy and factor
scalable : (s : Start)
    → Scalable s.args.c.energy (s.args.c.computed + s.args.c.missing) s.args.c.computed
scalable s = record { movements = omega (arith, s.requires.movements); energy = s.requires.energy }

pub overflow_add-scaled : goal.overflow_add-scaled
overflow_add-scaled c =
    let g = c.args.c in
    omega (
      arith,
      c.scaled_by.ensures,
      scaled_by_le g.energy (g.computed + g.missing) g.computed
          (scalable (goal.at.overflow_add-scaled c).Start),
      c.requires.scaled,
      c.requires.movements,
    )

pub returns-then-c-eq0 : goal.returns-then-c-eq0
unfolding added_to scaled_energy known unknown
returns-then-c-eq0 c =
    rw (c.scaled_by.ensures, eq-eqb _ _ c.if-c-eq0.true)
    (simp add-zero)

pub returns : goal.returns
unfolding added_to scaled_energy known unknown
returns c = rw (c.scaled_by.ensures, ne_eqb _ _ c.if-c-eq0.false) (simp add-zero)
