use Rattle.std.proofs.Common.{arith}
use Rattle.std.proofs.lemmas.Bool.Decides.{nat_tests}
use Rattle.std.specs.Prelude.{◌<◌, get_or}
use mathlib.Core.Path.{sym, ◌∙◌}
use Rattle.refusal.proofs.Laws.{settled}
use Rattle.flights.specs.Name.{name_of}
use Rattle.flights.proofs.Names.{code_step, code_stop, code_end, code_grows, three_bytes_lem}
use Rattle.flights.proofs.name.name.Goals as goal
use Rattle.flights.proofs.name.name.Goals.{Else-not-in_name}
use Rattle.flights.proofs.name.name.Goals.{then-is_empty-via-then-is_empty, then-is_empty-via-else-is_empty+then-s-gt4}

pub returns-then-is_empty : goal.returns-then-is_empty
unfolding name_of
returns-then-is_empty c =
    elim c.then-is_empty.branch [
      | then-is_empty-via-then-is_empty w ↦ grind (arith, nat_tests)
      | then-is_empty-via-else-is_empty+then-s-gt4 w ↦ grind (arith, nat_tests)
    ]

pub loop-c-init : goal.loop-c-init
unfolding name_of
loop-c-init c = (grind (arith, nat_tests), omega arith, omega arith)

pub returns-then-not-in_name : goal.returns-then-not-in_name
returns-then-not-in_name c =
    sym (c.loop-c.invariant.0
    ∙ code_stop c.args.s.now c.loop-c.value c.loop-c.c-index (omega arith)
    (settled c.in_name.ensures c.if-not-in_name.true))

-- in the loop the value has at most three bytes, and the next byte is one
small : (c : Else-not-in_name) → let l = c.loop-c in
    let s = c.args.s.now in
    (l.value < 16777216) × (get_or s l.c-index 0 < 256)
small c =
    let l = c.loop-c in (
      three_bytes_lem l.value l.c-index l.invariant.2 (omega arith),
      omega (arith, c.type_inv.s l.c-index),
    )

pub loop-c-preserved : goal.loop-c-preserved
loop-c-preserved c =
    let l = c.loop-c in
    let e = c.from.ensures in
    let s = small (goal.at.loop-c-preserved c).Else-not-in_name in (
      rw e (l.invariant.0
          ∙ code_step c.args.s.now l.value l.c-index (omega arith)
          (settled c.in_name.ensures c.if-not-in_name.false)),
      omega arith,
      rw e (code_grows l.value l.c-index _ l.invariant.2 s.1),
    )

pub returns : goal.returns
returns c = sym (c.loop-c.invariant.0 ∙ code_end c.args.s.now c.loop-c.value c.loop-c.c-index (omega arith))

pub overflow_mul-value : goal.overflow_mul-value
overflow_mul-value c = omega (arith, (small (goal.at.overflow_mul-value c).Else-not-in_name).0)

pub overflow_add-value : goal.overflow_add-value
overflow_add-value c =
    let s = small (goal.at.overflow_add-value c).Else-not-in_name in
    omega (arith, s.0, s.1, c.from.ensures)
