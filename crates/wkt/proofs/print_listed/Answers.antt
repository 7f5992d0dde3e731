-- `wkt::print_listed` meets its contract. Assumes nothing.
use mathlib.Core.{Path.refl, Path.ap, Path.◌∙◌, List.List}
use Rattle.std.specs.Prelude.{ℕ, ◌≤◌, length, set}
use native.Mathlib.Omega.{arith}
use Rattle.std.proofs.lemmas.Bool.Decides.{nat_tests}
use Rattle.room.proofs.{Fronts.front_one_lem, Answers.write_both, Answers.short_first, Answers.short_second}
use Rattle.wkt.specs.{Text.text_of, InnerParts.lines_from}
use Rattle.wkt.proofs.{Steps.reached_first, Printing.text_short, Printing.printed_whole}
use Rattle.wkt.proofs.print_listed.Goals as goal
use Rattle.wkt.proofs.print_listed.Goals.{Start, Else-is_empty, then-text-needed-via-then-text-needed}
use Rattle.wkt.proofs.print_listed.Goals.{then-text-needed-via-else-text-needed+then-is_empty}

abbrev whole : Start → List ℕ
whole s =
    let a = s.args in
    text_of a.levels.now a.frame a.v (lines_from a.edges.now a.counts.now a.closed.now)

-- the text fits where the size found does
fits : (c : Else-is_empty)
    → let a = c.args in
    length (text_of a.levels.now a.frame a.v (lines_from a.edges.now a.counts.now a.closed.now)) ≤ length a.text.now
fits c = omega (arith, c.text_size-needed.ensures, c.if-text-needed.false)

pub print_part-requires : goal.print_part-requires
print_part-requires c =
    let a = c.args in (
      c.requires,
      reached_first a.levels.now a.frame a.v a.edges.now a.counts.now a.closed.now
          c.requires.summed
          c.first.result c.first.ensures,
    )

pub overflow_cast-size : goal.overflow_cast-size
overflow_cast-size c =
    let a = c.args in
    omega (
      arith,
      c.text_size-needed.ensures,
      text_short a.levels.now a.frame a.v a.edges.now a.counts.now a.closed.now c.requires,
    )

pub returns : goal.returns
returns c =
    let a = c.args in
    let p = c.print_part in
    let one : 1 ≤ length a.size.now = grind (arith, nat_tests, c.if-is_empty.ensures) in
    write_both refl (fits (goal.at.returns c).Else-is_empty) one
    (printed_whole a.levels.now a.frame a.v a.edges.now a.counts.now a.closed.now c.requires
    c.first.result c.first.ensures a.text.now p.new.room p.result
    p.ensures
    p.auto.room (fits (goal.at.returns c).Else-is_empty))
    (ap (λ (k : ℕ). set a.size.now 0 k) c.text_size-needed.ensures
    ∙ front_one_lem a.size.now (length (whole (goal.at.returns c).Start)) one)

pub returns-then-text-needed : goal.returns-then-text-needed
returns-then-text-needed c =
    elim c.then-text-needed.branch [
      | then-text-needed-via-then-text-needed w ↦
          short_first (omega (arith, c.text_size-needed.ensures, w.if-text-needed.true)) refl
      | then-text-needed-via-else-text-needed+then-is_empty w ↦
          short_second (grind (arith, nat_tests, w.if-is_empty.ensures)) refl
    ]
