use Rattle.std.specs.Prelude.{◌≤◌, length}
use mathlib.Core.Path.{refl, sym}
use native.Mathlib.Omega.{arith}
use lib.ListN.{length-set}
use Rattle.std.proofs.lemmas.List.{take_rest}
use borrow.Author.Rules.{rules}
use Rattle.book_rules.specs.Columns.{book_lent}
use Rattle.journal.specs.Journal.{calls_of}
use Rattle.journal.proofs.Reading.{Step, step_laid, laid_complete, length_tail, some_left, none_left}
use Rattle.journal.proofs.Replaying.{replay_starts, replay_more, replay_ends, next, all, length_all}
use Rattle.journal.proofs.run.Goals as goal
use Rattle.journal.proofs.run.Goals.{Start, After-width_of}

pub loop-rest-init : goal.loop-rest-init
loop-rest-init c = (
  replay_starts _ _ _ _ c.requires.levels_value c.requires.journal_value,
  (refl, (refl, (refl, (refl, (refl, refl))))),
)

-- there is room for every answer
space : (s : Start)
    → let a = s.args in
    length (all a.points (book_lent a.ids.now a.groups.now a.marks.now a.counts.now a.levels.now) a.journal.now)
    ≤ length a.answers.now
space s =
    let a = s.args in
    omega (
      arith,
      length_all a.points (book_lent a.ids.now a.groups.now a.marks.now a.counts.now a.levels.now)
          (calls_of a.journal.now),
      s.requires.journal_in_bounds,
    )

-- the call at the front of the rest is complete
step : (c : After-width_of) → Step c.loop-rest.rest.now c.width_of.result
step c =
    step_laid _ _ c.width_of.ensures (some_left _ c.is_empty.ensures c.loop-rest-test.true)
    c.loop-rest.invariant.0.laid

pub make_call-answer-requires : goal.make_call-answer-requires
make_call-answer-requires c =
    record {
      levels_value = c.loop-rest.invariant.0.sound=;
      rest_value =
          simp (
            take_rest,
            laid_complete _ (some_left _ c.is_empty.ensures c.loop-rest-test.true) c.loop-rest.invariant.0.laid,
          );
    }

pub bounds-answers-made : goal.bounds-answers-made
bounds-answers-made c =
    let inv = c.loop-rest.invariant in
    let s = step_laid c.loop-rest.rest.now _ refl (some_left _ c.is_empty.ensures c.loop-rest-test.true) inv.0.laid in
    omega (arith, (next inv.0 s).inside, space (goal.at.bounds-answers-made c).Start, inv.1)

pub loop-rest-smaller : goal.loop-rest-smaller
loop-rest-smaller c =
    let s = step (goal.at.loop-rest-smaller c).After-width_of in
    omega (arith, s.some, s.fits, length_tail c.loop-rest.rest.now c.width_of.result)

pub slice_bounds-rest-count : goal.slice_bounds-rest-count
slice_bounds-rest-count c = (step (goal.at.slice_bounds-rest-count c).After-width_of).fits

pub slice_bounds-rest-start : goal.slice_bounds-rest-start
slice_bounds-rest-start c = (step (goal.at.slice_bounds-rest-start c).After-width_of).fits

pub offset_bounds-rest-width_of : goal.offset_bounds-rest-width_of
offset_bounds-rest-width_of c =
    let s = (step (goal.at.offset_bounds-rest-width_of c).After-width_of).fits in
    omega (arith, c.loop-rest.invariant.0.within)

pub loop-rest-preserved : goal.loop-rest-preserved
loop-rest-preserved c =
    let inv = c.loop-rest.invariant in (
      replay_more inv.0 (step (goal.at.loop-rest-preserved c).After-width_of)
          (space (goal.at.loop-rest-preserved c).Start)
          (simp (sym c.told.ensures, take_rest) at c.make_call-answer.ensures)
          (omega arith),
      (
        search rules,
        (search rules, (search rules, (search rules, (search rules, simp length-set (omega (arith, inv.1)))))),
      ),
    )

pub returns : goal.returns
returns c =
    let e = replay_ends c.loop-rest.invariant.0 (none_left _ c.is_empty.ensures c.loop-rest-test.false) in
    record { book_of_calls = e.0; answers_of_calls = e.1 }
