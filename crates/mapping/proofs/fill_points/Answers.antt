use Rattle.std.specs.Prelude.{◌≡◌}
use mathlib.Core.Path.{ap, ◌∙◌}
use lib.{ListN.get_or, ListN.length-set}
use borrow.Author.Rules.{rules}
use Rattle.mapping.specs.{Places.located_of, Places.shown_of}
use Rattle.mapping.proofs.Fill.{numbers-none, places_none, numbers_turn, places_turn}
use Rattle.mapping.proofs.fill_points.Goals as goal

pub loop-i-init : goal.loop-i-init
loop-i-init c =
    let a = c.args in (
      search rules,
      (
        search rules,
        (
          numbers-none a.levels.now a.frame a.v a.which.now a.edges.now,
          places_none a.levels.now a.frame a.v a.places.now a.edges.now,
        ),
      ),
    )

pub loop-i-preserved : goal.loop-i-preserved
loop-i-preserved c =
    let l = c.loop-i in
    let a = c.args in
    let test = c.loop-i-test.true in
    let e : c.shown_of-shown.result ≡ shown_of (located_of a.levels.now a.frame a.v
    (get_or a.edges.now l.i 0)) =
    c.shown_of-shown.ensures ∙ ap shown_of c.locate_at.ensures in (
      simp length-set (search rules),
      (
        simp length-set (search rules),
        (
          rw (e, l.invariant.1.1.0)
              (numbers_turn a.levels.now a.frame a.v a.edges.now l.i test a.which.now c.requires.1.0),
          rw (e, l.invariant.1.1.1)
              (places_turn a.levels.now a.frame a.v a.edges.now l.i test a.places.now c.requires.1.1),
        ),
      ),
    )
