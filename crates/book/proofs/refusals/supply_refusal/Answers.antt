-- `book::refusals::supply_refusal` meets its contract. Assumes nothing.
use mathlib.Core.{Path.◌≡◌, Path.refl, Path.sym, Path.◌∙◌, Bool.Bool, Bool.true}
use mathlib.Core.List.{List}
use Rattle.std.specs.Prelude.{ℕ, ◌+◌, ◌*◌, ◌≤◌, length}
use native.Mathlib.Omega.{arith}
use Rattle.refusal.specs.Refuse.{refuse}
use Rattle.refusal.proofs.Laws.{settled}
use Rattle.movement.specs.Rules.{identity_fits, levels_fit, zero_elsewhere}
use Rattle.book_rules.specs.{Calls.supply_refusal, Columns.stands, Columns.index_of, Columns.cells_at}
use Rattle.book_rules.proofs.{Accepted.Stood, Accepted.identity_in, Scans.room, Cells.cells_part}
use Rattle.book.proofs.Stood.{stood_index, stood_below}
use Rattle.book.proofs.refusals.supply_refusal.Goals as goal
use Rattle.book.proofs.refusals.supply_refusal.Goals.{After-zero_elsewhere, Else-not-stands_at}

pub returns-then-not-levels_fit : goal.returns-then-not-levels_fit
unfolding supply_refusal
returns-then-not-levels_fit c =
    simp (
      settled c.identity_fits.ensures c.if-not-identity_fits.false,
      settled c.levels_fit.ensures c.if-not-levels_fit.true,
    )

pub stands_at-requires : goal.stands_at-requires
stands_at-requires c =
    record {
      placed = c.requires.placed;
      le_x = (identity_in _ (settled c.identity_fits.ensures c.if-not-identity_fits.false)).0;
    }

-- past the tests of identity and levels
past : (p : ℕ) (ids cs : List ℕ) (x : ℕ) (ls : List ℕ) → identity_fits x ≡ true → levels_fit p ls ≡ true
    → supply_refusal p ids cs x ls
    ≡ refuse 5 (stands x ids) (refuse 19 (zero_elsewhere (cells_at p (index_of x ids) cs) ls) 0)
unfolding supply_refusal
past p ids cs x ls e f = simp (e, f)

-- past the test of standing
stood : (c : Else-not-stands_at) → Stood c.args.ids.now c.args.identity
stood c =
    record {
      identity= = settled c.identity_fits.ensures c.if-not-identity_fits.false;
      stands= = settled c.stands_at.ensures c.if-not-stands_at.false;
    }

-- the row's part of the counts ends within them
space : (c : Else-not-stands_at)
    → c.args.at * c.args.points + c.args.points ≤ length c.args.counts.now
space c =
    let a = c.args in
    room a.points a.at (a.at * a.points) (length a.ids.now) (length a.counts.now) refl
    (stood_below c.requires.placed (stood c)) c.requires.counts_len

-- what is left of the refusals is whether the part is zero where it should be
judged : (c : After-zero_elsewhere) {t : Bool} → c.zero_elsewhere.result ≡ t → let a = c.args in
    supply_refusal a.points a.ids.now a.counts.now a.identity a.given.now ≡ refuse 19 t 0
judged c e =
    let a = c.args in
    let fits = settled c.identity_fits.ensures c.if-not-identity_fits.false in
    let here = settled c.stands_at.ensures c.if-not-stands_at.false in
    past a.points a.ids.now a.counts.now a.identity a.given.now fits
    (settled c.levels_fit.ensures c.if-not-levels_fit.false)
    ∙ rw (
      here,
      stood_index c.requires.placed (record { identity= = fits; stands= = here }),
      ← cells_part a.points a.at (a.at * a.points) a.counts.now refl,
      ← c.zero_elsewhere.ensures,
      e,
    ) refl

pub returns-then-not-identity_fits : goal.returns-then-not-identity_fits
returns-then-not-identity_fits c = unfold supply_refusal in
    simp (settled c.identity_fits.ensures c.if-not-identity_fits.true)

pub returns-then-not-stands_at : goal.returns-then-not-stands_at
returns-then-not-stands_at c =
    rw (
      past _ _ _ _ _ (settled c.identity_fits.ensures c.if-not-identity_fits.false)
          (settled c.levels_fit.ensures c.if-not-levels_fit.false),
      settled c.stands_at.ensures c.if-not-stands_at.true,
    )

pub overflow_mul-start : goal.overflow_mul-start
overflow_mul-start c = omega (arith, space c)

pub overflow_add-start : goal.overflow_add-start
overflow_add-start c = omega (arith, space c)

pub offset_bounds-counts-start : goal.offset_bounds-counts-start
offset_bounds-counts-start c = omega (arith, space c)

pub slice_bounds-zero_elsewhere-end : goal.slice_bounds-zero_elsewhere-end
slice_bounds-zero_elsewhere-end c = space c

pub returns-then-not-zero_elsewhere : goal.returns-then-not-zero_elsewhere
returns-then-not-zero_elsewhere c =
    sym (judged (goal.at.returns-then-not-zero_elsewhere c).After-zero_elsewhere (c.if-not-zero_elsewhere.true))

pub returns : goal.returns
returns c = sym (judged (goal.at.returns c).After-zero_elsewhere (c.if-not-zero_elsewhere.false))
