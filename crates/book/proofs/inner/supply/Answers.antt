-- `book::inner::supply` meets its contract: it is refused as `supply_refusal` says, or the row is marked and the levels
-- are copied over its own. Assumes nothing.
use Rattle.std.specs.Prelude.{◌≡◌}
use mathlib.Core.Path.{refl, sym}
use native.Mathlib.Omega.{arith}
use Rattle.book_rules.specs.Columns.{book_lent}
use Rattle.book_rules.specs.Calls.{supply_refusal, sound_refusal, changed, row_marked}
use Rattle.book_rules.proofs.Shapes.{sound_fits, sound_rises}
use Rattle.book_rules.proofs.Accepted.{supplied, levels_length, keeps, meets}
use Rattle.book_rules.proofs.Rooms.{RowOf, row_of_lem}
use Rattle.std.proofs.lemmas.Result.{err_from_is_err_and}
use Rattle.refusal.proofs.Laws.{numbered}
use Rattle.book.proofs.inner.supply.Goals as goal
use Rattle.book.proofs.inner.supply.Goals.{In_ok-supply_refusal}

-- past the test nothing refuses the call
ok : (c : In_ok-supply_refusal) → let a = c.args in
    supply_refusal a.points a.ids.now a.counts.now a.identity a.given.now ≡ 0
ok c = sym c.in_ok-supply_refusal.ensures

row : (c : In_ok-supply_refusal)
    → let a = c.args in
    RowOf a.points (book_lent a.ids.now a.groups.now a.marks.now a.counts.now a.levels.now) a.identity
    c.place_of-at.result
row c =
    row_of_lem c.requires (supplied _ _ _ _ _ (ok c)).0 c.place_of-at.ensures

pub supply_refusal-requires : goal.supply_refusal-requires
supply_refusal-requires c =
    record {
      placed = record { rising= = sound_rises _ _ c.requires; place = c.place_of-at.ensures };
      counts_len = (sound_fits _ _ c.requires).counts=;
    }

pub returns-in_err-supply_refusal : goal.returns-in_err-supply_refusal
unfolding sound_refusal
returns-in_err-supply_refusal c =
    let p = err_from_is_err_and c.from_residual.result c.from_residual.ensures.1 in
    let low = numbered c.in_err-supply_refusal.field-0.0 in
    rw (p.1, p.2) (keeps c.requires c.in_err-supply_refusal.ensures (λ e. omega arith))

pub copy_at-requires : goal.copy_at-requires
copy_at-requires c =
    let s = (goal.at.copy_at-requires c).In_ok-supply_refusal in
    omega (arith, levels_length _ _ (supplied _ _ _ _ _ (ok s)).1, (row s).levels<)

pub returns : goal.returns
unfolding sound_refusal changed row_marked
returns c =
    meets c.requires (ok (goal.at.returns c).In_ok-supply_refusal)
    (rw (c.fill_at.ensures, c.copy_at.ensures, (row (goal.at.returns c).In_ok-supply_refusal).index) refl)

pub place_of-at-requires : goal.place_of-at-requires
place_of-at-requires c = sound_rises _ _ c.requires

pub fill_at-requires : goal.fill_at-requires
fill_at-requires c = omega (arith, (row (goal.at.fill_at-requires c).In_ok-supply_refusal).marks<)

pub overflow_mul-at : goal.overflow_mul-at
overflow_mul-at c = (row (goal.at.overflow_mul-at c).In_ok-supply_refusal).fits
