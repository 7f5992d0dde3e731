-- `book::inner::enter` meets its contract: it is refused as `enter_refusal` says, or the row goes in at its place.
-- Assumes nothing.
use Rattle.std.specs.Prelude.{◌≡◌}
use mathlib.Core.Path.{sym, ◌∙◌}
use native.Mathlib.Omega.{arith}
use Rattle.book_rules.specs.Columns.{book_lent}
use Rattle.book_rules.specs.Calls.{enter_refusal, sound_refusal, changed, row_in}
use Rattle.book_rules.proofs.{Search.place_below, Search.stands_index, Shapes.sound_rises, Shapes.sound-identities}
use Rattle.book_rules.proofs.Accepted.{Entered, entered, fields_in, counts_length, keeps, meets}
use Rattle.std.proofs.lemmas.Result.{err_from_is_err_and}
use Rattle.refusal.proofs.Laws.{numbered}
use Rattle.book.proofs.inner.enter.Goals as goal
use Rattle.book.proofs.inner.enter.Goals.{In_ok-enter_refusal}

-- past the test nothing refuses the call
ok : (c : In_ok-enter_refusal) → let a = c.args in
    enter_refusal a.points a.ids.now a.identity a.ty a.kind a.time a.mass a.given.now ≡ 0
ok c = sym c.in_ok-enter_refusal.ensures

facts : (c : In_ok-enter_refusal) → let a = c.args in
    Entered a.points a.ids.now a.identity a.ty a.kind a.time a.mass a.given.now
facts c = entered _ _ _ _ _ _ _ _ (ok c)

pub enter_refusal-requires : goal.enter_refusal-requires
enter_refusal-requires c =
    record {
      placed = record { rising= = sound_rises _ _ c.requires; place = c.place_of-at.ensures };
      rows_value = c.standing_rows-rows.ensures;
    }

pub returns-in_err-enter_refusal : goal.returns-in_err-enter_refusal
unfolding sound_refusal
returns-in_err-enter_refusal c =
    let p = err_from_is_err_and c.from_residual.result c.from_residual.ensures.1 in
    let low = numbered c.in_err-enter_refusal.field-0.0 in
    rw (p.1, p.2) (keeps c.requires c.in_err-enter_refusal.ensures (λ e. omega arith))

pub row_in-requires : goal.row_in-requires
row_in-requires c =
    let rows = c.standing_rows-rows.ensures in
    let at = c.place_of-at.ensures in
    let below = place_below c.args.identity c.args.ids.now in
    let unused = stands_index 0 c.args.ids.now (facts (goal.at.row_in-requires c).In_ok-enter_refusal).unused in
    record {
      rows_to = record { sound= = c.requires; rows= = rows; at≤ = omega arith };
      rows_in_bounds = omega arith;
      given_len = counts_length _ _ (facts (goal.at.row_in-requires c).In_ok-enter_refusal).counts=;
    }

pub returns : goal.returns
unfolding sound_refusal changed
returns c =
    let a = c.args in
    let book = book_lent a.ids.now a.groups.now a.marks.now a.counts.now a.levels.now in
    meets c.requires (ok (goal.at.returns c).In_ok-enter_refusal) (c.row_in.ensures
    ∙ (λ i. row_in a.points book (c.place_of-at.ensures i) a.identity (c.group_of.ensures i)
    a.given.now))

pub place_of-at-requires : goal.place_of-at-requires
place_of-at-requires c = sound_rises _ _ c.requires

pub standing_rows-rows-requires : goal.standing_rows-rows-requires
standing_rows-rows-requires c =
    record { ids_value = sound_rises _ _ c.requires; ids_value_2 = sound-identities _ _ c.requires }

pub group_of-requires : goal.group_of-requires
group_of-requires c = fields_in _ _ _ _ (facts (goal.at.group_of-requires c).In_ok-enter_refusal).fields
