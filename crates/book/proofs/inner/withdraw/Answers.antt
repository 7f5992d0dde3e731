-- `book::inner::withdraw` meets its contract: it is refused as `withdraw_refusal` says, or the row goes out. Assumes
-- nothing.
use Rattle.std.specs.Prelude.{◌≡◌}
use mathlib.Core.Path.{refl, sym, ◌∙◌}
use native.Mathlib.Omega.{arith}
use Rattle.book_rules.specs.{Columns.book_lent, Calls.withdraw_refusal, Calls.sound_refusal, Calls.changed}
use Rattle.book_rules.proofs.Shapes.{sound_rises, sound-identities}
use Rattle.book_rules.proofs.{Accepted.withdrawn, Accepted.keeps, Accepted.meets, Rooms.RowOf, Rooms.row_of_lem}
use Rattle.std.proofs.lemmas.Result.{err_from_is_err_and}
use Rattle.refusal.proofs.Laws.{numbered}
use Rattle.book.proofs.inner.withdraw.Goals as goal
use Rattle.book.proofs.inner.withdraw.Goals.{In_ok-withdraw_refusal}

-- past the test nothing refuses the call
ok : (c : In_ok-withdraw_refusal) → withdraw_refusal c.args.ids.now c.args.identity ≡ 0
ok c = sym c.in_ok-withdraw_refusal.ensures

row : (c : In_ok-withdraw_refusal)
    → let a = c.args in
    RowOf a.points (book_lent a.ids.now a.groups.now a.marks.now a.counts.now a.levels.now) a.identity
    c.place_of-at.result
row c =
    row_of_lem c.requires (withdrawn _ _ (ok c)) c.place_of-at.ensures

pub withdraw_refusal-requires : goal.withdraw_refusal-requires
withdraw_refusal-requires c =
    record { rising= = sound_rises _ _ c.requires; place = c.place_of-at.ensures }

pub returns-in_err-withdraw_refusal : goal.returns-in_err-withdraw_refusal
unfolding sound_refusal
returns-in_err-withdraw_refusal c =
    let p = err_from_is_err_and c.from_residual.result c.from_residual.ensures.1 in
    let low = numbered c.in_err-withdraw_refusal.field-0.0 in
    rw (p.1, p.2) (keeps c.requires c.in_err-withdraw_refusal.ensures (λ e. omega arith))

pub row_out-requires : goal.row_out-requires
row_out-requires c =
    let rows = c.standing_rows-rows.ensures in
    let used = (row (goal.at.row_out-requires c).In_ok-withdraw_refusal).used in
    record {
      rows_to = record { sound= = c.requires; rows= = rows; at≤ = omega arith };
      at_lt_rows = omega arith;
    }

pub returns : goal.returns
unfolding sound_refusal changed
returns c =
    meets c.requires (ok (goal.at.returns c).In_ok-withdraw_refusal)
    (c.row_out.ensures ∙ rw (row (goal.at.returns c).In_ok-withdraw_refusal).index refl)

pub place_of-at-requires : goal.place_of-at-requires
place_of-at-requires c = sound_rises _ _ c.requires

pub standing_rows-rows-requires : goal.standing_rows-rows-requires
standing_rows-rows-requires c =
    record { ids_value = sound_rises _ _ c.requires; ids_value_2 = sound-identities _ _ c.requires }
