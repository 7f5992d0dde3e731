-- `book::inner::take_back` meets its contract: it is refused as `take_back_refusal` says, or mark and levels become
-- zero. Assumes nothing.
use Rattle.std.specs.Prelude.{◌≡◌}
use mathlib.Core.Path.{refl, sym}
use native.Mathlib.Omega.{arith}
use Rattle.book_rules.specs.Columns.{book_lent}
use Rattle.book_rules.specs.Calls.{take_back_refusal, sound_refusal, changed, row_marked}
use Rattle.book_rules.proofs.Shapes.{sound_fits, sound_rises}
use Rattle.book_rules.proofs.{Accepted.taken_back, Accepted.keeps, Accepted.meets, Rooms.RowOf, Rooms.row_of_lem}
use Rattle.std.proofs.lemmas.Result.{err_from_is_err_and}
use Rattle.refusal.proofs.Laws.{numbered}
use Rattle.book.proofs.inner.take_back.Goals as goal
use Rattle.book.proofs.inner.take_back.Goals.{In_ok-take_back_refusal}

-- past the test nothing refuses the call
ok : (c : In_ok-take_back_refusal)
    → take_back_refusal c.args.ids.now c.args.marks.now c.args.identity ≡ 0
ok c = sym c.in_ok-take_back_refusal.ensures

row : (c : In_ok-take_back_refusal)
    → let a = c.args in
    RowOf a.points (book_lent a.ids.now a.groups.now a.marks.now a.counts.now a.levels.now) a.identity
    c.place_of-at.result
row c =
    row_of_lem c.requires (taken_back _ _ _ (ok c)) c.place_of-at.ensures

pub take_back_refusal-requires : goal.take_back_refusal-requires
take_back_refusal-requires c =
    record {
      placed = record { rising= = sound_rises _ _ c.requires; place = c.place_of-at.ensures };
      marks_len = (sound_fits _ _ c.requires).marks=;
    }

pub returns-in_err-take_back_refusal : goal.returns-in_err-take_back_refusal
unfolding sound_refusal
returns-in_err-take_back_refusal c =
    let p = err_from_is_err_and c.from_residual.result c.from_residual.ensures.1 in
    let low = numbered c.in_err-take_back_refusal.field-0.0 in
    rw (p.1, p.2) (keeps c.requires c.in_err-take_back_refusal.ensures (λ e. omega arith))

pub returns : goal.returns
unfolding sound_refusal changed row_marked
returns c =
    meets c.requires (ok (goal.at.returns c).In_ok-take_back_refusal)
    (rw (c.fill_at.ensures, c.fill_at-2.ensures, (row (goal.at.returns c).In_ok-take_back_refusal).index) refl)

pub place_of-at-requires : goal.place_of-at-requires
place_of-at-requires c = sound_rises _ _ c.requires

pub fill_at-requires : goal.fill_at-requires
fill_at-requires c = (row (goal.at.fill_at-requires c).In_ok-take_back_refusal).marks<

pub overflow_mul-at : goal.overflow_mul-at
overflow_mul-at c = (row (goal.at.overflow_mul-at c).In_ok-take_back_refusal).fits

pub fill_at-requires-2 : goal.fill_at-requires-2
fill_at-requires-2 c = (row (goal.at.fill_at-requires-2 c).In_ok-take_back_refusal).levels<
