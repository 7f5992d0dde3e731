use Rattle.std.specs.Prelude.{◌+◌, ◌≤◌, length, drop, set}
use mathlib.Core.{Path.◌≡◌, Path.refl, Path.sym, Path.ap, Path.subst, Path.◌∙◌, Bool.true}
use native.Mathlib.Omega.{arith}
use lib.ListN.{length-drop}
use Rattle.text.specs.{Field.count_of, Index.every, Index.listing, Number.is_got, Number.value_of}
use Rattle.std.specs.Prelude.{Some, None}
use Rattle.text.proofs.Fields.{FieldAt, at_start_rule, at_cut, at_next, at_last, up_length}
use Rattle.text.proofs.Indices.{every_none, every_more, every_fails, store_more}
use Rattle.flights.specs.Cell.{cell_of, cell_at, got_at, value_at}
use Rattle.std.specs.Prelude.{Err}
use Rattle.refusal.specs.declared.Refusal.TheVariants.{OffLayout}
use Rattle.flights.specs.Row.{Flight, IsFlight, refused_flight, values_of}
use Rattle.flights.proofs.Readings.{row_other, row_off, row_counted}
use Rattle.flights.proofs.read_row.Goals as goal
use Rattle.flights.proofs.read_row.Goals.{After-field_end-end, Else-s-end, In-Some}

-- a row that is off its layout
refuses : {f : Flight} → f ≡ refused_flight 16 → IsFlight f (Err OffLayout)
refuses e = rw e (record { number = refl; answer = tt })

-- the field ends within the line
within : (c : After-field_end-end)
    → c.field_end-end.result ≤ length c.args.s.now
within c =
    let l = c.loop-v in
    let s = c.args.s.now in
    omega (arith, up_length 44 (drop l.at s), length-drop l.at s, c.field_end-end.ensures, l.invariant.1.within)

pub returns-in_default : goal.returns-in_default
returns-in_default c =
    let s = c.args.s.now in
    let k = c.loop-v.k in
    let here : c.cell.result ≡ cell_at s k =
    c.cell.ensures
    ∙ ap (cell_of k) (at_cut c.loop-v.invariant.1 c.field_end-end.result c.field_end-end.ensures) in
    let off : cell_at s k ≡ None = sym here ∙ c.in_default.is in
    refuses (row_off s c.args.count (every_fails (got_at s) k c.args.count c.loop-v.invariant.3 (ap is_got off)))

-- one column more
more : (c : In-Some) →
    let s = c.args.s.now in
    let l = c.loop-v in
    (every (got_at s) (l.k + 1) ≡ true)
    × (set l.values l.k c.in-Some.v ≡ values_of (l.k + 1) s)
more c =
    let s = c.args.s.now in
    let l = c.loop-v in
    let here : c.cell.result ≡ cell_at s l.k =
    c.cell.ensures
    ∙ ap (cell_of l.k) (at_cut c.loop-v.invariant.1 c.field_end-end.result c.field_end-end.ensures) in
    let got : cell_at s l.k ≡ Some c.in-Some.v = sym here ∙ c.in-Some.is in (
      every_more (got_at s) l.k l.invariant.0 (ap is_got got),
      rw (l.invariant.2, ← ap value_of got) (store_more (value_at s) l.k 9 (omega (arith, l.invariant.3, l.invariant.4))),
    )

pub returns-then-s-end : goal.returns-then-s-end
returns-then-s-end c =
    let s = c.args.s.now in
    let l = c.loop-v in
    let m = more (goal.at.returns-then-s-end c).In-Some in
    let last = at_last l.invariant.1 c.field_end-end.result c.field_end-end.ensures c.if-s-end.true in
    let n : count_of 44 s + 1 ≡ l.k + 1 = omega arith in
    subst (λ (f : Flight). IsFlight f c.counted.result) (sym (row_counted s c.args.count (l.k + 1) n m.0))
    (rw m.1 at c.counted.ensures)

-- a field follows
next : (c : Else-s-end) →
    FieldAt 44 c.args.s.now
    (c.field_end-end.result + 1) (c.loop-v.k + 1)
next c =
    at_next c.loop-v.invariant.1 c.field_end-end.result c.field_end-end.ensures c.if-s-end.false

pub returns-then-count-k : goal.returns-then-count-k
returns-then-count-k c =
    refuses (row_other c.args.s.now c.args.count
    (λ e. omega (arith, (next (goal.at.returns-then-count-k c).Else-s-end).count, c.if-count-k.true)))

pub loop-v-smaller : goal.loop-v-smaller
loop-v-smaller c =
    omega (arith, c.field_end-end.ensures, c.if-s-end.false)

pub loop-v-preserved : goal.loop-v-preserved
loop-v-preserved c =
    let m = more (goal.at.loop-v-preserved c).In-Some in
    (m.0, next (goal.at.loop-v-preserved c).Else-s-end, m.1, omega (arith, c.if-count-k.false), c.loop-v.invariant.4)

pub loop-v-init : goal.loop-v-init
loop-v-init c = unfold listing in (every_none _, at_start_rule 44 _, refl, omega arith, omega arith)

pub slice_bounds-cell-end : goal.slice_bounds-cell-end
slice_bounds-cell-end c = within c
