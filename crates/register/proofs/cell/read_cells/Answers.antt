use Rattle.std.specs.Prelude.{◌≡◌, ◌+◌, ◌-◌, ◌≤◌, Some, None, true, false, cond, length, drop, eqb}
use Rattle.std.proofs.Common.{arith, refl, sym, ap, length-drop, ◌∙◌, Bool, not, eq-eqb, ne_eqb}
use borrow.Author.Tests.{eqb-true, eqb-false}
use mathlib.Core.Bool.{beq}
use Rattle.text.proofs.Digits.{either}
use Rattle.text.specs.{Field.field_of, Index.many, Index.listing}
use Rattle.text.specs.Number.{is_got, value_of}
use Rattle.text.proofs.Fields.{FieldAt, at_start_rule, at_cut, at_next, at_last, up_length}
use Rattle.text.proofs.Indices.{every_none, every_more, every_fails, store_more, many_most}
use Rattle.register.specs.Cell.{cell_of, cell_at, got_at, value_at, blank_at}
use Rattle.register.specs.InnerCell.{blank_cell, cells_told}
use Rattle.register.proofs.Readings.{mark_most, blanks_next, cells_other, cells_off, cells_counted}
use Rattle.register.proofs.cell.read_cells.Goals as goal
use Rattle.register.proofs.cell.read_cells.Goals.{In-loop-k, After-blank_level, After-cell, After-field_end-end}

pub loop-k-init : goal.loop-k-init
unfolding listing many
loop-k-init c = record {
  read = every_none _;
  next = λ some. at_start_rule 44 _;
  ended = λ none. omega (arith, c.requires.0);
  values = refl;
  blanks = refl;
}

-- here a field starts
here : (c : In-loop-k) → FieldAt 44 c.args.s.now c.loop-k.at c.loop-k.k
here c = c.loop-k.invariant.next c.loop-k-test.true

pub field_end-end-requires : goal.field_end-end-requires
field_end-end-requires c = (here (goal.at.field_end-end-requires c).In-loop-k).within

-- and ends within the line
within : (c : After-field_end-end) → c.field_end-end.result ≤ length c.args.s.now
within c =
    let s = c.args.s.now in
    omega (
      arith,
      up_length 44 (drop c.loop-k.at s),
      length-drop c.loop-k.at s,
      c.field_end-end.ensures,
      (here (goal.at.After-field_end-end c).In-loop-k).within,
    )

pub slice_bounds-cell-end : goal.slice_bounds-cell-end
slice_bounds-cell-end c = within c

-- what was answered is the cell of this column
read : (c : After-cell) → c.cell.result ≡ cell_at c.args.table c.args.s.now c.loop-k.k
read c = c.cell.ensures
    ∙ ap (cell_of c.args.table c.loop-k.k)
    (at_cut (here (goal.at.After-cell c).In-loop-k) c.field_end-end.result c.field_end-end.ensures)

pub returns-in_err-values : goal.returns-in_err-values
returns-in_err-values c =
    let a = c.args in
    let off : cell_at a.table a.s.now c.loop-k.k ≡ None =
    sym (read (goal.at.returns-in_err-values c).After-cell) ∙ c.in_err-values.was in
    ap cells_told c.from_residual.ensures
    ∙ sym (cells_off a.table a.s.now a.count
    (every_fails (got_at a.table a.s.now) c.loop-k.k a.count c.loop-k-test.true (ap is_got off)))

-- the value of this column, and whether it is a blank level
got : (c : After-blank_level) → cell_at c.args.table c.args.s.now c.loop-k.k ≡ Some c.in_ok-values.field-0
got c = sym (read (goal.at.After-blank_level c).After-cell) ∙ c.in_ok-values.was

blank : (c : After-blank_level)
    → c.blank_level.result ≡ cond (blank_cell c.loop-k.k (field_of 44 c.loop-k.k c.args.s.now)) 1 0
blank c = c.blank_level.ensures
    ∙ ap (λ t. cond (blank_cell c.loop-k.k t) 1 0)
    (at_cut (here (goal.at.After-blank_level c).In-loop-k) c.field_end-end.result c.field_end-end.ensures)

pub overflow_add-blanks : goal.overflow_add-blanks
overflow_add-blanks c =
    let s = c.args.s.now in
    omega (
      arith,
      many_most (blank_at s) (c.loop-k.k - 5),
      c.loop-k.invariant.blanks,
      c.requires.1,
      blank c,
      mark_most (blank_cell c.loop-k.k (field_of 44 c.loop-k.k s)),
    )

-- the line ends with this field where this is the last column, and else it goes on
unlike : (a b : Bool) → not (beq a b) ≡ true → (a ≡ b → ⊥)
unlike true true e q = cc
unlike true false e q = cc
unlike false true e q = cc
unlike false false e q = cc

alike : (a b : Bool) → not (beq a b) ≡ false → a ≡ b
alike true true e = refl
alike true false e = cc
alike false true e = cc
alike false false e = refl

pub returns-then-end-s : goal.returns-then-end-s
returns-then-end-s c =
    let a = c.args in
    let k = c.loop-k.k in
    let end = c.field_end-end.result in
    let h = here (goal.at.returns-then-end-s c).In-loop-k in
    let apart = unlike (eqb end (length a.s.now)) (eqb (k + 1) a.count) c.if-end-s.true in
    sym (cells_other a.table a.s.now a.count (λ e.
    either (eqb end (length a.s.now))
    (λ yes. apart (yes ∙ sym (eq-eqb (k + 1) a.count
    (omega (arith, at_last h end c.field_end-end.ensures (omega (arith, eqb-true _ _ yes)))))))
    (λ no. let next = at_next h end c.field_end-end.ensures
    (omega (arith, within (goal.at.returns-then-end-s c).After-field_end-end, eqb-false end (length a.s.now) no)) in
    apart (no ∙ sym (ne_eqb (k + 1) a.count (λ q. omega (arith, next.count)))))))

pub loop-k-preserved : goal.loop-k-preserved
loop-k-preserved c =
    let a = c.args in
    let l = c.loop-k in
    let h = here (goal.at.loop-k-preserved c).In-loop-k in
    let b = (goal.at.loop-k-preserved c).After-blank_level in
    let end = c.field_end-end.result in
    let inside = within (goal.at.loop-k-preserved c).After-field_end-end in
    let both = alike (eqb end (length a.s.now)) (eqb (l.k + 1) a.count) c.if-end-s.false in
    record {
      read = every_more (got_at a.table a.s.now) l.k l.invariant.read (ap is_got (got b));
      next = λ more. at_next h end c.field_end-end.ensures
          (omega (arith, inside, eqb-false end (length a.s.now) (both ∙ ne_eqb _ _ (λ q. omega arith))));
      ended = λ all. omega (
        arith,
        at_last h end c.field_end-end.ensures
            (omega (arith, eqb-true end (length a.s.now) (both ∙ eq-eqb _ _ all))),
      );
      values = rw (l.invariant.values, ← ap value_of (got b))
          (store_more (value_at a.table a.s.now) l.k 13 (omega (arith, c.requires.1)));
      blanks = rw (l.invariant.blanks, blank b) (blanks_next a.s.now l.k);
    }

pub returns : goal.returns
returns c =
    let a = c.args in
    let l = c.loop-k in
    let all : l.k ≡ a.count = omega (arith, c.loop-k-test.false) in
    let told = cells_counted a.table a.s.now a.count a.count (l.invariant.ended all) (rw all at l.invariant.read) in
    rw (l.invariant.values, l.invariant.blanks, all) (sym (rw (eq-eqb a.count a.count refl) at told))
