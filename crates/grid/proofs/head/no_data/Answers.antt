-- `grid::head::no_data` meets its contract. Assumes nothing.
use mathlib.Core.Path.{refl, sym, ap, ◌∙◌}
use Rattle.grid.specs.File.{names, names_well}
use Rattle.grid.proofs.HeadLaws.{begins_pointwise, spelled_at}
use Rattle.grid.proofs.head.no_data.Goals as goal

pub returns-then-not-starts_with : goal.returns-then-not-starts_with
returns-then-not-starts_with c =
    ap names (sym c.line_at-line.ensures.line) ∙ sym (begins_pointwise _ _) ∙ sym c.starts_with.ensures.value
    ∙ c.if-not-starts_with.true

pub returns-then-not-names_well : goal.returns-then-not-names_well
returns-then-not-names_well c =
    let line = sym c.line_at-line.ensures.line in (
      ap names line ∙ sym (begins_pointwise _ _) ∙ sym c.starts_with.ensures.value ∙ c.if-not-starts_with.false,
      ap names_well line ∙ sym c.names_well.ensures ∙ c.if-not-names_well.true,
      refl,
    )

pub returns : goal.returns
returns c =
    let a = c.args in
    let l = c.line_at-line.ensures in
    let named = ap names (sym l.line) ∙ sym (begins_pointwise _ _) ∙ sym c.starts_with.ensures.value
    ∙ c.if-not-starts_with.false in
    let well = ap names_well (sym l.line) ∙ sym c.names_well.ensures ∙ c.if-not-names_well.false in
    let p = spelled_at a.s.now a.at _ l well in
    (named, well, p.0, l.within, p.1, l.passed)
