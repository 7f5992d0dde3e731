-- `text::inner::field_end` meets its contract: the first parting byte ends the field. Assumes nothing.
use Rattle.std.specs.Prelude.{◌≡◌, Some, None, drop, position, eqb}
use Rattle.std.proofs.Common.{arith, sym, ap, length-drop, ◌∙◌}
use Rattle.text.proofs.{Digits.part-rest, Fields.up_found}
use Rattle.text.proofs.inner.field_end.Goals as goal
use Rattle.text.proofs.inner.field_end.Goals.{After-place}

-- the part that is searched is the rest of the text
rest : (c : After-place) → c.place.result ≡ position (λ x. eqb x c.args.d) (drop c.args.at c.args.s.now)
rest c = let a = c.args in c.place.ensures ∙ ap (position (λ x. eqb x a.d)) (part-rest a.s.now a.at)

pub returns-in-Some : goal.returns-in-Some
returns-in-Some c =
    let a = c.args in
    let r = sym c.in-Some.is ∙ rest (goal.at.returns-in-Some c).After-place in
    omega (arith, up_found a.d (drop a.at a.s.now) (Some c.in-Some.length) r)

pub returns-in-None : goal.returns-in-None
returns-in-None c =
    let a = c.args in
    let r = sym c.in-None.is ∙ rest (goal.at.returns-in-None c).After-place in
    omega (arith, length-drop a.at a.s.now, up_found a.d (drop a.at a.s.now) None r)
