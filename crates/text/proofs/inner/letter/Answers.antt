-- `text::inner::letter` meets its contract: the letter's place among the letters. Assumes nothing.
use Rattle.std.specs.Prelude.{length}
use Rattle.std.proofs.Common.{eq-eqb, ne_eqb, sym, ◌∙◌}
use Rattle.text.specs.Letter.{letter_of}
use Rattle.text.proofs.Letters.{place_found}
use Rattle.text.proofs.inner.letter.Goals as goal

pub returns-then-t-ne1 : goal.returns-then-t-ne1
returns-then-t-ne1 c = unfold letter_of in rw (ne_eqb (length c.args.t.now) 1 c.if-t-ne1.true)

pub returns-in_err-place : goal.returns-in_err-place
unfolding letter_of
returns-in_err-place c =
    rw (eq-eqb (length c.args.t.now) 1 c.if-t-ne1.false, ← place_found _ _)
    (c.from_residual.ensures ∙ sym c.in_err-place.was ∙ c.place.ensures)

pub returns : goal.returns
unfolding letter_of
returns c =
    rw (eq-eqb (length c.args.t.now) 1 c.if-t-ne1.false, ← place_found _ _)
    (sym c.in_ok-place.was ∙ c.place.ensures)
