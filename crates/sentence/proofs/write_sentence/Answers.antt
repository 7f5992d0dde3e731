-- `sentence::write_sentence` meets its contract: no room for the text, none for its size, or both are written. Assumes
-- nothing.
use Rattle.std.specs.Prelude.{◌≡◌, ◌≤◌, [], ◌∷◌, length}
use Rattle.std.proofs.Common.{arith, refl, ap, ◌∙◌, sym}
use borrow.Author.Tests.{eqb-true, eqb-false}
use lib.Seq.{length-take-le}
use Rattle.room.specs.Room.{front}
use Rattle.sentence.specs.Sentence.{sentence_of}
use Rattle.room.proofs.Laws.{wrote_front, wrote_fits, front_part}
use Rattle.room.proofs.Answers.{front-sets, short_first, short_second, write_both}
use Rattle.sentence.proofs.write_sentence.Goals as goal
use Rattle.sentence.proofs.write_sentence.Goals.{After-put_sentence-n, Else-is_empty}
use Rattle.sentence.proofs.write_sentence.Goals.{then-text-n-via-then-text-n, then-text-n-via-else-text-n+then-is_empty}

-- the size of the sentence in the local room
size_is : (c : After-put_sentence-n) → c.put_sentence-n.result ≡ length (sentence_of c.args.number)
size_is c = omega (arith, c.put_sentence-n.ensures.0.place)

-- there is room for that size
some : (c : Else-is_empty) → 1 ≤ length c.args.size.now
some c =
    let n = length c.args.size.now in
    omega (arith, eqb-false n 0 (sym c.is_empty.ensures ∙ c.if-is_empty.false))

pub returns : goal.returns
returns c =
    let a = c.args in
    let p = c.put_sentence-n in
    let n = size_is (goal.at.returns c).After-put_sentence-n in
    let one = some (goal.at.returns c).Else-is_empty in
    write_both refl (omega (arith, n, c.if-text-n.false)) one
    (front_part p.result a.text.now c.copy_from_slice.ensures.after (length-take-le _ _ (wrote_fits p.ensures.0))
    ∙ ap (λ t. front t a.text.now) (wrote_front p.ensures.0))
    (front-sets (p.result ∷ []) a.size.now one ∙ ap (λ k. front (k ∷ []) a.size.now) n)

pub returns-then-text-n : goal.returns-then-text-n
returns-then-text-n c =
    elim c.then-text-n.branch [
      | then-text-n-via-then-text-n w ↦
          short_first (omega (arith, size_is (goal.at.returns-then-text-n c).After-put_sentence-n, w.if-text-n.true)) refl
      | then-text-n-via-else-text-n+then-is_empty w ↦
          let n = length c.args.size.now in
          short_second (omega (arith, eqb-true n 0 (sym w.is_empty.ensures ∙ w.if-is_empty.true))) refl
    ]

pub slice_bounds-room-end : goal.slice_bounds-room-end
slice_bounds-room-end c = wrote_fits c.put_sentence-n.ensures.0
