-- A call keeps a sound book sound: what allows a caller of many calls to check once. Assumes nothing.
use mathlib.Core.{Path.◌≡◌, Path.refl, Path.sym, Path.ap, Path.subst, Path.◌∙◌, Bool.Bool, Bool.true, Bool.false}
use Prim.Native.Nat.{ℕ}
use lib.Dec.{eqb}
use borrow.Author.Tests.{eqb-true, eqb-false}
use Rattle.book_rules.specs.Columns.{Book, book_of, sound}
use Rattle.book_rules.specs.Calls.{Call, Called, sound_refusal, refusal, changed, after}
use Rattle.book_rules.specs.History.{rows_of, sizes_fit}
use Rattle.book_rules.proofs.Accepted.{accepted_sound, after_refused, after_accepted}
use Rattle.book_rules.proofs.{Standing.book_sound, Reading.Read, Reading.book_read, Steps.stepped}

pub read_rows : {p : ℕ} {b : Book} (r : Read p b.identities b.groups b.marks b.counts b.levels)
    → b ≡ rows_of p r.unused r.list
unfolding rows_of
read_rows r = λ i. book_of (r.ids i) (r.groups i) (r.marks i) (r.counts i) (r.levels i)

changed-sound : (p : ℕ) (b : Book) (c : Call) → sound p b ≡ true → sound_refusal p b c ≡ 0
    → sound p (changed p b c) ≡ true
changed-sound p b c s z =
    let r = book_read p b s in
    let e = read_rows r in
    let w = stepped p r.unused r.list c r.good r.rising
    (subst (λ (k : Book). sound_refusal p k c ≡ 0) e z) in
    ap (λ (k : Book). sound p (changed p k c)) e
    ∙ ap (sound p) w.rows
    ∙ book_sound p w.unused _ w.good w.rising
    ∙ ap (sizes_fit p) w.same
    ∙ sym (book_sound p r.unused r.list r.good r.rising)
    ∙ ap (sound p) (sym e)
    ∙ s

-- any call, also one made for another number of points
pub after-sound : (p q : ℕ) (b : Book) (c : Call) → sound p b ≡ true → (sound q b ≡ true → q ≡ p)
    → sound p (after q b c) ≡ true
after-sound p q b c s k = by (eqb (refusal q b c) 0) refl
  where
    by : (t : Bool) → eqb (refusal q b c) 0 ≡ t → sound p (after q b c) ≡ true
    by false e = ap (sound p) (after_refused q b c (eqb-false (refusal q b c) 0 e)) ∙ s
    by true e =
        let z = eqb-true (refusal q b c) 0 e in
        let a = accepted_sound q b c z in
        ap (sound p) (after_accepted q b c z)
        ∙ subst (λ n. sound n (changed q b c) ≡ true) (k a.0) (changed-sound q b c a.0 a.1)

-- what a core promises keeps the book sound
pub called_sound : {p r : ℕ} {b b' : Book} {c : Call} → sound p b ≡ true → Called p b c r b'
    → sound p b' ≡ true
called_sound {p} {r} {b} {b'} {c} s k = ap (sound p) k.book ∙ after-sound p p b c s (λ _. refl)
