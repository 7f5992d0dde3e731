-- A row that is taken, case by case: from what the layout reads and what the two calls promise to what the row's
-- definition says. Assumes nothing.
use mathlib.Core.{Path.◌≡◌, Path.refl, Path.sym, Path.ap, Path.◌∙◌, Bool.Bool, Bool.true, Bool.false, Bool.cond}
use Rattle.std.specs.Prelude.{ℕ, zero, suc, ◌≤◌, List, ◌∷◌, Result, Ok, Err}
use native.Mathlib.Omega.{arith}
use lib.{ListN.take, ListN.replicate, Dec.eqb}
use borrow.Author.Tests.{eq-eqb, ne_eqb}
use Rattle.book_rules.specs.{Columns.Book, Columns.sound, Calls.Call, Calls.Called, Calls.refusal, Calls.after}
use Rattle.book_rules.proofs.{Accepted.after_refused, Kept.after-sound}
use Rattle.register.specs.Row.{Layout}
use Rattle.register.specs.Row.{layout_of, layout_told}
use Rattle.register.proofs.Rows.{layout_off}
use Rattle.report_steps.specs.Intake.{Taken}
use Rattle.report_steps.specs.Intake.Taken.{Entered, PassedOver, Refused}
use Rattle.refusal.specs.declared.Refusal.{Refusal}
use Rattle.refusal.specs.Refusal.{number_of, told}
use Rattle.refusal.proofs.Laws.{numbered, same_number}
use Rattle.report_steps.specs.declared.Entry.{Entry}
use Rattle.report_steps.specs.declared.Entry.TheVariants.{Added, Skipped}
use Rattle.report_steps.specs.Intake.{taken_number, taken_of, entering, supplying, entered_taken, entered_after}
use Rattle.report_steps.specs.Intake.{layout_taken, layout_after, row_taken, row_after, RowAnswered}
use Rattle.report_steps.specs.InnerTaken.{RowTaken, LevelsTaken}

-- fewer of the same
pub take_same : (v n m : ℕ) → n ≤ m → ◌≡◌ {A = List ℕ} (take n (replicate m v)) (replicate n v)
take_same v zero m h = refl
take_same v (suc n) zero h = absurd (omega arith)
take_same v (suc n) (suc m) h = ap (λ (t : List ℕ). v ∷ t) (take_same v n m (omega arith))

-- *enter* with as many of eight times yes as there are points
pub everywhere : {p x t k s m r : ℕ} {b b' : Book} → p ≤ 8
    → Called p b (Call.enter x t k s m (take p (replicate 8 1))) r b'
    → Called p b (Call.enter x t k s m (replicate p 1)) r b'
everywhere {p} h k = rw (take_same 1 p 8 h) at k

-- *supply* of a row's levels, refused or accepted
pub levels_refused : {p x : ℕ} {b b' : Book} {given : List ℕ} (why : Refusal)
    → Called p b (Call.supply x (take p given)) (number_of why) b' → LevelsTaken p b x given (Refused (number_of why)) b'
levels_refused why k =
    let low = numbered why in
    record { answer = rw (← k.answer, ne_eqb (number_of why) 0 (λ e. absurd (omega arith))) refl; book = k.book }

pub levels_entered : {p x : ℕ} {b b' : Book} {given : List ℕ}
    → Called p b (Call.supply x (take p given)) 0 b' → LevelsTaken p b x given Entered b'
levels_entered k = record { answer = rw (← k.answer) refl; book = k.book }

-- what a row's answer tells is what it did
pub told_taken : (r : Result Entry Refusal) → told r ≡ taken_number (taken_of r)
told_taken (Ok Added) = refl
told_taken (Ok Skipped) = refl
told_taken (Err why) = refl

-- a row off its layout
pub row_off : (line : List ℕ) {p : ℕ} {b : Book} (why : Refusal) → layout_told (Err why) ≡ layout_of p line
    → RowTaken p b line (Refused (number_of why)) b
unfolding row_taken row_after
row_off line {p} {b} why e =
    let number : (layout_of p line).refusal ≡ number_of why = sym (ap (λ (l : Layout). l.refusal) e) in
    let low = numbered why in
    let ne : (layout_of p line).refusal ≡ 0 → ⊥ = λ z. absurd (omega arith) in
    let off = ne_eqb (layout_of p line).refusal 0 ne in
    let sixteen : number_of why ≡ 16 = sym number ∙ layout_off p line ne in
    record { answer = rw (off, sixteen) refl; book = rw off refl }

module _ (line : List ℕ) {p r : ℕ} {b b₁ : Book} {l : Layout} (e : l ≡ layout_of p line) (z : l.refusal ≡ 0)
    (k : Called p b (entering p l) r b₁) where
  -- *enter* refuses, so the book stays as it was
  same : (r ≡ 0 → ⊥) → b₁ ≡ b
  same ne = k.book ∙ after_refused p b (entering p l) (λ q. ne (k.answer ∙ q))

  pub row_passed : r ≡ 2 → RowTaken p b line PassedOver b₁
  unfolding row_taken row_after layout_taken layout_after
  row_passed two =
      record {
        answer = rw (← e, eq-eqb l.refusal 0 z, ← k.answer, eq-eqb r 2 two) refl;
        book = rw (← e, eq-eqb l.refusal 0 z, ← k.answer, ne_eqb r 0 (λ q. absurd (omega arith)))
            (same (λ q. absurd (omega arith)));
      }

  pub row_refused : (r ≡ 2 → ⊥) → (r ≡ 0 → ⊥) → RowTaken p b line (Refused r) b₁
  unfolding row_taken row_after layout_taken layout_after
  row_refused two ne =
      record {
        answer = rw (← e, eq-eqb l.refusal 0 z, ← k.answer, ne_eqb r 2 two, ne_eqb r 0 ne) refl;
        book = rw (← e, eq-eqb l.refusal 0 z, ← k.answer, ne_eqb r 0 ne) (same ne);
      }

  -- *enter* accepts: the row's levels are blank, or *supply* follows
  pub row_entered : r ≡ 0 → l.fields.computed ≡ 0 → RowTaken p b line Entered b₁
  unfolding row_taken row_after layout_taken layout_after entered_taken entered_after
  row_entered in-book blank =
      record {
        answer = rw (← e, eq-eqb l.refusal 0 z, ← k.answer, in-book, eq-eqb l.fields.computed 0 blank) refl;
        book = rw (← e, eq-eqb l.refusal 0 z, ← k.answer, in-book, eq-eqb l.fields.computed 0 blank) k.book;
      }

  pub row_supplied : {t : Taken} {b₂ : Book} → r ≡ 0 → (l.fields.computed ≡ 0 → ⊥)
      → LevelsTaken p b₁ l.fields.identity l.levels t b₂
      → RowTaken p b line t b₂
  unfolding row_taken row_after layout_taken layout_after entered_taken entered_after
  row_supplied in-book given s =
      let some = ne_eqb l.fields.computed 0 given in
      record {
        answer = rw (← e, eq-eqb l.refusal 0 z, ← k.answer, in-book, some, ← k.book) s.answer;
        book = rw (← e, eq-eqb l.refusal 0 z, ← k.answer, in-book, some, ← k.book) s.book;
      }

-- a row keeps a sound book sound
pub row_sound_lem : {p : ℕ} {b b' : Book} {r : Taken} (line : List ℕ) → sound p b ≡ true
    → RowTaken p b line r b'
    → sound p b' ≡ true
unfolding row_after layout_after entered_after
row_sound_lem {p} {b} {b'} {r} line s k =
    ap (sound p) k.book
    ∙ go (eqb l.refusal 0) (eqb (refusal p b (entering p l)) 0) (eqb l.fields.computed 0)
  where
    l : Layout
    l = layout_of p line

    entered : sound p (after p b (entering p l)) ≡ true
    entered = after-sound p p b (entering p l) s (λ _. refl)

    go : (x y z : Bool)
        → sound p (cond x (cond y (cond z (after p b (entering p l))
        (after p (after p b (entering p l)) (supplying p l))) b) b) ≡ true
    go false y z = s
    go true false z = s
    go true true true = entered
    go true true false = after-sound p p (after p b (entering p l)) (supplying p l) entered (λ _. refl)

-- what a row did is its answer
pub same_taken : (r s : Result Entry Refusal) → taken_of r ≡ taken_of s → r ≡ s
same_taken (Ok Added) (Ok Added) e = refl
same_taken (Ok Added) (Ok Skipped) e = cc
same_taken (Ok Added) (Err why) e = cc
same_taken (Ok Skipped) (Ok Added) e = cc
same_taken (Ok Skipped) (Ok Skipped) e = refl
same_taken (Ok Skipped) (Err why) e = cc
same_taken (Err why) (Ok Added) e = cc
same_taken (Err why) (Ok Skipped) e = cc
same_taken (Err why) (Err more) e = let n : number_of why ≡ number_of more = cc in ap Err (same_number why more n)

-- so the code's cases are told apart
pub row_answered : {p : ℕ} {b b' : Book} {line : List ℕ} (r : Result Entry Refusal) → RowTaken p b line (taken_of r) b'
    → RowAnswered p b line r
row_answered r k =
    record {
      skipped = ((λ e. sym k.answer ∙ ap taken_of e), (λ e. same_taken r (Ok Skipped) (k.answer ∙ e)));
      added = ((λ e. sym k.answer ∙ ap taken_of e), (λ e. same_taken r (Ok Added) (k.answer ∙ e)));
    }
