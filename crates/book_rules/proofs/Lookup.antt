-- What each accepted call does, by look-up. Assumes nothing.
use mathlib.Core.{Path.◌≡◌, Path.refl, Path.sym, Path.ap, Path.subst, Path.◌∙◌, Bool.true, Bool.false}
use mathlib.Core.{Logic.⊎_elim, List.List}
use Prim.Native.Nat.{ℕ, suc, ◌+◌, ◌*◌, ◌≤◌, ◌<◌}
use native.Mathlib.Omega.{arith}
use lib.{ListN.length, ListN.get_or, Dec.eqb}
use borrow.Author.Tests.{eqb-true, lt-ltb, le-ltb, not-true}
use Rattle.movement.specs.Period.{day_from, evening_from, night_from, period_of, period_number}
use Rattle.movement.specs.{Group.group_of, Rules.identity_fits}
use Rattle.movement.proofs.Numbers.{group_of_lem}
use Rattle.movement.specs.Ranges.{CountsInRange}
use Rattle.refusal.proofs.Laws.{refuse_none}
use Rattle.book_rules.specs.Columns.{Book, index_of, stands, sound}
use Rattle.book_rules.specs.Calls.{Call, Called, take_back_refusal, sound_refusal, refusal, changed}
use Rattle.book_rules.specs.Calls.Call.{enter, supply, take_back, withdraw}
use Rattle.book_rules.specs.History.{Held, Movement, movement, holding, without, step, column, mark_cell}
use Rattle.book_rules.specs.History.{counts_for, count_cells, rows_of}
use Rattle.book_rules.specs.History.Held.{none, holds}
use Rattle.book_rules.specs.{Reasons.Fields, Reasons.Full, SoundBook.SoundBook}
use Rattle.book_rules.specs.Lookup.{found, counts_found, bare, row_held, listed, KeepsOthers, Enters, Supplies}
use Rattle.book_rules.specs.Lookup.{TakesBack, Withdraws, Does}
use Rattle.book_rules.specs.Lookup.Row.{nowhere}
use Rattle.book_rules.proofs.{Blocks.Found, Standing.AllGood, Standing.Rising, Standing.length_without}
use Rattle.book_rules.proofs.Accepted.{entered, supplied, taken_back, withdrawn, identity_in, fields_in}
use Rattle.book_rules.proofs.{Accepted.accepted_sound, Accepted.after_accepted, Reading.book_read}
use Rattle.book_rules.proofs.Steps.{ids, Stepped, stepped, place_at, stood_at, length_ids, first_unused}
use Rattle.book_rules.proofs.{Kept.read_rows, Kept.called_sound, SoundBook.sound_exactly}
use Rattle.book_rules.proofs.Search.{index_is, stands_index}
use Rattle.book_rules.proofs.Order.{not_standing, standing_found, mark_found_lem, refusal_order}
use Rattle.book_rules.proofs.Listed.{rows_found, added_found, added_other, holding_found, holding_other}
use Rattle.book_rules.proofs.Listed.{counts_listed, now_holds, without_found, without_other}

-- An accepted call

-- the book before and after it, as the rows of a list of movements and of that list after the call
pub record Acted (p : ℕ) (b : Book) (c : Call) (b' : Book) : Type 0 where
  pub unused : ℕ
  pub list : List Movement
  pub before : b ≡ rows_of p unused list
  pub good : AllGood p list
  pub rising : Rising list
  pub passed : sound_refusal p (rows_of p unused list) c ≡ 0
  pub step= : Stepped p unused list c
  pub after= : b' ≡ rows_of p step=.unused (step list c)
  pub was_sound : sound p b ≡ true
  pub is_sound_rule : sound p b' ≡ true

pub acted : {p : ℕ} {b b' : Book} {c : Call} → Called p b c 0 b' → Acted p b c b'
acted {p} {b} {b'} {c} k =
    let z : refusal p b c ≡ 0 = sym k.answer in
    let a = accepted_sound p b c z in
    let r = book_read p b a.0 in
    let e = read_rows r in
    let y = subst (λ (v : Book). sound_refusal p v c ≡ 0) e a.1 in
    let w = stepped p r.unused r.list c r.good r.rising y in
    record {
      unused = r.unused;
      list = r.list;
      before = e;
      good = r.good;
      rising = r.rising;
      passed = y;
      step= = w;
      after= = k.book ∙ after_accepted p b c z ∙ ap (λ (v : Book). changed p v c) e ∙ w.rows;
      was_sound = a.0;
      is_sound_rule = called_sound a.0 k;
    }

module _ {p : ℕ} {b b' : Book} {c : Call} (a : Acted p b c b') where
  pub found_before : (y : ℕ) → 1 ≤ y → found y p b ≡ listed y p a.list
  found_before y l = ap (found y p) a.before ∙ rows_found y p a.unused a.list l a.good

  pub counts_before : (y : ℕ) → 1 ≤ y → counts_found (found y p b) ≡ counts_for y a.list
  counts_before y l = ap counts_found (found_before y l) ∙ counts_listed y p a.list

  pub found_after : (y : ℕ) → 1 ≤ y → found y p b' ≡ listed y p (step a.list c)
  found_after y l = ap (found y p) a.after=
      ∙ rows_found y p a.step=.unused (step a.list c) l a.step=.good

  same_rows : length b'.identities ≡ length b.identities
  unfolding rows_of
  same_rows =
      ap (λ (v : Book). length v.identities) a.after=
      ∙ length_ids a.step=.unused (step a.list c)
      ∙ a.step=.same
      ∙ sym (ap (λ (v : Book). length v.identities) a.before ∙ length_ids a.unused a.list)

  keeps_others : (x : ℕ) → ((y : ℕ) → (y ≡ x → ⊥)
      → listed y p (step a.list c) ≡ listed y p a.list)
      → KeepsOthers p x b b'
  keeps_others x h =
      record {
        sound= = a.is_sound_rule;
        rows = same_rows;
        others = λ y l n. found_after y l ∙ h y n ∙ sym (found_before y l);
      }

-- the period of a second, by the edges of the day
day_is : (s : ℕ) → 25200 ≤ s → s < 68400 → period_number (period_of s) ≡ 0
day_is s h k = rw (le-ltb s day_from h, lt-ltb s evening_from k) refl

evening_is : (s : ℕ) → 68400 ≤ s → s < 82800 → period_number (period_of s) ≡ 1
evening_is s h k = rw (le-ltb s day_from (omega arith), le-ltb s evening_from h, lt-ltb s night_from k) refl

late_is : (s : ℕ) → 82800 ≤ s → period_number (period_of s) ≡ 2
late_is s h = rw (le-ltb s day_from (omega arith), le-ltb s evening_from (omega arith), le-ltb s night_from h) refl

early_is : (s : ℕ) → s < 25200 → period_number (period_of s) ≡ 2
early_is s h = rw (lt-ltb s day_from h) refl

enter_does : {p x t k s m : ℕ} {cs : List ℕ} {b b' : Book} → Called p b (enter x t k s m cs) 0 b'
    → Enters p x t k s cs b b'
unfolding sound_refusal rows_of step row_held
enter_does {p} {x} {t} {k} {s} {m} {cs} {b} {b'} q =
    let a = acted q in
    let e = entered p (ids a.unused a.list) x t k s m cs a.passed in
    let low = (identity_in x e.identity=).0 in
    let f = fields_in t k s m e.fields in
    let v = movement x (group_of t k s) cs none in
    let at = place_at p x a.unused a.list a.good in
    let new = subst (λ (w : Book). stands x w.identities ≡ false) (sym a.before) (not-true _ e.new) in
    let stored : (n : ℕ) → period_number (period_of s) ≡ n → found x p b' ≡ bare p (6 * t + 3 * k + n) cs =
    λ n z. found_after a x low
    ∙ added_found p v at
    ∙ ap (λ g. bare p g cs) (group_of_lem t k s f.0 f.1 ∙ ap (λ i. 6 * t + 3 * k + i) z) in
    record {
      kept = keeps_others a x (λ y n. added_other y p v (λ z. n (sym z)) at);
      new = not_standing x p b new;
      day = λ h l. stored 0 (day_is s h l);
      evening = λ h l. stored 1 (evening_is s h l);
      late = λ h. stored 2 (late_is s h);
      early = λ h. stored 2 (early_is s h);
    }

-- the list after *supply* and *take back*: the identity x holds h
module _ {p : ℕ} {b b' : Book} {c : Call} (a : Acted p b c b') (x : ℕ) (i : identity_fits x ≡ true)
    (e : stands x (ids a.unused a.list) ≡ true) where
  low : 1 ≤ x
  low = (identity_in x i).0

  at_row : Found x a.list (index_of x (ids a.unused a.list))
  at_row = stood_at p a.unused x a.list i e

  stood_before : found x p b ≡ nowhere → ⊥
  unfolding rows_of
  stood_before = standing_found x p b (subst (λ (w : Book). stands x w.identities ≡ true) (sym a.before) e)

  held_after : (h : Held) → step a.list c ≡ holding x h a.list
      → found x p b' ≡ now_holds p h (found x p b)
  held_after h s =
      found_after a x low
      ∙ ap (listed x p) s
      ∙ holding_found p h at_row
      ∙ ap (now_holds p h) (sym (found_before a x low))

  held_others : (h : Held) → step a.list c ≡ holding x h a.list → KeepsOthers p x b b'
  held_others h s = keeps_others a x (λ y n. ap (listed y p) s ∙ holding_other y p h n at_row)

  gone_after : step a.list c ≡ without x a.list → found x p b' ≡ nowhere
  gone_after s = found_after a x low ∙ ap (listed x p) s ∙ without_found p a.rising at_row

  gone_others : step a.list c ≡ without x a.list → KeepsOthers p x b b'
  gone_others s = keeps_others a x (λ y n. ap (listed y p) s ∙ without_other y p n at_row)

  -- a row is free again
  room_after : step a.list c ≡ without x a.list → Full b' → ⊥
  unfolding rows_of
  room_after s full =
      let ms = step a.list c in
      let u = a.step=.unused in
      let fewer = ap (λ (l : List Movement). suc (length l)) s ∙ length_without at_row in
      let first = first_unused p u ms a.step=.good in
      let h : index_of 0 (ids u ms) < length (ids u ms) = omega (arith, a.step=.same, length_ids u ms) in
      let f = subst Full a.after= full in
      omega (arith, f (index_of 0 (ids u ms)) h, index_is 0 (ids u ms) h)

supply_does : {p x : ℕ} {ls : List ℕ} {b b' : Book} → Called p b (supply x ls) 0 b' → Supplies p x ls b b'
unfolding sound_refusal rows_of step row_held
supply_does {p} {x} {ls} {b} {b'} q =
    let a = acted q in
    let w = supplied p (ids a.unused a.list) (column count_cells p a.unused a.list) x ls a.passed in
    let i = w.0.identity= in
    let e = w.0.stands= in
    record {
      kept = held_others a x i e (holds ls) refl;
      stood = stood_before a x i e;
      found= = held_after a x i e (holds ls) refl;
    }

-- a take back finds the mark
taken_mark : (ids ms : List ℕ) (x : ℕ) → take_back_refusal ids ms x ≡ 0 → get_or ms (index_of x ids) 0 ≡ 1
unfolding take_back_refusal
taken_mark ids ms x e =
    let r₃ = refuse_none 3 (identity_fits x) _ (omega arith) e in
    let r₅ = refuse_none 5 (stands x ids) _ (omega arith) r₃.1 in
    let r₈ = refuse_none 8 (eqb (get_or ms (index_of x ids) 0) 1) _ (omega arith) r₅.1 in
    eqb-true (get_or ms (index_of x ids) 0) 1 r₈.0

take_back_does : {p x : ℕ} {b b' : Book} → Called p b (take_back x) 0 b' → TakesBack p x b b'
unfolding sound_refusal rows_of step row_held
take_back_does {p} {x} {b} {b'} q =
    let a = acted q in
    let y = (accepted_sound p b (take_back x) (sym q.answer)).1 in
    let w = taken_back (ids a.unused a.list) (column mark_cell 1 a.unused a.list) x a.passed in
    let i = w.identity= in
    let e = w.stands= in
    let there = stands_index x b.identities (taken_back b.identities b.marks x y).stands= in
    record {
      kept = held_others a x i e none refl;
      held =
          sym (mark_found_lem x p b.identities b.groups b.marks b.counts b.levels there)
          ∙ taken_mark b.identities b.marks x y;
      found= = held_after a x i e none refl;
    }

-- an entry that no rule refuses is accepted
pub enters_freely : (p : ℕ) (b : Book) (x t k s m : ℕ) (cs : List ℕ) → SoundBook p b → CountsInRange p cs
    → Fields t k s m → 150 < m → (1 ≤ x) × (x ≤ 99999) → found x p b ≡ nowhere → (Full b → ⊥)
    → refusal p b (enter x t k s m cs) ≡ 0
enters_freely p b x t k s m cs book given f heavy range new room =
    let first = ((refusal_order p b (enter x t k s m cs)).otherwise (λ n. n book)).otherwise (λ n. n given) in
    let fields = (first.otherwise (λ n. n f)).otherwise (λ l. omega arith) in
    let free = (fields.otherwise (⊎_elim (λ z. omega arith) (λ z. omega arith))).otherwise (λ n. n new) in
    free.otherwise room

withdraw_does : {p x : ℕ} {b b' : Book} → Called p b (withdraw x) 0 b' → Withdraws p x b b'
unfolding sound_refusal rows_of step
withdraw_does {p} {x} {b} {b'} q =
    let a = acted q in
    let w = withdrawn (ids a.unused a.list) x a.passed in
    let i = w.identity= in
    let e = w.stands= in
    let gone = gone_after a x i e refl in
    record {
      kept = gone_others a x i e refl;
      stood = stood_before a x i e;
      gone = gone;
      free = λ t k s m cs given f h.
          enters_freely p b' x t k s m cs ((sound_exactly p b').only a.is_sound_rule) given f h (identity_in x i) gone
          (room_after a x i e refl);
    }

pub call_does : {p : ℕ} {b b' : Book} (c : Call) → Called p b c 0 b' → Does p c b b'
call_does (enter x t k s m cs) q = enter_does q
call_does (supply x ls) q = supply_does q
call_does (take_back x) q = take_back_does q
call_does (withdraw x) q = withdraw_does q
