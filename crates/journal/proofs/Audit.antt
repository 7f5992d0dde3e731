-- What a journal is good for: any sequence of calls can be kept as one, and a replay of it on an empty book gives the
-- columns and answers that the
-- sequence's history means. Assumes nothing.
use Rattle.std.specs.Prelude.{◌≡◌, ℕ, ◌-◌, ◌<◌, ◌≤◌, Bool, true, false, cond, List, [], ◌∷◌, ◌++◌}
use mathlib.Core.Path.{refl, sym, ap, subst, ◌∙◌}
use mathlib.Core.Bool.{true≢false}
use native.Mathlib.Omega.{arith}
use lib.{ListN.length, ListN.drop, ListN.length-append, Seq.take-append_seam, Seq.drop-append_seam, Dec.eqb, Dec.leb}
use borrow.Author.Tests.{leb-true, leb-false, le-leb, eq-eqb, ne_eqb}
use Rattle.book_rules.specs.{Columns.Book, Columns.sound, Calls.Call, Calls.after}
use Rattle.book_rules.specs.Calls.Call.{enter, supply, take_back, withdraw}
use Rattle.book_rules.specs.History.{Made, movements, booked, answered, list_answered, rows_of, empty_book}
use Rattle.book_rules.specs.Chain.{Chain}
use Rattle.book_rules.specs.Chain.Chain.{done, called}
use Rattle.book_rules.proofs.{History.history, Order.decides, Order.given_by, Order.sound_decides}
use Rattle.room.specs.Room.{front}
use Rattle.journal.specs.Journal.{width_of, call_at, complete, calls_of, laid_out, made_for, calls_for, replay_refusal}
use Rattle.journal.specs.{Journal.Replayed, Spelling.spelled, Spelling.journal_of, Spelling.Spelled}
use Rattle.journal.specs.Replay.{MakesEach, ReplayHolds}
use Rattle.journal.proofs.Reading.{calls_more, laid_more, nothing_left}

-- A call that is spelled is read back

width_spelled : (c : Call) (rest : List ℕ) → width_of (spelled c ++ rest) ≡ length (spelled c)
unfolding spelled width_of
width_spelled (enter x t k s m cs) rest = omega arith
width_spelled (supply x ls) rest = omega arith
width_spelled (take_back x) rest = refl
width_spelled (withdraw x) rest = refl

call_spelled : (c : Call) (rest : List ℕ) → call_at (spelled c ++ rest) ≡ c
unfolding spelled call_at
call_spelled (enter x t k s m cs) rest = ap (enter x t k s m) (take-append_seam cs rest)
call_spelled (supply x ls) rest = ap (supply x) (take-append_seam ls rest)
call_spelled (take_back x) rest = refl
call_spelled (withdraw x) rest = refl

some_spelled : (c : Call) → 1 ≤ length (spelled c)
unfolding spelled
some_spelled (enter x t k s m cs) = omega arith
some_spelled (supply x ls) = omega arith
some_spelled (take_back x) = omega arith
some_spelled (withdraw x) = omega arith

complete-spelled : (c : Call) (rest : List ℕ) → complete (spelled c ++ rest) ≡ true
unfolding complete
complete-spelled c rest =
    let w = width_spelled c rest in
    let s = some_spelled c in
    let l = length-append (spelled c) rest in
    rw (
      le-leb 1 (width_of (spelled c ++ rest)) (omega arith),
      le-leb (width_of (spelled c ++ rest))
          (length (spelled c ++ rest)) (omega arith),
    ) refl

rest-spelled : (c : Call) (rest : List ℕ) → drop (width_of (spelled c ++ rest)) (spelled c ++ rest) ≡ rest
rest-spelled c rest = ap (λ n. drop n (spelled c ++ rest)) (width_spelled c rest) ∙ drop-append_seam (spelled c) rest

calls_spelled : (c : Call) (rest : List ℕ) → calls_of (spelled c ++ rest) ≡ c ∷ calls_of rest
calls_spelled c rest =
    let n : 0 < length (spelled c ++ rest) = omega (arith, some_spelled c, length-append (spelled c) rest) in
    calls_more (spelled c ++ rest) n (complete-spelled c rest)
    ∙ (λ i. call_spelled c rest i ∷ calls_of (rest-spelled c rest i))

pub laid_spelled : (c : Call) (rest : List ℕ) → laid_out (spelled c ++ rest) ≡ laid_out rest
laid_spelled c rest =
    let n : 0 < length (spelled c ++ rest) = omega (arith, some_spelled c, length-append (spelled c) rest) in
    laid_more (spelled c ++ rest) n (complete-spelled c rest) ∙ ap laid_out (rest-spelled c rest)

-- the numbers of each call, one by one
pub spelled_so : Spelled
unfolding spelled
spelled_so =
    record {
      nothing = (nothing_left [] (omega arith)).1;
      enter= = λ x t k s m cs rest. calls_spelled (enter x t k s m cs) rest;
      supply= = λ x ls rest. calls_spelled (supply x ls) rest;
      take_back= = λ x rest. calls_spelled (take_back x) rest;
      withdraw= = λ x rest. calls_spelled (withdraw x) rest;
    }

-- every sequence of calls has its journal
pub journal_calls : (cs : List Call) → (laid_out (journal_of cs) ≡ true) × (calls_of (journal_of cs) ≡ cs)
unfolding journal_of
journal_calls [] = nothing_left [] (omega arith)
journal_calls (c ∷ cs) =
    let rest = journal_of cs in
    let ih = journal_calls cs in
    (laid_spelled c rest ∙ ih.0, calls_spelled c rest ∙ ap (λ (ds : List Call). c ∷ ds) ih.1)

-- A replay

-- making the calls is making each, one after the other
made_chain : (b : Book) (cs : List Made) → Chain b cs (answered b cs) (booked b cs)
unfolding booked answered
made_chain b [] = done
made_chain b (c ∷ cs) = called (record { answer = refl; book = refl }) (made_chain (after c.points b c.call) cs)

pub makes_each : (p : ℕ) → MakesEach p
unfolding made_for
makes_each p =
    record {
      nothing = ap (made_for p) (nothing_left [] (omega arith)).1;
      next = λ j rest c e. ap (made_for p) e;
    }

pub replay_made : {p r : ℕ} {b b' : Book} {j room room' : List ℕ} → Replayed p b j room r b' room'
    → ReplayHolds p b j room r b' room'
unfolding replay_refusal
replay_made {p} {r} {b} {b'} {j} {room} {room'} k =
    let calls = length (calls_of j) in
    let n = length room in
    let none : r ≡ 0 → eqb (replay_refusal p b j n) 0 ≡ true =
    λ z. eq-eqb (replay_refusal p b j n) 0 (sym k.answer ∙ z) in
    let some : (r ≡ 0 → ⊥) → eqb (replay_refusal p b j n) 0 ≡ false =
    λ h. ne_eqb (replay_refusal p b j n) 0 (λ z. h (k.answer ∙ z)) in
    record {
      order =
          given_by (laid_out j) k.answer (decides (laid_out j) (λ e f. true≢false (sym e ∙ f)) (λ e. e)) λ _
          e₁₆.
          given_by (sound p b) e₁₆ (sound_decides p b) λ _ e₉.
          given_by (leb calls n) e₉
          (decides (leb calls n) (λ e f. omega (arith, leb-true calls n e)) (leb-false calls n)) λ _
          e₁₄. e₁₄;
      calls = λ z.
          subst (Chain b (calls_for p j) (answered b (calls_for p j)))
          (sym (k.book ∙ ap (λ (t : Bool). cond t (booked b (calls_for p j)) b) (none z)))
          (made_chain b (calls_for p j));
      answers = λ z. k.answers ∙ ap (λ (t : Bool). cond t (front (answered b (calls_for p j)) room) room) (none z);
      refused = λ h. (
        k.book ∙ ap (λ (t : Bool). cond t (booked b (calls_for p j)) b) (some h),
        k.answers ∙ ap (λ (t : Bool). cond t (front (answered b (calls_for p j)) room) room) (some h),
      );
    }

-- A replay on an empty book

pub replay_history : (p n : ℕ) {j room : List ℕ} {b' : Book} {room' : List ℕ}
    → Replayed p (empty_book p n) j room 0 b' room'
    → (b' ≡ rows_of p (n - length (movements p n (calls_for p j))) (movements p n (calls_for p j)))
    × (room' ≡ front (list_answered p n [] (calls_for p j)) room)
replay_history p n {j} {room} {b'} {room'} r =
    let h = history p n (calls_for p j) in
    let z = eq-eqb (replay_refusal p (empty_book p n) j (length room)) 0 (sym r.answer) in (
      rw z at r.book ∙ h.rows,
      rw z at r.answers ∙ ap (λ (rs : List ℕ). front rs room) h.answers,
    )
