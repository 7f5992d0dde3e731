-- A replay, call by call: the calls made so far have led here, and those still to come give what all give.
-- Assumes nothing.
use mathlib.Core.{Path.◌≡◌, Path.refl, Path.sym, Path.ap, Path.◌∙◌, Bool.true, List.List, List.[], List.◌∷◌}
use Rattle.std.specs.Prelude.{ℕ, suc, ◌+◌, ◌<◌, ◌≤◌}
use native.Mathlib.{Nat.add-zero, Omega.arith}
use lib.{ListN.length, ListN.drop, ListN.get_or, ListN.set, ListN.length-drop, Seq.drop-drop, Seq.get_or-drop, Dec.leb}
use borrow.Author.Tests.{eq-eqb, ne_eqb, leb-true}
use Rattle.refusal.proofs.Laws.{refuse_none}
use Rattle.room.specs.Room.{front}
use Rattle.room.proofs.Laws.{front_to, front_to_more, front_to_end}
use Rattle.book_rules.specs.{Columns.Book, Columns.sound, Calls.Call, Calls.Called, Calls.refusal, Calls.after}
use Rattle.book_rules.specs.History.{made, booked, answered}
use Rattle.book_rules.proofs.Kept.{called_sound}
use Rattle.journal.specs.Journal.{call_at, calls_of, laid_out, made_for, calls_for, replay_refusal, Replayed}
use Rattle.journal.proofs.Reading.{Step, tail, length_tail, nothing_left}

-- all answers of the journal
abbrev pub all : ℕ → Book → List ℕ → List ℕ
all p b j = answered b (calls_for p j)

pub record Replaying (p : ℕ) (b₀ : Book) (j room₀ rest : List ℕ) (made : ℕ) (b : Book) (room : List ℕ) : Type 0 where
  pub within : length rest ≤ length j
  pub sound= : sound p b ≡ true
  pub laid : laid_out rest ≡ true
  pub book : booked b₀ (calls_for p j) ≡ booked b (calls_for p rest)
  pub answers : drop made (all p b₀ j) ≡ answered b (calls_for p rest)
  pub done : made ≤ length (all p b₀ j)
  pub answered= : room ≡ front_to (all p b₀ j) room₀ made

pub replay_starts : (p : ℕ) (b : Book) (j room : List ℕ) → sound p b ≡ true → laid_out j ≡ true
    → Replaying p b j room j 0 b room
replay_starts p b j room s l = record {
  within = omega arith;
  sound= = s;
  laid = l;
  book = refl;
  answers = refl;
  done = omega arith;
  answered= = refl;
}

more : (p w : ℕ) (j : List ℕ) → Step j w → calls_for p j ≡ made p (call_at j) ∷ calls_for p (tail j w)
unfolding made_for
more p w j s = ap (made_for p) s.calls

-- what the next call answers is the next answer of all
pub record Next (p : ℕ) (b₀ : Book) (j rest : List ℕ) (w made : ℕ) (b : Book) : Type 0 where
  pub inside : made < length (all p b₀ j)
  pub answer : get_or (all p b₀ j) made 0 ≡ refusal p b (call_at rest)
  pub later : drop (made + 1) (all p b₀ j) ≡ answered (after p b (call_at rest)) (calls_for p (tail rest w))

pub next : {p : ℕ} {b₀ : Book} {j room₀ rest : List ℕ} {w made : ℕ} {b : Book} {room : List ℕ}
    → Replaying p b₀ j room₀ rest made b room → Step rest w → Next p b₀ j rest w made b
unfolding answered
next {p} {b₀} {j} {room₀} {rest} {w} {made} {b} {room} r step =
    let s = all p b₀ j in
    let e : drop made s ≡ refusal p b (call_at rest) ∷ answered (after p b (call_at rest)) (calls_for p (tail rest w)) =
    r.answers ∙ ap (answered b) (more p w rest step) in
    record {
      inside = omega (arith, ap length e, length-drop made s);
      answer =
          sym (ap (λ n. get_or s n 0) (add-zero made)) ∙ sym (get_or-drop made s 0 0)
          ∙ ap (λ (t : List ℕ). get_or t 0 0) e;
      later = sym (drop-drop 1 made s) ∙ ap (drop 1) e;
    }

-- where the call answered r, as it is told
pub replay_more : {p : ℕ} {b₀ : Book} {j room₀ rest : List ℕ} {w made r said : ℕ} {b b' : Book} {room : List ℕ}
    → Replaying p b₀ j room₀ rest made b room → Step rest w
    → length (all p b₀ j) ≤ length room₀ → Called p b (call_at rest) r b' → said ≡ r
    → Replaying p b₀ j room₀ (tail rest w) (made + 1) b' (set room made said)
unfolding booked
replay_more {p} {b₀} {j} {room₀} {rest} {w} {made} {r} {said} {b} {b'} {room} s step l c e =
    let n = next s step in
    let i = n.inside in
    record {
      within = omega (arith, length_tail rest w, s.within);
      sound= = called_sound s.sound= c;
      laid = sym step.laid ∙ s.laid;
      book =
          s.book ∙ ap (booked b) (more p w rest step)
          ∙ ap (λ (k : Book). booked k (calls_for p (tail rest w))) (sym c.book);
      answers = n.later ∙ ap (λ (k : Book). answered k (calls_for p (tail rest w))) (sym c.book);
      done = omega arith;
      answered= = front_to_more (all p b₀ j) room₀ s.answered= (n.answer ∙ sym c.answer ∙ sym e) i (omega arith);
    }

-- all calls are made
pub replay_ends : {p : ℕ} {b₀ : Book} {j room₀ rest : List ℕ} {made : ℕ} {b : Book} {room : List ℕ}
    → Replaying p b₀ j room₀ rest made b room → length rest ≤ 0
    → (b ≡ booked b₀ (calls_for p j)) × (room ≡ front (all p b₀ j) room₀)
unfolding booked answered made_for
replay_ends {p} {b₀} {j} {room₀} {rest} {made} {b} {room} r h =
    let s = all p b₀ j in
    let none : calls_of rest ≡ [] = (nothing_left rest h).1 in
    let e : drop made s ≡ [] = r.answers ∙ ap (λ (cs : List Call). answered b (made_for p cs)) none in
    let n : made ≡ length s = omega (arith, ap length e, length-drop made s, r.done) in (
      sym (r.book ∙ ap (λ (cs : List Call). booked b (made_for p cs)) none),
      r.answered= ∙ front_to_end s room₀ n,
    )

-- as many answers as calls
pub length_all : (p : ℕ) (b : Book) (cs : List Call) → length (answered b (made_for p cs)) ≡ length cs
unfolding answered made_for
length_all p b [] = refl
length_all p b (c ∷ cs) = ap suc (length_all p (after p b c) cs)

-- The promise

pub replay_ready : (p : ℕ) (b : Book) (j : List ℕ) (room : ℕ) → replay_refusal p b j room ≡ 0
    → (sound p b ≡ true) × ((laid_out j ≡ true) × (length (calls_of j) ≤ room))
unfolding replay_refusal
replay_ready p b j room e =
    let r₁₆ = refuse_none 16 (laid_out j) _ (omega arith) e in
    let r₉ = refuse_none 9 (sound p b) _ (omega arith) r₁₆.1 in
    let r₁₄ = refuse_none 14 (leb (length (calls_of j)) room) _ (omega arith) r₉.1 in
    (r₉.0, (r₁₆.0, leb-true (length (calls_of j)) room r₁₄.0))

pub replay_refused : {p r : ℕ} {b : Book} {j room : List ℕ} → r ≡ replay_refusal p b j (length room)
    → (r ≡ 0 → ⊥)
    → Replayed p b j room r b room
replay_refused {p} {r} {b} {j} {room} e h =
    let n = ne_eqb (replay_refusal p b j (length room)) 0 (λ z. h (e ∙ z)) in
    record { answer = e; book = rw n refl; answers = rw n refl }

pub replay_done : {p : ℕ} {b b' : Book} {j room room' : List ℕ} → replay_refusal p b j (length room) ≡ 0
    → b' ≡ booked b (calls_for p j) → room' ≡ front (all p b j) room → Replayed p b j room 0 b' room'
replay_done {p} {b} {b'} {j} {room} {room'} e f g =
    let n = eq-eqb (replay_refusal p b j (length room)) 0 e in
    record { answer = sym e; book = rw n f; answers = rw n g }

-- two outcomes of one replay are equal
pub replayed_once : {p r s : ℕ} {b b' b'' : Book} {j room room' room'' : List ℕ}
    → Replayed p b j room r b' room'
    → Replayed p b j room s b'' room''
    → (r ≡ s) × (b' ≡ b'') × (room' ≡ room'')
replayed_once x y = (x.answer ∙ sym y.answer, x.book ∙ sym y.book, x.answers ∙ sym y.answers)
