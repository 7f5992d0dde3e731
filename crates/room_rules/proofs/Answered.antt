-- Answers in lent room, place by place. Assumes nothing.
use Prim.Native.Nat.{ℕ, ◌≤◌}
use mathlib.Core.Path.{◌≡◌, refl, ap, ◌∙◌}
use mathlib.Core.{Bool.Bool, Bool.true, Bool.false, Bool.◌&&◌, Bool.and-false, List.List}
use native.Mathlib.Omega.{arith}
use lib.ListN.{length, get_or}
use borrow.Author.Tests.{eq-eqb, ne_eqb, le-leb, lt-leb}
use Rattle.room.specs.Room.{front, fits_in, then_room, leaves, Writes, WritesTwo}
use Rattle.room.proofs.Fronts.{length_front, front_at, front_past, left_alone}
use Rattle.room_rules.specs.Kept.{Holds, WritesSo, WritesTwoSo}

holds : (answer room room' : List ℕ) → length answer ≤ length room → room' ≡ front answer room
    → Holds answer room room'
holds answer room room' fits e =
    record {
      long = ap length e ∙ length_front answer room fits;
      answered = λ i h. ap (λ (s : List ℕ). get_or s i 0) e ∙ front_at answer room i 0 h;
      kept = λ i h. ap (λ (s : List ℕ). get_or s i 0) e ∙ front_past answer room i 0 h;
    }

-- the number, by what refuses
own : (why : ℕ) (enough : Bool) → (why ≡ 0 → ⊥) → then_room why enough ≡ why
own why enough ne = rw (ne_eqb why 0 ne) refl

fourteen : (why : ℕ) (enough : Bool) → why ≡ 0 → enough ≡ false → then_room why enough ≡ 14
fourteen why enough z short = rw (eq-eqb why 0 z, short) refl

none : (why : ℕ) (enough : Bool) → why ≡ 0 → enough ≡ true → then_room why enough ≡ 0
none why enough z fits = rw (eq-eqb why 0 z, fits) refl

-- what is left, by the number
stays : (n k : ℕ) (answer room room' : List ℕ) → room' ≡ leaves n answer room → n ≡ k
    → (k ≡ 0 → ⊥) → room' ≡ room
stays n k answer room room' left e ne =
    left ∙ ap (λ (m : ℕ). leaves m answer room) e ∙ left_alone k answer room ne

goes : (n : ℕ) (answer room room' : List ℕ) → room' ≡ leaves n answer room → n ≡ 0
    → room' ≡ front answer room
goes n answer room room' left e = left ∙ ap (λ (m : ℕ). leaves m answer room) e

pub writes_so : {why r : ℕ} {answer room room' : List ℕ} → Writes why answer room r room'
    → WritesSo why answer room r room'
writes_so {why} {r} {answer} {room} {room'} w =
    let enough = fits_in answer room in
    let n = then_room why enough in
    record {
      refused = λ ne. (
        w.number ∙ own why enough ne,
        stays n why answer room room' w.left (own why enough ne) ne,
      );
      short = λ z h.
          let e = fourteen why enough z (lt-leb (length answer) (length room) h) in
          (w.number ∙ e, stays n 14 answer room room' w.left e (λ f. absurd (omega arith)));
      written = λ z h.
          let e = none why enough z (le-leb (length answer) (length room) h) in
          (w.number ∙ e, holds answer room room' h (goes n answer room room' w.left e));
    }

pub writes_two_so : {why r : ℕ} {a b ra rb ra' rb' : List ℕ}
    → WritesTwo why a b ra rb r ra' rb' → WritesTwoSo why a b ra rb r ra' rb'
writes_two_so {why} {r} {a} {b} {ra} {rb} {ra'} {rb'} w =
    let enough = fits_in a ra && fits_in b rb in
    let n = then_room why enough in
    let both : (k : ℕ) → n ≡ k → (k ≡ 0 → ⊥) → (ra' ≡ ra) × (rb' ≡ rb) =
    λ k e ne. (stays n k a ra ra' w.left_first e ne, stays n k b rb rb' w.left_second e ne) in
    let short : why ≡ 0 → enough ≡ false → (r ≡ 14) × ((ra' ≡ ra) × (rb' ≡ rb)) =
    λ z lack. let e = fourteen why enough z lack in (w.number ∙ e, both 14 e (λ f. absurd (omega arith))) in
    record {
      refused = λ ne. (w.number ∙ own why enough ne, both why (own why enough ne) ne);
      short_first = λ z h. short z (rw (lt-leb (length a) (length ra) h) refl);
      short_second = λ z h. short z (rw (lt-leb (length b) (length rb) h) (and-false (fits_in a ra)));
      written = λ z h k.
          let fits = le-leb (length a) (length ra) h in
          let e = none why enough z (rw (fits, le-leb (length b) (length rb) k) refl) in (
            w.number ∙ e,
            (
              holds a ra ra' h (goes n a ra ra' w.left_first e),
              holds b rb rb' k (goes n b rb rb' w.left_second e),
            ),
          );
    }
