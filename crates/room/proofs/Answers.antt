-- Answers in lent room: what a call has to show where it is refused, where the room is short, and where it writes.
-- Assumes nothing.
use Prim.Native.Nat.{ℕ, zero, suc, ◌+◌, ◌≤◌, ◌<◌}
use mathlib.Core.Path.{◌≡◌, refl, sym, ap, ◌∙◌}
use mathlib.Core.{Bool.Bool, Bool.true, Bool.false, Bool.cond, Bool.◌&&◌, Bool.and-false, List.List, List.[], List.◌++◌}
use native.Mathlib.{Nat.zero-add, Omega.arith}
use borrow.Author.Tests.{le-leb, lt-leb, ne_eqb}
use lib.{Dec.leb, Dec.eqb, Dec.leb-zero, ListN.length, ListN.drop, Seq.sets, Seq.sets-eq}
use Rattle.refusal.specs.Refuse.{first}
use Rattle.room.specs.Room.{front, put, fits_in, then_room, leaves, Writes, WritesTwo}

-- Room written from its front

pub front-sets : {A : Type 0} (answer room : List A) → length answer ≤ length room
    → sets room 0 answer ≡ front answer room
front-sets answer room h =
    let fits : 0 + length answer ≤ length room = omega arith in
    sets-eq answer room 0 fits ∙ ap (λ k. answer ++ drop k room) (zero-add (length answer))

pub front-put : {A : Type 0} (room answer : List A) → put room 0 answer ≡ front answer room
unfolding put
front-put room answer = ap (λ k. answer ++ drop k room) (zero-add (length answer))

-- Refusals before 14

-- no refusal, and none after it
pub first_none_lem : (n next : ℕ) → first n next ≡ 0 → (n ≡ 0) × (next ≡ 0)
first_none_lem zero next e = (refl, e)
first_none_lem (suc n) next e = let never : suc n ≡ 0 = rw (ne_eqb (suc n) 0 (omega arith)) at e in absurd (omega arith)

-- with room enough the refusal is the call's own
own : (n : ℕ) → cond (eqb n 0) 0 n ≡ n
own zero = refl
own (suc n) = rw (ne_eqb (suc n) 0 (omega arith)) refl

-- a refusal is one whatever room there is
pub short_of_lem : (n k : ℕ) (enough : Bool) → k ≡ then_room n enough → (k ≡ 0 → ⊥) → k ≡ then_room n false
short_of_lem n k false e h = e
short_of_lem zero k true e h = absurd (h e)
short_of_lem (suc n) k true e h = let some = ne_eqb (suc n) 0 (omega arith) in e ∙ rw some refl

pub fine_but_short : (n : ℕ) (enough : Bool) → 0 ≡ then_room n enough → 14 ≡ then_room n false
fine_but_short n enough e = let z = (first_none_lem n (cond enough 0 14) (sym e)).0 in rw z refl

-- One list

module _ {A : Type 0} {n : ℕ} {answer room : List A} where
  pub refuse : {k : ℕ} → n ≡ k → (k ≡ 0 → ⊥) → Writes n answer room k room
  refuse {k} e h =
      let z : then_room n (fits_in answer room) ≡ k = rw (e, ne_eqb k 0 h) refl in
      record { number = sym z; left = rw (z, ne_eqb k 0 h) refl }

  pub lack : n ≡ 0 → length room < length answer → Writes n answer room 14 room
  lack e h =
      let z : then_room n (fits_in answer room) ≡ 14 = rw (e, lt-leb (length answer) (length room) h) refl in
      record { number = sym z; left = rw z refl }

  pub write : {room' : List A} → n ≡ 0 → length answer ≤ length room → room' ≡ front answer room
      → Writes n answer room 0 room'
  write e h p =
      let z : then_room n (fits_in answer room) ≡ 0 = rw (e, le-leb (length answer) (length room) h) refl in
      record { number = sym z; left = rw z p }

  -- two outcomes of one call are equal
  pub one_outcome : {r r' : ℕ} {w w' : List A} → Writes n answer room r w → Writes n answer room r' w'
      → (r ≡ r') × (w ≡ w')
  one_outcome x y = (x.number ∙ sym y.number, x.left ∙ sym y.left)

-- nothing to write leaves the room as it is
unchanged : {A : Type 0} (n : ℕ) (room : List A) → room ≡ leaves n [] room
unchanged zero room = refl
unchanged (suc n) room = rw (ne_eqb (suc n) 0 (omega arith)) refl

pub nothing : {A : Type 0} (n : ℕ) (room : List A) → Writes n [] room n room
nothing n room =
    let z : then_room n (leb 0 (length room)) ≡ n = rw (leb-zero (length room)) (own n) in
    record { number = sym z; left = rw z (unchanged n room) }

-- Two lists

module _ {A B : Type 0} {n : ℕ} {a : List A} {b : List B} {ra : List A} {rb : List B} where
  pub refuse_two : {k : ℕ} → then_room n (fits_in a ra && fits_in b rb) ≡ k → (k ≡ 0 → ⊥)
      → WritesTwo n a b ra rb k ra rb
  refuse_two {k} z h =
      record { number = sym z; left_first = rw (z, ne_eqb k 0 h) refl; left_second = rw (z, ne_eqb k 0 h) refl }

  pub write_two : {ra' : List A} {rb' : List B} → then_room n (fits_in a ra && fits_in b rb) ≡ 0
      → ra' ≡ front a ra → rb' ≡ front b rb → WritesTwo n a b ra rb 0 ra' rb'
  write_two z p q = record { number = sym z; left_first = rw z p; left_second = rw z q }

  pub fault_two : {k : ℕ} → n ≡ k → (k ≡ 0 → ⊥) → WritesTwo n a b ra rb k ra rb
  fault_two {k} e h = refuse_two (rw (e, ne_eqb k 0 h) refl) h

  -- a call that knows only that one list has no room
  short_two : {k : ℕ} → (fits_in a ra && fits_in b rb) ≡ false → k ≡ then_room n false
      → WritesTwo n a b ra rb k ra rb
  short_two {k} s e =
      refuse_two (rw s (sym e)) (λ z. let never = (first_none_lem n 14 (sym e ∙ z)).1 in omega arith)

  pub short_first : {k : ℕ} → length ra < length a → k ≡ then_room n false → WritesTwo n a b ra rb k ra rb
  short_first h e = short_two (rw (lt-leb (length a) (length ra) h) refl) e

  pub short_second : {k : ℕ} → length rb < length b → k ≡ then_room n false → WritesTwo n a b ra rb k ra rb
  short_second h e = short_two (rw (lt-leb (length b) (length rb) h) (and-false (fits_in a ra))) e

  -- both lists have room, and nothing else is refused
  pub write_both : {ra' : List A} {rb' : List B} → n ≡ 0 → length a ≤ length ra → length b ≤ length rb
      → ra' ≡ front a ra → rb' ≡ front b rb → WritesTwo n a b ra rb 0 ra' rb'
  write_both e p q =
      write_two (rw (e, le-leb (length a) (length ra) p, le-leb (length b) (length rb) q) refl)

  -- two outcomes of one call are equal
  pub one_outcome_two : {r r' : ℕ} {v v' : List A} {w w' : List B} → WritesTwo n a b ra rb r v w
      → WritesTwo n a b ra rb r' v' w' → (r ≡ r') × ((v ≡ v') × (w ≡ w'))
  one_outcome_two x y =
      (x.number ∙ sym y.number, (x.left_first ∙ sym y.left_first, x.left_second ∙ sym y.left_second))
