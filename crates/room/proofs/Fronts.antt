-- Laws of an answer at the front of lent room. Assumes nothing.
use Prim.Native.Nat.{ℕ, suc, ◌+◌, ◌-◌, ◌≤◌, ◌<◌}
use mathlib.Core.{Path.◌≡◌, Path.refl, Path.sym, Path.ap, Path.◌∙◌, List.List, List.[], List.◌∷◌, List.◌++◌}
use native.Mathlib.Omega.{arith}
use lib.ListN.{length, get_or, take, drop, set, length-append, length-drop, get_or-append}
use lib.Seq.{take_at, drop-cons, drop-drop, drop-append-add, append_snoc, set-append_seam, get_or-append-add, get_or-drop}
use borrow.Author.Tests.{ne_eqb}
use Rattle.room.specs.Room.{front, put, leaves}

module _ {A : Type 0} (answer room : List A) where
  pub length_front : length answer ≤ length room → length (front answer room) ≡ length room
  length_front h = simp (length-append, length-drop) (omega arith)

  -- one value more
  pub front_more_rule : (k : ℕ) (x : A) → length answer ≡ k → k < length room
      → set (front answer room) k x ≡ front (answer ++ (x ∷ [])) room
  front_more_rule k x e h =
      let l : length (answer ++ (x ∷ [])) ≡ suc k = length-append answer (x ∷ []) ∙ omega arith in
      let rest = drop (suc (length answer)) room in
      rw (
        ← e,
        drop-cons room (length answer) x (rw e h),
        set-append_seam answer (get_or room (length answer) x) rest x,
      ) (rw (l, e) (sym (append_snoc answer x (drop (suc k) room))))

  -- some values more
  pub front_grows : (k : ℕ) (more : List A) → length answer ≡ k
      → put (front answer room) k more ≡ front (answer ++ more) room
  unfolding put
  front_grows k more e =
      let m : length (answer ++ more) ≡ k + length more = length-append answer more
      ∙ ap (λ (n : ℕ). n + length more) e in
      let p : take k (front answer room) ≡ answer = take_at answer (drop (length answer) room) k e in
      let q : drop (k + length more) (front answer room) ≡ drop (k + length more) room =
      ap (λ (n : ℕ). drop (n + length more) (front answer room)) (sym e)
      ∙ drop-append-add answer (drop (length answer) room) (length more)
      ∙ drop-drop (length more) (length answer) room
      ∙ ap (λ (n : ℕ). drop (n + length more) room) e in
      rw (p, q, m)

  -- so much of it is the answer
  pub front_is : (k : ℕ) → length answer ≡ k → take k (front answer room) ≡ answer
  front_is k e = take_at answer (drop (length answer) room) k e

  -- place by place: the answer, and past it what the room held
  module _ (i : ℕ) (d : A) where
    pub front_at : i < length answer → get_or (front answer room) i d ≡ get_or answer i d
    front_at h = get_or-append answer (drop (length answer) room) d i h

    pub front_past : length answer ≤ i → get_or (front answer room) i d ≡ get_or room i d
    front_past h =
        let e : i ≡ length answer + (i - length answer) = omega arith in
        ap (λ (k : ℕ). get_or (front answer room) k d) e
        ∙ get_or-append-add answer (drop (length answer) room) (i - length answer) d
        ∙ get_or-drop (length answer) room (i - length answer) d
        ∙ ap (λ (k : ℕ). get_or room k d) (sym e)

-- a refusal leaves the room as it was
pub left_alone : {A : Type 0} (n : ℕ) (answer room : List A) → (n ≡ 0 → ⊥) → leaves n answer room ≡ room
left_alone n answer room h = rw (ne_eqb n 0 h)

-- one and two values
pub front_one_lem : {A : Type 0} (room : List A) (x : A) → 1 ≤ length room → set room 0 x ≡ front (x ∷ []) room
front_one_lem [] x h = absurd (omega arith)
front_one_lem (a ∷ room) x h = refl

pub front_two_lem : {A : Type 0} (room : List A) (x y : A) → 2 ≤ length room
    → set (set room 0 x) 1 y ≡ front (x ∷ y ∷ []) room
front_two_lem [] x y h = absurd (omega arith)
front_two_lem (a ∷ []) x y h = absurd (omega arith)
front_two_lem (a ∷ (b ∷ room)) x y h = refl
