-- Laws of room that is lent: texts written into it, one past the other, and loops that copy an answer. Assumes nothing.
use Prim.Native.Nat.{ℕ, zero, suc, ◌+◌, ◌-◌, ◌≤◌, ◌<◌}
use mathlib.Core.Path.{◌≡◌, refl, sym, ap, ◌∙◌}
use mathlib.Core.List.{List, [], ◌∷◌, ◌++◌, append_assoc, append-nil}
use native.Mathlib.{Nat.add_assoc, Nat.add-zero, Nat.le_of_suc-le-suc, Nat.not-suc-le-zero, Numerals.add-one}
use native.Mathlib.Omega.{arith}
use lib.ListN.{length, get_or, take, drop, set, length-append, length-take, length-drop, take-append-drop}
use lib.ListN.{drop_of_length-le}
use lib.Seq.{set_split, take_at, append_snoc, drop-append-add, length-take-le, drop-drop, take-suc, take_all}
use lib.Seq.{take-length}
use borrow.Rule.Slice.PartMut.{put_mid, Post-is}
use Rattle.room.specs.Room.{front, put, Wrote}

-- a store is text of one byte
pub put_one : (s : List ℕ) (at b : ℕ) → at < length s → set s at b ≡ put s at (b ∷ [])
unfolding put
put_one s at b h = rw (set_split s at b h, ← add-one at) (sym (append_snoc (take at s) b (drop (at + 1) s)))

-- and so are the n bytes that a part of it now holds
pub put_part : {A : Type 0} (a n : ℕ) (xs : List A) {ys zs : List A} → ys ≡ zs → length zs ≡ n
    → put_mid a (a + n - a) xs ys ≡ put xs a zs
unfolding put
put_part {A} a n xs {ys} {zs} e l =
    ap (λ (t : List A). take a xs ++ (ys ++ t)) (Post-is a (a + n) xs (omega arith))
    ∙ ap (λ (t : List A). take a xs ++ (t ++ drop (a + n) xs)) e
    ∙ ap (λ k. take a xs ++ (zs ++ drop (a + k) xs)) (sym l)
    ∙ sym (append_assoc (take a xs) zs (drop (a + length zs) xs))

-- what the n first of a room now hold, and what it held past them
pub front_part : {A : Type 0} (n : ℕ) (xs : List A) {ys zs : List A} → ys ≡ zs → length zs ≡ n
    → ys ++ drop n xs ≡ front zs xs
front_part {A} n xs {ys} {zs} e l =
    ap (λ (t : List A). t ++ drop n xs) e ∙ ap (λ k. zs ++ drop k xs) (sym l)

pub length-put : (s : List ℕ) (at : ℕ) (t : List ℕ) → at + length t ≤ length s
    → length (put s at t) ≡ length s
unfolding put
length-put s at t h = simp (length-append, length-take, length-drop) (omega arith)

-- text past text is one text
pub put-put : (s : List ℕ) (at : ℕ) (a b : List ℕ) → at + length a + length b ≤ length s
    → put (put s at a) (at + length a) b ≡ put s at (a ++ b)
unfolding put
put-put s at a b h =
    let p = take at s ++ a in
    let r = drop (at + length a) s in
    let l : length p ≡ at + length a = length-append (take at s) a
    ∙ ap (λ n. n + length a) (length-take-le at s (omega arith)) in
    let q : drop (at + length a + length b) (p ++ r) ≡ drop (at + length (a ++ b)) s =
    ap (λ n. drop (n + length b) (p ++ r)) (sym l)
    ∙ drop-append-add p r (length b)
    ∙ drop-drop (length b) (at + length a) s
    ∙ rw (length-append a b, add_assoc at) in
    rw (take_at p r (at + length a) l, q) (ap (λ x. x ++ drop (at + length (a ++ b)) s) (append_assoc (take at s) a b))

-- two writes, one past the other, are one write
pub wrote_then : {s : List ℕ} {at : ℕ} {a b m e : List ℕ} {i j : ℕ} → at + length (a ++ b) ≤ length s
    → Wrote s at a m i → Wrote m i b e j → Wrote s at (a ++ b) e j
wrote_then {s} {at} {a} {b} {m} {e} {i} {j} h u v =
    let l = length-append a b in
    record {
      place = v.place ∙ rw (u.place, l) (add_assoc at (length a) (length b));
      bytes = v.bytes ∙ rw (u.bytes, u.place) (put-put s at a b (omega arith));
    }

-- a write keeps the buffer's length
pub length_wrote : {s : List ℕ} {at : ℕ} {t e : List ℕ} {i : ℕ} → at + length t ≤ length s
    → Wrote s at t e i
    → length e ≡ length s
length_wrote {s} {at} {t} h w = ap length w.bytes ∙ length-put s at t h

-- nothing written
pub wrote_none : (s : List ℕ) (at : ℕ) → Wrote s at [] s at
unfolding put
wrote_none s at = record {
  place = omega arith;
  bytes =
      rw (add-zero at, append-nil (take at s)) (sym (take-append-drop at s));
}

-- what was written at the front stands there, and fits
pub wrote_front : {s t e : List ℕ} {r : ℕ} → Wrote s 0 t e r → take r e ≡ t
unfolding put
wrote_front {s} {t} {e} {r} w = rw w.bytes (take_at t (drop (0 + length t) s) r (omega (arith, w.place)))

pub wrote_fits : {s t e : List ℕ} {r : ℕ} → Wrote s 0 t e r → r ≤ length e
unfolding put
wrote_fits {s} {t} {e} {r} w = rw w.bytes (omega (arith, w.place, length-append t (drop (0 + length t) s)))

-- one element more, past a text that stands
pub put_snoc : (s : List ℕ) (at : ℕ) (a : List ℕ) (b : ℕ) → at + length a < length s
    → set (put s at a) (at + length a) b ≡ put s at (a ++ (b ∷ []))
put_snoc s at a b h =
    put_one (put s at a) (at + length a) b (rw (length-put s at a (omega arith)) h)
    ∙ put-put s at a (b ∷ []) (omega arith)

-- a turn of a loop that puts a text
pub put_step : (s : List ℕ) (at : ℕ) (t : List ℕ) (i : ℕ) → i < length t → at + i < length s
    → set (put s at (take i t)) (at + i) (get_or t i 0) ≡ put s at (take (i + 1) t)
put_step s at t i ht hs =
    let l : length (take i t) ≡ i = length-take-le i t (omega arith) in
    let e : at + i ≡ at + length (take i t) = omega arith in
    rw (e, add-one i, take-suc t i 0 ht) (put_snoc s at (take i t) (get_or t i 0) (omega arith))

-- A loop that copies an answer to the front of the room: its first i elements stand there

abbrev pub front_to : (answer room : List ℕ) (i : ℕ) → List ℕ
front_to answer room i = take i answer ++ drop i room

front_to_suc : (s d : List ℕ) (i : ℕ) → i < length s → i < length d
    → set (front_to s d i) i (get_or s i 0) ≡ front_to s d (suc i)
front_to_suc [] d i h k = absurd (not-suc-le-zero h)
front_to_suc (x ∷ xs) [] i h k = absurd (not-suc-le-zero k)
front_to_suc (x ∷ xs) (y ∷ ys) zero h k = refl
front_to_suc (x ∷ xs) (y ∷ ys) (suc i) h k =
    ap (λ (l : List ℕ). x ∷ l) (front_to_suc xs ys i (le_of_suc-le-suc h) (le_of_suc-le-suc k))

-- a turn: the next element is stored
pub front_to_more : (s d : List ℕ) {now : List ℕ} {i v : ℕ} → now ≡ front_to s d i → get_or s i 0 ≡ v
    → i < length s → i < length d → set now i v ≡ front_to s d (i + 1)
front_to_more s d {now} {i} {v} e f h k =
    ap (λ (t : List ℕ). set t i v) e
    ∙ ap (set (front_to s d i) i) (sym f)
    ∙ front_to_suc s d i h k
    ∙ ap (front_to s d) (sym (add-one i))

-- the end: all of it stands
pub front_to_end : (s d : List ℕ) {i : ℕ} → i ≡ length s → front_to s d i ≡ front s d
front_to_end s d e = ap (front_to s d) e ∙ ap (λ (t : List ℕ). t ++ drop (length s) d) (take-length s)

-- in room no longer than the answer nothing else is left
pub front_to_whole : (s d : List ℕ) (i : ℕ) → length s ≤ i → length d ≤ i → front_to s d i ≡ s
front_to_whole s d i h k =
    ap (λ (t : List ℕ). t ++ drop i d) (take_all i s h)
    ∙ ap (λ (t : List ℕ). s ++ t) (drop_of_length-le d k)
    ∙ append-nil s
