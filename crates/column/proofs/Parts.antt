-- What is moved and put within a column, said of the whole column. Assumes nothing.
use Rattle.std.specs.Prelude.{◌≡◌, ℕ, zero, suc, ◌+◌, ◌-◌, ◌≤◌, List, ◌∷◌, ◌++◌, length, take, drop, replicate}
use mathlib.Core.Path.{refl, sym, ap, ◌∙◌}
use mathlib.Core.List.{append-nil, append_assoc}
use native.Mathlib.{Nat.add_assoc, Nat.le_of_eq, Omega.arith}
use lib.ListN.{length-drop, length-append, take-append-drop, length-replicate}
use lib.ListN.{replicate-append-replicate}
use lib.Seq.{take_all, drop-length, take_at, drop_at, take-append-add, drop-drop, length-take-le, paste}
use borrow.Rule.Slice.PartMut.{mid_of, put_mid, Post-is}
use Rattle.room.specs.Room.{put}
use Rattle.book_rules.specs.{Columns.opened, Columns.closed, InnerRows.ZeroFrom}

-- a list, cut where a list before it was longer
take_past : (n : ℕ) (xs ys : List ℕ) → length xs ≤ n → take n (xs ++ ys) ≡ xs ++ take (n - length xs) ys
take_past n xs ys h =
    let e : n ≡ length xs + (n - length xs) = omega arith in ap (λ k. take k (xs ++ ys)) e
    ∙ take-append-add xs ys (n - length xs)

-- Zeros, cut

drop_zeros : (w z : ℕ) → ◌≡◌ {A = List ℕ} (drop w (replicate z 0)) (replicate (z - w) 0)
drop_zeros zero z = let e : z ≡ z - 0 = omega arith in ap (λ n. replicate n 0) e
drop_zeros (suc w) zero = let e : 0 ≡ 0 - suc w = omega arith in ap (λ n. replicate n 0) e
drop_zeros (suc w) (suc z) = let e : z - w ≡ suc z - suc w = omega arith in drop_zeros w z
    ∙ ap (λ n. replicate n 0) e

take_zeros : (n z : ℕ) → n ≤ z → ◌≡◌ {A = List ℕ} (take n (replicate z 0)) (replicate n 0)
take_zeros zero z h = refl
take_zeros (suc n) zero h = absurd (omega arith)
take_zeros (suc n) (suc z) h = ap (λ (t : List ℕ). 0 ∷ t) (take_zeros n z (omega arith))

-- a list whose values from `count` on are zeros, cut by w at its end
cut-end : (t : List ℕ) (count w : ℕ) → count + w ≤ length t → drop count t ≡ replicate (length t - count) 0
    → take (length t - w) t ≡ take count t ++ drop (count + w) t
cut-end t count w h e =
    let z = length t - count in
    let l : length (take count t) ≡ count = length-take-le count t (omega arith) in
    let k : length t - w - length (take count t) ≡ z - w = omega arith in
    let whole : t ≡ take count t ++ replicate z 0 = sym (take-append-drop count t)
    ∙ ap (λ (s : List ℕ). take count t ++ s) e in
    ap (take (length t - w)) whole
    ∙ take_past (length t - w) (take count t) (replicate z 0) (omega arith)
    ∙ ap (λ n. take count t ++ take n (replicate z 0)) k
    ∙ ap (λ (s : List ℕ). take count t ++ s) (take_zeros (z - w) z (omega arith) ∙ sym (drop_zeros w z)
    ∙ ap (drop w) (sym e) ∙ drop-drop w count t)

-- the last zeros of a list may as well stand before the others
zeros_after_lem : (t : List ℕ) (count w z : ℕ) → drop count t ≡ replicate z 0
    → take count t ++ (replicate w 0 ++ drop count t) ≡ t ++ replicate w 0
zeros_after_lem t count w z e =
    let n : w + z ≡ z + w = omega arith in
    let swap : ◌≡◌ {A = List ℕ} (replicate w 0 ++ replicate z 0) (replicate z 0 ++ replicate w 0) =
    replicate-append-replicate w z 0 ∙ ap (λ k. replicate k 0) n ∙ sym (replicate-append-replicate z w 0) in
    ap (λ (s : List ℕ). take count t ++ (replicate w 0 ++ s)) e
    ∙ ap (λ (s : List ℕ). take count t ++ s) swap
    ∙ ap (λ (s : List ℕ). take count t ++ (s ++ replicate w 0)) (sym e)
    ∙ sym (append_assoc (take count t) (drop count t) (replicate w 0))
    ∙ ap (λ (s : List ℕ). s ++ replicate w 0) (take-append-drop count t)

-- values put past a list's front
put_past : (front rest vs : List ℕ) (n : ℕ) → length front ≡ n
    → put (front ++ rest) n vs ≡ front ++ (vs ++ drop (length vs) rest)
unfolding put
put_past front rest vs n l =
    ap (λ (s : List ℕ). s ++ vs ++ drop (n + length vs) (front ++ rest)) (take_at front rest n l)
    ∙ ap (λ (s : List ℕ). front ++ vs ++ s)
    (sym (drop-drop (length vs) n (front ++ rest)) ∙ ap (drop (length vs)) (drop_at front rest n l))
    ∙ append_assoc front vs (drop (length vs) rest)

-- the part from a on
tail_mid : (a : ℕ) (xs : List ℕ) → mid_of a (length xs - a) xs ≡ drop a xs
tail_mid a xs = take_all (length xs - a) (drop a xs) (le_of_eq (length-drop a xs))

put_tail : (a : ℕ) (xs ys : List ℕ) → a ≤ length xs → put_mid a (length xs - a) xs ys ≡ take a xs ++ ys
put_tail a xs ys h =
    ap (λ (t : List ℕ). take a xs ++ (ys ++ t)) (Post-is a (length xs) xs h ∙ drop-length xs)
    ∙ ap (λ (t : List ℕ). take a xs ++ t) (append-nil ys)

-- Where only `count` values moved, the others being zeros, all did

-- the room that was made holds whatever is put there
pub room_made : (a count w : ℕ) (xs : List ℕ) {ys : List ℕ} → ZeroFrom (a + count) xs → a + count + w ≤ length xs
    → ys ≡ take w (mid_of a (length xs - a) xs) ++ (take count (mid_of a (length xs - a) xs)
    ++ drop (count + w) (mid_of a (length xs - a) xs))
    → (vs : List ℕ) → length vs ≡ w → put (put_mid a (length xs - a) xs ys) a vs ≡ opened a vs xs
unfolding opened
room_made a count w xs {ys} z h e vs r =
    let t = drop a xs in
    let rest = take count t ++ drop (count + w) t in
    let l : length (take a xs) ≡ a = length-take-le a xs (omega arith) in
    let m : length t ≡ length xs - a = length-drop a xs in
    let o : length (take w t) ≡ w = length-take-le w t (omega arith) in
    let n : length xs - length (take a xs) - length vs ≡ length t - w = omega arith in
    let k : length xs - (a + count) ≡ length t - count = omega arith in
    ap (λ (s : List ℕ). put s a vs) (put_tail a xs ys (omega arith)
    ∙ ap (λ (s : List ℕ). take a xs ++ s)
    (e ∙ ap (λ (s : List ℕ). take w s ++ (take count s ++ drop (count + w) s)) (tail_mid a xs)))
    ∙ put_past (take a xs) (take w t ++ rest) vs a l
    ∙ ap (λ (s : List ℕ). take a xs ++ (vs ++ s))
    (drop_at (take w t) rest (length vs) (o ∙ sym r)
    ∙ sym (cut-end t count w (omega arith) (drop-drop count a xs ∙ z.zeros ∙ ap (λ i. replicate i 0) k))
    ∙ ap (λ i. take i t) (sym n))
    ∙ ap (λ (s : List ℕ). take a xs ++ s) (sym (take_past (length xs - length (take a xs)) vs t (omega arith)))
    ∙ sym (take_past (length xs) (take a xs) (vs ++ t) (omega arith))

-- and the room that was closed is filled with zeros, at the end of what moved
pub room_closed : (a count w : ℕ) (xs : List ℕ) {ys zs : List ℕ} → ZeroFrom (a + (count + w)) xs
    → ys ≡ paste xs a (drop (a + w) xs) (a + w + count - (a + w)) → zs ≡ put ys (a + count) (replicate w 0)
    → zs ≡ closed a w xs
unfolding closed
room_closed a count w xs {ys} {zs} z e f =
    let i = z.inside in
    let t = drop (a + w) xs in
    let front = take a xs ++ take count t in
    let l : length (take a xs) ≡ a = length-take-le a xs (omega arith) in
    let d : length t ≡ length xs - (a + w) = length-drop (a + w) xs in
    let k : length (take count t) ≡ count = length-take-le count t (omega arith) in
    let o : length front ≡ a + count = omega (arith, length-append (take a xs) (take count t)) in
    let n : a + w + count - (a + w) ≡ count = omega arith in
    let b : a + count + w ≡ a + w + count = omega arith in
    f
    ∙ ap (λ (s : List ℕ). put s (a + count) (replicate w 0))
    (e ∙ ap (λ j. take a xs ++ take j t ++ drop (a + j) xs) n)
    ∙ put_past front (drop (a + count) xs) (replicate w 0) (a + count) o
    ∙ ap (λ (s : List ℕ). front ++ (replicate w 0 ++ s))
    (ap (λ j. drop j (drop (a + count) xs)) {x = length (replicate w 0)} (length-replicate w 0)
    ∙ drop-drop w (a + count) xs
    ∙ ap (λ j. drop j xs) b ∙ sym (drop-drop count (a + w) xs))
    ∙ append_assoc (take a xs) (take count t) (replicate w 0 ++ drop count t)
    ∙ ap (λ (s : List ℕ). take a xs ++ s) (zeros_after_lem t count w (length xs - (a + (count + w)))
    (drop-drop count (a + w) xs ∙ ap (λ j. drop j xs) (sym b ∙ add_assoc a count w) ∙ z.zeros))

-- the n values from a on
pub put_part : (a n : ℕ) (xs : List ℕ) {ys zs : List ℕ} → ys ≡ zs → length zs ≡ n
    → put_mid a (a + n - a) xs ys ≡ put xs a zs
unfolding put
put_part a n xs {ys} {zs} e l =
    ap (λ (t : List ℕ). take a xs ++ (ys ++ t)) (Post-is a (a + n) xs (omega arith))
    ∙ ap (λ (t : List ℕ). take a xs ++ (t ++ drop (a + n) xs)) e
    ∙ ap (λ k. take a xs ++ (zs ++ drop (a + k) xs)) (sym l)
    ∙ sym (append_assoc (take a xs) zs (drop (a + length zs) xs))
