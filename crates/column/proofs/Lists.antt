-- Laws on lists: the loop that moves values up, from the back. Assumes nothing.
use mathlib.Core.{Path.◌≡◌, Path.sym, Path.ap, Path.◌∙◌, List.List, List.◌++◌}
use Rattle.std.specs.Prelude.{ℕ, zero, suc, ◌+◌, ◌-◌, ◌<◌, ◌≤◌, length, get_or, take, drop, set}
use native.Mathlib.{Nat.not-suc-le-zero, Omega.arith}
use lib.ListN.{get_or-append, length-append, take-append-drop}
use lib.Seq.{take-suc, drop-cons, append_snoc, set_at, length-take-le, drop_at, get_or-take}

-- d's first i + w values, then s's from index i on
abbrev pub back : List ℕ → List ℕ → ℕ → ℕ → List ℕ
back s d w i = take (i + w) d ++ drop i s

back-suc : (s d : List ℕ) (w i : ℕ) → i < length s → i + w < length d
    → set (back s d w (suc i)) (i + w) (get_or s i 0) ≡ back s d w i
back-suc s d w i h k =
    let e : suc i + w ≡ suc (i + w) = omega arith in
    let l : length (take (i + w) d) ≡ i + w = length-take-le (i + w) d (omega arith) in
    ap (λ n. set (take n d ++ drop (suc i) s) (i + w) (get_or s i 0)) e
    ∙ ap (λ (t : List ℕ). set (t ++ drop (suc i) s) (i + w) (get_or s i 0)) (take-suc d (i + w) 0 k)
    ∙ ap (λ (t : List ℕ). set t (i + w) (get_or s i 0))
    (append_snoc (take (i + w) d) (get_or d (i + w) 0) (drop (suc i) s))
    ∙ set_at (take (i + w) d) (get_or d (i + w) 0) (drop (suc i) s) (get_or s i 0) (i + w) l
    ∙ ap (λ (t : List ℕ). take (i + w) d ++ t) (sym (drop-cons s i 0 h))

-- what follows the first w values once d's first `count` have moved up by w
abbrev pub raised : ℕ → ℕ → List ℕ → List ℕ
raised count w d = take count d ++ drop (count + w) d

-- what d's front still holds below `count` is what is to move up
back_read : (d : List ℕ) (count w i : ℕ) → suc i + w ≤ length d → i < count → count ≤ length d
    → get_or (back (raised count w d) d w (suc i)) i 0 ≡ get_or (raised count w d) i 0
back_read d count w i h k l =
    get_or-append (take (suc i + w) d) _ 0 i (rw (length-take-le (suc i + w) d h) (omega arith))
    ∙ get_or-take (suc i + w) d i 0 (omega arith)
    ∙ sym (get_or-append (take count d) _ 0 i (rw (length-take-le count d l) k) ∙ get_or-take count d i 0 k)

-- a turn of the loop that moves the first `count` values up by w, from their end on
pub back_more : (d : List ℕ) (count w left : ℕ) {now : List ℕ} → now ≡ back (raised count w d) d w left
    → 0 < left
    → left ≤ count → count + w ≤ length d
    → set now (left - 1 + w) (get_or now (left - 1) 0) ≡ back (raised count w d) d w (left - 1)
back_more d count w zero e p h k = absurd (not-suc-le-zero p)
back_more d count w (suc i) {now} e p h k =
    let f : suc i - 1 ≡ i = omega arith in
    let s = raised count w d in
    let m : length s ≡ length (take count d) + length (drop (count + w) d) =
    length-append (take count d) (drop (count + w) d) in
    let l : length (take count d) ≡ count = length-take-le count d (omega arith) in
    rw f
    (ap (λ (t : List ℕ). set t (i + w) (get_or t i 0)) e
    ∙ ap (set (back s d w (suc i)) (i + w)) (back_read d count w i (omega arith) (omega arith) (omega arith))
    ∙ back-suc s d w i (omega arith) (omega arith))

pub back_start : (d : List ℕ) (count w : ℕ) → count + w ≤ length d → d ≡ back (raised count w d) d w count
back_start d count w h =
    let l : length (take count d) ≡ count = length-take-le count d (omega arith) in
    sym (ap (λ (t : List ℕ). take (count + w) d ++ t) (drop_at (take count d) (drop (count + w) d) count l)
    ∙ take-append-drop (count + w) d)
