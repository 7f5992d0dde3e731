-- Laws of names: one byte at a time, and that a name is read exactly if it is spelled so, each as another number.
-- Assumes nothing.
use Rattle.std.specs.Prelude.{ℕ, suc, ◌+◌, ◌-◌, ◌*◌, ◌^◌, ◌<◌, ◌≤◌}
use mathlib.Core.{Path.◌≡◌, Path.refl, Path.sym, List.List, List.[], List.◌∷◌, Bool.true, Bool.false, Bool.◌&&◌}
use mathlib.Core.Logic.{inl, inr, ⊎_elim}
use native.Mathlib.{Nat.pow-le-pow_right, Nat.pow-suc, Nat.add-zero, Numerals.add-one, Omega.arith}
use borrow.Author.Tests.{le-leb, lt-leb, leb-true, ltb-true, ltb-false}
use lib.{ListN.length, ListN.get_or, ListN.drop, ListN.drop_of_length-le, Seq.drop-cons, Dec.leb, Dec.ltb}
use Rattle.refusal.proofs.Laws.{and_left, and_right}
use Rattle.text.specs.Number.{is_digit}
use Rattle.std.specs.Prelude.{Some, None}
use Rattle.text.proofs.Digits.{digit_yes, digit_low, digit_high, either, passed}
use Rattle.flights.specs.Name.{is_capital, in_name, code_of, name_of}
use Rattle.flights.specs.Spelled.{NameByte, Named}
use Rattle.flights.specs.Spelled.Named.{one, two, three, four}

-- which bytes may stand in a name, from the least to the largest
pub name_low : (c : ℕ) → c < 48 → in_name c ≡ false
unfolding in_name
name_low c h = simp (digit_low c h, lt-leb 65 c (omega arith))

pub name_digit : (c : ℕ) → 48 ≤ c → c ≤ 57 → in_name c ≡ true
unfolding in_name
name_digit c lo hi = simp (digit_yes c lo hi)

pub name_between : (c : ℕ) → 57 < c → c < 65 → in_name c ≡ false
unfolding in_name
name_between c lo hi = simp (digit_high c lo, lt-leb 65 c hi)

-- one byte further in a name, and a byte that may not stand there
module _ (s : List ℕ) (v i : ℕ) (h : i < length s) where
  pub code_step : in_name (get_or s i 0) ≡ true
      → code_of v (drop i s) ≡ code_of (v * 256 + get_or s i 0) (drop (i + 1) s)
  unfolding code_of
  code_step e = rw (add-one, drop-cons s i 0 h, e)

  pub code_stop : in_name (get_or s i 0) ≡ false → code_of v (drop i s) ≡ None
  unfolding code_of
  code_stop e = rw (drop-cons s i 0 h, e)

pub code_end : (s : List ℕ) (v i : ℕ) → length s ≤ i → code_of v (drop i s) ≡ Some v
unfolding code_of
code_end s v i h = rw (drop_of_length-le s h)

-- i bytes make a number under 256 to the i, and one byte more fits in 32 bits
pub code_grows : (v i c : ℕ) → v < 256 ^ i → c < 256 → v * 256 + c < 256 ^ (i + 1)
code_grows v i c h b = rw (add-one, pow-suc 256 i) (omega arith)

pub three_bytes_lem : (v i : ℕ) → v < 256 ^ i → i < 4 → v < 16777216
three_bytes_lem v i h e = let p : 256 ^ i ≤ 256 ^ 3 = pow-le-pow_right (omega arith) {j = 3} (omega arith) in omega arith

-- a byte that may stand in a name is a digit or a capital letter
pub name_capital : (c : ℕ) → 65 ≤ c → c ≤ 90 → in_name c ≡ true
unfolding in_name
name_capital c lo hi = simp (digit_high c (omega arith), le-leb 65 c lo, le-leb c 90 hi)

name_byte : (c : ℕ) → in_name c ≡ true → NameByte c
unfolding in_name
name_byte c e =
    either (is_digit c)
    (λ yes. inl (
      leb-true 48 c (and_left (leb 48 c) (leb c 57) yes),
      leb-true c 57
          (and_right (leb 48 c) (leb c 57) yes),
    ))
    (λ no. let q : is_capital c ≡ true = rw no at e in
    inr (leb-true 65 c (and_left (leb 65 c) (leb c 90) q), leb-true c 90 (and_right (leb 65 c) (leb c 90) q)))

byte_name : (c : ℕ) → NameByte c → in_name c ≡ true
byte_name c b = ⊎_elim (λ d. name_digit c d.0 d.1) (λ d. name_capital c d.0 d.1) b

byte_range : (c : ℕ) → in_name c ≡ true → (48 ≤ c) × (c ≤ 90)
byte_range c e = ⊎_elim (λ d. (d.0, omega (arith, d.1))) (λ d. (omega (arith, d.0), d.1)) (name_byte c e)

-- a byte that was read, and what is left
code_cons : (v c n : ℕ) (s : List ℕ) → code_of v (c ∷ s) ≡ Some n
    → (in_name c ≡ true) × (code_of (v * 256 + c) s ≡ Some n)
unfolding code_of
code_cons v c n s e = passed (in_name c) (code_of (v * 256 + c) s) n e

code_nil : (v n : ℕ) → code_of v [] ≡ Some n → n ≡ v
unfolding code_of
code_nil v n e = let q : v ≡ n = cc in sym q

pub name_few : (s : List ℕ) (n : ℕ) → name_of s ≡ Some n
    → (1 ≤ length s) × (length s ≤ 4) × (code_of 0 s ≡ Some n)
unfolding name_of
name_few s n e =
    let p = passed (leb 1 (length s) && leb (length s) 4) (code_of 0 s) n e in (
      leb-true 1 (length s) (and_left (leb 1 (length s)) (leb (length s) 4) p.0),
      leb-true (length s) 4 (and_right (leb 1 (length s)) (leb (length s) 4) p.0),
      p.1,
    )

-- a number of bytes is the number of those before them, and lies between two powers of 256
code_below : (s : List ℕ) (v k n : ℕ) → v < 256 ^ k → code_of v s ≡ Some n → n < 256 ^ (k + length s)
code_below [] v k n h e = rw (add-zero k) (omega (arith, code_nil v n e))
code_below (c ∷ s) v k n h e =
    let p = code_cons v c n s e in
    let q : k + suc (length s) ≡ k + 1 + length s = omega arith in
    rw q (code_below s (v * 256 + c) (k + 1) n (code_grows v k c h (omega (arith, byte_range c p.0))) p.1)

code_least : (s : List ℕ) (v k n : ℕ) → 256 ^ k ≤ v → code_of v s ≡ Some n → 256 ^ (k + length s) ≤ n
code_least [] v k n h e = rw (add-zero k) (omega (arith, code_nil v n e))
code_least (c ∷ s) v k n h e =
    let p = code_cons v c n s e in
    let q : k + suc (length s) ≡ suc k + length s = omega arith in
    rw q (code_least s (v * 256 + c) (suc k) n (rw (pow-suc 256 k) (omega arith)) p.1)

-- a name's number fits in 32 bits
pub name_below : (s : List ℕ) (n : ℕ) → name_of s ≡ Some n → n < 4294967296
name_below s n e =
    let f = name_few s n e in
    let p : 256 ^ (0 + length s) ≤ 256 ^ 4 = pow-le-pow_right (omega arith) {j = 4} (omega (arith, f.1)) in
    omega (arith, code_below s 0 0 n (omega arith) f.2)

name_least : (s : List ℕ) (n : ℕ) → name_of s ≡ Some n → 256 ^ (length s - 1) ≤ n
name_least [] n e = absurd (omega (arith, (name_few [] n e).0))
name_least (c ∷ s) n e =
    let p = code_cons 0 c n s (name_few (c ∷ s) n e).2 in
    let q : suc (length s) - 1 ≡ 0 + length s = omega arith in
    rw q (code_least s (0 * 256 + c) 0 n (omega (arith, byte_range c p.0)) p.1)

-- names of one number are as long, and then the same byte by byte
not_longer : (s t : List ℕ) (n : ℕ) → name_of s ≡ Some n → name_of t ≡ Some n → length t ≤ length s
not_longer s t n e f =
    either (ltb (length s) (length t))
    (λ yes. let less = ltb-true (length s) (length t) yes in
    let p : 256 ^ (0 + length s) ≤ 256 ^ (length t - 1) =
    pow-le-pow_right (omega arith) {j = length t - 1} (omega arith) in
    absurd (omega (arith, code_below s 0 0 n (omega arith) (name_few s n e).2, name_least t n f)))
    (λ no. ltb-false (length s) (length t) no)

same_code : (s t : List ℕ) (v w n : ℕ) → length s ≡ length t → code_of v s ≡ Some n → code_of w t ≡ Some n
    → (v ≡ w) × (s ≡ t)
same_code [] [] v w n l e f = (omega (arith, code_nil v n e, code_nil w n f), refl)
same_code [] (d ∷ t) v w n l e f = absurd (omega arith)
same_code (c ∷ s) [] v w n l e f = absurd (omega arith)
same_code (c ∷ s) (d ∷ t) v w n l e f =
    let p = code_cons v c n s e in
    let q = code_cons w d n t f in
    let r = same_code s t (v * 256 + c) (w * 256 + d) n (omega arith) p.1 q.1 in
    let a = byte_range c p.0 in
    let b = byte_range d q.0 in
    let sum = r.0 in
    let head : c ≡ d = omega arith in
    let rest = r.1 in
    (omega arith, cc)

pub names_apart : (s t : List ℕ) (n : ℕ) → name_of s ≡ Some n → name_of t ≡ Some n → s ≡ t
names_apart s t n e f =
    let l : length s ≡ length t = omega (arith, not_longer s t n e f, not_longer t s n f e) in
    (same_code s t 0 0 n l (name_few s n e).2 (name_few t n f).2).1

-- a name is read exactly if it is spelled so
pub name_named : (s : List ℕ) (n : ℕ) → name_of s ≡ Some n → Named s n
name_named s n e = let f = name_few s n e in go s f.0 f.1 f.2
  where
    go : (s : List ℕ) → 1 ≤ length s → length s ≤ 4 → code_of 0 s ≡ Some n → Named s n
    go [] lo hi e = absurd (omega arith)
    go (a ∷ []) lo hi e =
        let p = code_cons 0 a n [] e in
        one a (name_byte a p.0) refl (omega (arith, code_nil _ n p.1))
    go (a ∷ b ∷ []) lo hi e =
        let p = code_cons 0 a n (b ∷ []) e in
        let q = code_cons _ b n [] p.1 in
        two a b (name_byte a p.0) (name_byte b q.0) refl (omega (arith, code_nil _ n q.1))
    go (a ∷ b ∷ c ∷ []) lo hi e =
        let p = code_cons 0 a n (b ∷ c ∷ []) e in
        let q = code_cons _ b n (c ∷ []) p.1 in
        let r = code_cons _ c n [] q.1 in
        three a b c (name_byte a p.0) (name_byte b q.0) (name_byte c r.0) refl
        (omega (arith, code_nil _ n r.1))
    go (a ∷ b ∷ c ∷ d ∷ []) lo hi e =
        let p = code_cons 0 a n (b ∷ c ∷ d ∷ []) e in
        let q = code_cons _ b n (c ∷ d ∷ []) p.1 in
        let r = code_cons _ c n (d ∷ []) q.1 in
        let t = code_cons _ d n [] r.1 in
        four a b c d (name_byte a p.0) (name_byte b q.0) (name_byte c r.0) (name_byte d t.0) refl
        (omega (arith, code_nil _ n t.1))
    go (a ∷ b ∷ c ∷ d ∷ f ∷ s) lo hi e = absurd (omega arith)

pub named_name : (s : List ℕ) (n : ℕ) → Named s n → name_of s ≡ Some n
unfolding name_of code_of
named_name s n (one a x p q) =
    let w : 0 * 256 + a ≡ n = omega arith in rw (p, byte_name a x, w)
named_name s n (two a b x y p q) =
    let w : (0 * 256 + a) * 256 + b ≡ n = omega arith in rw (p, byte_name a x, byte_name b y, w)
named_name s n (three a b c x y z p q) =
    let w : ((0 * 256 + a) * 256 + b) * 256 + c ≡ n = omega arith in
    rw (p, byte_name a x, byte_name b y, byte_name c z, w)
named_name s n (four a b c d x y z u p q) =
    let w : (((0 * 256 + a) * 256 + b) * 256 + c) * 256 + d ≡ n = omega arith in
    rw (p, byte_name a x, byte_name b y, byte_name c z, byte_name d u, w)
