-- What is written reads back: of a whole number, and of one with decimals. Assumes nothing.
use Rattle.std.specs.Prelude.{ℕ, zero, suc, ◌+◌, ◌-◌, ◌*◌, ◌/◌, ◌%◌, ◌^◌, ◌<◌, ◌≤◌, false, ◌&&◌, length, get_or}
use mathlib.Core.{Path.◌≡◌, Path.refl, Path.sym, Path.ap, Path.◌∙◌, List.List, List.[], List.◌∷◌, List.◌++◌}
use mathlib.Core.Bool.{and-false}
use native.Mathlib.Nat.{pow-suc, pow-succ', pow-zero, pow-le-pow_right, zero-lt-suc, add-mul, mul_assoc, div-one}
use native.Mathlib.{Nat.mod-lt, Nat.div-add-mod', Nat.div-lt_iff_lt-mul, Omega.arith}
use borrow.Author.Tests.{le-leb, lt-ltb, le-ltb, ltb-true, ltb-false, ne_eqb, eqb-true, eqb-false}
use lib.ListN.{length-append, get_or-append}
use lib.{Seq.take-append_seam, Seq.drop-append-add, Seq.get_or-append_seam, Dec.ltb, Dec.eqb}
use Rattle.text.specs.Number.{is_digit, digits_of, whole_of, decimal_of, level_of, joined, shown, show_number}
use Rattle.text.specs.Number.{show_whole, show_digits, show_decimal, show_level}
use Rattle.std.specs.Prelude.{Some, None}
use Rattle.text.proofs.Digits.{either, digit_yes}

-- the two ways of `shown`
pub shown_one : (k n : ℕ) → n < 10 → shown (suc k) n ≡ (48 + n) ∷ []
unfolding shown
shown_one k n h = simp (lt-ltb n 10 h)

pub shown_more : (k n : ℕ) → 10 ≤ n → shown (suc k) n ≡ shown k (n / 10) ++ ((48 + n % 10) ∷ [])
unfolding shown
shown_more k n h = simp (le-ltb n 10 h)

tenth : (k n : ℕ) → n < 10 ^ suc k → n / 10 < 10 ^ k
tenth k n h = let q = pow-suc 10 k in omega arith

-- more digits allowed than there are change nothing
pub shown_fuel : (k n : ℕ) → n < 10 ^ suc k → shown (suc (suc k)) n ≡ shown (suc k) n
shown_fuel zero n h = shown_one 1 n (omega arith) ∙ sym (shown_one 0 n (omega arith))
shown_fuel (suc k) n h =
    either (ltb n 10)
    (λ yes. let y = ltb-true n 10 yes in shown_one (suc (suc k)) n y ∙ sym (shown_one (suc k) n y))
    (λ no. let m = ltb-false n 10 no in
    shown_more (suc (suc k)) n m
    ∙ ap (λ t. t ++ ((48 + n % 10) ∷ [])) (shown_fuel k (n / 10) (tenth (suc k) n h))
    ∙ sym (shown_more (suc k) n m))

-- nor do any more
pub shown_enough : (m k n : ℕ) → k ≤ m → n < 10 ^ suc k → shown (suc m) n ≡ shown (suc k) n
shown_enough zero k n le h = let e : k ≡ 0 = omega arith in rw e refl
shown_enough (suc m) k n le h =
    either (eqb k (suc m))
    (λ yes. rw (eqb-true k (suc m) yes) refl)
    (λ no. let less : k ≤ m = omega (arith, eqb-false k (suc m) no) in
    let more : 10 ^ suc k ≤ 10 ^ suc m = pow-le-pow_right (zero-lt-suc 9) (omega arith) in
    shown_fuel m n (omega arith) ∙ shown_enough m k n less h)

-- a number from its tenth and its last digit
pub shown_last : (k n : ℕ) → n < 10 → shown (suc k) n ≡ (48 + n % 10) ∷ []
shown_last k n h = let e : n % 10 ≡ n = omega arith in rw e (shown_one k n h)

pub shown_tenth : (k n : ℕ) → 10 ≤ n → n < 10 ^ suc (suc k)
    → shown (suc (suc k)) n ≡ shown (suc (suc k)) (n / 10) ++ ((48 + n % 10) ∷ [])
shown_tenth k n h l =
    shown_more (suc k) n h ∙ ap (λ t. t ++ ((48 + n % 10) ∷ [])) (sym (shown_fuel k (n / 10) (tenth (suc k) n l)))

pub shown_longer : (k n : ℕ) → 10 ≤ n → n < 10 ^ suc (suc k)
    → length (shown (suc (suc k)) n) ≡ length (shown (suc (suc k)) (n / 10)) + 1
shown_longer k n h l = ap length (shown_tenth k n h l)
    ∙ length-append (shown (suc (suc k)) (n / 10)) ((48 + n % 10) ∷ [])

pub whole_one : (n : ℕ) → n < 10 → show_whole n ≡ (48 + n % 10) ∷ []
whole_one n h = shown_last 6 n h

pub whole_longer : (n : ℕ) → 10 ≤ n → n < 10000000 → length (show_whole n) ≡ length (show_whole (n / 10)) + 1
whole_longer n h l = shown_longer 5 n h (omega arith)

-- a whole number of up to seven digits is written as any other
pub whole_number_lem : (n : ℕ) → n < 10000000 → show_number n ≡ show_whole n
whole_number_lem n h = shown_enough 19 6 n (omega arith) (omega arith)

-- one digit more at the end of a run
digits_snoc : (s : List ℕ) (v m d : ℕ) → d ≤ 9 → digits_of v s ≡ Some m
    → digits_of v (s ++ ((48 + d) ∷ [])) ≡ Some (m * 10 + d)
unfolding digits_of
digits_snoc [] v m d h e =
    let q : v ≡ m = cc in
    let w : v * 10 + (48 + d - 48) ≡ m * 10 + d = omega arith in
    rw (digit_yes (48 + d) (omega arith) (omega arith), w)
digits_snoc (c ∷ s) v m d h e =
    either (is_digit c)
    (λ yes. rw yes (digits_snoc s (v * 10 + (c - 48)) m d h (rw yes at e)))
    (λ no. let x : None ≡ Some m = rw no at e in let z : ◌≡◌ {A = ℕ} 0 1 = cc in absurd (omega arith))

-- the digits spell the number
pub shown_digits : (k n : ℕ) → n < 10 ^ k → digits_of 0 (shown k n) ≡ Some n
unfolding shown digits_of
shown_digits zero n h = let q : n ≡ 0 = omega (arith, pow-zero 10) in rw q
shown_digits (suc k) n h =
    either (ltb n 10)
    (λ yes. let lt = ltb-true n 10 yes in
    let w : 0 * 10 + (48 + n - 48) ≡ n = omega arith in
    rw (yes, digit_yes (48 + n) (omega arith) (omega arith), w))
    (λ no. let w : n / 10 * 10 + n % 10 ≡ n = omega arith in
    rw no (digits_snoc (shown k (n / 10)) 0 (n / 10) (n % 10) (omega arith) (shown_digits k (n / 10) (tenth k n h))
    ∙ ap Some w))

-- no more digits than allowed
pub shown_short : (k n : ℕ) → length (shown k n) ≤ k
unfolding shown
shown_short zero n = omega arith
shown_short (suc k) n =
    either (ltb n 10)
    (λ yes. rw yes (omega arith))
    (λ no. rw no (omega (arith, length-append (shown k (n / 10)) ((48 + n % 10) ∷ []), shown_short k (n / 10))))

pub number_short : (n : ℕ) → length (show_number n) ≤ 20
number_short n = shown_short 20 n

-- a number under 10 to the w has at most w digits
pub shown_width : (k w n : ℕ) → n < 10 ^ suc w → length (shown k n) ≤ suc w
unfolding shown
shown_width zero w n h = omega arith
shown_width (suc k) zero n h = rw (lt-ltb n 10 (omega arith)) (omega arith)
shown_width (suc k) (suc w) n h =
    either (ltb n 10)
    (λ yes. rw yes (omega arith))
    (λ no. rw no (simp length-append (omega (arith, shown_width k w (n / 10) (tenth (suc w) n h)))))

pub shown_least : (k n : ℕ) → 1 ≤ length (shown (suc k) n)
unfolding shown
shown_least k n = either (ltb n 10) (λ yes. rw yes (omega arith)) (λ no. rw no (simp length-append (omega arith)))

-- no zero leads, unless the number is zero itself
shown_head : (k n : ℕ) → 0 < n → n < 10 ^ k → get_or (shown k n) 0 0 ≡ 48 → ⊥
unfolding shown
shown_head zero n p h e = omega (arith, pow-zero 10)
shown_head (suc zero) n p h e = let q : 48 + n ≡ 48 = rw (shown_one 0 n (omega arith)) at e in omega arith
shown_head (suc (suc k)) n p h e =
    either (ltb n 10)
    (λ yes. let q : 48 + n ≡ 48 = rw (shown_one (suc k) n (ltb-true n 10 yes)) at e in omega arith)
    (λ no. let m = ltb-false n 10 no in
    let q = rw (
      shown_more (suc k) n m,
      get_or-append (shown (suc k) (n / 10)) ((48 + n % 10) ∷ []) 0 0
          (shown_least k (n / 10)),
    ) at e in
    shown_head (suc k) (n / 10) (omega arith) (tenth (suc k) n h) q)

zero_spare : (n : ℕ) → n ≡ 0 → ltb 1 (length (show_whole n)) ≡ false
unfolding shown
zero_spare n z = rw z

-- a whole number of at most seven digits reads back
pub whole_back : (n : ℕ) → n < 10000000 → whole_of (show_whole n) ≡ Some n
unfolding whole_of
whole_back n h =
    let s = show_whole n in
    let spare : (ltb 1 (length s) && eqb (get_or s 0 0) 48) ≡ false =
    either (ltb n 1)
    (λ yes. let z : n ≡ 0 = omega (arith, ltb-true n 1 yes) in rw (zero_spare n z))
    (λ no. let p = ltb-false n 1 no in
    rw (ne_eqb (get_or s 0 0) 48 (shown_head 7 n (omega arith) h)) (and-false (ltb 1 (length s)))) in
    rw (le-leb 1 (length s) (shown_least 6 n), le-leb (length s) 7 (shown_width 7 6 n h), spare) (shown_digits 7 n h)

-- ---- numbers with decimals

-- a unit has some parts
pub parts_some : (d : ℕ) → 0 < 10 ^ d
parts_some d =
    let p : 10 ^ 0 ≤ 10 ^ d = pow-le-pow_right {n = 10} (omega arith) {i = 0} {j = d} (omega arith) in
    omega arith

-- a digit, and those after it
pub digits_front_lem : (d n : ℕ) → show_digits (suc d) n ≡ (48 + n / 10 ^ d) ∷ show_digits d (n % 10 ^ d)
digits_front_lem zero n = ap (λ m. (48 + m) ∷ []) (sym (div-one n))
digits_front_lem (suc d) n = refl

pub digits_long : (d n : ℕ) → length (show_digits d n) ≡ d
digits_long zero n = refl
digits_long (suc d) n = ap length (digits_front_lem d n) ∙ ap suc (digits_long d (n % 10 ^ d))

-- the first of k digits, where a unit has p parts: the digit, the parts of the next one, and the digits after it
pub record Lead (k n q : ℕ) : Type 0 where
  pub some : 0 < q
  pub small : n / q < 10
  pub rest : n % q < 10 ^ (k - 1)
  pub text : show_digits k n ≡ ((48 + n / q) ∷ []) ++ show_digits (k - 1) (n % q)

pub lead : (k n q : ℕ) → 0 < k → q ≡ 10 ^ (k - 1) → n < 10 ^ k → Lead k n q
lead zero n q h e l = absurd (omega arith)
lead (suc d) n q h e l =
    let same : suc d - 1 ≡ d = omega arith in
    let parts : q ≡ 10 ^ d = rw same at e in
    let less : n < 10 * 10 ^ d = omega (arith, pow-succ' 10 d) in
    record {
      some = omega (arith, parts_some d);
      small = rw parts ((div-lt_iff_lt-mul {k = 10 ^ d} {x = n} {y = 10} (parts_some d)).1 less);
      rest = rw (same, parts) (mod-lt n (parts_some d));
      text = rw (same, parts) (digits_front_lem d n);
    }

-- a digit goes from the parts of one unit to those of the next
pub carried : (v q r d : ℕ) → (v * 10 + q) * 10 ^ d + r ≡ v * 10 ^ suc d + (q * 10 ^ d + r)
carried v q r d =
    let a : (v * 10 + q) * 10 ^ d ≡ v * 10 * 10 ^ d + q * 10 ^ d = add-mul (v * 10) q (10 ^ d) in
    let b : v * 10 ^ suc d ≡ v * 10 * 10 ^ d =
    ap (λ x. v * x) (pow-succ' 10 d) ∙ sym (mul_assoc v 10 (10 ^ d)) in
    omega arith

-- d digits read on after `v`, and alone
digits_after : (d v n : ℕ) → n < 10 ^ d → digits_of v (show_digits d n) ≡ Some (v * 10 ^ d + n)
unfolding digits_of
digits_after zero v n h = let e : v ≡ v * 1 + n = omega arith in ap Some e
digits_after (suc d) v n h =
    let u = 10 ^ d in
    let q = n / u in
    let least : n < 10 * u = omega (arith, pow-succ' 10 d) in
    let small : q < 10 = (div-lt_iff_lt-mul {k = u} {x = n} {y = 10} (parts_some d)).1 least in
    let w : v * 10 + (48 + q - 48) ≡ v * 10 + q = omega arith in
    let sum : (v * 10 + q) * u + n % u ≡ v * 10 ^ suc d + n =
    carried v q (n % u) d ∙ ap (λ m. v * 10 ^ suc d + m) (div-add-mod' n u) in
    ap (digits_of v) (digits_front_lem d n)
    ∙ rw (digit_yes (48 + q) (omega arith) (omega arith), w)
    (digits_after d (v * 10 + q) (n % u) (mod-lt n (parts_some d)) ∙ ap Some sum)

pub digits_back_lem : (d n : ℕ) → n < 10 ^ d → digits_of 0 (show_digits d n) ≡ Some n
digits_back_lem d n h = digits_after d 0 n h ∙ (let e : 0 * 10 ^ d + n ≡ n = omega arith in ap Some e)

-- a text goes apart at its point
pointed_back : (d : ℕ) (u t : List ℕ) → 1 ≤ length u → length u ≤ 3 → length t ≡ d
    → decimal_of d (u ++ 46 ∷ t) ≡ joined d (whole_of u) (digits_of 0 t)
unfolding decimal_of
pointed_back d u t least most long =
    let l : length (u ++ 46 ∷ t) ≡ length u + suc (length t) = length-append u (46 ∷ t) in
    let p : length (u ++ 46 ∷ t) - (d + 1) ≡ length u = omega arith in
    rw (
      le-leb (d + 2) (length (u ++ 46 ∷ t)) (omega arith),
      le-leb (length (u ++ 46 ∷ t)) (d + 4) (omega arith),
      p,
      get_or-append_seam u 46 t 0,
      take-append_seam u (46 ∷ t),
      drop-append-add u (46 ∷ t) 1,
    )

-- a number whose units have at most three digits reads back
module _ (d n : ℕ) (h : n < 1000 * 10 ^ d) where
  units_few : n / 10 ^ d < 1000
  units_few = (div-lt_iff_lt-mul {k = 10 ^ d} {x = n} {y = 1000} (parts_some d)).1 h

  pub decimal_back : decimal_of d (show_decimal d n) ≡ Some n
  decimal_back =
      let u = n / 10 ^ d in
      let p = n % 10 ^ d in
      pointed_back d (show_whole u) (show_digits d p) (shown_least 6 u) (shown_width 7 2 u units_few) (digits_long d p)
      ∙ rw (
        whole_back u (omega (arith, units_few)),
        digits_back_lem d p (mod-lt n (parts_some d)),
        div-add-mod' n (10 ^ d),
      )

  pub decimal_most : length (show_decimal d n) ≤ d + 4
  decimal_most = omega (
    arith,
    length-append (show_whole (n / 10 ^ d)) (46 ∷ show_digits d (n % 10 ^ d)),
    shown_width 7 2 (n / 10 ^ d) units_few,
    digits_long d (n % 10 ^ d),
  )

-- how long it is
pub decimal_long : (d n : ℕ) → length (show_decimal d n) ≡ length (show_whole (n / 10 ^ d)) + 1 + d
decimal_long d n = omega (
  arith,
  length-append (show_whole (n / 10 ^ d)) (46 ∷ show_digits d (n % 10 ^ d)),
  digits_long d (n % 10 ^ d),
)

-- a level of at most 999.99 reads back, and has four to six bytes
pub level_back : (n : ℕ) → n < 100000 → level_of (show_level n) ≡ Some n
level_back n h = decimal_back 2 n h

pub level_most : (n : ℕ) → n < 100000 → length (show_level n) ≤ 6
level_most n h = decimal_most 2 n h

pub level_least : (n : ℕ) → 4 ≤ length (show_level n)
level_least n = omega (arith, decimal_long 2 n, shown_least 6 (n / 100))
