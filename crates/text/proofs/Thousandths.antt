-- Levels of a network: a text reads as so many thousandths exactly if it spells them with three decimals, or with two
-- and a zero left out. Assumes nothing.
use Rattle.std.specs.Prelude.{ℕ, ◌+◌, ◌*◌, ◌/◌, ◌%◌, ◌<◌, ◌≤◌, List, [], ◌∷◌, ◌++◌}
use mathlib.Core.{Path.◌≡◌, Path.refl, Path.sym, Path.ap, Path.◌∙◌, Logic.◌⊎◌, Logic.inl, Logic.inr}
use mathlib.Core.List.{append_assoc, append_cancel_right}
use native.Mathlib.Omega.{arith}
use lib.{ListN.length, ListN.get_or, ListN.length-append, Seq.get_or-append_seam, Seq.get_or-append-add}
use Rattle.text.specs.Number.{decimal_of, show_whole, show_digits, show_decimal, show_thousandths, tenfold, or_else}
use Rattle.text.specs.Number.{thousandths_of, InThousandths, value_of}
use Rattle.std.specs.Prelude.{Option, Some, None}
use Rattle.text.proofs.{Shown.decimal_back, Shown.decimal_most, Shown.decimal_long}
use Rattle.text.proofs.{Exact.decimal_exact, Exact.decimal_small}

-- the byte k places past the units of a number with three decimals
three_at : (n k : ℕ) → get_or (show_decimal 3 n) (length (show_whole (n / 1000)) + k) 0
    ≡ get_or (46 ∷ show_digits 3 (n % 1000)) k 0
three_at n k = get_or-append-add (show_whole (n / 1000)) (46 ∷ show_digits 3 (n % 1000)) k 0

-- no text has both two decimals and three: the third byte from its end is the point, or a digit
never_both : (h n : ℕ) → show_decimal 2 h ≡ show_decimal 3 n → ⊥
never_both h n e =
    let u = show_whole (h / 100) in
    let w = show_whole (n / 1000) in
    let long : length u ≡ length w + 1 = omega (arith, ap length e, decimal_long 2 h, decimal_long 3 n) in
    let point : get_or (show_decimal 2 h) (length u) 0 ≡ 46 = get_or-append_seam u 46 (show_digits 2 (h % 100)) 0 in
    let digit : get_or (show_decimal 3 n) (length u) 0 ≡ 48 + n % 1000 / 100 = rw long (three_at n 1) in
    omega (arith, point, digit, ap (λ (t : List ℕ). get_or t (length u) 0) e)

off_unless : (x : Option ℕ) → ((n : ℕ) → x ≡ Some n → ⊥) → x ≡ None
off_unless (Some n) f = absurd (f n refl)
off_unless None f = refl

three_off : (h : ℕ) → decimal_of 3 (show_decimal 2 h) ≡ None
three_off h =
    off_unless (decimal_of 3 (show_decimal 2 h)) (λ n e. never_both h n (decimal_exact 3 (show_decimal 2 h) n e))

-- a zero behind two decimals
zero_behind : (h : ℕ) → show_decimal 2 h ++ (48 ∷ []) ≡ show_decimal 3 (h * 10)
zero_behind h =
    let units : h * 10 / 1000 ≡ h / 100 = omega arith in
    let first : h * 10 % 1000 / 100 ≡ h % 100 / 10 = omega arith in
    let second : h * 10 % 1000 % 100 / 10 ≡ h % 100 % 10 = omega arith in
    let third : h * 10 % 1000 % 100 % 10 ≡ 0 = omega arith in
    append_assoc (show_whole (h / 100)) (46 ∷ show_digits 2 (h % 100)) (48 ∷ [])
    ∙ rw (units, first, second, third) refl

-- ---- what is spelled is read

pub thousandths_back : (n : ℕ) → n < 1000000 → thousandths_of (show_thousandths n) ≡ Some n
unfolding thousandths_of
thousandths_back n h = rw (decimal_back 3 n h) refl

two_back : (h : ℕ) → h < 100000 → thousandths_of (show_decimal 2 h) ≡ Some (h * 10)
unfolding thousandths_of
two_back h l = rw (three_off h, decimal_back 2 h l) refl

-- a text behind which a zero is left out has two decimals
shortened : (t : List ℕ) (n : ℕ) → t ++ (48 ∷ []) ≡ show_decimal 3 n
    → (n ≡ n / 10 * 10) × (t ≡ show_decimal 2 (n / 10))
shortened t n e =
    let w = show_whole (n / 1000) in
    let long : length t ≡ length w + 3 =
    omega (arith, ap length e, length-append t (48 ∷ []), decimal_long 3 n) in
    let zero : get_or (t ++ (48 ∷ [])) (length t) 0 ≡ 48 = get_or-append_seam t 48 [] 0 in
    let last : get_or (show_decimal 3 n) (length t) 0 ≡ 48 + n % 1000 % 100 % 10 = rw long (three_at n 3) in
    let ten : n ≡ n / 10 * 10 = omega (arith, zero, last, ap (λ (s : List ℕ). get_or s (length t) 0) e) in (
      ten,
      append_cancel_right t (show_decimal 2 (n / 10)) (48 ∷ [])
          (e ∙ ap (show_decimal 3) ten ∙ sym (zero_behind (n / 10))),
    )

pub thousandths_read : (t : List ℕ) (n : ℕ) → n < 1000000 → InThousandths t n → thousandths_of t ≡ Some n
thousandths_read t n h (inl e) = ap thousandths_of e ∙ thousandths_back n h
thousandths_read t n h (inr e) =
    let s = shortened t n e in
    ap thousandths_of s.1 ∙ two_back (n / 10) (omega arith) ∙ ap Some (sym s.0)

-- ---- what is read is spelled so

read_either : (a b : Option ℕ) (n : ℕ) → or_else a (tenfold b) ≡ Some n
    → (a ≡ Some n) ⊎ ((h : ℕ) × (b ≡ Some h) × (n ≡ h * 10))
read_either (Some m) b n e = inl e
read_either None (Some h) n e = let q : h * 10 ≡ n = cc in inr (h, refl, sym q)
read_either None None n e = let z : ◌≡◌ {A = ℕ} 0 1 = cc in absurd (omega arith)

pub thousandths_exact : (t : List ℕ) (n : ℕ) → thousandths_of t ≡ Some n → (n < 1000000) × InThousandths t n
unfolding thousandths_of
thousandths_exact t n e = spelled (read_either (decimal_of 3 t) (decimal_of 2 t) n e)
  where
    spelled : (decimal_of 3 t ≡ Some n) ⊎ ((h : ℕ) × (decimal_of 2 t ≡ Some h) × (n ≡ h * 10))
        → (n < 1000000) × InThousandths t n
    spelled (inl three) = (decimal_small 3 t n three, inl (decimal_exact 3 t n three))
    spelled (inr two) =
        let h = two.0 in (
          omega (arith, two.2, decimal_small 2 t h two.1),
          inr (ap (λ (s : List ℕ). s ++ (48 ∷ [])) (decimal_exact 2 t h two.1) ∙ zero_behind h
              ∙ ap (show_decimal 3) (sym two.2)),
        )

-- a text that is read, and is how some number is written, has three decimals
pub three_read : (t : List ℕ) (n m : ℕ) → m < 1000000 → InThousandths t m → t ≡ show_thousandths n
    → decimal_of 3 t ≡ Some m
three_read t n m h (inl e) three = ap (decimal_of 3) e ∙ decimal_back 3 m h
three_read t n m h (inr e) three = absurd (never_both (m / 10) n (sym (shortened t m e).1 ∙ three))

-- a text with three decimals is how what it reads as is written
pub three_same : (t : List ℕ) {n : ℕ} → decimal_of 3 t ≡ Some n → t ≡ show_thousandths (value_of (thousandths_of t))
unfolding thousandths_of
three_same t {n} e = rw e (decimal_exact 3 t n e)

-- such a text has at most seven bytes
pub thousandths_most : (n : ℕ) → n < 1000000 → length (show_thousandths n) ≤ 7
thousandths_most n h = decimal_most 3 n h

pub spelled_most : (t : List ℕ) (n : ℕ) → n < 1000000 → InThousandths t n → length t ≤ 7
spelled_most t n h (inl e) = omega (arith, ap length e, thousandths_most n h)
spelled_most t n h (inr e) = omega (arith, ap length e, length-append t (48 ∷ []), thousandths_most n h)
