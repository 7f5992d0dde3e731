-- Laws of dates as text: what is written reads back, and what is read is what is written. Assumes nothing.
use Rattle.std.specs.Prelude.{ℕ, ◌+◌, ◌*◌, ◌/◌, ◌%◌, ◌^◌, ◌<◌, ◌≤◌}
use mathlib.Core.{Path.◌≡◌, Path.refl, Path.sym, Path.◌∙◌, List.List, List.[], List.◌∷◌, List.◌++◌, Bool.◌&&◌}
use native.Mathlib.{Nat.div-div-eq-div-mul, Omega.arith}
use borrow.Author.Tests.{eqb-true}
use lib.{ListN.length, ListN.get_or, ListN.take, ListN.drop, ListN.length-drop, Seq.length-take-le, Dec.eqb}
use Rattle.refusal.proofs.Laws.{and_left, and_right}
use Rattle.text.specs.Number.{show_digits}
use Rattle.std.specs.Prelude.{Option, Some, None}
use Rattle.text.proofs.{Digits.passed, Shown.digits_back_lem, Exact.digits-text, Clocks.three-parts}
use Rattle.flights.specs.Date.{digits_at, dated, date_of, show_date}
use Rattle.flights.specs.Spelled.{digit}

-- digits at a place that were read have their text, and make a number of so many digits
pub part_text_lem : (s : List ℕ) (at count n : ℕ) → at + count ≤ length s → digits_at s at count ≡ Some n
    → (take count (drop at s) ≡ show_digits count n) × (n < 10 ^ count)
part_text_lem s at count n h e =
    digits-text count (take count (drop at s)) n
    (length-take-le count (drop at s) (rw (length-drop at s) (omega arith))) e

-- a date that was put together had all its parts
dated_got : (a b c : Option ℕ) (n : ℕ) → dated a b c ≡ Some n
    → (y : ℕ) × (m : ℕ) × (d : ℕ) × (a ≡ Some y) × (b ≡ Some m) × (c ≡ Some d)
    × (n ≡ y * 10000 + m * 100 + d)
dated_got None b c n e = let z : ◌≡◌ {A = ℕ} 0 1 = cc in absurd (omega arith)
dated_got (Some y) None c n e = let z : ◌≡◌ {A = ℕ} 0 1 = cc in absurd (omega arith)
dated_got (Some y) (Some m) None n e = let z : ◌≡◌ {A = ℕ} 0 1 = cc in absurd (omega arith)
dated_got (Some y) (Some m) (Some d) n e = let q : y * 10000 + m * 100 + d ≡ n = cc in (y, m, d, refl, refl, refl, sym q)

date_text_lem : (s : List ℕ) (y m d : ℕ) → length s ≡ 10 → get_or s 4 0 ≡ 45 → get_or s 7 0 ≡ 45
    → take 4 (drop 0 s) ≡ show_digits 4 y → take 2 (drop 5 s) ≡ show_digits 2 m
    → take 2 (drop 8 s) ≡ show_digits 2 d
    → s ≡ show_digits 4 y ++ (45 ∷ show_digits 2 m) ++ (45 ∷ show_digits 2 d)
date_text_lem s y m d l one two ty tm td = three-parts 4 2 2 s l ∙ rw (ty, tm, td, one, two)

-- a text that reads as a date is that date's text
pub date_exact : (s : List ℕ) (n : ℕ) → date_of s ≡ Some n → (s ≡ show_date n) × (n < 100000000)
unfolding date_of
date_exact s n e =
    let a = eqb (length s) 10 in
    let b = eqb (get_or s 4 0) 45 in
    let c = eqb (get_or s 7 0) 45 in
    let p = passed (a && b && c) (dated (digits_at s 0 4) (digits_at s 5 2) (digits_at s 8 2)) n e in
    let l = eqb-true (length s) 10 (and_left a b (and_left (a && b) c p.0)) in
    let one = eqb-true (get_or s 4 0) 45 (and_right a b (and_left (a && b) c p.0)) in
    let two = eqb-true (get_or s 7 0) 45 (and_right (a && b) c p.0) in
    let q = dated_got (digits_at s 0 4) (digits_at s 5 2) (digits_at s 8 2) n p.1 in
    let ty = part_text_lem s 0 4 q.0 (omega arith) q.3 in
    let tm = part_text_lem s 5 2 q.1 (omega arith) q.4 in
    let td = part_text_lem s 8 2 q.2 (omega arith) q.5 in
    let sum = q.6 in
    let y : n / 10000 ≡ q.0 = omega arith in
    let m : n / 100 % 100 ≡ q.1 = omega arith in
    let d : n % 100 ≡ q.2 = omega arith in
    (rw (y, m, d) (date_text_lem s q.0 q.1 q.2 l one two ty.0 tm.0 td.0), omega arith)

-- a date reads back
pub date_back : (n : ℕ) → n < 100000000 → date_of (show_date n) ≡ Some n
unfolding date_of
date_back n h =
    let w : n / 10000 * 10000 + n / 100 % 100 * 100 + n % 100 ≡ n = omega arith in
    rw (
      digits_back_lem 4 (n / 10000) (omega arith),
      digits_back_lem 2 (n / 100 % 100) (omega arith),
      digits_back_lem 2 (n % 100) (omega arith),
      w,
    )

-- the digits of a number of two, and of one of four
two_digits : (n : ℕ) → show_digits 2 (n % 100) ≡ digit (n / 10) ∷ digit n ∷ []
two_digits n =
    let a : n % 100 / 10 ≡ n / 10 % 10 = omega arith in
    let b : n % 100 % 10 ≡ n % 10 = omega arith in
    rw (a, b)

four_digits_lem : (n : ℕ) → n < 10000
    → show_digits 4 n ≡ digit (n / 1000) ∷ digit (n / 100) ∷ digit (n / 10) ∷ digit n ∷ []
four_digits_lem n h = rw (thousands, hundreds, tens n, units n)
  where
    thousands : n / 1000 % 10 ≡ n / 1000
    thousands = omega arith

    hundreds : n % 1000 / 100 ≡ n / 100 % 10
    hundreds = omega arith

    tens : (n : ℕ) → n % 1000 % 100 / 10 ≡ n / 10 % 10
    tens n = omega arith

    units : (n : ℕ) → n % 1000 % 100 % 10 ≡ n % 10
    units n = omega arith

hyphened : {a b c d e f : List ℕ} → a ≡ d → b ≡ e → c ≡ f
    → a ++ (45 ∷ b) ++ (45 ∷ c) ≡ d ++ (45 ∷ e) ++ (45 ∷ f)
hyphened p q r = cc

-- so the digits of a date stand as they do in its number
pub date_digits : (n : ℕ) → n < 100000000
    → show_date n ≡ digit (n / 10000000) ∷ digit (n / 1000000) ∷ digit (n / 100000) ∷ digit (n / 10000) ∷ 45
    ∷ digit (n / 1000) ∷ digit (n / 100) ∷ 45 ∷ digit (n / 10) ∷ digit n ∷ []
date_digits n h =
    hyphened (four_digits_lem (n / 10000) (omega arith)) (two_digits (n / 100)) (two_digits n)
    ∙ rw (
      div-div-eq-div-mul n 10000 1000,
      div-div-eq-div-mul n 10000 100,
      div-div-eq-div-mul n 10000 10,
      div-div-eq-div-mul n 100 10,
    )
