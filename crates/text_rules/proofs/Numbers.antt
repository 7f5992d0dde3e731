-- Numbers in their digits. Assumes nothing.
use mathlib.Core.{Path.◌≡◌, Path.refl, Path.sym, Path.ap, Path.◌∙◌, List.List, List.[], List.◌∷◌, List.◌++◌}
use Prim.Native.Nat.{ℕ, zero, suc, ◌+◌, ◌-◌, ◌/◌, ◌%◌, ◌^◌, ◌≤◌, ◌<◌}
use native.Mathlib.{Omega.arith, Nat.pow-zero, Nat.pow-suc, Nat.div-div-eq-div-mul, Nat.mul_comm}
use lib.{Dec.ltb, ListN.length, ListN.get_or, ListN.length-append, ListN.get_or-append, Seq.get_or-append_seam}
use borrow.Author.Tests.{ltb-true, ltb-false}
use Rattle.text.specs.Number.{whole_of, level_of, shown, show_whole, show_level, show_thousandths}
use Rattle.text.proofs.{Digits.either, Digits.whole_small, Exact.whole_exact, Exact.level_exact, Exact.level_small}
use Rattle.text.proofs.Shown.{shown_one, shown_more, whole_back, level_back}
use Rattle.text.proofs.Thousandths.{thousandths_read, thousandths_exact}
use Rattle.text_rules.specs.Texts.{InDigits, NumbersAre}

-- one digit
one_digit : (n : ℕ) → n < 10 → InDigits n ((48 + n) ∷ [])
one_digit n h =
    record {
      some = omega arith;
      digit = digit;
      all = omega (arith, pow-suc 10 0, pow-zero 10);
      needed = λ l. absurd (omega arith);
    }
  where
    digit : (i : ℕ) → i < 1 → get_or ((48 + n) ∷ []) i 0 ≡ 48 + n / 10 ^ (1 - suc i) % 10
    digit zero l = rw (pow-zero 10) (omega arith)
    digit (suc i) l = absurd (omega arith)

-- one digit more
more_digits : (n : ℕ) (s : List ℕ) → 10 ≤ n → InDigits (n / 10) s → InDigits n (s ++ ((48 + n % 10) ∷ []))
more_digits n s ten d =
    record {
      some = omega (arith, long);
      digit = λ i l. either (ltb i (length s)) (λ yes. front i (ltb-true i (length s) yes))
          (λ no. let e : i ≡ length s = omega (arith, long, ltb-false i (length s) no) in rw e last);
      all = rw long (omega (arith, pow-suc 10 (length s), d.all));
      needed = λ l. rw long needed;
    }
  where
    long : length (s ++ ((48 + n % 10) ∷ [])) ≡ suc (length s)
    long = length-append s ((48 + n % 10) ∷ []) ∙ omega arith

    -- a digit of the tenth is the digit one place further of the number
    shift : (e : ℕ) → n / 10 / 10 ^ e ≡ n / 10 ^ suc e
    shift e = div-div-eq-div-mul n 10 (10 ^ e)
        ∙ ap (λ (k : ℕ). n / k) (mul_comm 10 (10 ^ e) ∙ sym (pow-suc 10 e))

    front : (i : ℕ) → i < length s
        → get_or (s ++ ((48 + n % 10) ∷ [])) i 0 ≡ 48 + n / 10 ^ (length (s ++ ((48 + n % 10) ∷ [])) - suc i) % 10
    front i l =
        let e : suc (length s) - suc i ≡ suc (length s - suc i) = omega arith in
        rw (long, e, ← shift (length s - suc i)) (get_or-append s ((48 + n % 10) ∷ []) 0 i l ∙ d.digit i l)

    last : get_or (s ++ ((48 + n % 10) ∷ [])) (length s) 0
        ≡ 48 + n / 10 ^ (length (s ++ ((48 + n % 10) ∷ [])) - suc (length s)) % 10
    last =
        let e : suc (length s) - suc (length s) ≡ 0 = omega arith in
        rw (long, e, pow-zero 10) (get_or-append_seam s (48 + n % 10) [] 0 ∙ omega arith)

    needed : 10 ^ (suc (length s) - 1) ≤ n
    needed =
        either (ltb 1 (length s))
        (λ yes. let more = ltb-true 1 (length s) yes in
        let e : suc (length s) - 1 ≡ suc (length s - 1) = omega arith in
        rw e (omega (arith, pow-suc 10 (length s - 1), d.needed more)))
        (λ no. let e : suc (length s) - 1 ≡ 1 = omega (arith, d.some, ltb-false 1 (length s) no) in
        rw e (omega (arith, pow-suc 10 0, pow-zero 10)))

in_digits : (k n : ℕ) → n < 10 ^ suc k → InDigits n (shown (suc k) n)
in_digits zero n h = rw (shown_one 0 n (omega (arith, pow-suc 10 0, pow-zero 10)))
    (one_digit n (omega (arith, pow-suc 10 0, pow-zero 10)))
in_digits (suc k) n h =
    either (ltb n 10)
    (λ yes. let less = ltb-true n 10 yes in rw (shown_one (suc k) n less) (one_digit n less))
    (λ no. let ten = ltb-false n 10 no in
    rw (shown_more (suc k) n ten)
    (more_digits n (shown (suc k) (n / 10)) ten (in_digits k (n / 10) (omega (arith, pow-suc 10 (suc k))))))

level_digits : (n : ℕ) → show_level n ≡ show_whole (n / 100)
    ++ (46 ∷ ((48 + n / 10 % 10) ∷ ((48 + n % 10) ∷ [])))
level_digits n =
    let tenth : n % 100 / 10 ≡ n / 10 % 10 = omega arith in
    let last : n % 100 % 10 ≡ n % 10 = omega arith in
    rw (tenth, last) refl

thousandths_digits : (n : ℕ) → show_thousandths n ≡ show_whole (n / 1000)
    ++ (46 ∷ ((48 + n / 100 % 10) ∷ ((48 + n / 10 % 10) ∷ ((48 + n % 10) ∷ []))))
thousandths_digits n =
    let first : n % 1000 / 100 ≡ n / 100 % 10 = omega arith in
    let second : n % 1000 % 100 / 10 ≡ n / 10 % 10 = omega arith in
    let last : n % 1000 % 100 % 10 ≡ n % 10 = omega arith in
    rw (first, second, last) refl

pub numbers_are : NumbersAre
numbers_are =
    record {
      number = λ n h. in_digits 19 n h;
      whole = λ n h. in_digits 6 n h;
      two = λ n h. refl;
      level = level_digits;
      thousandths = thousandths_digits;
      whole_read_rule = λ s n. (
        λ e. (whole_small s n e, whole_exact s n e),
        λ h. ap whole_of h.1
            ∙ whole_back n h.0,
      );
      level_read = λ s n. (
        λ e. (level_small s n e, level_exact s n e),
        λ h. ap level_of h.1
            ∙ level_back n h.0,
      );
      thousandths_read = λ s n. (thousandths_exact s n, λ h. thousandths_read s n h.0 h.1);
      in_thousandths = λ s n. (λ x. x, λ x. x);
    }
