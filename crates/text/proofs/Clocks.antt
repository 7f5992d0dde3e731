-- Laws of times of day: what is written reads back, and what is read is what is written. Assumes nothing.
use Rattle.std.specs.Prelude.{ℕ, suc, ◌+◌, ◌-◌, ◌*◌, ◌/◌, ◌%◌, ◌<◌, ◌≤◌, ◌&&◌, length, get_or, take, drop}
use mathlib.Core.{Path.◌≡◌, Path.refl, Path.sym, Path.ap, Path.◌∙◌, List.List, List.[], List.◌∷◌, List.◌++◌}
use native.Mathlib.{Numerals.add-one, Omega.arith}
use borrow.Author.Tests.{lt-ltb, ltb-true, eqb-true}
use lib.ListN.{length-drop}
use lib.{Seq.length-take-le, Seq.split_at, Seq.drop-drop, Seq.get_or-drop, Seq.take_all, Dec.ltb, Dec.eqb}
use Rattle.refusal.proofs.Laws.{and_left, and_right}
use Rattle.text.specs.{Number.digits_of, Number.show_digits, Field.count_of}
use Rattle.std.specs.Prelude.{Option, Some, None}
use Rattle.text.proofs.{Digits.passed, Shown.digits_back_lem, Exact.digits-text}
use Rattle.text.proofs.Free.{byte_free, digits_free, nil_free}
use Rattle.text.specs.Clock.{under, two_at, clock, time_of, show_time}

-- a number under its bound was read, and is under it
under_got : (bound n : ℕ) (r : Option ℕ) → under bound r ≡ Some n → (r ≡ Some n) × (n < bound)
under_got bound n None e = let z : ◌≡◌ {A = ℕ} 0 1 = cc in absurd (omega arith)
under_got bound n (Some m) e =
    let p = passed (ltb m bound) (Some m) n e in
    let q : m ≡ n = cc p.1 in
    (p.1, omega (arith, ltb-true m bound p.0))

pub two_under : (s : List ℕ) (at bound n : ℕ) → two_at s at bound ≡ Some n → n < bound
unfolding two_at
two_under s at bound n e = (under_got bound n (digits_of 0 (take 2 (drop at s))) e).1

-- a second of the day reads back
pub time_back : (n : ℕ) → n < 86400 → time_of (show_time n) ≡ Some n
unfolding time_of two_at
time_back n h =
    let w : n / 3600 * 3600 + n / 60 % 60 * 60 + n % 60 ≡ n = omega arith in
    rw (
      digits_back_lem 2 (n / 3600) (omega arith),
      digits_back_lem 2 (n / 60 % 60) (omega arith),
      digits_back_lem 2 (n % 60) (omega arith),
      lt-ltb (n / 3600) 24 (omega arith),
      lt-ltb (n / 60 % 60) 60 (omega arith),
      lt-ltb (n % 60) 60 (omega arith),
      w,
    )

-- and has no byte below the point
pub time_free : (d n : ℕ) → d < 46 → count_of d (show_time n) ≡ 0
time_free d n low =
    let seconds : List ℕ = 58 ∷ show_digits 2 (n % 60) in
    let minutes : List ℕ = 58 ∷ (show_digits 2 (n / 60 % 60) ++ seconds) in
    digits_free d low 2 (n / 3600) minutes
    ∙ byte_free d low 58 (show_digits 2 (n / 60 % 60) ++ seconds) (omega arith)
    ∙ digits_free d low 2 (n / 60 % 60) seconds
    ∙ byte_free d low 58 (show_digits 2 (n % 60)) (omega arith)
    ∙ digits_free d low 2 (n % 60) []
    ∙ nil_free d low

-- two digits that were read at a place are the text of their number
two_text_lem : (s : List ℕ) (at bound n : ℕ) → at + 2 ≤ length s → two_at s at bound ≡ Some n
    → take 2 (drop at s) ≡ show_digits 2 n
unfolding two_at
two_text_lem s at bound n h e =
    let l : length (take 2 (drop at s)) ≡ 2 = length-take-le 2 (drop at s) (rw (length-drop at s) (omega arith)) in
    (digits-text 2 (take 2 (drop at s)) n l (under_got bound n (digits_of 0 (take 2 (drop at s))) e).0).0

-- a time that was put together had all its parts
clock_got : (a b c : Option ℕ) (n : ℕ) → clock a b c ≡ Some n
    → (h : ℕ) × (m : ℕ) × (s : ℕ) × (a ≡ Some h) × (b ≡ Some m) × (c ≡ Some s)
    × (n ≡ h * 3600 + m * 60 + s)
clock_got None b c n e = let z : ◌≡◌ {A = ℕ} 0 1 = cc in absurd (omega arith)
clock_got (Some h) None c n e = let z : ◌≡◌ {A = ℕ} 0 1 = cc in absurd (omega arith)
clock_got (Some h) (Some m) None n e = let z : ◌≡◌ {A = ℕ} 0 1 = cc in absurd (omega arith)
clock_got (Some h) (Some m) (Some s) n e = let q : h * 3600 + m * 60 + s ≡ n = cc in (h, m, s, refl, refl, refl, sym q)

-- a text of three parts, apart at the two bytes between them
pub three-parts : (a b c : ℕ) (s : List ℕ) → length s ≡ a + 1 + b + 1 + c
    → s ≡ take a (drop 0 s) ++ (get_or s a 0 ∷ (take b (drop (a + 1) s)
    ++ (get_or s (a + 1 + b) 0 ∷ take c (drop (a + 1 + b + 1) s))))
three-parts a b c s l =
    let m = a + 1 in
    let rest : length (drop m s) ≡ b + 1 + c =
    length-drop m s ∙ (let w : length s - m ≡ b + 1 + c = omega arith in w) in
    let tail : length (drop (m + b + 1) s) ≡ c =
    length-drop (m + b + 1) s ∙ (let w : length s - (m + b + 1) ≡ c = omega arith in w) in
    let past : drop (suc b) (drop m s) ≡ take c (drop (m + b + 1) s) =
    drop-drop (suc b) m s ∙ (let w : m + suc b ≡ m + b + 1 = omega arith in rw w)
    ∙ sym (take_all c (drop (m + b + 1) s) (omega arith)) in
    let last : drop m s ≡ take b (drop m s) ++ (get_or s (m + b) 0 ∷ take c (drop (m + b + 1) s)) =
    split_at (drop m s) b 0 (omega arith) ∙ rw (get_or-drop m s b 0, past) in
    split_at s a 0 (omega arith) ∙ rw (← add-one a) (ap (λ t. take a s ++ (get_or s a 0 ∷ t)) last)

time_text_lem : (s : List ℕ) (h m x : ℕ) → length s ≡ 8 → get_or s 2 0 ≡ 58 → get_or s 5 0 ≡ 58
    → take 2 (drop 0 s) ≡ show_digits 2 h → take 2 (drop 3 s) ≡ show_digits 2 m
    → take 2 (drop 6 s) ≡ show_digits 2 x
    → s ≡ show_digits 2 h ++ (58 ∷ show_digits 2 m) ++ (58 ∷ show_digits 2 x)
time_text_lem s h m x l one two th tm tx = three-parts 2 2 2 s l ∙ rw (th, tm, tx, one, two)

-- a text that reads as a time is that time's text, and it is a second of the day
pub time_exact : (s : List ℕ) (n : ℕ) → time_of s ≡ Some n → (s ≡ show_time n) × (n < 86400)
unfolding time_of
time_exact s n e =
    let a = eqb (length s) 8 in
    let b = eqb (get_or s 2 0) 58 in
    let d = eqb (get_or s 5 0) 58 in
    let p = passed (a && b && d) (clock (two_at s 0 24) (two_at s 3 60) (two_at s 6 60)) n e in
    let l = eqb-true (length s) 8 (and_left a b (and_left (a && b) d p.0)) in
    let one = eqb-true (get_or s 2 0) 58 (and_right a b (and_left (a && b) d p.0)) in
    let two = eqb-true (get_or s 5 0) 58 (and_right (a && b) d p.0) in
    let q = clock_got (two_at s 0 24) (two_at s 3 60) (two_at s 6 60) n p.1 in
    let hours = two_under s 0 24 q.0 q.3 in
    let minutes = two_under s 3 60 q.1 q.4 in
    let seconds = two_under s 6 60 q.2 q.5 in
    let sum = q.6 in
    let h : n / 3600 ≡ q.0 = omega arith in
    let m : n / 60 % 60 ≡ q.1 = omega arith in
    let x : n % 60 ≡ q.2 = omega arith in
    let th = two_text_lem s 0 24 q.0 (omega arith) q.3 in
    let tm = two_text_lem s 3 60 q.1 (omega arith) q.4 in
    let tx = two_text_lem s 6 60 q.2 (omega arith) q.5 in
    (rw (h, m, x) (time_text_lem s q.0 q.1 q.2 l one two th tm tx), omega arith)
