-- A header line, of a register or of limits.csv, is the full text up to its last point. Assumes nothing.
use mathlib.Core.{Path.◌≡◌, Path.refl, Path.ap, Path.◌∙◌, Bool.true, Bool.◌&&◌, List.List}
use Prim.Native.Nat.{ℕ, ◌+◌, ◌-◌, ◌*◌, ◌/◌, ◌%◌, ◌≤◌}
use native.Mathlib.Omega.{arith}
use lib.{ListN.length, ListN.take, Seq.length-take-le, Dec.eqb, Dec.leb, Dec.ltb}
use borrow.Author.Tests.{eqb-true, lt-ltb, le-leb, ltb-true, leb-true}
use Rattle.refusal.proofs.Laws.{and_left, and_right}
use Rattle.text.specs.Same.{same_text}
use Rattle.std.specs.Prelude.{Some, None}
use Rattle.text.proofs.{Digits.either, Sames.same_equal, Sames.same_self}
use Rattle.register.specs.Header.{header_of}

-- a header is such a text, and such a text is a header
pub header_is : (full : List ℕ) (lead : ℕ) (s : List ℕ) (p : ℕ) → header_of full lead s ≡ Some p
    → ((1 ≤ p) × (p ≤ 8)) × (s ≡ take (lead + 3 * p) full)
unfolding header_of
header_is full lead s p e =
    let n = length s in
    let a = ltb lead n in
    let b = a && leb n (length full) in
    let c = b && eqb ((n - lead) % 3) 0 in
    let d = c && leb ((n - lead) / 3) 8 in
    let f = same_text s (take n full) in
    either (d && f)
    (λ all. let yd = and_left d f all in
    let yc = and_left c (leb ((n - lead) / 3) 8) yd in
    let yb = and_left b (eqb ((n - lead) % 3) 0) yc in
    let long = ltb-true lead n (and_left a (leb n (length full)) yb) in
    let third = eqb-true ((n - lead) % 3) 0 (and_right b (eqb ((n - lead) % 3) 0) yc) in
    let few = leb-true ((n - lead) / 3) 8 (and_right c (leb ((n - lead) / 3) 8) yd) in
    let g : Some ((n - lead) / 3) ≡ Some p = rw all at e in
    let q : (n - lead) / 3 ≡ p = cc in
    let size : n ≡ lead + 3 * p = omega arith in
    ((omega arith, omega arith), same_equal s (take n full) (and_right d f all) ∙ ap (λ k. take k full) size))
    (λ no. let g : None ≡ Some p = rw no at e in let z : ◌≡◌ {A = ℕ} 0 1 = cc in absurd (omega arith))

pub is_header_lem : (full : List ℕ) (lead : ℕ) (s : List ℕ) (p : ℕ) → length full ≡ lead + 24 → 1 ≤ p
    → p ≤ 8
    → s ≡ take (lead + 3 * p) full
    → header_of full lead s ≡ Some p
unfolding header_of
is_header_lem full lead s p size some few e =
    let n : length s ≡ lead + 3 * p = ap length e ∙ length-take-le (lead + 3 * p) full (omega arith) in
    let third : (lead + 3 * p - lead) % 3 ≡ 0 = omega arith in
    let whole : (lead + 3 * p - lead) / 3 ≡ p = omega arith in
    let same : same_text s (take (lead + 3 * p) full) ≡ true = rw e (same_self (take (lead + 3 * p) full)) in
    rw (
      n,
      lt-ltb lead (lead + 3 * p) (omega arith),
      le-leb (lead + 3 * p) (length full) (omega arith),
      third,
      whole,
      le-leb p 8 few,
      same,
    ) refl
