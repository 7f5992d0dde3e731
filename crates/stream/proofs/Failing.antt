-- A read that fails is never an end: the line being read goes on for longer than any on its layout, and is refused.
-- Assumes nothing.
use mathlib.Core.{Path.◌≡◌, Path.refl, Path.ap, Path.◌∙◌}
use Rattle.std.specs.Prelude.{ℕ, zero, suc, ◌+◌, ◌-◌, ◌<◌, ◌≤◌, Bool, true, false, cond, ◌&&◌, List, [], ◌∷◌, ◌++◌}
use mathlib.Core.Bool.{and-false}
use native.Mathlib.Omega.{arith}
use lib.{ListN.length, ListN.get_or, ListN.replicate, ListN.length-replicate, Dec.eqb, Dec.leb}
use lib.Seq.{length-take-le}
use Rattle.text.specs.Line.{is_end, end_at, onto, lines_of, bare_line}
use Rattle.text.proofs.Digits.{either}
use Rattle.stream.specs.Coming.{endless}
use Rattle.stream.specs.Reading.{Step, whole_read, Longest}
use Rattle.stream.specs.Refused.{held_after, FailedRead}
use Rattle.stream.proofs.Firsts.{text_refused, text_accepted}

-- the last of some lines has so many bytes, and there are as many lines as of another text
record Long (least : ℕ) (ls other : List (List ℕ)) : Type 0 where
  last : ℕ
  is_last : last + 1 ≡ length ls
  long : least ≤ length (get_or ls last [])
  many : length ls ≡ length other

module _ (least : ℕ) where
  line_before : (ls other : List (List ℕ)) → Long least ls other → Long least ([] ∷ ls) ([] ∷ other)
  line_before ls other k = record {
    last = suc k.last;
    is_last = omega (arith, k.is_last);
    long = k.long;
    many = ap suc k.many;
  }

  byte_before : (c : ℕ) (ls other : List (List ℕ)) → Long least ls other → Long least (onto c ls) (onto c other)
  byte_before c [] other k = absurd (omega (arith, k.is_last))
  byte_before c (l ∷ ls) [] k = absurd (omega (arith, k.many))
  byte_before c (l ∷ ls) (m ∷ ms) k = go k.last k.is_last k.long
    where
      go : (i : ℕ) → i + 1 ≡ suc (length ls) → least ≤ length (get_or (l ∷ ls) i [])
          → Long least ((c ∷ l) ∷ ls) ((c ∷ m) ∷ ms)
      go zero e h = record { last = 0; is_last = e; long = omega (arith, h); many = k.many }
      go (suc i) e h = record { last = suc i; is_last = e; long = h; many = k.many }

-- zeros are one line
zeros_lines : (k : ℕ) → lines_of (replicate (suc k) 0) ≡ replicate (suc k) 0 ∷ []
unfolding lines_of
zeros_lines zero = refl
zeros_lines (suc k) = ap (onto 0) (zeros_lines k)

module _ (k : ℕ) where
  zeros_last : Long (suc k) (lines_of (replicate (suc k) 0)) (lines_of (0 ∷ []))
  unfolding lines_of
  zeros_last =
      rw (zeros_lines k)
      (record { last = 0; is_last = refl; long = omega (arith, length-replicate {A = ℕ} (suc k) 0); many = refl })

  long_last : (bytes : List ℕ) → Long (suc k) (lines_of (bytes ++ replicate (suc k) 0)) (lines_of (bytes ++ (0 ∷ [])))
  unfolding lines_of
  long_last [] = zeros_last
  long_last (c ∷ []) = rw (and-false (eqb c 13)) (byte_before (suc k) c _ _ zeros_last)
  long_last (c ∷ (d ∷ s)) = go (is_end c d) (long_last s) (long_last (d ∷ s))
    where
      go : (b : Bool) → Long (suc k) (lines_of (s ++ replicate (suc k) 0)) (lines_of (s ++ (0 ∷ [])))
          → Long (suc k) (lines_of ((d ∷ s) ++ replicate (suc k) 0)) (lines_of ((d ∷ s) ++ (0 ∷ [])))
          → Long (suc k) (cond b ([] ∷ lines_of (s ++ replicate (suc k) 0))
          (onto c (lines_of ((d ∷ s) ++ replicate (suc k) 0))))
          (cond b ([] ∷ lines_of (s ++ (0 ∷ []))) (onto c (lines_of ((d ∷ s) ++ (0 ∷ [])))))
      go true line rest = line_before (suc k) _ _ line
      go false line rest = byte_before (suc k) c _ _ rest

endless_last : (row : ℕ) (bytes : List ℕ)
    → Long (row + 3) (lines_of (bytes ++ endless row)) (lines_of (bytes ++ (0 ∷ [])))
endless_last row bytes = let e : row + 3 ≡ suc (row + 2) = omega arith in rw e (long_last (row + 2) bytes)

-- a line loses at most its end
bare_least : (s : List ℕ) → length s ≤ length (bare_line s) + 2
unfolding bare_line
bare_least s =
    either (leb 2 (length s) && end_at s (length s - 2))
    (λ yes. rw yes (omega (arith, length-take-le (length s - 2) s (omega arith))))
    (λ no. rw no (omega arith))

module _ {A : Type 0} (step : Step A) (row : ℕ) (longest : Longest step row) where
  pub never_an_end : (a : A) (bytes : List ℕ)
      → FailedRead step row a bytes (whole_read step a (bytes ++ endless row)).refusal
      (whole_read step a (bytes ++ endless row)).line
  never_an_end a bytes =
      let text = bytes ++ endless row in
      let k = endless_last row bytes in
      let line = get_or (lines_of text) k.last [] in
      let over : row < length (bare_line line) = omega (arith, k.long, bare_least line) in
      let held = held_after step a text k.last in
      let off = longest.off (k.last + 1) held line over in
      let s = whole_read step a text in
      let ne : s.refusal ≡ 0 → ⊥ = λ fine.
      let each = (text_accepted step a text fine).each k.last (omega (arith, k.is_last)) in
      absurd (omega (arith, each, off)) in
      let f = (text_refused step a text).first (omega (arith, k.is_last)) ne in
      record {
        some = ne;
        up_to = omega (arith, f.line=, f.reached, k.many);
        sixteen = λ here.
            let same : f.before ≡ k.last = omega (arith, here, f.line=, k.is_last, k.many) in
            rw (f.line=, same) at f.number= ∙ off;
        first = f;
      }
