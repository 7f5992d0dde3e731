-- The line that a next byte would stand in, one line end further. Assumes nothing.
use Rattle.grid.proofs.LineLaws.{line_room}
use Rattle.std.specs.Prelude.{ℕ, suc, ◌+◌, ◌<◌, ◌≤◌}
use mathlib.Core.{Path.◌≡◌, Path.refl, Path.ap, Bool.◌&&◌, Bool.and-false, List.List, List.[], List.◌∷◌, List.◌++◌}
use native.Mathlib.Omega.{arith}
use borrow.Author.Tests.{le-leb, lt-leb, lt-ltb, le-ltb}
use lib.{Dec.eqb, ListN.length, ListN.drop, ListN.length-drop, Seq.drop-drop}
use Rattle.text.specs.Line.{first_line, lines_of}
use Rattle.text.proofs.{Digits.either, Streams.stream_line}
use Rattle.grid.specs.File.{fault_line}
use Rattle.contours_steps.specs.Sheet.{line_begun, overlong_line}

-- with no line end ahead the next byte stands in the first line
pub unended : (s : List ℕ) → length s ≤ length (first_line s)
    → lines_of (s ++ (0 ∷ [])) ≡ (s ++ (0 ∷ [])) ∷ []
unfolding first_line lines_of
unended [] h = refl
unended (c ∷ []) h = rw (and-false (eqb c 13)) refl
unended (c ∷ d ∷ s) h =
    either (eqb c 13 && eqb d 10)
    (λ yes. let l : suc (suc (length s)) ≤ 0 = rw yes at h in absurd (omega arith))
    (λ no. let l : suc (suc (length s)) ≤ suc (length (first_line (d ∷ s))) = rw no at h in
    rw (no, unended (d ∷ s) (omega arith)) refl)

-- so far `line - 1` lines are ended, before `at`, and the next one ends at `end`
pub record Counting (s : List ℕ) (at line end : ℕ) : Type 0 where
  pub within : at ≤ length s
  pub ended : end ≡ at + length (first_line (drop at s))
  pub few : line ≤ at + 1
  pub some : 1 ≤ line
  pub is : line_begun s + 1 ≡ line + line_begun (drop at s)

pub counting_none : (s : List ℕ) (end : ℕ) → end ≡ 0 + length (first_line (drop 0 s)) → Counting s 0 1 end
counting_none s end e =
    record { within = omega arith; ended = e; few = omega arith; some = omega arith; is = omega arith }

pub counting_room : {s : List ℕ} {at line end : ℕ} → Counting s at line end → end < length s
    → end + 2 ≤ length s
counting_room {s} {at} {line} {end} k h =
    omega (
      arith,
      k.ended,
      k.within,
      length-drop at s,
      line_room (drop at s) (omega (arith, k.ended, length-drop at s)),
    )

pub counting_next : {s : List ℕ} {at line end : ℕ} (end' : ℕ) → Counting s at line end → end < length s
    → end' ≡ end + 2 + length (first_line (drop (end + 2) s)) → Counting s (end + 2) (line + 1) end'
unfolding line_begun
counting_next {s} {at} {line} {end} end' k h e =
    let room = counting_room k h in
    let n = length (first_line (drop at s)) in
    let q : at + (n + 2) ≡ end + 2 = omega (arith, k.ended) in
    let step : lines_of (drop at s ++ (0 ∷ [])) ≡ first_line (drop at s) ∷ lines_of
    (drop (end + 2) s ++ (0 ∷ [])) =
    rw (← q, ← drop-drop (n + 2) at s)
    (stream_line (drop at s) (0 ∷ []) (omega (arith, k.ended, length-drop at s))) in
    record {
      within = room;
      ended = e;
      few = omega (arith, k.few, k.ended);
      some = omega arith;
      is = omega (arith, k.is, ap length step);
    }

pub counting_end : {s : List ℕ} {at line end : ℕ} → Counting s at line end → length s ≤ end
    → line ≡ line_begun s
unfolding line_begun
counting_end {s} {at} {line} {end} k h =
    omega (arith, k.is, ap length (unended (drop at s) (omega (arith, k.ended, k.within, length-drop at s))))

-- a text that fills its buffer
module _ (text : List ℕ) {line : ℕ} (is : line ≡ fault_line (lines_of text)) where
  pub overlong_head : line ≤ 5 → line ≡ overlong_line text
  unfolding overlong_line
  overlong_head h = rw (← is, le-leb line 5 h) refl

  module _ {begun : ℕ} (late : 5 < line) (b : begun ≡ line_begun text) where
    pub overlong_ended : line < begun → line ≡ overlong_line text
    unfolding overlong_line
    overlong_ended h = rw (← is, lt-leb line 5 late, ← b, lt-ltb line begun h) refl

    pub overlong_none : begun ≤ line → 0 ≡ overlong_line text
    unfolding overlong_line
    overlong_none h = rw (← is, lt-leb line 5 late, ← b, le-ltb line begun h) refl
