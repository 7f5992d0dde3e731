-- A piece of a text, and the bytes of it that wait at the front of the buffer. Assumes nothing.
use mathlib.Core.{Path.◌≡◌, Path.sym, Path.ap, Path.◌∙◌, List.List, List.◌++◌}
use Rattle.std.specs.Prelude.{ℕ, ◌+◌, ◌-◌, ◌<◌, ◌≤◌, length, take, drop}
use native.Mathlib.{Omega.arith}
use lib.Seq.{drop_at, length-take-le, take-add}
use Rattle.text.specs.Line.{lines_of}
use Rattle.stream.specs.Reading.{Step, Reading, off_at, Longest}
use Rattle.stream.specs.InnerTaken.{LinesTaken, PieceTaken}
use Rattle.stream.proofs.{Readings.stuck, Readings.onward_refused, LongLines.onward_long}

-- the bytes that wait, as the buffer has them
pub waiting : (bytes : List ℕ) (at len : ℕ) → at ≤ len → len ≤ length bytes
    → drop at (take len bytes) ≡ take (len - at) (drop at bytes)
waiting bytes at len a l =
    let e : len ≡ at + (len - at) = omega arith in
    let n : length (take at bytes) ≡ at = length-take-le at bytes (omega arith) in
    ap (λ (k : ℕ). drop at (take k bytes)) e ∙ ap (drop at) (take-add at (len - at) bytes)
    ∙ drop_at (take at bytes) (take (len - at) (drop at bytes)) at n

module _ {A : Type 0} {step : Step A} (row : ℕ) {at : ℕ} {s s' : Reading A} {xs : List ℕ} (rest : List ℕ)
    (k : LinesTaken step s xs at s') where
  pub piece_refused : (s'.refusal ≡ 0 → ⊥) → PieceTaken step row s xs s' rest
  piece_refused ne = record { onward = onward_refused rest k.onward ne; waits = λ z. absurd (ne z) }

  pub piece_long : Longest step row → s'.refusal ≡ 0 → row + 2 < length (drop at xs)
      → PieceTaken step row s xs (off_at s') rest
  piece_long longest z long =
      record {
        onward = record {
          same = λ t. k.onward.same t ∙ onward_long step row longest s' (drop at xs) z (k.all z) long t
              ∙ sym (stuck step (off_at s') (lines_of (rest ++ t)) (λ e. absurd (omega arith)));
        };
        waits = λ e. absurd (omega arith);
      }

  pub piece_left : s'.refusal ≡ 0 → length (drop at xs) ≤ row + 2 → rest ≡ drop at xs
      → PieceTaken step row s xs s' rest
  piece_left z short e =
      record {
        onward = rw e k.onward;
        waits = λ q. rw e (record { unended = k.all z; short = short; least = k.least; most = k.most });
      }
