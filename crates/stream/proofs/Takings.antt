-- What the code knows on its way through a text: the lines taken so far, and the last bytes. Assumes nothing.
use mathlib.Core.{Path.◌≡◌, Path.refl, Path.◌∙◌, List.List, List.◌++◌}
use Rattle.std.specs.Prelude.{ℕ, ◌+◌, ◌-◌, ◌<◌, ◌≤◌}
use native.Mathlib.Omega.{arith}
use lib.{ListN.length, ListN.take, ListN.drop, ListN.length-drop, Seq.drop-drop}
use borrow.Author.Tests.{ne_eqb}
use Rattle.text.specs.Line.{first_line, lines_of}
use Rattle.text.proofs.Lines.{line_length, line_take}
use Rattle.stream.specs.Reading.{Step, Reading, line_read, reading_at, closing, Onward, Unended}
use Rattle.stream.specs.InnerTaken.{LineTaken, LinesTaken, LastTaken}
use Rattle.stream.proofs.Readings.{onward_none, onward_then, onward_line, stuck, read-last, read_none}

module _ {A : Type 0} {step : Step A} where
  read-refused : {n r : ℕ} {a a' : A} {line : List ℕ} → LineTaken step n a line r a' → (r ≡ 0 → ⊥)
      → line_read step (reading_at 0 n a) line ≡ reading_at r n a'
  unfolding line_read
  read-refused {n} {r} {a} {a'} {line} k ne = rw (← k.answer, ← k.held, ne_eqb r 0 ne) refl

  read_taken : {n r : ℕ} {a a' : A} {line : List ℕ} → LineTaken step n a line r a' → r ≡ 0
      → line_read step (reading_at 0 n a) line ≡ reading_at 0 (n + 1) a'
  unfolding line_read
  read_taken {n} {r} {a} {a'} {line} k z = rw (← k.answer, ← k.held, z) refl

-- the lines before `at` are taken, and the next one ends at `end`
pub record Taking {A : Type 0} (step : Step A) (s : Reading A) (xs : List ℕ) (at n : ℕ) (a : A) (end : ℕ) : Type 0 where
  pub within : at ≤ length xs
  pub ended : end ≡ at + length (first_line (drop at xs))
  pub onward : Onward step s xs (reading_at 0 n a) (drop at xs)
  pub least : s.line ≤ n
  pub most : n + (length xs - at) ≤ s.line + length xs

module _ {A : Type 0} {step : Step A} where
  pub taking_inside : {at n end : ℕ} {s : Reading A} {xs : List ℕ} {a : A} → Taking step s xs at n a end
      → (at ≤ end) × (end ≤ length xs)
  taking_inside {at} {n} {end} {s} {xs} {a} k =
      (omega (arith, k.ended), omega (arith, k.ended, k.within, line_length (drop at xs), length-drop at xs))

  pub taking_none : (n end : ℕ) (xs : List ℕ) (a : A) → end ≡ 0 + length (first_line (drop 0 xs))
      → Taking step (reading_at 0 n a) xs 0 n a end
  taking_none n end xs a e =
      record {
        within = omega arith;
        ended = e;
        onward = onward_none step (reading_at 0 n a) xs;
        least = omega arith;
        most = omega arith;
      }

  module _ {at n end r : ℕ} {s : Reading A} {xs : List ℕ} {a a' : A} (k : Taking step s xs at n a end)
      (h : 2 ≤ length xs - end) (l : LineTaken step n a (take (end - at) (drop at xs)) r a') where
    line_is : take (end - at) (drop at xs) ≡ first_line (drop at xs)
    line_is =
        let e : end - at ≡ length (first_line (drop at xs)) = omega (arith, k.ended) in
        rw e (line_take (drop at xs))

    taken_is : LineTaken step n a (first_line (drop at xs)) r a'
    taken_is = rw line_is at l

    ends : length (first_line (drop at xs)) + 2 ≤ length (drop at xs)
    ends = omega (arith, k.ended, length-drop at xs)

    past : Onward step s xs (line_read step (reading_at 0 n a) (first_line (drop at xs)))
        (drop (length (first_line (drop at xs)) + 2) (drop at xs))
    past = onward_then k.onward (onward_line step (reading_at 0 n a) (drop at xs) refl ends)

    pub taking_next : (end' : ℕ) → r ≡ 0 → end' ≡ end + 2 + length (first_line (drop (end + 2) xs))
        → Taking step s xs (end + 2) (n + 1) a' end'
    taking_next end' z e =
        let q : at + (length (first_line (drop at xs)) + 2) ≡ end + 2 = omega (arith, k.ended) in
        record {
          within = omega arith;
          ended = e;
          onward = rw (read_taken taken_is z, drop-drop (length (first_line (drop at xs)) + 2) at xs, q) at past;
          least = omega (arith, k.least);
          most = omega (arith, k.most, k.ended);
        }

    pub taking_refused : (r ≡ 0 → ⊥) → LinesTaken step s xs at (reading_at r n a')
    taking_refused ne =
        record {
          within = k.within;
          onward = record {
            same = λ t.
                let here = reading_at r n a' in
                let next = drop (length (first_line (drop at xs)) + 2) (drop at xs) in
                rw (stuck step here (lines_of (drop at xs ++ t)) ne)
                (past.same t ∙ rw (read-refused taken_is ne) (stuck step here (lines_of (next ++ t)) ne));
          };
          all = λ z. absurd (ne z);
          least = k.least;
          most = rw (length-drop at xs) k.most;
        }

  pub taking_done : {at n end : ℕ} {s : Reading A} {xs : List ℕ} {a : A} → Taking step s xs at n a end
      → length xs - end < 2 → LinesTaken step s xs at (reading_at 0 n a)
  taking_done {at} {n} {end} {s} {xs} {a} k h =
      record {
        within = k.within;
        onward = k.onward;
        all = λ z. omega (arith, k.ended, length-drop at xs);
        least = k.least;
        most = rw (length-drop at xs) k.most;
      }

  -- the last bytes
  pub last_headless : (n : ℕ) (a : A) (xs : List ℕ) → length xs ≡ 0 → n ≡ 1
      → LastTaken step (reading_at 0 n a) xs (reading_at 16 n a)
  unfolding closing
  last_headless n a xs z one = record { closed = rw (read_none step (reading_at 0 n a) xs z, one) refl }

  pub last_empty : (n : ℕ) (a : A) (xs : List ℕ) → length xs ≡ 0 → (n ≡ 1 → ⊥)
      → LastTaken step (reading_at 0 n a) xs (reading_at 0 n a)
  unfolding closing
  last_empty n a xs z ne = record { closed = rw (read_none step (reading_at 0 n a) xs z, ne_eqb n 1 ne) refl }

  module _ {n r : ℕ} {xs : List ℕ} {a a' : A} (l : LineTaken step n a xs r a') (h : Unended xs)
      (some : length xs ≡ 0 → ⊥) where
    pub last_refused : (r ≡ 0 → ⊥) → LastTaken step (reading_at 0 n a) xs (reading_at r n a')
    unfolding closing
    last_refused ne =
        let all = read-last step (reading_at 0 n a) xs refl h (omega arith) in
        record { closed = rw (all, read-refused l ne, ne_eqb r 0 ne) refl }

    pub last_taken : 1 ≤ n → r ≡ 0 → LastTaken step (reading_at 0 n a) xs (reading_at 0 (n + 1) a')
    unfolding closing
    last_taken one z =
        let all = read-last step (reading_at 0 n a) xs refl h (omega arith) in
        let later = ne_eqb (n + 1) 1 (λ e. absurd (omega arith)) in
        record { closed = rw (all, read_taken l z, later) refl }
