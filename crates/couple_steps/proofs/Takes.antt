-- A line of a file: the header, a row that is refused, one too many, or a row that is stored. Assumes nothing.
use Rattle.std.specs.Prelude.{ℕ, ◌+◌, ◌-◌, ◌<◌, ◌≤◌}
use mathlib.Core.{Path.◌≡◌, Path.refl, List.List, List.[], List.◌∷◌, List.◌++◌}
use native.Mathlib.Omega.{arith}
use lib.{ListN.get_or, Dec.eqb}
use borrow.Author.Tests.{eq-eqb, ne_eqb, le-leb, lt-leb}
use Rattle.text.specs.Index.{listing}
use Rattle.text.proofs.Digits.{either}
use Rattle.coupling_rules.specs.Limits.{max_flights}
use Rattle.flights.specs.Row.{Flight}
use Rattle.flights.specs.{Row.flight_of, Header.header_refusal}
use Rattle.stream.specs.InnerTaken.{LineTaken, next_line}
use Rattle.couple_steps.specs.Table.{line_refusal, line_after, table_step}
use Rattle.couple_steps.specs.InnerTable.{rows_in, held_in}

module _ (columns n : ℕ) (flat line : List ℕ) where
  pub header_taken : {r : ℕ} → n ≡ 1 → r ≡ header_refusal columns line
      → LineTaken (table_step columns) n (held_in columns flat n) line r (held_in columns flat (next_line n r))
  unfolding line_refusal line_after
  header_taken {r} one e =
      let none : next_line n r - 2 ≡ n - 2 =
      either (eqb r 0) (λ yes. rw yes (omega arith)) (λ no. rw no (omega arith)) in
      record {
        answer = rw (eq-eqb n 1 one) e;
        held = rw (none, eq-eqb n 1 one) refl;
      }

  module _ (more : n ≡ 1 → ⊥) {f : Flight} (is : f ≡ flight_of columns line) where
    pub row_refused : (f.refusal ≡ 0 → ⊥)
        → LineTaken (table_step columns) n (held_in columns flat n) line f.refusal
        (held_in columns flat (next_line n f.refusal))
    unfolding line_refusal line_after
    row_refused ne =
        let some = ne_eqb f.refusal 0 ne in
        record {
          answer = rw (ne_eqb n 1 more, ← is, some) refl;
          held = rw (some, ne_eqb n 1 more, ← is, some, some) refl;
        }

    pub row_over_rule : f.refusal ≡ 0 → max_flights + 1 < n
        → LineTaken (table_step columns) n (held_in columns flat n) line 18 (held_in columns flat (next_line n 18))
    unfolding line_refusal line_after
    row_over_rule z over =
        record {
          answer = rw (ne_eqb n 1 more, ← is, z, lt-leb n (max_flights + 1) over) refl;
          held = rw (ne_eqb n 1 more, ← is, z, lt-leb n (max_flights + 1) over) refl;
        }

    pub row_stored : (flat' : List ℕ) → f.refusal ≡ 0 → n ≤ max_flights + 1 → 1 ≤ n
        → rows_in columns flat' (n - 2 + 1)
        ≡ rows_in columns flat (n - 2) ++ (listing (λ k. get_or f.values k 0) columns ∷ [])
        → LineTaken (table_step columns) n (held_in columns flat n) line 0 (held_in columns flat' (next_line n 0))
    unfolding line_refusal line_after
    row_stored flat' z few one stored =
        let next : n + 1 - 2 ≡ n - 2 + 1 = omega (arith, more) in
        record {
          answer = rw (ne_eqb n 1 more, ← is, z, le-leb n (max_flights + 1) few) refl;
          held = rw (next, ne_eqb n 1 more, ← is, z, le-leb n (max_flights + 1) few) stored;
        }
