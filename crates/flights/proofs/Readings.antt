-- Laws of a row's cells as they are read, one after the other. Assumes nothing.
use Rattle.std.specs.Prelude.{ℕ, zero, suc, ◌+◌, ◌<◌, ◌≤◌}
use mathlib.Core.{Path.◌≡◌, Path.refl, List.List, Bool.true, Bool.false, Bool.cond, Bool.and-false}
use native.Mathlib.Omega.{arith}
use borrow.Author.Tests.{eqb-true, ne_eqb}
use lib.{Dec.eqb}
use Rattle.text.specs.{Field.count_of, Index.every}
use Rattle.text.proofs.Digits.{either}
use Rattle.flights.specs.Cell.{cell_of, circuit_of, got_at}
use Rattle.flights.specs.{Name.name_of, Row.row_of, Row.judged_flight, Row.refused_flight, Row.values_of}

-- a runway, an airport and a type are names; past them stands the circuit
pub cell_name_lem : (k : ℕ) → 5 ≤ k → k < 8 → (t : List ℕ) → cell_of k t ≡ name_of t
unfolding cell_of
cell_name_lem zero h l t = absurd (omega arith)
cell_name_lem (suc zero) h l t = absurd (omega arith)
cell_name_lem (suc (suc zero)) h l t = absurd (omega arith)
cell_name_lem (suc (suc (suc zero))) h l t = absurd (omega arith)
cell_name_lem (suc (suc (suc (suc zero)))) h l t = absurd (omega arith)
cell_name_lem (suc (suc (suc (suc (suc zero))))) h l t = refl
cell_name_lem (suc (suc (suc (suc (suc (suc zero)))))) h l t = refl
cell_name_lem (suc (suc (suc (suc (suc (suc (suc zero))))))) h l t = refl
cell_name_lem (suc (suc (suc (suc (suc (suc (suc (suc k)))))))) h l t = absurd (omega arith)

pub cell_circuit : (k : ℕ) → 8 ≤ k → (t : List ℕ) → cell_of k t ≡ circuit_of t
unfolding cell_of
cell_circuit zero h t = absurd (omega arith)
cell_circuit (suc zero) h t = absurd (omega arith)
cell_circuit (suc (suc zero)) h t = absurd (omega arith)
cell_circuit (suc (suc (suc zero))) h t = absurd (omega arith)
cell_circuit (suc (suc (suc (suc zero)))) h t = absurd (omega arith)
cell_circuit (suc (suc (suc (suc (suc zero))))) h t = absurd (omega arith)
cell_circuit (suc (suc (suc (suc (suc (suc zero)))))) h t = absurd (omega arith)
cell_circuit (suc (suc (suc (suc (suc (suc (suc zero))))))) h t = absurd (omega arith)
cell_circuit (suc (suc (suc (suc (suc (suc (suc (suc k)))))))) h t = refl

module _ (s : List ℕ) (count : ℕ) where
  -- a line of another number of fields, or with a field off its layout
  pub row_other : (count_of 44 s + 1 ≡ count → ⊥) → row_of count s ≡ refused_flight 16
  unfolding row_of
  row_other h = rw (ne_eqb (count_of 44 s + 1) count h)

  pub row_off : every (got_at s) count ≡ false → row_of count s ≡ refused_flight 16
  unfolding row_of
  row_off e = rw (e, and-false (eqb (count_of 44 s + 1) count))

  -- a line of k fields, all on their layout
  pub row_counted : (k : ℕ) → count_of 44 s + 1 ≡ k → every (got_at s) k ≡ true
      → row_of count s ≡ cond (eqb k count) (judged_flight (values_of k s)) (refused_flight 16)
  unfolding row_of
  row_counted k n e =
      either (eqb k count)
      (λ yes. rw (n, yes, ← eqb-true k count yes, e))
      (λ no. rw (n, no))
