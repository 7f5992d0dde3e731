-- A line whose taking is told as a Result. Assumes nothing.
use Rattle.std.specs.Prelude.{ℕ, ◌+◌, ◌<◌, Result, Ok, Err, is_err}
use mathlib.Core.{Path.◌≡◌, Path.refl, Path.sym, Path.◌∙◌, Bool.true, Bool.false, Bool.false≢true, Bool.true≢false, List.List}
use native.Mathlib.Omega.{arith}
use borrow.Author.Tests.{ne_eqb, eq-eqb}
use Rattle.refusal.specs.Refusal.{told}
use Rattle.refusal.specs.declared.Refusal.{Refusal}
use Rattle.refusal.proofs.Laws.{numbered}
use Rattle.stream.specs.Reading.{Step}
use Rattle.stream.specs.InnerTaken.{LineTaken, next_line}

pub err_some : {B : Type 0} (r : Result B Refusal) → is_err r ≡ true → told r ≡ 0 → ⊥
err_some (Ok b) e z = absurd (false≢true e)
err_some (Err why) e z = let low = numbered why in omega arith

pub fine_none : {B : Type 0} (r : Result B Refusal) → is_err r ≡ false → told r ≡ 0
fine_none (Ok b) e = refl
fine_none (Err why) e = absurd (true≢false e)

-- what is held past a line, once it is known whether it is refused
module _ {A B : Type 0} {step : Step A} {n : ℕ} {a : A} {line : List ℕ} (held : ℕ → A) (r : Result B Refusal)
    (k : LineTaken step n a line (told r) (held (next_line n (told r)))) where
  pub taken_err : is_err r ≡ true → LineTaken step n a line (told r) (held n)
  taken_err e = record { answer = k.answer; held = rw (ne_eqb (told r) 0 (err_some r e)) at k.held }

  pub taken_ok : is_err r ≡ false → LineTaken step n a line (told r) (held (n + 1))
  taken_ok e = record { answer = k.answer; held = rw (eq-eqb (told r) 0 (fine_none r e)) at k.held }
