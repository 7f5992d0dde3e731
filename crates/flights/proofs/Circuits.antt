-- A circuit is read exactly if it is C or blank. Assumes nothing.
use Rattle.std.specs.Prelude.{ℕ}
use mathlib.Core.{Path.◌≡◌, Path.sym, List.List}
use native.Mathlib.Omega.{arith}
use borrow.Author.Tests.{eqb-true}
use lib.{ListN.length, Dec.eqb}
use Rattle.refusal.proofs.Laws.{nil_of_lem}
use Rattle.text.specs.{Same.same_text, Spelled.bytes}
use Rattle.std.specs.Prelude.{Some, None}
use Rattle.text.proofs.{Digits.either, Sames.same_equal, Sames.same_self}
use Rattle.flights.specs.Cell.{circuit_of}
use Rattle.flights.specs.Spelled.{Circuit}
use Rattle.flights.specs.Spelled.Circuit.{blank, marked}

pub circuit_spelled : (t : List ℕ) (n : ℕ) → circuit_of t ≡ Some n → Circuit t n
unfolding circuit_of
circuit_spelled t n e =
    either (eqb (length t) 0)
    (λ none. let x : Some 0 ≡ Some n = rw none at e in
    let q : 0 ≡ n = cc in
    blank (nil_of_lem t (eqb-true (length t) 0 none)) (sym q))
    (λ some. either (same_text t (bytes "C"))
    (λ yes. let x : Some 1 ≡ Some n = rw (some, yes) at e in
    let q : 1 ≡ n = cc in
    marked (same_equal t (bytes "C") yes) (sym q))
    (λ no. let x : None ≡ Some n = rw (some, no) at e in
    let z : ◌≡◌ {A = ℕ} 0 1 = cc in absurd (omega arith)))

pub spelled_circuit : (t : List ℕ) (n : ℕ) → Circuit t n → circuit_of t ≡ Some n
unfolding circuit_of
spelled_circuit t n (blank e z) = rw (e, z)
spelled_circuit t n (marked e z) = rw (e, z, same_self (bytes "C"))
