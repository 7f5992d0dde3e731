-- The lines of a report, as the writers group them. Assumes nothing.
use mathlib.Core.{Path.◌≡◌, Path.refl, Path.sym, List.List, List.[], List.◌∷◌, List.◌++◌, List.append_assoc}
use Rattle.std.specs.Prelude.{ℕ, ◌+◌, ◌≤◌, length}
use native.Mathlib.Omega.{arith}
use lib.ListN.{length-append}
use Rattle.room.specs.Room.{Wrote}
use Rattle.room.proofs.Laws.{wrote_then}
use Rattle.text.specs.Sheet.{ended, comma, line}
use Rattle.text.specs.Spelled.{crlf}
use Rattle.text.specs.{Field.joined_by, Index.listing}
use Rattle.text.proofs.Sheets.{ended_append}
use native.Mathlib.Numerals.{add-one}

-- six fields, and the end of their line
pub six_is : (a b c d e f : List ℕ)
    → a ++ (((comma ∷ b) ++ ((comma ∷ c) ++ (comma ∷ d))) ++ ((comma ∷ e) ++ ((comma ∷ f) ++ crlf)))
    ≡ line (a ∷ b ∷ c ∷ d ∷ e ∷ f ∷ []) ++ crlf
unfolding joined_by
six_is a b c d e f = simp append_assoc

pub ended_none : (f : ℕ → List ℕ) → ended (listing f 0) ≡ []
unfolding ended listing
ended_none f = refl

pub ended_more : (f : ℕ → List ℕ) (n : ℕ)
    → ended (listing f n) ++ (f n ++ crlf) ≡ ended (listing f (n + 1))
unfolding listing ended
ended_more f n = rw (add-one n) (sym (ended_append (listing f n) (f n ∷ [])))

pub ended_header : (l : List ℕ) (ls : List (List ℕ)) → (l ++ crlf) ++ ended ls ≡ ended (l ∷ ls)
unfolding ended
ended_header l ls = append_assoc l crlf (ended ls)

-- the header written, and past it the lines
pub wrote_header : (l : List ℕ) (ls : List (List ℕ)) {s mid e : List ℕ} {i j : ℕ}
    → Wrote s 0 (l ++ crlf) mid i → Wrote mid i (ended ls) e j → j ≤ length s
    → Wrote s 0 (ended (l ∷ ls)) e j
wrote_header l ls w u room =
    rw (ended_header l ls)
    at (wrote_then (omega (arith, length-append (l ++ crlf) (ended ls), w.place, u.place)) w u)
