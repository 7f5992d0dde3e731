-- A line cut off the bytes read so far is the next line of the whole text, whatever follows. Assumes nothing.
use mathlib.Core.{Path.◌≡◌, Path.refl, Path.ap, Path.◌∙◌, Bool.Bool, Bool.true, Bool.false, Bool.cond, Bool.◌&&◌}
use Rattle.std.specs.Prelude.{ℕ, suc, ◌+◌, ◌≤◌, List, [], ◌∷◌, ◌++◌}
use native.Mathlib.Omega.{arith}
use lib.{Dec.eqb, ListN.length, ListN.drop, ListN.length-append, Seq.drop-append-le}
use Rattle.text.specs.Line.{first_line, lines_of}
use Rattle.text.proofs.Lines.{lines_step}

first_stays : (s t : List ℕ) → length (first_line s) + 2 ≤ length s → first_line (s ++ t) ≡ first_line s
unfolding first_line
first_stays [] t h = absurd (omega arith)
first_stays (c ∷ []) t h = absurd (omega arith)
first_stays (c ∷ (d ∷ s)) t h = go (eqb c 13 && eqb d 10) h (first_stays (d ∷ s) t)
  where
    go : (b : Bool) → length (cond b [] (c ∷ first_line (d ∷ s))) + 2 ≤ suc (suc (length s))
        → (length (first_line (d ∷ s)) + 2 ≤ suc (length s) → first_line ((d ∷ s) ++ t) ≡ first_line (d ∷ s))
        → cond b [] (c ∷ first_line ((d ∷ s) ++ t)) ≡ cond b [] (c ∷ first_line (d ∷ s))
    go true h r = refl
    go false h r = ap (λ (l : List ℕ). c ∷ l) (r (omega arith))

pub stream_line : (s t : List ℕ) → length (first_line s) + 2 ≤ length s
    → lines_of (s ++ t) ≡ first_line s ∷ lines_of (drop (length (first_line s) + 2) s ++ t)
stream_line s t h =
    lines_step (s ++ t) (rw (length-append s t) (omega arith))
    ∙ rw (first_stays s t h, drop-append-le (length (first_line s) + 2) s t h) refl
