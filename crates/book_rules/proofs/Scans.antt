-- Laws for what reads a column from its front: identities two by two, and rows, where what the whole says is said of
-- what is still to be read. Assumes nothing.
use mathlib.Core.{Path.◌≡◌, Path.refl, Path.sym, Path.ap, Path.◌∙◌, Bool.Bool, Bool.true, Bool.false, Bool.◌&&◌}
use mathlib.Core.{Bool.false≢true, Logic.⊎_elim}
use mathlib.Core.List.{List, [], ◌∷◌}
use Prim.Native.Nat.{ℕ, zero, suc, ◌+◌, ◌-◌, ◌*◌, ◌≤◌, ◌<◌}
use native.Mathlib.{Nat.mul-le-mul, Nat.mul-le-mul_right, Nat.suc-mul, Numerals.add-one, Omega.arith}
use lib.{ListN.length, ListN.take, ListN.drop, ListN.get_or, ListN.drop_of_length-le, Seq.drop-drop}
use mir.{Syntax.w64, Val.Fits}
use Rattle.std.specs.List.{IsAllAdjacentAnswer}
use Rattle.std.proofs.lemmas.Bool.{cases_Bool}
use Rattle.refusal.proofs.Laws.{and_left, and_right}
use Rattle.refusal.proofs.Ranges.{drop_more}
use Rattle.movement.specs.Limits.{max_rows, max_points}
use Rattle.book_rules.specs.Columns.{follows, followed, rising, row_sound, rows_sound}

-- identities that rise, two by two
rising_each : (xs : List ℕ) → ((k : ℕ) → suc k < length xs → follows (get_or xs k 0) (get_or xs (suc k) 0) ≡ true)
    → rising xs ≡ true
unfolding rising followed
rising_each [] h = refl
rising_each (x ∷ []) h = refl
rising_each (x ∷ (y ∷ ys)) h =
    rw (h 0 (omega arith)) (rising_each (y ∷ ys) (λ k i. h (suc k) (omega arith)))

rising_at : (xs : List ℕ) (k : ℕ) → rising xs ≡ true → suc k < length xs
    → follows (get_or xs k 0) (get_or xs (suc k) 0) ≡ true
unfolding rising followed
rising_at [] k e h = absurd (omega arith)
rising_at (x ∷ []) k e h = absurd (omega arith)
rising_at (x ∷ (y ∷ ys)) zero e h = and_left (follows x y) _ e
rising_at (x ∷ (y ∷ ys)) (suc k) e h = rising_at (y ∷ ys) k (and_right (follows x y) _ e) (omega arith)

-- what a test of each identity and the next answers
pub rising_answer : (xs : List ℕ) (b : Bool) → IsAllAdjacentAnswer (λ x y t. t ≡ follows x y) xs b → b ≡ rising xs
rising_answer xs true a =
    sym (rising_each xs (λ k h. ap (λ n. follows (get_or xs k 0) (get_or xs n 0)) (sym (add-one k))
    ∙ sym (a k 0 (omega arith))))
rising_answer xs false a =
    ⊎_elim (λ h. absurd (false≢true (a.2 0 ∙ ap (λ n. follows (get_or xs a.0 0) (get_or xs n 0)) (add-one a.0)
    ∙ rising_at xs a.0 h (omega (arith, a.1)))))
    sym (cases_Bool (rising xs))

-- the rows are sound so far: row i is its three values, and the part from i * p on of each column of p a row
pub room : (p i at rows cells : ℕ) → at ≡ i * p → i < rows → cells ≡ rows * p → at + p ≤ cells
room p i at rows cells e h l = omega (arith, suc-mul i p, mul-le-mul_right p h)

pub room_next : (p i at : ℕ) → at ≡ i * p → at + p ≡ (i + 1) * p
room_next p i at e = rw add-one (omega (arith, suc-mul i p))

pub rows_more : (p : ℕ) (xs gs ms cs ls : List ℕ) (i at : ℕ) {t : Bool} → i < length xs → length gs ≡ length xs
    → length ms ≡ length xs
    → t
    ≡ row_sound (get_or xs i 0) (get_or gs i 0) (get_or ms i 0) (take (at + p - at) (drop at cs))
    (take (at + p - at) (drop at ls))
    → rows_sound p (drop i xs) (drop i gs) (drop i ms) (drop at cs) (drop at ls)
    ≡ (t
    && rows_sound p (drop (i + 1) xs) (drop (i + 1) gs) (drop (i + 1) ms) (drop (at + p) cs) (drop (at + p) ls))
unfolding rows_sound
rows_more p xs gs ms cs ls i at {t} h hg hm e =
    let q : at + p - at ≡ p = omega arith in
    rw (
      drop_more xs i h,
      drop_more gs i (omega arith),
      drop_more ms i (omega arith),
      drop-drop p at cs,
      drop-drop p at ls,
      e,
      q,
    )
    refl

pub rows_end : (p : ℕ) (xs gs ms cs ls : List ℕ) (i : ℕ) → length xs ≤ i
    → rows_sound p (drop i xs) gs ms cs ls ≡ true
unfolding rows_sound
rows_end p xs gs ms cs ls i h = ap (λ (l : List ℕ). rows_sound p l gs ms cs ls) (drop_of_length-le xs h)

-- the number of values in a column of p a row fits
pub product_fits : (rows points : ℕ) → rows ≤ max_rows → points ≤ max_points → Fits w64 (rows * points)
product_fits rows points h k = let e : rows * points ≤ max_rows * max_points = mul-le-mul h k in omega arith
