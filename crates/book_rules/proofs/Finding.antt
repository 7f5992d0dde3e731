-- How an identity is found: exactly if it stands, and then by its row. Assumes nothing.
use mathlib.Core.Path.{◌≡◌, refl, sym, ap, ◌∙◌}
use mathlib.Core.{Bool.Bool, Bool.true, Bool.false, Bool.cond, Bool.true≢false, List.List, List.[], List.◌∷◌}
use Prim.Native.Nat.{ℕ, suc, ◌+◌, ◌<◌}
use native.Mathlib.{Nat.not-suc-le-zero, Omega.arith}
use lib.{ListN.length, ListN.take, ListN.drop, ListN.get_or, Seq.get_or-drop, Dec.eqb, Dec.ltb, Dec.leb-suc-suc}
use borrow.Author.Tests.{lt-ltb}
use Rattle.book_rules.specs.Columns.{first_at, index_of, stands, cells_at}
use Rattle.book_rules.specs.Lookup.{Row, found_from}
use Rattle.book_rules.specs.Lookup.Row.{nowhere, row}
use Rattle.book_rules.proofs.Cells.{cells_first, cells_next}

-- an identity that stands is found
unfoldable pub is_found : Row → Bool
is_found nowhere = false
is_found (row g m cs ls) = true

pub stands_found : (x p : ℕ) (xs gs ms cs ls : List ℕ) → stands x xs ≡ is_found (found_from x p xs gs ms cs ls)
unfolding stands index_of first_at found_from is_found
stands_found x p [] gs ms cs ls = refl
stands_found x p (y ∷ ys) gs ms cs ls =
    by (eqb y x) (stands_found x p ys (drop 1 gs) (drop 1 ms) (drop p cs) (drop p ls))
  where
    at : ℕ → Bool
    at z = eqb z x

    by : (t : Bool) → ltb (first_at at ys) (length ys)
        ≡ is_found (found_from x p ys (drop 1 gs) (drop 1 ms) (drop p cs) (drop p ls))
        → ltb (cond t 0 (suc (first_at at ys))) (suc (length ys))
        ≡ is_found (cond t (row (get_or gs 0 0) (get_or ms 0 0) (take p cs) (take p ls))
        (found_from x p ys (drop 1 gs) (drop 1 ms) (drop p cs) (drop p ls)))
    by true ih = lt-ltb 0 (suc (length ys)) (omega arith)
    by false ih = leb-suc-suc (suc (first_at at ys)) (length ys) ∙ ih

pub found_none : (r : Row) → is_found r ≡ false → r ≡ nowhere
unfolding is_found
found_none nowhere e = refl
found_none (row g m cs ls) e = absurd (true≢false e)

-- what is found of an identity that stands is its row
pub row_found_lem : (x p : ℕ) (xs gs ms cs ls : List ℕ) → index_of x xs < length xs
    → found_from x p xs gs ms cs ls
    ≡ row (get_or gs (index_of x xs) 0) (get_or ms (index_of x xs) 0) (cells_at p (index_of x xs) cs)
    (cells_at p (index_of x xs) ls)
unfolding index_of first_at found_from
row_found_lem x p [] gs ms cs ls h = absurd (not-suc-le-zero h)
row_found_lem x p (y ∷ ys) gs ms cs ls h =
    by (eqb y x) h (row_found_lem x p ys (drop 1 gs) (drop 1 ms) (drop p cs) (drop p ls))
  where
    at : ℕ → Bool
    at z = eqb z x

    row_at : (k : ℕ) (gs ms cs ls : List ℕ) → Row
    row_at k gs ms cs ls = row (get_or gs k 0) (get_or ms k 0) (cells_at p k cs) (cells_at p k ls)

    next : (k : ℕ) (vs : List ℕ) → get_or (drop 1 vs) k 0 ≡ get_or vs (suc k) 0
    next k vs =
        let e : suc k ≡ 1 + k = omega arith in get_or-drop 1 vs k 0 ∙ ap (λ n. get_or vs n 0) (sym e)

    by : (t : Bool) → cond t 0 (suc (first_at at ys)) < suc (length ys)
        → (first_at at ys < length ys
        → found_from x p ys (drop 1 gs) (drop 1 ms) (drop p cs) (drop p ls)
        ≡ row_at (first_at at ys) (drop 1 gs) (drop 1 ms) (drop p cs) (drop p ls))
        → cond t (row (get_or gs 0 0) (get_or ms 0 0) (take p cs) (take p ls))
        (found_from x p ys (drop 1 gs) (drop 1 ms) (drop p cs) (drop p ls))
        ≡ row_at (cond t 0 (suc (first_at at ys))) gs ms cs ls
    by true h ih = λ i. row (get_or gs 0 0) (get_or ms 0 0) (sym (cells_first p cs) i) (sym (cells_first p ls) i)
    by false h ih =
        let k = first_at at ys in
        ih (omega arith)
        ∙ (λ i. row (next k gs i) (next k ms i) (cells_next p k cs i) (cells_next p k ls i))
