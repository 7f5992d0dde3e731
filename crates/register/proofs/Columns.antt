-- Laws of a row's columns, over the column: its text reads back, has no comma and at most eight bytes, and a field
-- that was
-- read is the text of its value. Assumes nothing.
use Rattle.std.specs.Prelude.{ℕ, zero, suc, ◌<◌, ◌≤◌}
use mathlib.Core.{Path.◌≡◌, Path.refl, Path.sym, Path.ap, Path.◌∙◌, List.List, List.[], Bool.false, Bool.◌&&◌}
use native.Mathlib.Omega.{arith}
use borrow.Author.Tests.{le-leb, lt-leb, eq-eqb, ne_eqb, leb-true, eqb-true, eqb-false}
use lib.{ListN.length, Dec.leb, Dec.eqb}
use Rattle.refusal.proofs.Laws.{and_left, and_right}
use Rattle.text.specs.{Number.level_of, Number.show_level, Field.count_of}
use Rattle.std.specs.Prelude.{Some}
use Rattle.text.proofs.Digits.{either, whole_small}
use Rattle.text.proofs.Shown.{whole_back, level_back, shown_width, level_most, level_least}
use Rattle.text.proofs.{Exact.whole_exact, Exact.level_exact, Exact.level_small, Free.shown_free, Free.level_free}
use Rattle.register.specs.Cell.{level_or_blank, row_cell, limits_cell, shown_cell, cell_text}
use Rattle.register.specs.InnerCell.{blank_cell, top_of}
use Rattle.text.proofs.{Clocks.time_back, Clocks.time_free, Clocks.time_exact, Letters.letter_exact}
use Rattle.register.proofs.Letters.{type_back, kind_back_lem, type_free, kind_free}

-- the columns from the sixth on are levels
sixth : (P : ℕ → Type 0) → ((i : ℕ) → P (suc (suc (suc (suc (suc i)))))) → (k : ℕ) → 5 ≤ k → P k
sixth P p zero h = absurd (omega arith)
sixth P p (suc zero) h = absurd (omega arith)
sixth P p (suc (suc zero)) h = absurd (omega arith)
sixth P p (suc (suc (suc zero))) h = absurd (omega arith)
sixth P p (suc (suc (suc (suc zero)))) h = absurd (omega arith)
sixth P p (suc (suc (suc (suc (suc i))))) h = p i

pub cell_level : (k : ℕ) → 5 ≤ k → (t : List ℕ) → row_cell k t ≡ level_or_blank t
unfolding row_cell
cell_level k h t = sixth (λ j. row_cell j t ≡ level_or_blank t) (λ i. refl) k h

pub shown_level : (k : ℕ) → 5 ≤ k → (v : ℕ) → shown_cell k v ≡ show_level v
unfolding shown_cell
shown_level k h v = sixth (λ j. shown_cell j v ≡ show_level v) (λ i. refl) k h

pub top_level_lem : (k : ℕ) → 5 ≤ k → top_of k ≡ 100000
unfolding top_of
top_level_lem k h = sixth (λ j. top_of j ≡ 100000) (λ i. refl) k h

pub cell_limit : (k : ℕ) (t : List ℕ) → (k ≡ 0 → ⊥) → limits_cell k t ≡ level_of t
unfolding limits_cell
cell_limit zero t h = absurd (h refl)
cell_limit (suc k) t h = refl

-- the text of a column: a level that is left blank, and any other
pub text_blank : (mark k v : ℕ) → 5 ≤ k → mark ≡ 0 → cell_text mark k v ≡ []
unfolding cell_text
text_blank mark k v h e = rw (le-leb 5 k h, eq-eqb mark 0 e)

pub text_marked : (mark k v : ℕ) → (mark ≡ 0 → ⊥) → cell_text mark k v ≡ shown_cell k v
unfolding cell_text
text_marked mark k v e = either (leb 5 k) (λ yes. rw (yes, ne_eqb mark 0 e)) (λ no. rw no)

pub text_head : (mark k v : ℕ) → k < 5 → cell_text mark k v ≡ shown_cell k v
unfolding cell_text
text_head mark k v h = rw (lt-leb 5 k h)

-- a level, blank or not
level_filled : (t : List ℕ) → (length t ≡ 0 → ⊥) → level_or_blank t ≡ level_of t
unfolding level_or_blank
level_filled t h = rw (ne_eqb (length t) 0 h)

-- the text of a value reads back, has no comma, and at most eight bytes
pub shown_back_lem : (k v : ℕ) → v < top_of k → row_cell k (shown_cell k v) ≡ Some v
unfolding row_cell shown_cell top_of
shown_back_lem zero v h = whole_back v h
shown_back_lem (suc zero) v h = type_back v h
shown_back_lem (suc (suc zero)) v h = whole_back v h
shown_back_lem (suc (suc (suc zero))) v h = kind_back_lem v h
shown_back_lem (suc (suc (suc (suc zero)))) v h = time_back v h
shown_back_lem (suc (suc (suc (suc (suc i))))) v h = level_filled (show_level v) (λ e. omega (arith, level_least v))
    ∙ level_back v h

pub shown_no_comma : (k v : ℕ) → v < top_of k → count_of 44 (shown_cell k v) ≡ 0
unfolding shown_cell top_of
shown_no_comma zero v h = shown_free 44 (omega arith) 7 v
shown_no_comma (suc zero) v h = type_free v h
shown_no_comma (suc (suc zero)) v h = shown_free 44 (omega arith) 7 v
shown_no_comma (suc (suc (suc zero))) v h = kind_free v h
shown_no_comma (suc (suc (suc (suc zero)))) v h = time_free 44 v (omega arith)
shown_no_comma (suc (suc (suc (suc (suc i))))) v h = level_free 44 (omega arith) v

pub shown_most : (k v : ℕ) → v < top_of k → length (shown_cell k v) ≤ 8
unfolding shown_cell top_of
shown_most zero v h = omega (arith, shown_width 7 6 v h)
shown_most (suc zero) v h = omega arith
shown_most (suc (suc zero)) v h = omega (arith, shown_width 7 6 v h)
shown_most (suc (suc (suc zero))) v h = omega arith
shown_most (suc (suc (suc (suc zero)))) v h = omega arith
shown_most (suc (suc (suc (suc (suc i))))) v h = omega (arith, level_most v h)

-- the same of the text of a column, where a value that is left blank is zero
module _ (mark k v : ℕ) (h : v < top_of k) where
  blank_or : (P : List ℕ → Type 0) → P [] → P (shown_cell k v) → P (cell_text mark k v)
  unfolding cell_text
  blank_or P p q = either (leb 5 k && eqb mark 0) (λ yes. rw yes p) (λ no. rw no q)

  pub text_no_comma : count_of 44 (cell_text mark k v) ≡ 0
  unfolding count_of
  text_no_comma = blank_or (λ t. count_of 44 t ≡ 0) refl (shown_no_comma k v h)

  pub text_most : length (cell_text mark k v) ≤ 8
  text_most = blank_or (λ t. length t ≤ 8) (omega arith) (shown_most k v h)

  pub text_back : (mark ≡ 0 → 5 ≤ k → v ≡ 0) → row_cell k (cell_text mark k v) ≡ Some v
  unfolding cell_text level_or_blank
  text_back zeros =
      either (leb 5 k && eqb mark 0)
      (λ yes. let five = leb-true 5 k (and_left (leb 5 k) (eqb mark 0) yes) in
      let none = eqb-true mark 0 (and_right (leb 5 k) (eqb mark 0) yes) in
      rw yes (cell_level k five [] ∙ ap Some (sym (zeros none five))))
      (λ no. rw no (shown_back_lem k v h))

-- a field that was read is the text of its value, and the value has a text
pub cell_exact : (k : ℕ) (t : List ℕ) (v : ℕ) → row_cell k t ≡ Some v → blank_cell k t ≡ false
    → (t ≡ shown_cell k v) × (v < top_of k)
unfolding row_cell shown_cell top_of
cell_exact zero t v e b = (whole_exact t v e, whole_small t v e)
cell_exact (suc zero) t v e b = letter_exact _ t v e
cell_exact (suc (suc zero)) t v e b = (whole_exact t v e, whole_small t v e)
cell_exact (suc (suc (suc zero))) t v e b = letter_exact _ t v e
cell_exact (suc (suc (suc (suc zero)))) t v e b = time_exact t v e
cell_exact (suc (suc (suc (suc (suc i))))) t v e b =
    let filled : eqb (length t) 0 ≡ false = rw (le-leb 5 (suc (suc (suc (suc (suc i))))) (omega arith)) at b in
    let q = sym (level_filled t (eqb-false (length t) 0 filled)) ∙ e in
    (level_exact t v q, level_small t v q)

-- a level that is left blank is zero
blank_zero : (t : List ℕ) → length t ≡ 0 → level_or_blank t ≡ Some 0
unfolding level_or_blank
blank_zero t l = rw (eq-eqb (length t) 0 l)

pub cell_blank : (k : ℕ) (t : List ℕ) (v : ℕ) → 5 ≤ k → row_cell k t ≡ Some v → length t ≡ 0 → v ≡ 0
cell_blank k t v h e l =
    let q : Some 0 ≡ Some v = sym (blank_zero t l) ∙ sym (cell_level k h t) ∙ e in
    let z : 0 ≡ v = cc in
    sym z
