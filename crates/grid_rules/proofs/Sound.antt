-- Frames in range, and values that are given: the tests that 12 and 13 go by. Assumes nothing.
use Prim.Native.Nat.{ℕ, suc, ◌≤◌, ◌<◌}
use mathlib.Core.Path.{◌≡◌, refl, sym, ap, ◌∙◌}
use mathlib.Core.{List.List, List.[], List.◌∷◌, List.◌++◌, List.map, Bool.true, Bool.◌&&◌, Bool.true≢false}
use native.Mathlib.Omega.{arith}
use borrow.Author.Tests.{not-true}
use lib.{ListN.length, ListN.get_or, ListN.length-map}
use Rattle.refusal.specs.Range.{all_within}
use Rattle.refusal.proofs.Ranges.{within_each}
use Rattle.text.specs.{Field.count_of, Field.field_of, Number.value_of, Number.InThousandths, Same.same_text}
use Rattle.text.proofs.{Digits.either, Thousandths.thousandths_read, Sames.same_equal, Sames.same_self}
use Rattle.network.specs.Refusals.{sided, placed}
use Rattle.network.specs.declared.Frame.{Frame}
use Rattle.network.proofs.Ranges.{frame_alone}
use Rattle.grid.specs.Row.{values_of, given, level_in, row_levels, levels_of}
use Rattle.grid.proofs.ReadLaws.{up_append}
use Rattle.grid_rules.specs.Refused.{InRange}
use Rattle.grid_rules.proofs.{Places.map_at, Places.value_field, Places.value_count, Ordered.both_true}

-- ---- 12

pub range_on : (f : Frame) → (sided f && placed f) ≡ true → InRange f
range_on f h = let r = (frame_alone f).0 h in
    record { columns = r.0; rows = r.1; spacing = r.2; west = r.3; south = r.4 }

pub range_passes : (f : Frame) → InRange f → (sided f && placed f) ≡ true
range_passes f r = (frame_alone f).1 (r.columns, r.rows, r.spacing, r.west, r.south)

-- ---- 13

within_append : (top : ℕ) (a b : List ℕ) → all_within top a ≡ true → all_within top b ≡ true
    → all_within top (a ++ b) ≡ true
within_append top a b p q = up_append top a b ∙ both_true (all_within top a) (all_within top b) p q

pub levels_within : (top : ℕ) (rows : List (List ℕ))
    → ((k : ℕ) → k < length rows → all_within top (row_levels (get_or rows k [])) ≡ true)
    → all_within top (levels_of rows) ≡ true
unfolding levels_of all_within
levels_within top [] h = refl
levels_within top (row ∷ rows) h =
    within_append top (levels_of rows) (row_levels row) (levels_within top rows (λ k l. h (suc k) (omega arith)))
    (h 0 (omega arith))

pub row_within : (top : ℕ) (row : List ℕ)
    → ((c : ℕ) → c ≤ count_of 32 row → level_in (field_of 32 c row) ≤ top)
    → all_within top (row_levels row) ≡ true
unfolding row_levels
row_within top row h =
    within_each top (map level_in (values_of row))
    (λ i l. let inside : i < length (values_of row) = omega (arith, length-map (values_of row) level_in) in
    let place : i ≤ count_of 32 row = omega (arith, value_count row) in
    rw (map_at level_in (values_of row) [] 0 i inside, value_field row i) (h i place))

-- a level's text has that level
pub level_of_lem : (t : List ℕ) (n : ℕ) → n < 1000000 → InThousandths t n → level_in t ≡ n
level_of_lem t n h e = ap value_of (thousandths_read t n h e)

pub given_is : (nodata t : List ℕ) → (t ≡ nodata → ⊥) → given nodata t ≡ true
given_is nodata t other =
    either (same_text t nodata) (λ yes. absurd (other (same_equal t nodata yes))) (λ off. rw off refl)

pub given_other : (nodata t : List ℕ) → given nodata t ≡ true → t ≡ nodata → ⊥
given_other nodata t g e =
    true≢false (sym (ap (λ (s : List ℕ). same_text s nodata) e ∙ same_self nodata)
    ∙ not-true (same_text t nodata) g)
