-- One byte parts the fields of a line, and nothing else does. Assumes nothing.
use mathlib.Core.{Path.◌≡◌, Path.refl, Path.ap, Path.◌∙◌, List.List, List.[], List.◌∷◌, List.◌++◌}
use Prim.Native.Nat.{ℕ, suc, ◌+◌}
use native.Mathlib.Omega.{arith}
use borrow.Author.Tests.{eq-eqb, ne_eqb}
use Rattle.text.specs.Field.{count_of, field_of}
use Rattle.text.proofs.Fields.{count_append, up_free, after_free, up_all}
use Rattle.text_rules.specs.Texts.{Without, FieldsAre}

none_in : (d : ℕ) (s : List ℕ) → Without d s → count_of d s ≡ 0
unfolding count_of
none_in d [] h = refl
none_in d (c ∷ s) h = rw (ne_eqb c d (h 0 (omega arith))) (none_in d s (λ i l. h (suc i) (omega arith)))

count_parted : (d : ℕ) (r : List ℕ) → count_of d (d ∷ r) ≡ 1 + count_of d r
unfolding count_of
count_parted d r = rw (eq-eqb d d refl) (omega arith)

first_field : (d : ℕ) (f r : List ℕ) → Without d f → field_of d 0 (f ++ (d ∷ r)) ≡ f
unfolding field_of
first_field d f r h = up_free d f r (none_in d f h)

later_field : (d : ℕ) (f r : List ℕ) → Without d f → (k : ℕ)
    → field_of d (suc k) (f ++ (d ∷ r)) ≡ field_of d k r
unfolding field_of
later_field d f r h k = ap (field_of d k) (after_free d f r (none_in d f h))

only_field : (d : ℕ) (f : List ℕ) → Without d f → field_of d 0 f ≡ f
unfolding field_of
only_field d f h = up_all d f (none_in d f h)

pub fields_are : (d : ℕ) → FieldsAre d
fields_are d =
    record {
      first = first_field d;
      later = later_field d;
      only = only_field d;
      more = λ f r h. count_append d f (d ∷ r) ∙ omega (arith, none_in d f h, count_parted d r);
      one = none_in d;
    }
