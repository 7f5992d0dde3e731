-- Lists of tests, lines and values by their places. Assumes nothing.
use Prim.Native.Nat.{ℕ, zero, suc, ◌+◌, ◌-◌, ◌*◌, ◌≤◌, ◌<◌}
use mathlib.Core.{Path.◌≡◌, Path.refl, Path.sym, Path.ap, Path.◌∙◌, List.List, List.[], List.◌∷◌, List.map}
use mathlib.Core.Bool.{Bool, true, false, ◌&&◌}
use native.Mathlib.{Nat.suc-mul, Nat.mul-le-mul_right, Omega.arith}
use borrow.Author.Tests.{eqb-true, eqb-false}
use lib.{Dec.eqb, ListN.length, ListN.get_or, ListN.get_or-append, Seq.get_or-append-add}
use Rattle.refusal.proofs.Laws.{and_left, and_right}
use Rattle.text.specs.{Line.onto, Field.count_of, Field.up_to, Field.after, Field.field_of}
use Rattle.text.proofs.Digits.{either}
use Rattle.grid.specs.{Row.all, Row.values_of, Row.has_values, Row.level_in, Row.row_levels, Row.levels_of}
use Rattle.grid.specs.{File.first_off}
use Rattle.grid.proofs.{StoreLaws.levels_length, ValueLaws.all_cons}

-- ---- tests

-- where no test fails, the test at each place holds
pub test_at : (n : ℕ) (bs : List Bool) → 1 ≤ n → first_off n bs ≡ 0 → (i : ℕ) → get_or bs i true ≡ true
unfolding first_off
test_at n [] h e i = refl
test_at n (true ∷ bs) h e zero = refl
test_at n (true ∷ bs) h e (suc i) = test_at (n + 1) bs (omega arith) e i
test_at n (false ∷ bs) h e i = absurd (omega arith)

pub all-at : {A : Type 0} (p : A → Bool) (xs : List A) (d : A) → all p xs ≡ true → (i : ℕ)
    → i < length xs → p (get_or xs i d) ≡ true
all-at p [] d e i h = absurd (omega arith)
all-at p (x ∷ xs) d e zero h = and_left (p x) (all p xs) (sym (all_cons p x xs) ∙ e)
all-at p (x ∷ xs) d e (suc i) h =
    all-at p xs d (and_right (p x) (all p xs) (sym (all_cons p x xs) ∙ e)) i (omega arith)

pub map_at : {A B : Type 0} (f : A → B) (xs : List A) (d : A) (e : B) (i : ℕ) → i < length xs
    → get_or (map f xs) i e ≡ f (get_or xs i d)
map_at f [] d e i h = absurd (omega arith)
map_at f (x ∷ xs) d e zero h = refl
map_at f (x ∷ xs) d e (suc i) h = map_at f xs d e i (omega arith)

-- ---- the values of a line are its fields

onto_first_lem : (c : ℕ) (l : List (List ℕ)) → get_or (onto c l) 0 [] ≡ c ∷ get_or l 0 []
onto_first_lem c [] = refl
onto_first_lem c (x ∷ l) = refl

onto_later : (c : ℕ) (l : List (List ℕ)) (k : ℕ) → get_or (onto c l) (suc k) [] ≡ get_or l (suc k) []
onto_later c [] k = refl
onto_later c (x ∷ l) k = refl

onto-length : (c n : ℕ) (l : List (List ℕ)) → length l ≡ suc n → length (onto c l) ≡ suc n
onto-length c n [] e = absurd (omega arith)
onto-length c n (x ∷ l) e = e

no_field : (k : ℕ) → field_of 32 k [] ≡ []
unfolding field_of up_to after
no_field zero = refl
no_field (suc k) = no_field k

pub value_field : (s : List ℕ) (k : ℕ) → get_or (values_of s) k [] ≡ field_of 32 k s
unfolding values_of field_of up_to after
value_field [] zero = refl
value_field [] (suc k) = sym (no_field k)
value_field (c ∷ s) zero =
    either (eqb c 32)
    (λ yes. rw yes refl)
    (λ other. rw other (onto_first_lem c (values_of s) ∙ ap (λ (t : List ℕ). c ∷ t) (value_field s 0)))
value_field (c ∷ s) (suc k) =
    either (eqb c 32)
    (λ yes. rw yes (value_field s k))
    (λ other. rw other (onto_later c (values_of s) k ∙ value_field s (suc k)))

pub value_count : (s : List ℕ) → length (values_of s) ≡ suc (count_of 32 s)
unfolding values_of count_of
value_count [] = refl
value_count (c ∷ s) =
    either (eqb c 32)
    (λ yes. rw yes (ap suc (value_count s)))
    (λ other. rw other (onto-length c (count_of 32 s) (values_of s) (value_count s)))

-- ---- the levels of rows, from the south row on

pub level_at_lem : (columns : ℕ) (rows : List (List ℕ)) → all (has_values columns) rows ≡ true → (r c : ℕ)
    → r < length rows → c < columns
    → get_or (levels_of rows) (r * columns + c) 0 ≡ level_in (field_of 32 c (get_or rows (length rows - suc r) []))
unfolding levels_of row_levels
level_at_lem columns [] e r c h w = absurd (omega arith)
level_at_lem columns (row ∷ rows) e r c h w =
    let both : (has_values columns row && all (has_values columns) rows) ≡ true =
    sym (all_cons (has_values columns) row rows) ∙ e in
    let here = eqb-true (length (values_of row)) columns
    (and_left (has_values columns row) (all (has_values columns) rows) both) in
    let rest = and_right (has_values columns row) (all (has_values columns) rows) both in
    let size = levels_length columns rows rest in
    either (eqb r (length rows))
    (λ north. let same = eqb-true r (length rows) north in
    let place : r * columns + c ≡ length (levels_of rows) + c = ap (λ (n : ℕ). n * columns + c) same
    ∙ ap (λ (n : ℕ). n + c) (sym size) in
    let first : suc (length rows) - suc r ≡ 0 = omega arith in
    rw (place, first)
    (get_or-append-add (levels_of rows) (map level_in (values_of row)) c 0
    ∙ map_at level_in (values_of row) [] 0 c (omega arith)
    ∙ ap level_in (value_field row c)))
    (λ other. let less : r < length rows = omega (arith, eqb-false r (length rows) other) in
    let room : suc r * columns ≤ length rows * columns = mul-le-mul_right columns less in
    let room' : r * columns + columns ≤ length rows * columns = rw (suc-mul r columns) at room in
    let later : suc (length rows) - suc r ≡ suc (length rows - suc r) = omega arith in
    rw later (get_or-append (levels_of rows) (map level_in (values_of row)) 0 (r * columns + c) (omega arith)
    ∙ level_at_lem columns rows rest r c less w))
