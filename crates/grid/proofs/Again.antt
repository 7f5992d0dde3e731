-- The other way round: a text that is read, doesn't name the no-data value and has three decimals throughout gives,
-- written again, the same lines, each with its CRLF; so a text that ends in CRLF gives the same bytes. Assumes nothing.
use Rattle.std.specs.Prelude.{◌≡◌, ℕ, zero, suc, ◌+◌, ◌*◌, ◌≤◌, Bool, true, false, ◌&&◌, List, [], ◌∷◌, ◌++◌, map}
use mathlib.Core.Path.{refl, sym, ap, ◌∙◌}
use mathlib.Core.Bool.{and-false, true≢false}
use native.Mathlib.{Nat.suc-mul, Omega.arith}
use borrow.Author.Tests.{eqb-true, ltb-true, ltb-false}
use lib.{Dec.eqb, Dec.leb, Dec.ltb, ListN.length, ListN.get_or, ListN.take, ListN.drop, ListN.length-drop}
use lib.Seq.{drop-append-le, take-append-le, take_all, drop_at}
use Rattle.refusal.proofs.Laws.{and_left, and_right}
use Rattle.text.specs.{Number.is_got, Number.value_of, Number.show_thousandths, Field.joined_by, Line.onto}
use Rattle.text.specs.{Line.lines_of}
use Rattle.text.specs.Same.{same_text}
use Rattle.text.proofs.{Digits.either, Digits.got_value, Lines.lines_step}
use Rattle.grid.specs.Row.{all, values_of, is_row, has_values, has_three, row_three, level_in, row_levels, levels_of}
use Rattle.grid.specs.File.{ncols, nrows, xllcenter, yllcenter, cellsize, begins, number_after, names}
use Rattle.grid.specs.File.{sixth, head_on, named_on, frame_of, no_data_of, rows_of, first_off, fault_line}
use Rattle.grid.specs.Read.{text_frame, text_levels, read_refusal}
use Rattle.grid.specs.Write.{key_line, head_lines, row_line, row_lines, text_of, network_lines, show_network}
use Rattle.grid.proofs.{ValueLaws.all_cons, StoreLaws.length_levels, StoreLaws.levels_length}
use Rattle.grid.proofs.{FileLaws.off_keep, ReadLaws.fit_both, ReadLaws.passed}
use Rattle.grid.proofs.Values.{key_line_lem, value_three}

-- ---- lines and their text

text_onto : (c : ℕ) (l : List ℕ) (ls : List (List ℕ)) → text_of (onto c (l ∷ ls)) ≡ c ∷ text_of (l ∷ ls)
unfolding text_of
text_onto c l ls = refl

-- a byte before a text that has bytes
text_before_lem : (c : ℕ) (s : List ℕ) → 1 ≤ length s → text_of (onto c (lines_of s)) ≡ c ∷ text_of (lines_of s)
text_before_lem c s h = let e = lines_step s h in ap (λ l. text_of (onto c l)) e ∙ text_onto c _ _
    ∙ sym (ap (λ l. c ∷ text_of l) e)

-- a text that ends in CRLF is its lines, each with its CRLF
pub text_again : (t : List ℕ) → text_of (lines_of (t ++ (13 ∷ 10 ∷ []))) ≡ t ++ (13 ∷ 10 ∷ [])
unfolding text_of lines_of
text_again [] = refl
text_again (c ∷ []) = rw (and-false (eqb c 13))
text_again (c ∷ d ∷ t) =
    either (eqb c 13 && eqb d 10)
    (λ yes. let p = eqb-true c 13 (and_left (eqb c 13) (eqb d 10) yes) in
    let q = eqb-true d 10 (and_right (eqb c 13) (eqb d 10) yes) in
    rw (yes, p, q) (ap (λ s. 13 ∷ 10 ∷ s) (text_again t)))
    (λ other. rw other (text_before_lem c (d ∷ t ++ (13 ∷ 10 ∷ [])) (omega arith)
    ∙ ap (λ s. c ∷ s) (text_again (d ∷ t))))

-- ---- header lines

-- a header line is its key and its number
number_exact : (key line : List ℕ) → is_got (number_after key line) ≡ true
    → line ≡ key_line key (value_of (number_after key line))
number_exact key line e = (key_line_lem key line (value_of (number_after key line))
    (got_value (number_after key line) e)).1

-- the fifth of the header lines is there
head_there : (line : List ℕ) → is_got (number_after cellsize line) ≡ true → 1 ≤ length line
unfolding number_after begins same_text
head_there [] e = let z : false ≡ true = e in absurd (true≢false (sym z))
head_there (c ∷ line) e = omega arith

five : (l : List (List ℕ)) → 1 ≤ length (get_or l 4 [])
    → l ≡ get_or l 0 [] ∷ get_or l 1 [] ∷ get_or l 2 [] ∷ get_or l 3 [] ∷ get_or l 4 [] ∷ drop 5 l
five [] h = absurd (omega arith)
five (a ∷ []) h = absurd (omega arith)
five (a ∷ b ∷ []) h = absurd (omega arith)
five (a ∷ b ∷ c ∷ []) h = absurd (omega arith)
five (a ∷ b ∷ c ∷ d ∷ []) h = absurd (omega arith)
five (a ∷ b ∷ c ∷ d ∷ e ∷ l) h = refl

same_five : {a b c d e a' b' c' d' e' : List ℕ} → a ≡ a' → b ≡ b' → c ≡ c' → d ≡ d' → e ≡ e'
    → (l : List (List ℕ))
    → ◌≡◌ {A = List (List ℕ)} (a ∷ b ∷ c ∷ d ∷ e ∷ l) (a' ∷ b' ∷ c' ∷ d' ∷ e' ∷ l)
same_five pa pb pc pd pe l = cc

-- ---- rows

-- the values of a line, joined, are the line
join_onto : (c : ℕ) (l : List ℕ) (ls : List (List ℕ))
    → joined_by 32 (onto c (l ∷ ls)) ≡ c ∷ joined_by 32 (l ∷ ls)
unfolding joined_by
join_onto c l [] = refl
join_onto c l (m ∷ ls) = refl

values_some : (s : List ℕ) → values_of s ≡ get_or (values_of s) 0 [] ∷ drop 1 (values_of s)
unfolding values_of
values_some [] = refl
values_some (c ∷ s) =
    either (eqb c 32)
    (λ yes. rw yes)
    (λ other. rw other (ap (onto c) (values_some s) ∙ sym (some_onto c (values_of s) (values_some s))))
  where
    some_onto : (c : ℕ) (l : List (List ℕ)) → l ≡ get_or l 0 [] ∷ drop 1 l
        → get_or (onto c l) 0 [] ∷ drop 1 (onto c l) ≡ onto c (get_or l 0 [] ∷ drop 1 l)
    some_onto c [] e = refl
    some_onto c (x ∷ l) e = refl

pub values_joined : (s : List ℕ) → joined_by 32 (values_of s) ≡ s
unfolding values_of joined_by
values_joined [] = refl
values_joined (c ∷ s) =
    let e = values_some s in
    either (eqb c 32)
    (λ yes. let p = eqb-true c 32 yes in rw (yes, p) (space (values_of s) e ∙ ap (λ t. 32 ∷ t) (values_joined s)))
    (λ other. rw other (ap (λ l. joined_by 32 (onto c l)) e
    ∙ join_onto c (get_or (values_of s) 0 []) (drop 1 (values_of s)) ∙ sym (ap (λ l. c ∷ joined_by 32 l) e)
    ∙ ap (λ t. c ∷ t) (values_joined s)))
  where
    space : (l : List (List ℕ)) → l ≡ get_or l 0 [] ∷ drop 1 l → joined_by 32 ([] ∷ l) ≡ 32 ∷ joined_by 32 l
    space [] e = absurd (true≢false (sym (ap (λ x. leb 1 (length x)) e)))
    space (x ∷ l) e = refl

values_exact : (ts : List (List ℕ)) → all has_three ts ≡ true → map show_thousandths (map level_in ts) ≡ ts
values_exact [] h = refl
values_exact (t ∷ ts) h =
    let a = sym (all_cons has_three t ts) ∙ h in
    let head = sym (value_three t (and_left (has_three t) (all has_three ts) a)) in
    let rest = values_exact ts (and_right (has_three t) (all has_three ts) a) in
    rw (head, rest)

row_exact : (line : List ℕ) → row_three line ≡ true → row_line (row_levels line) ≡ line
unfolding row_line row_levels
row_exact line h = rw (values_exact (values_of line) h) (values_joined line)

-- rows of the front of some levels are those of the levels
rows_front : (columns : ℕ) (a b : List ℕ) (n : ℕ) → n * columns ≤ length a
    → row_lines columns (a ++ b) n ≡ row_lines columns a n
unfolding row_lines
rows_front columns a b zero h = refl
rows_front columns a b (suc r) h =
    let room : r * columns + columns ≤ length a = rw (suc-mul r columns) at h in
    let d = drop-append-le (r * columns) a b (omega arith) in
    let t = take-append-le columns (drop (r * columns) a) b (omega (arith, length-drop (r * columns) a)) in
    rw (d, t, rows_front columns a b r (omega arith))

rows_exact : (columns : ℕ) (rows : List (List ℕ)) → all (has_values columns) rows ≡ true
    → all row_three rows ≡ true → row_lines columns (levels_of rows) (length rows) ≡ rows
unfolding row_lines levels_of
rows_exact columns [] n t = refl
rows_exact columns (row ∷ rows) n t =
    let an = sym (all_cons (has_values columns) row rows) ∙ n in
    let at = sym (all_cons row_three row rows) ∙ t in
    let ns = and_right (has_values columns row) (all (has_values columns) rows) an in
    let here = eqb-true (length (values_of row)) columns
    (and_left (has_values columns row) (all (has_values columns) rows) an) in
    let before = levels_length columns rows ns in
    let one : take columns (drop (length rows * columns) (levels_of rows ++ row_levels row)) ≡ row_levels row =
    ap (take columns) (drop_at (levels_of rows) (row_levels row) (length rows * columns) before)
    ∙ take_all columns (row_levels row) (omega (arith, length_levels row)) in
    let line = row_exact row (and_left (row_three row) (all row_three rows) at) in
    let rest = rows_front columns (levels_of rows) (row_levels row) (length rows) (omega arith)
    ∙ rows_exact columns rows ns (and_right (row_three row) (all row_three rows) at) in
    rw (one, line, rest)

-- ---- the tests of a text that is read

off_front : (n : ℕ) (bs cs : List Bool) → first_off n (bs ++ cs) ≡ 0 → first_off n bs ≡ 0
off_front n bs cs e =
    either (ltb 0 (first_off n bs))
    (λ some. absurd (omega (
      arith,
      e,
      off_keep n bs cs (first_off n bs) (ltb-true 0 (first_off n bs) some) refl,
      ltb-true 0 (first_off n bs) some,
    )))
    (λ none. omega (arith, ltb-false 0 (first_off n bs) none))

five_on : (a b c d e : Bool) → first_off 1 (a ∷ b ∷ c ∷ d ∷ e ∷ []) ≡ 0
    → (a ≡ true) × (b ≡ true) × (c ≡ true) × (d ≡ true) × (e ≡ true)
unfolding first_off
five_on true true true true true h = (refl, refl, refl, refl, refl)
five_on true true true true false h = absurd (omega arith)
five_on true true true false e h = absurd (omega arith)
five_on true true false d e h = absurd (omega arith)
five_on true false c d e h = absurd (omega arith)
five_on false b c d e h = absurd (omega arith)

-- ---- the whole text

module _ (s : List ℕ) (headers room : ℕ) (read : read_refusal s headers room ≡ 0)
    (plain : names (sixth (lines_of s)) ≡ false) (three : all row_three (drop 5 (lines_of s)) ≡ true) where
  abbrev lines : List (List ℕ)
  lines = lines_of s

  abbrev rows : List (List ℕ)
  rows = drop 5 (lines_of s)

  rows_plain : rows_of lines ≡ rows
  unfolding rows_of
  rows_plain = rw plain

  head_passed : first_off 1 (head_on lines) ≡ 0
  unfolding fault_line
  head_passed = off_front 1 (head_on lines) (named_on lines ++ map (is_row (no_data_of lines)) (rows_of lines))
      (passed lines headers room read).fault

  -- the lines are those of the network
  lines_exact : network_lines (levels_of (rows_of lines)) (frame_of lines) ≡ lines
  unfolding frame_of
  lines_exact =
      let on = five_on _ _ _ _ _ head_passed in
      let fit = fit_both (frame_of lines) rows (rw rows_plain at (passed lines headers room read).fits) in
      let body : row_lines (frame_of lines).columns (levels_of rows) (frame_of lines).rows ≡ rows =
      ap (row_lines (frame_of lines).columns (levels_of rows)) (sym fit.0)
      ∙ rows_exact (frame_of lines).columns rows fit.1 three in
      let a = number_exact ncols (get_or lines 0 []) on.0 in
      let b = number_exact nrows (get_or lines 1 []) on.1 in
      let c = number_exact xllcenter (get_or lines 2 []) on.2 in
      let d = number_exact yllcenter (get_or lines 3 []) on.3 in
      let e = number_exact cellsize (get_or lines 4 []) on.4 in
      let split = five lines (head_there (get_or lines 4 []) on.4) in
      ap (λ r. head_lines (frame_of lines) ++ row_lines (frame_of lines).columns (levels_of r) (frame_of lines).rows)
      rows_plain
      ∙ ap (λ r. head_lines (frame_of lines) ++ r) body
      ∙ same_five (sym a) (sym b) (sym c) (sym d) (sym e) rows
      ∙ sym split

  -- written again: the same lines, each with its CRLF
  pub lines_again : show_network (text_levels s) (text_frame s) ≡ text_of (lines_of s)
  unfolding show_network
  lines_again = ap text_of lines_exact

-- a text that ends in CRLF, is read, doesn't name the no-data value and has three decimals throughout: written again,
-- the same bytes
pub network_again : (t : List ℕ) (headers room : ℕ) → let text = t ++ (13 ∷ 10 ∷ []) in
    read_refusal text headers room ≡ 0 → names (sixth (lines_of text)) ≡ false
    → all row_three (drop 5 (lines_of text)) ≡ true → show_network (text_levels text) (text_frame text) ≡ text
network_again t headers room read plain three =
    lines_again (t ++ (13 ∷ 10 ∷ [])) headers room read plain three ∙ text_again t
