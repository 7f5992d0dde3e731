-- A network that is on its layout and as large as its frame says is shorter than the program's room. Assumes nothing.
use Rattle.std.specs.Prelude.{◌≡◌, ℕ, zero, suc, ◌+◌, ◌*◌, ◌^◌, ◌<◌, ◌≤◌, Bool, true, false, cond, ◌&&◌, ◌||◌, List, []}
use Rattle.std.specs.Prelude.{◌∷◌, ◌++◌, map}
use mathlib.Core.Path.{refl, sym, ap, ◌∙◌}
use native.Mathlib.{Nat.mul-le-mul, Omega.arith}
use borrow.Author.Tests.{eq-eqb, eqb-true, leb-true}
use lib.{Dec.eqb, Dec.leb, ListN.length, ListN.get_or, ListN.drop, ListN.length-drop, ListN.length-append}
use Rattle.refusal.proofs.Laws.{and_left, and_right}
use Rattle.text.specs.Number.{whole_of, thousandths_of, digits_of, is_got, value_of, show_whole}
use Rattle.text.specs.{Line.onto, Line.lines_of, Same.same_text}
use Rattle.std.specs.Prelude.{Option, None}
use Rattle.text.proofs.{Digits.either, Digits.got_value, Shown.shown_width, Sames.same_equal}
use Rattle.text.proofs.Thousandths.{thousandths_exact, spelled_most}
use Rattle.network.specs.Refusals.{sided, placed}
use Rattle.network.proofs.Ranges.{FrameRange, frame_alone}
use Rattle.grid.specs.Row.{all, values_of, is_value, is_row, has_values}
use Rattle.grid.specs.File.{ncols, nrows, xllcenter, yllcenter, cellsize, no_data_word, unnamed, number_after}
use Rattle.grid.specs.File.{number_at, names, names_well, sixth, spelled_in, is_number, is_spelling}
use Rattle.grid.specs.File.{named_on, no_data_of, rows_of, first_off, frame_of, fault_line, rows_fit}
use Rattle.grid.specs.Read.{lines_refusal}
use Rattle.grid.proofs.{ReadLaws.fit_both, ValueLaws.all_cons, Values.key_line_lem}
use Rattle.contours_steps.specs.Sheet.{text_refusal, max_text}

-- ---- lists of texts, each with `more` bytes behind it

unfoldable pub total : ℕ → List (List ℕ) → ℕ
total more [] = 0
total more (l ∷ ls) = length l + more + total more ls

onto-total : (more c : ℕ) (ls : List (List ℕ)) → total more ls + 1 ≤ total more (onto c ls)
unfolding total
onto-total more c [] = omega arith
onto-total more c (l ∷ ls) = omega arith

pub lines_total : (s : List ℕ) → length s ≤ total 2 (lines_of s)
unfolding lines_of total
lines_total [] = omega arith
lines_total (c ∷ []) = omega arith
lines_total (c ∷ d ∷ s) =
    either (eqb c 13 && eqb d 10)
    (λ yes. rw yes (omega (arith, lines_total s)))
    (λ no. rw no (omega (arith, lines_total (d ∷ s), onto-total 2 c (lines_of (d ∷ s)))))

values_total : (s : List ℕ) → length s + 1 ≤ total 1 (values_of s)
unfolding values_of total
values_total [] = omega arith
values_total (c ∷ s) =
    either (eqb c 32)
    (λ yes. rw yes (omega (arith, values_total s)))
    (λ no. rw no (omega (arith, values_total s, onto-total 1 c (values_of s))))

total_front : (ls : List (List ℕ)) (n : ℕ)
    → total 2 (drop n ls) ≤ length (get_or ls n []) + 2 + total 2 (drop (suc n) ls)
unfolding total
total_front [] zero = omega arith
total_front [] (suc n) = omega arith
total_front (l ∷ ls) zero = omega arith
total_front (l ∷ ls) (suc n) = total_front ls n

-- ---- how long each text on its layout can be

got_passed : (b : Bool) (n : Option ℕ) → is_got (cond b n None) ≡ true → b ≡ true
got_passed true n h = refl
got_passed false n h = let z : ◌≡◌ {A = ℕ} 0 1 = cc in absurd (omega arith)

level_short : (t : List ℕ) → is_got (thousandths_of t) ≡ true → length t ≤ 7
level_short t h =
    let x = thousandths_exact t _ (got_value (thousandths_of t) h) in
    spelled_most t _ x.0 x.1

whole_short : (t : List ℕ) → is_got (whole_of t) ≡ true → length t ≤ 7
unfolding whole_of
whole_short t h =
    leb-true (length t) 7
    (and_right (leb 1 (length t)) (leb (length t) 7)
    (and_left (leb 1 (length t) && leb (length t) 7) _ (got_passed _ (digits_of 0 t) h)))

one_of : (a b : Bool) → (a || b) ≡ true → {P : Type 0} → (a ≡ true → P) → (b ≡ true → P) → P
one_of true b h p q = p refl
one_of false b h p q = q h

value_short : (nodata t : List ℕ) → length nodata ≤ 8 → is_value nodata t ≡ true → length t ≤ 8
value_short nodata t few h =
    one_of (is_got (thousandths_of t)) (same_text t nodata) h
    (λ l. omega (arith, level_short t l))
    (λ s. omega (arith, ap length (same_equal t nodata s)))

values_short : (nodata : List ℕ) (vs : List (List ℕ)) → length nodata ≤ 8 → all (is_value nodata) vs ≡ true
    → total 1 vs ≤ 9 * length vs
unfolding total
values_short nodata [] few h = omega arith
values_short nodata (v ∷ vs) few h =
    let e : (is_value nodata v && all (is_value nodata) vs) ≡ true = sym (all_cons (is_value nodata) v vs) ∙ h in
    omega (
      arith,
      value_short nodata v few (and_left (is_value nodata v) (all (is_value nodata) vs) e),
      values_short nodata vs few (and_right (is_value nodata v) (all (is_value nodata) vs) e),
    )

row_short : (nodata line : List ℕ) → length nodata ≤ 8 → is_row nodata line ≡ true
    → length line + 1 ≤ 9 * length (values_of line)
row_short nodata line few h = omega (arith, values_total line, values_short nodata (values_of line) few h)

-- a header line whose number has so many digits
key_short_lem : (key line : List ℕ) (k : ℕ) → is_got (number_after key line) ≡ true
    → value_of (number_after key line) < 10 ^ suc k → length line ≤ length key + suc k
key_short_lem key line k h small =
    let n = value_of (number_after key line) in
    let l = (key_line_lem key line n (got_value (number_after key line) h)).1 in
    omega (arith, ap length l, length-append key (show_whole n), shown_width 7 k n small)

number_short : (t : List ℕ) → is_number t ≡ true → length t ≤ 7
number_short t h =
    one_of (is_got (whole_of t)) (is_got (thousandths_of t)) h (λ w. whole_short t w)
    (λ l. omega (arith, level_short t l))

spelling_short : (t : List ℕ) → is_spelling t ≡ true → length t ≤ 8
spelling_short t h =
    either (eqb (get_or t 0 0) 45)
    (λ yes. let n : is_number (drop 1 t) ≡ true = rw yes at h in
    omega (arith, number_short (drop 1 t) n, length-drop 1 t))
    (λ no. let n : is_number t ≡ true = rw no at h in omega (arith, number_short t n))

named_short : (line : List ℕ) → names_well line ≡ true → length (spelled_in line) ≤ 8
unfolding names_well
named_short line h =
    spelling_short (spelled_in line)
    (and_right (eqb (get_or line (length no_data_word) 0) 32) (is_spelling (spelled_in line)) h)

-- ---- lines of which none is at fault

off_split : (n : ℕ) (b : Bool) (bs : List Bool) → 1 ≤ n → first_off n (b ∷ bs) ≡ 0
    → (b ≡ true) × (first_off (n + 1) bs ≡ 0)
unfolding first_off
off_split n true bs h e = (refl, e)
off_split n false bs h e = absurd (omega arith)

rows_total : (nodata : List ℕ) (columns n : ℕ) (rows : List (List ℕ)) → length nodata ≤ 8 → 1 ≤ n
    → first_off n (map (is_row nodata) rows) ≡ 0
    → all (has_values columns) rows ≡ true → total 2 rows ≤ length rows * (9 * columns + 1)
unfolding total
rows_total nodata columns n [] few one off fit = omega arith
rows_total nodata columns n (row ∷ rows) few one off fit =
    let s = off_split n (is_row nodata row) (map (is_row nodata) rows) one off in
    let f : (has_values columns row && all (has_values columns) rows) ≡ true =
    sym (all_cons (has_values columns) row rows) ∙ fit in
    let c : length (values_of row) ≡ columns =
    eqb-true _ _ (and_left (has_values columns row) (all (has_values columns) rows) f) in
    let r : length row + 1 ≤ 9 * columns = rw c at (row_short nodata row few s.0) in
    omega (
      arith,
      rows_total nodata columns (n + 1) rows few (omega arith) s.1
          (and_right (has_values columns row) (all (has_values columns) rows) f),
    )

module _ (ls : List (List ℕ)) (on : fault_line ls ≡ 0) (fit : rows_fit (frame_of ls) (rows_of ls) ≡ true)
    (right : (sided (frame_of ls) && placed (frame_of ls)) ≡ true) where
  rest : List Bool
  rest = named_on ls ++ map (is_row (no_data_of ls)) (rows_of ls)

  range : FrameRange (frame_of ls)
  range = (frame_alone (frame_of ls)).0 right

  head : (length (get_or ls 0 []) ≤ 9) × (length (get_or ls 1 []) ≤ 9) × (length (get_or ls 2 []) ≤ 16)
      × (length (get_or ls 3 []) ≤ 16) × (length (get_or ls 4 []) ≤ 12)
      × (first_off 6 rest ≡ 0)
  unfolding fault_line rest frame_of
  head =
      let a = off_split 1 (is_got (number_at ncols 0 ls)) _ (omega arith) on in
      let b = off_split 2 (is_got (number_at nrows 1 ls)) _ (omega arith) a.1 in
      let c = off_split 3 (is_got (number_at xllcenter 2 ls)) _ (omega arith) b.1 in
      let d = off_split 4 (is_got (number_at yllcenter 3 ls)) _ (omega arith) c.1 in
      let e = off_split 5 (is_got (number_at cellsize 4 ls)) _ (omega arith) d.1 in (
        key_short_lem ncols (get_or ls 0 []) 2 a.0 (omega (arith, range.0.1)),
        key_short_lem nrows (get_or ls 1 []) 2 b.0 (omega (arith, range.1.1)),
        key_short_lem xllcenter (get_or ls 2 []) 5 c.0 (omega (arith, range.3)),
        key_short_lem yllcenter (get_or ls 3 []) 5 d.0 (omega (arith, range.4)),
        key_short_lem cellsize (get_or ls 4 []) 2 e.0 (omega (arith, range.2.1)),
        e.1,
      )

  -- the rows, and a sixth line that names no data
  fits : (length (rows_of ls) ≡ (frame_of ls).rows) × (all (has_values (frame_of ls).columns) (rows_of ls) ≡ true)
  fits = fit_both (frame_of ls) (rows_of ls) fit

  body_total : (nodata : List ℕ) (n : ℕ) (rows : List (List ℕ)) → rows_of ls ≡ rows → length nodata ≤ 8
      → 1 ≤ n → first_off n (map (is_row nodata) rows) ≡ 0 → total 2 rows ≤ 590080
  body_total nodata n rows is few one off =
      let t = rows_total nodata (frame_of ls).columns n rows few one off (rw is at fits.1) in
      let r : length rows ≤ 256 = omega (arith, ap length is, fits.0, range.1.1) in
      let c : 9 * (frame_of ls).columns + 1 ≤ 2305 = omega (arith, range.0.1) in
      omega (arith, t, mul-le-mul r c)

  after_head_rule : total 2 (drop 5 ls) ≤ 590103
  unfolding rest no_data_of rows_of
  after_head_rule =
      either (names (sixth ls))
      (λ yes. let o : first_off 6 (names_well (sixth ls) ∷ map (is_row (spelled_in (sixth ls))) (drop 6 ls)) ≡ 0 =
      rw yes at head.5 in
      let s = off_split 6 (names_well (sixth ls)) (map (is_row (spelled_in (sixth ls))) (drop 6 ls)) (omega arith) o in
      let w = named_short (sixth ls) s.0 in
      omega (
        arith,
        total_front ls 5,
        length-drop (length no_data_word + 1) (sixth ls),
        w,
        body_total (spelled_in (sixth ls)) 7 (drop 6 ls) (rw yes refl) w (omega arith) s.1,
      ))
      (λ no. let o : first_off 6 (map (is_row unnamed) (drop 5 ls)) ≡ 0 = rw no at head.5 in
      omega (arith, body_total unnamed 6 (drop 5 ls) (rw no refl) (omega arith) (omega arith) o))

  pub lines_short : total 2 ls ≤ 590175
  lines_short =
      omega (
        arith,
        head.0,
        head.1,
        head.2,
        head.3,
        head.4,
        after_head_rule,
        total_front ls 0,
        total_front ls 1,
        total_front ls 2,
        total_front ls 3,
        total_front ls 4,
      )

-- Of a text that fills the room and is on its layout the size, spacing, origin or count of values is wrong
pub overlong_twelve : (text : List ℕ) → max_text ≤ length text → fault_line (lines_of text) ≡ 0
    → text_refusal text ≡ 12
unfolding lines_refusal
overlong_twelve text long on =
    let ls = lines_of text in
    let f = frame_of ls in
    either (rows_fit f (rows_of ls))
    (λ fit. either (sided f && placed f)
    (λ right. absurd (omega (arith, lines_total text, lines_short ls on fit right)))
    (λ no. rw (eq-eqb (fault_line ls) 0 on, fit, no) refl))
    (λ no. rw (eq-eqb (fault_line ls) 0 on, no) refl)
