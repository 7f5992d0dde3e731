-- Lines as a text, and its size. Assumes nothing.
use Rattle.std.specs.Prelude.{◌≡◌, ℕ, zero, suc, ◌+◌, ◌*◌, ◌/◌, ◌<◌, ◌≤◌, List, [], ◌∷◌, ◌++◌, map, length, get_or}
use Rattle.std.specs.Prelude.{take, drop}
use mathlib.Core.Path.{refl, sym, ap, ◌∙◌}
use mathlib.Core.List.{append_assoc, append-nil}
use native.Mathlib.{Nat.suc-mul, Nat.zero-mul, Numerals.add-one, Omega.arith}
use lib.ListN.{length-append, length-drop, drop_of_length-le}
use lib.Seq.{take-add, take_all, length-take-le, drop-cons}
use Rattle.text.specs.{Number.show_whole, Number.show_thousandths, Field.joined_by}
use Rattle.text.proofs.Shown.{whole_one, whole_longer, shown_width, decimal_long}
use Rattle.network.specs.{Edges.Checked, Limits.max_network_level, Limits.max_origin}
use Rattle.network.specs.declared.Frame.{Frame}
use Rattle.grid.specs.Write.{key_line, head_lines, row_line, row_at, row_lines, text_of, show_network}
use Rattle.grid.specs.InnerSteps.{sizes_of, Near, ended, side_lines, place_lines}

-- ---- lines as a text

pub text_cons : (line : List ℕ) (lines : List (List ℕ)) → text_of (line ∷ lines) ≡ ended line ++ text_of lines
unfolding text_of
text_cons line lines = sym (append_assoc line (13 ∷ 10 ∷ []) (text_of lines))

pub text_none : text_of [] ≡ []
unfolding text_of
text_none = refl

pub text_append_lem : (a b : List (List ℕ)) → text_of (a ++ b) ≡ text_of a ++ text_of b
unfolding text_of
text_append_lem [] b = refl
text_append_lem (l ∷ a) b = ap (λ t. l ++ (13 ∷ 10 ∷ t)) (text_append_lem a b)
    ∙ sym (append_assoc l (13 ∷ 10 ∷ text_of a) (text_of b))

pub text_length : (line : List ℕ) (lines : List (List ℕ))
    → length (text_of (line ∷ lines)) ≡ length line + 2 + length (text_of lines)
unfolding text_of
text_length line lines = length-append line (13 ∷ 10 ∷ text_of lines) ∙ omega arith

pub ended-length : (line : List ℕ) → length (ended line) ≡ length line + 2
ended-length line = length-append line (13 ∷ 10 ∷ [])

pub key-length : (key : List ℕ) (n : ℕ) → length (key_line key n) ≡ length key + length (show_whole n)
key-length key n = length-append key (show_whole n)

-- two lines and three, as they are written
pub two_lines : (a b : List ℕ) → text_of (a ∷ b ∷ []) ≡ ended a ++ ended b
two_lines a b = text_cons a (b ∷ [])
    ∙ ap (λ t. ended a ++ t) (text_cons b [] ∙ rw text_none (append-nil (ended b)))

pub three_lines : (a b c : List ℕ) → text_of (a ∷ b ∷ c ∷ []) ≡ ended a ++ (ended b ++ ended c)
three_lines a b c = text_cons a (b ∷ c ∷ []) ∙ ap (λ t. ended a ++ t) (two_lines b c)

pub two_length : (a b : List ℕ) → length (text_of (a ∷ b ∷ [])) ≡ length (ended a) + length (ended b)
two_length a b = ap length (two_lines a b) ∙ length-append (ended a) (ended b)

pub three_length : (a b c : List ℕ)
    → length (text_of (a ∷ b ∷ c ∷ [])) ≡ length (ended a) + (length (ended b) + length (ended c))
three_length a b c = ap length (three_lines a b c) ∙ length-append (ended a) (ended b ++ ended c)
    ∙ ap (λ n. length (ended a) + n) (length-append (ended b) (ended c))

pub network_text_lem : (levels : List ℕ) (f : Frame)
    → show_network levels f ≡ text_of (side_lines f) ++ text_of (place_lines f)
    ++ text_of (row_lines f.columns levels f.rows)
unfolding show_network
network_text_lem levels f =
    text_append_lem (head_lines f) (row_lines f.columns levels f.rows)
    ∙ ap (λ t. t ++ text_of (row_lines f.columns levels f.rows)) (text_append_lem (side_lines f) (place_lines f))

-- ---- sizes

-- the size of a level, by its size in units
level_size_lem : (v : ℕ) → length (show_thousandths v) ≡ length (show_whole (v / 1000)) + 4
level_size_lem v = omega (arith, decimal_long 3 v)

one_digit : (n : ℕ) → n < 10 → length (show_whole n) ≡ 1
one_digit n h = ap length (whole_one n h)

two_digits : (n : ℕ) → 10 ≤ n → n < 100 → length (show_whole n) ≡ 2
two_digits n l h = whole_longer n l (omega arith) ∙ omega (arith, one_digit (n / 10) (omega arith))

pub level_five : (v : ℕ) → v < 10000 → length (show_thousandths v) ≡ 5
level_five v h = omega (arith, level_size_lem v, one_digit (v / 1000) (omega arith))

pub level_six : (v : ℕ) → 10000 ≤ v → v < 100000 → length (show_thousandths v) ≡ 6
level_six v l h = omega (arith, level_size_lem v, two_digits (v / 1000) (omega arith) (omega arith))

pub level_seven : (v : ℕ) → 100000 ≤ v → v ≤ max_network_level → length (show_thousandths v) ≡ 7
level_seven v l h =
    let n = v / 1000 in
    omega (
      arith,
      level_size_lem v,
      whole_longer n (omega arith) (omega arith),
      two_digits (n / 10) (omega arith) (omega arith),
    )

pub sizes_more : (levels : List ℕ) (i : ℕ) → i < length levels
    → sizes_of (drop i levels) ≡ length (show_thousandths (get_or levels i 0)) + 1 + sizes_of (drop (i + 1) levels)
unfolding sizes_of
sizes_more levels i h = rw (add-one i, drop-cons levels i 0 h)

pub sizes-none : (levels : List ℕ) (i : ℕ) → length levels ≤ i → sizes_of (drop i levels) ≡ 0
unfolding sizes_of
sizes-none levels i h = ap sizes_of (drop_of_length-le levels h)

sizes_append : (a b : List ℕ) → sizes_of (a ++ b) ≡ sizes_of a + sizes_of b
unfolding sizes_of
sizes_append [] b = omega arith
sizes_append (v ∷ a) b = omega (arith, sizes_append a b)

pub row_size_lem : (v : ℕ) (vs : List ℕ) → length (row_line (v ∷ vs)) + 1 ≡ sizes_of (v ∷ vs)
unfolding row_line joined_by sizes_of
row_size_lem v [] = omega arith
row_size_lem v (w ∷ vs) = omega (
  arith,
  length-append (show_thousandths v) (32 ∷ joined_by 32 (map show_thousandths (w ∷ vs))),
  row_size_lem w vs,
)

some_size : (vs : List ℕ) → 1 ≤ length vs → length (row_line vs) + 1 ≡ sizes_of vs
some_size [] h = absurd (omega arith)
some_size (v ∷ vs) h = row_size_lem v vs

pub rows_size : (columns : ℕ) (levels : List ℕ) (rows : ℕ) → 1 ≤ columns → rows * columns ≤ length levels
    → length (text_of (row_lines columns levels rows)) ≡ sizes_of (take (rows * columns) levels) + rows
unfolding row_lines text_of sizes_of
rows_size columns levels zero h room = rw (zero-mul columns) (omega arith)
rows_size columns levels (suc r) h room =
    let at = r * columns in
    let e = suc-mul r columns in
    let row = row_at columns levels r in
    let d = length-drop at levels in
    let n : length row ≡ columns = length-take-le columns (drop at levels) (omega arith) in
    let s : sizes_of (take (suc r * columns) levels) ≡ sizes_of (take at levels) + sizes_of row =
    rw (e, take-add at columns levels) (sizes_append (take at levels) row) in
    omega (
      arith,
      length-append (row_line row) (13 ∷ 10 ∷ text_of (row_lines columns levels r)),
      some_size row (omega arith),
      rows_size columns levels r h (omega arith),
      s,
    )

pub near : (levels : List ℕ) (f : Frame) → Checked levels f → Near f
near levels f c =
    let s = c.sized.sides in
    record {
      columns_most = omega (arith, s.narrow);
      rows_most = omega (arith, s.low);
      spacing_most = omega (arith, c.near);
      west_most = c.west;
      south_most = c.south;
    }

pub network_size : (levels : List ℕ) (f : Frame) → Checked levels f
    → length (show_network levels f) ≡ length (text_of (head_lines f)) + sizes_of levels + f.rows
unfolding show_network
network_size levels f c =
    let full = c.sized.full in
    let wide = c.sized.sides.wide in
    let all : take (f.rows * f.columns) levels ≡ levels = take_all (f.rows * f.columns) levels (omega arith) in
    let rows = rows_size f.columns levels f.rows (omega arith) (omega arith) in
    ap length (text_append_lem (head_lines f) (row_lines f.columns levels f.rows))
    ∙ length-append (text_of (head_lines f)) (text_of (row_lines f.columns levels f.rows))
    ∙ omega (arith, rows, ap sizes_of all)

-- a header number has at most seven digits
pub whole_most : (n : ℕ) → n ≤ max_origin → length (show_whole n) ≤ 7
whole_most n h = shown_width 7 6 n (omega arith)

pub head_length : (f : Frame) → length (text_of (head_lines f))
    ≡ 51 + (length (show_whole f.columns) + length (show_whole f.rows)) +
    (length (show_whole f.west) + length (show_whole f.south)) + length (show_whole f.spacing)
unfolding text_of
head_length f = simp length-append (omega arith)
