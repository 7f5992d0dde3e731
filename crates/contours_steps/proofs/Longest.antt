-- The program's room is as large as it has to be: no network text that is neither 17 nor 12 has more than 590,175
-- bytes, and one has as many, 256 rows of 256 values spelled as no data is, in eight bytes. Assumes nothing.
use Rattle.std.specs.Prelude.{ℕ, zero, suc, map, ◌+◌, ◌*◌, ◌<◌, ◌≤◌, Bool, true, false, ◌&&◌, List, [], ◌∷◌, ◌++◌}
use mathlib.Core.{Path.◌≡◌, Path.refl, Path.sym, Path.ap, Path.◌∙◌}
use native.Mathlib.Omega.{arith}
use borrow.Author.Tests.{eq-eqb, eqb-true}
use lib.{Dec.eqb, ListN.length, ListN.get_or, ListN.length-append}
use Rattle.refusal.specs.Range.{all_within}
use Rattle.text.specs.{Number.whole_of, Number.digits_of, Number.decimal_of, Number.thousandths_of}
use Rattle.text.specs.{Number.shown, Field.count_of, Field.joined_by, Line.lines_of, Same.same_text, Spelled.bytes}
use Rattle.std.specs.Prelude.{Some}
use Rattle.text.proofs.{Digits.either, Fields.count_append}
use Rattle.network.specs.declared.Frame.{Frame}
use Rattle.network.specs.{Limits.max_network_level, Refusals.sided, Refusals.placed, Refusals.filled}
use Rattle.grid.specs.Row.{all, values_of, is_value, given, is_row, has_values, row_given, levels_of}
use Rattle.grid.specs.File.{ncols, nrows, xllcenter, yllcenter, cellsize, begins, number_at, names, names_well, sixth}
use Rattle.grid.specs.File.{frame_of, no_data_of, rows_of, first_off, fault_line, rows_fit}
use Rattle.grid.specs.{Read.lines_refusal, Write.head_lines, Write.text_of}
use Rattle.grid.proofs.{Back.none_off, ReadLaws.fit_length, ValueLaws.all_cons, ValueLaws.all_none}
use Rattle.grid.proofs.Values.{Free, lines_apart, value_alone, value_apart, number_back_lem, key_free}
use Rattle.contours_steps.specs.{Sheet.text_refusal, Told.RoomNeeded}
use Rattle.contours_steps.proofs.{Overlong.total, Overlong.lines_total, Overlong.lines_short}
use Rattle.contours_steps.proofs.Within.{tells_within}

-- ---- at most so many

most : (text : List ℕ) → (text_refusal text ≡ 17 → ⊥) → (text_refusal text ≡ 12 → ⊥) → length text ≤ 590175
unfolding lines_refusal
most text off misfit =
    let ls = lines_of text in
    let f = frame_of ls in
    either (eqb (fault_line ls) 0)
    (λ on. either (rows_fit f (rows_of ls))
    (λ fit. either (sided f && placed f)
    (λ right. omega (arith, lines_total text, lines_short ls (eqb-true (fault_line ls) 0 on) fit right))
    (λ no. absurd (misfit (rw (on, fit, no) refl))))
    (λ no. absurd (misfit (rw (on, no) refl))))
    (λ no. absurd (off (rw no refl)))

-- ---- copies of a text

times : ℕ → List ℕ → List (List ℕ)
times zero t = []
times (suc n) t = t ∷ times n t

times_more : (n : ℕ) (t : List ℕ) → times (suc n) t ≡ t ∷ times n t
unfolding times
times_more n t = refl

times-length : (n : ℕ) (t : List ℕ) → length (times n t) ≡ n
unfolding times
times-length zero t = refl
times-length (suc n) t = ap suc (times-length n t)

times-all : (p : List ℕ → Bool) (n : ℕ) (t : List ℕ) → p t ≡ true → all p (times n t) ≡ true
unfolding times
times-all p zero t h = all_none p
times-all p (suc n) t h = all_cons p t (times n t) ∙ rw h (times-all p n t h)

-- ---- a row of no data

spelling : List ℕ
spelling = bytes "-999.999"

joined : ℕ → List ℕ
joined n = joined_by 32 (times (suc n) spelling)

joined-more : (n : ℕ) → joined (suc n) ≡ spelling ++ (32 ∷ joined n)
unfolding joined joined_by times
joined-more n = refl

joined_one : joined 0 ≡ spelling
unfolding joined joined_by times
joined_one = refl

joined_long : (n : ℕ) → length (joined n) + 1 ≡ 9 * suc n
unfolding spelling
joined_long zero = omega (arith, ap length joined_one)
joined_long (suc n) =
    omega (arith, ap length (joined-more n), length-append spelling (32 ∷ joined n), joined_long n)

joined_free : (n : ℕ) → count_of 13 (joined n) ≡ 0
unfolding spelling count_of
joined_free zero = ap (count_of 13) joined_one
joined_free (suc n) =
    ap (count_of 13) (joined-more n) ∙ count_append 13 spelling (32 ∷ joined n)
    ∙ omega (arith, joined_free n)

joined_values : (n : ℕ) → values_of (joined n) ≡ times (suc n) spelling
unfolding spelling count_of times
joined_values zero = ap values_of joined_one ∙ value_alone spelling refl
joined_values (suc n) =
    ap values_of (joined-more n) ∙ value_apart spelling (joined n) refl
    ∙ ap (λ (ts : List (List ℕ)). spelling ∷ ts) (joined_values n) ∙ sym (times_more (suc n) spelling)

row : List ℕ
row = joined 255

row_values : values_of row ≡ times 256 spelling
unfolding row
row_values = joined_values 255

row_long : length row + 1 ≡ 2304
unfolding row
row_long = omega (arith, joined_long 255)

row_free : count_of 13 row ≡ 0
unfolding row
row_free = joined_free 255

value_on : is_value spelling spelling ≡ true
unfolding spelling same_text thousandths_of decimal_of
value_on = refl

value_off_rule : given spelling spelling ≡ false
unfolding spelling same_text
value_off_rule = refl

row_on : is_row spelling row ≡ true
row_on = rw row_values (times-all (is_value spelling) 256 spelling value_on)

row_wide : has_values 256 row ≡ true
row_wide = eq-eqb (length (values_of row)) 256 (ap length row_values ∙ times-length 256 spelling)

row_off : row_given spelling row ≡ false
row_off = rw row_values (ap (all (given spelling)) (times_more 255 spelling)
    ∙ all_cons (given spelling) spelling (times 255 spelling) ∙ rw value_off_rule refl)

-- ---- the text

abbrev frame : Frame
frame = record { columns = 256; rows = 256; spacing = 500; west = 900000; south = 900000 }

abbrev rows : List (List ℕ)
rows = times 256 row

abbrev lines : List (List ℕ)
lines = head_lines frame ++ (bytes "NODATA_value -999.999" ∷ times 256 row)

text : List ℕ
text = text_of lines

rows_free : (n i : ℕ) → i < n → count_of 13 (get_or (times n row) i []) ≡ 0
unfolding times
rows_free zero i h = absurd (omega arith)
rows_free (suc n) zero h = row_free
rows_free (suc n) (suc i) h = rows_free n i (omega arith)

free : Free lines
unfolding count_of
free zero h = key_free ncols 256 refl
free (suc zero) h = key_free nrows 256 refl
free (suc (suc zero)) h = key_free xllcenter 900000 refl
free (suc (suc (suc zero))) h = key_free yllcenter 900000 refl
free (suc (suc (suc (suc zero)))) h = key_free cellsize 500 refl
free (suc (suc (suc (suc (suc zero))))) h = refl
free (suc (suc (suc (suc (suc (suc i)))))) h = rows_free 256 i (omega (arith, times-length 256 row))

text-lines : lines_of text ≡ lines
unfolding text
text-lines = lines_apart lines free

-- the header, and the line that names no data
columns_is : number_at ncols 0 lines ≡ Some 256
columns_is = number_back_lem ncols 256 (omega arith)

height_is_lem : number_at nrows 1 lines ≡ Some 256
height_is_lem = number_back_lem nrows 256 (omega arith)

west_is : number_at xllcenter 2 lines ≡ Some 900000
west_is = number_back_lem xllcenter 900000 (omega arith)

south_is : number_at yllcenter 3 lines ≡ Some 900000
south_is = number_back_lem yllcenter 900000 (omega arith)

spacing_is : number_at cellsize 4 lines ≡ Some 500
spacing_is = number_back_lem cellsize 500 (omega arith)

names_on : names (sixth lines) ≡ true
unfolding begins same_text
names_on = refl

names_well_lem : names_well (sixth lines) ≡ true
unfolding names_well whole_of digits_of thousandths_of decimal_of
names_well_lem = refl

data_is : no_data_of lines ≡ spelling
unfolding no_data_of spelling
data_is = rw names_on refl

rows_are : rows_of lines ≡ rows
unfolding rows_of
rows_are = rw names_on refl

frame_is : frame_of lines ≡ frame
unfolding frame_of
frame_is = rw (columns_is, height_is_lem, west_is, south_is, spacing_is) refl

-- it is on its layout, and fits its header
fault_none : fault_line lines ≡ 0
unfolding fault_line first_off
fault_none =
    rw (columns_is, height_is_lem, west_is, south_is, spacing_is, names_on, names_well_lem)
    (ap (λ (d : List ℕ). first_off 7 (map (is_row d) (rows_of lines))) data_is
    ∙ ap (λ (rs : List (List ℕ)). first_off 7 (map (is_row spelling) rs)) rows_are
    ∙ none_off 7 (is_row spelling) rows (times-all (is_row spelling) 256 row row_on))

fits : rows_fit frame rows ≡ true
unfolding rows_fit
fits = rw (times-length 256 row, times-all (has_values 256) 256 row row_wide) refl

full : filled (levels_of rows) frame ≡ true
full = eq-eqb (length (levels_of rows)) 65536 (fit_length frame rows fits)

-- and no value is given
none_given_rule : all (row_given spelling) rows ≡ false
none_given_rule =
    ap (all (row_given spelling)) (times_more 255 row) ∙ all_cons (row_given spelling) row (times 255 row)
    ∙ rw row_off refl

thirteen : text_refusal text ≡ 13
unfolding lines_refusal
thirteen =
    rw (text-lines, fault_none, frame_is, rows_are, data_is, fits, full, none_given_rule)
    (either (all_within max_network_level (levels_of rows)) (λ yes. rw yes refl) (λ no. rw no refl))

-- ---- its length

text_total : (ls : List (List ℕ)) → length (text_of ls) ≡ total 2 ls
unfolding text_of total
text_total [] = refl
text_total (l ∷ ls) = omega (arith, length-append l (13 ∷ 10 ∷ text_of ls), text_total ls)

rows_total : (n : ℕ) → total 2 (times n row) ≡ n * 2305
unfolding times total
rows_total zero = refl
rows_total (suc n) = omega (arith, row_long, rows_total n)

head_total : total 2 lines ≡ 95 + total 2 rows
unfolding total shown
head_total = omega arith

long : length text ≡ 590175
unfolding text
long = omega (arith, text_total lines, head_total, rows_total 256)

pub room_needed : RoomNeeded
room_needed =
    record {
      most = most;
      room = refl;
      longest = text;
      long = long;
      thirteen = thirteen;
      cut = let none : fault_line (lines_of text) ≡ 0 = ap fault_line text-lines ∙ fault_none in
          (tells_within text).many ((tells_within text).header (omega (arith, none)) ∙ none);
    }
