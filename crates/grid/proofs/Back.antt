-- A network that can be written, written and read again, is the same network. Assumes nothing.
use Rattle.std.specs.Prelude.{ℕ, zero, suc, ◌+◌, ◌*◌, ◌≤◌, Bool, true, false}
use mathlib.Core.{Path.◌≡◌, Path.refl, Path.sym, Path.ap, Path.◌∙◌, List.List, List.[], List.◌∷◌, List.map}
use native.Mathlib.{Nat.suc-mul, Nat.zero-mul, Omega.arith}
use borrow.Author.Tests.{eq-eqb, eqb-true, eqb-false, le-leb}
use lib.{Dec.eqb, ListN.length, ListN.get_or, ListN.take, ListN.drop, ListN.length-drop, ListN.length-map}
use lib.Seq.{take-add, take_all, take_at, length-take-le}
use Rattle.text.specs.{Number.show_thousandths, Field.count_of, Line.lines_of}
use Rattle.std.specs.Prelude.{Some}
use Rattle.text.proofs.Digits.{either}
use Rattle.refusal.proofs.Laws.{and_left, and_right}
use Rattle.room.specs.Room.{front}
use Rattle.network.specs.{Edges.Checked, Limits.max_network_level, Refusals.network_refusal}
use Rattle.network.specs.declared.Frame.{Frame}
use Rattle.network.proofs.Refusals.{not_refused_lem, checked_on, checked_off}
use Rattle.grid.specs.Row.{all, values_of, is_row, has_values, row_given, row_three, row_levels, levels_of}
use Rattle.grid.specs.File.{ncols, nrows, xllcenter, yllcenter, cellsize, number_at, unnamed, names, sixth}
use Rattle.grid.specs.File.{head_on, named_on, frame_of, no_data_of, rows_of, first_off, fault_line, rows_fit}
use Rattle.grid.specs.Read.{numbers_of, header_size, text_frame, text_levels, lines_refusal, read_refusal}
use Rattle.grid.specs.Read.{header_after, levels_after}
use Rattle.grid.specs.Write.{row_line, row_at, row_lines, network_lines, show_network, write_refusal, text_after}
use Rattle.grid.specs.{Write.size_after, InnerSteps.Quiet, InnerSteps.Near}
use Rattle.grid.proofs.{FileLaws.off_append, WriteSizes.near, WriteLaws.quiet_part, WriteLaws.row_first}
use Rattle.grid.proofs.Values.{Free, lines_apart, values_apart, row_free, texts_row, texts_given, texts_three}
use Rattle.grid.proofs.Values.{texts_levels, number_back_lem, key_free, names_row}

-- ---- one row

some_apart : (vs : List ℕ) → 1 ≤ length vs → values_of (row_line vs) ≡ map show_thousandths vs
some_apart [] h = absurd (omega arith)
some_apart (v ∷ vs) h = values_apart v vs

module _ (vs : List ℕ) (some : 1 ≤ length vs) (quiet : Quiet vs) where
  row_on : is_row unnamed (row_line vs) ≡ true
  row_on = rw (some_apart vs some) (texts_row vs quiet)

  row_given_rule : row_given unnamed (row_line vs) ≡ true
  row_given_rule = rw (some_apart vs some) (texts_given vs quiet)

  row_three_rule : row_three (row_line vs) ≡ true
  row_three_rule = rw (some_apart vs some) (texts_three vs quiet)

  row_back : row_levels (row_line vs) ≡ vs
  unfolding row_levels
  row_back = rw (some_apart vs some) (texts_levels vs quiet)

  row_number : length (values_of (row_line vs)) ≡ length vs
  row_number = ap length (some_apart vs some) ∙ length-map vs show_thousandths

-- ---- all rows

module _ (columns : ℕ) (levels : List ℕ) (wide : 1 ≤ columns) (quiet : Quiet levels) where
  -- row r of a network that has it
  module _ (r : ℕ) (h : suc r * columns ≤ length levels) where
    room : r * columns + columns ≤ length levels
    room = rw (suc-mul r columns) at h

    size : length (row_at columns levels r) ≡ columns
    size = length-take-le columns (drop (r * columns) levels) (omega (arith, room, length-drop (r * columns) levels))

    calm : Quiet (row_at columns levels r)
    calm = quiet_part levels (r * columns) columns quiet room

    some : 1 ≤ length (row_at columns levels r)
    some = omega (arith, size)

    earlier : r * columns ≤ length levels
    earlier = omega (arith, room)

  every : (p : List ℕ → Bool)
      → ((r : ℕ) → suc r * columns ≤ length levels → p (row_line (row_at columns levels r)) ≡ true)
      → (rows : ℕ) → rows * columns ≤ length levels → all p (row_lines columns levels rows) ≡ true
  unfolding row_lines all
  every p h zero room = refl
  every p h (suc r) room = rw (h r room) (every p h r (earlier r room))

  rows_on : (rows : ℕ) → rows * columns ≤ length levels
      → all (is_row unnamed) (row_lines columns levels rows) ≡ true
  rows_on = every (is_row unnamed) (λ r h. row_on (row_at columns levels r) (some r h) (calm r h))

  rows_given : (rows : ℕ) → rows * columns ≤ length levels
      → all (row_given unnamed) (row_lines columns levels rows) ≡ true
  rows_given = every (row_given unnamed) (λ r h. row_given_rule (row_at columns levels r) (some r h) (calm r h))

  rows_three : (rows : ℕ) → rows * columns ≤ length levels
      → all row_three (row_lines columns levels rows) ≡ true
  rows_three = every row_three (λ r h. row_three_rule (row_at columns levels r) (some r h) (calm r h))

  rows_number : (rows : ℕ) → rows * columns ≤ length levels
      → all (has_values columns) (row_lines columns levels rows) ≡ true
  rows_number = every (has_values columns)
      (λ r h. eq-eqb _ columns (row_number (row_at columns levels r) (some r h) (calm r h) ∙ size r h))

  rows_back : (rows : ℕ) → rows * columns ≤ length levels
      → levels_of (row_lines columns levels rows) ≡ take (rows * columns) levels
  unfolding row_lines levels_of
  rows_back zero room = rw (zero-mul columns)
  rows_back (suc r) h =
      rw (row_back (row_at columns levels r) (some r h) (calm r h), rows_back r (earlier r h), suc-mul r columns)
      (sym (take-add (r * columns) columns levels))

rows_length : (columns : ℕ) (levels : List ℕ) (rows : ℕ) → length (row_lines columns levels rows) ≡ rows
unfolding row_lines
rows_length columns levels zero = refl
rows_length columns levels (suc r) = ap suc (rows_length columns levels r)

rows_free : (columns : ℕ) (levels : List ℕ) (rows : ℕ) → Free (row_lines columns levels rows)
unfolding row_lines
rows_free columns levels zero i h = absurd (omega arith)
rows_free columns levels (suc r) zero h = row_free (row_at columns levels r)
rows_free columns levels (suc r) (suc i) h = rows_free columns levels r i (omega arith)

-- tests that all hold have no first that fails
pub none_off : (n : ℕ) (p : List ℕ → Bool) (lines : List (List ℕ)) → all p lines ≡ true
    → first_off n (map p lines) ≡ 0
unfolding first_off all
none_off n p [] e = refl
none_off n p (l ∷ lines) e =
    rw (and_left (p l) (all p lines) e) (none_off (n + 1) p lines (and_right (p l) (all p lines) e))

-- the first row begins with a level
first_names : (columns : ℕ) (levels : List ℕ) (rows : ℕ) → 1 ≤ rows → 1 ≤ columns
    → rows * columns ≤ length levels → names (get_or (row_lines columns levels rows) 0 []) ≡ false
unfolding row_lines
first_names columns levels zero h wide room = absurd (omega arith)
first_names columns levels (suc r) h wide room =
    let row = row_at columns levels r in
    let n : length row ≡ columns =
    length-take-le columns (drop (r * columns) levels)
    (omega (arith, suc-mul r columns, length-drop (r * columns) levels)) in
    names_row (row_line row) (get_or row 0 0) _ (row_first row (omega arith))

-- ---- the whole text

module _ (levels : List ℕ) (f : Frame) (none : network_refusal levels f ≡ 0) where
  checks : Checked levels f
  checks = not_refused_lem levels f none

  small : Near f
  small = near levels f checks

  abbrev rows : List (List ℕ)
  rows = row_lines f.columns levels f.rows

  abbrev lines : List (List ℕ)
  lines = network_lines levels f

  full : f.rows * f.columns ≡ length levels
  full = sym checks.sized.full

  wide : 1 ≤ f.columns
  wide = omega (arith, checks.sized.sides.wide)

  held : f.rows * f.columns ≤ length levels
  held = omega (arith, full)

  free : Free (network_lines levels f)
  unfolding count_of
  free zero h = key_free ncols f.columns refl
  free (suc zero) h = key_free nrows f.rows refl
  free (suc (suc zero)) h = key_free xllcenter f.west refl
  free (suc (suc (suc zero))) h = key_free yllcenter f.south refl
  free (suc (suc (suc (suc zero)))) h = key_free cellsize f.spacing refl
  free (suc (suc (suc (suc (suc i))))) h = rows_free f.columns levels f.rows i (omega arith)

  pub lines_back : lines_of (show_network levels f) ≡ lines
  unfolding show_network
  lines_back = lines_apart (network_lines levels f) free

  -- the header's numbers
  columns_back : number_at ncols 0 lines ≡ Some f.columns
  columns_back = number_back_lem ncols f.columns (omega (arith, small.columns_most))

  height_back : number_at nrows 1 lines ≡ Some f.rows
  height_back = number_back_lem nrows f.rows (omega (arith, small.rows_most))

  west_back : number_at xllcenter 2 lines ≡ Some f.west
  west_back = number_back_lem xllcenter f.west (omega (arith, small.west_most))

  south_back : number_at yllcenter 3 lines ≡ Some f.south
  south_back = number_back_lem yllcenter f.south (omega (arith, small.south_most))

  spacing_back : number_at cellsize 4 lines ≡ Some f.spacing
  spacing_back = number_back_lem cellsize f.spacing (omega (arith, small.spacing_most))

  -- no line names the no-data value, and the rows follow
  pub sixth_row : names (sixth lines) ≡ false
  sixth_row = first_names f.columns levels f.rows (omega (arith, checks.sized.sides.tall)) wide held

  rows_lines : rows_of lines ≡ rows
  unfolding rows_of
  rows_lines = rw sixth_row

  data_lines : no_data_of lines ≡ unnamed
  unfolding no_data_of
  data_lines = rw sixth_row

  named_lines : named_on lines ≡ []
  named_lines = rw sixth_row

  frame_lines : frame_of lines ≡ f
  unfolding frame_of
  frame_lines = rw (columns_back, height_back, west_back, south_back, spacing_back)

  levels_lines : levels_of rows ≡ levels
  levels_lines = rows_back f.columns levels wide checks.quiet f.rows held
      ∙ take_all (f.rows * f.columns) levels (omega (arith, full))

  fit_lines : rows_fit f rows ≡ true
  unfolding rows_fit
  fit_lines = rw (rows_length f.columns levels f.rows, eq-eqb f.rows f.rows refl)
      (rows_number f.columns levels wide checks.quiet f.rows held)

  head_on_rule : first_off 1 (head_on lines) ≡ 0
  unfolding first_off
  head_on_rule = rw (columns_back, height_back, west_back, south_back, spacing_back)

  fault_lines : fault_line lines ≡ 0
  unfolding fault_line
  fault_lines =
      rw (named_lines, data_lines, rows_lines)
      (off_append 1 (head_on lines) (map (is_row unnamed) rows) (omega arith) head_on_rule
      ∙ none_off 6 (is_row unnamed) rows (rows_on f.columns levels wide checks.quiet f.rows held))

  -- every value of the text has three decimals
  pub three_back : all row_three (rows_of (lines_of (show_network levels f))) ≡ true
  three_back = rw (lines_back, rows_lines)
      (rows_three f.columns levels wide checks.quiet f.rows held)

  -- the frame, the levels and the refusal of the text
  pub frame_back : text_frame (show_network levels f) ≡ f
  frame_back = ap frame_of lines_back ∙ frame_lines

  pub levels_back : text_levels (show_network levels f) ≡ levels
  levels_back = ap (λ l. levels_of (rows_of l)) lines_back ∙ ap levels_of rows_lines ∙ levels_lines

  pub refusal_back : (headers level_room : ℕ) → header_size ≤ headers → length levels ≤ level_room
      → read_refusal (show_network levels f) headers level_room ≡ 0
  unfolding lines_refusal
  refusal_back headers level_room h l =
      rw (lines_back, fault_lines, rows_lines, frame_lines, data_lines, levels_lines, fit_lines)
      (checked_on max_network_level levels f _ none
      ∙ rw (
        rows_given f.columns levels wide checks.quiet f.rows held,
        le-leb header_size headers h,
        le-leb (length levels) level_room l,
      ))

-- the file that a call of `write_network` leaves, where it does not refuse
pub written_file : (levels : List ℕ) (f : Frame) (text sizes : List ℕ)
    → write_refusal levels f (length text) (length sizes) ≡ 0
    → (network_refusal levels f ≡ 0)
    × (take (get_or (size_after levels f text sizes) 0 0) (text_after levels f text sizes) ≡ show_network levels f)
written_file levels f text sizes w =
    let show = show_network levels f in
    let none : network_refusal levels f ≡ 0 =
    either (eqb (network_refusal levels f) 0)
    (λ yes. eqb-true _ 0 yes)
    (λ off. sym (checked_off max_network_level levels f _ (eqb-false (network_refusal levels f) 0 off)) ∙ w) in
    let on = eq-eqb (write_refusal levels f (length text) (length sizes)) 0 w in
    (none, rw on (take_at show (drop (length show) text) (length show) refl))

-- given to a call of `read_network` it is the same frame and the same levels
pub network_back : (levels : List ℕ) (f : Frame) (text sizes headers into : List ℕ)
    → write_refusal levels f (length text) (length sizes) ≡ 0
    → header_size ≤ length headers → length levels ≤ length into
    → let file = take (get_or (size_after levels f text sizes) 0 0) (text_after levels f text sizes) in
    (read_refusal file (length headers) (length into) ≡ 0)
    × (header_after file headers into ≡ front (numbers_of f) headers)
    × (levels_after file headers into ≡ front levels into)
network_back levels f text sizes headers into w h l =
    let file = written_file levels f text sizes w in
    let zero-now = refusal_back levels f file.0 (length headers) (length into) h l in
    let read = eq-eqb (read_refusal (show_network levels f) (length headers) (length into)) 0 zero-now in
    rw file.1 (zero-now, rw (read, frame_back levels f file.0), rw (read, levels_back levels f file.0))
