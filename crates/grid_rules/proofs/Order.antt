-- A text is refused with 17, 12, 13 or 14, in this order, exactly where the rules say. Assumes nothing.
use Prim.Native.Nat.{ℕ, zero, suc, ◌+◌, ◌-◌, ◌*◌, ◌≤◌, ◌<◌}
use mathlib.Core.{Path.◌≡◌, Path.refl, Path.sym, Path.ap, Path.◌∙◌, List.List, List.[]}
use mathlib.Core.Bool.{Bool, true, cond, ◌&&◌, true≢false}
use native.Mathlib.Omega.{arith}
use borrow.Author.Tests.{eqb-true, eqb-false, eq-eqb, leb-true, le-leb}
use lib.{Dec.eqb, Dec.leb, ListN.length, ListN.get_or, ListN.drop, ListN.length-drop}
use Rattle.refusal.specs.Range.{all_within}
use Rattle.refusal.proofs.{Laws.and_left, Ranges.within_at}
use Rattle.text.specs.{Line.lines_of, Field.count_of, Field.field_of, Spelled.bytes}
use Rattle.text.proofs.Digits.{either}
use Rattle.network.specs.{Limits.max_network_level, Refusals.sided, Refusals.placed, Refusals.filled}
use Rattle.network.specs.declared.Frame.{Frame}
use Rattle.network.proofs.Refusals.{both}
use Rattle.grid.specs.Row.{all, values_of, given, has_values, row_given, level_in, levels_of}
use Rattle.grid.specs.File.{no_data_of, rows_of, fault_line, rows_fit}
use Rattle.grid.specs.Read.{header_size, text_frame, lines_refusal, read_refusal}
use Rattle.grid.proofs.ReadLaws.{fit_length}
use Rattle.grid_rules.specs.Laid.{line, Behind, Sized}
use Rattle.grid_rules.specs.Refused.{LineOn, Fault, InRange, Given, AllGiven, Refused, NoDataRefused}
use Rattle.grid_rules.proofs.Places.{all-at, value_field, value_count, level_at_lem}
use Rattle.grid_rules.proofs.Said.{headed, five_there, six_there, fit, wide, row_line, sized}
use Rattle.grid_rules.proofs.{Lines.all_from, Layouts.behind, Layouts.fault_from}
use Rattle.grid_rules.proofs.Ordered.{Ordered, ordered, one_test_lem, both_true}
use Rattle.grid_rules.proofs.Sound.{range_on, range_passes, levels_within, row_within, level_of_lem, given_is}
use Rattle.grid_rules.proofs.Sound.{given_other}

module _ (text : List ℕ) where
  abbrev lines : List (List ℕ)
  lines = lines_of text

  abbrev rows : List (List ℕ)
  rows = rows_of (lines_of text)

  abbrev f : Frame
  f = text_frame text

  abbrev fitting : Bool
  fitting = rows_fit (text_frame text) (rows_of (lines_of text)) &&
      (sided (text_frame text) && placed (text_frame text) && filled (levels_of (rows_of (lines_of text)))
      (text_frame text))

  abbrev ready : Bool
  ready = all_within max_network_level (levels_of (rows_of (lines_of text))) && all
      (row_given (no_data_of (lines_of text)))
      (rows_of (lines_of text))

  abbrev enough : ℕ → ℕ → Bool
  enough headers room = leb header_size headers && leb (length (levels_of (rows_of (lines_of text)))) room

  in_order : (headers room : ℕ)
      → read_refusal text headers room ≡ cond (eqb (fault_line lines) 0)
      (cond fitting (cond ready (cond (enough headers room) 0 14) 13) 12) 17
  unfolding lines_refusal
  in_order headers room =
      let last : ℕ = cond (enough headers room) 0 14 in
      let g = all (row_given (no_data_of lines)) rows in
      let u = all_within max_network_level (levels_of rows) in
      let s = sided f && placed f && filled (levels_of rows) f in
      ap (λ (x : ℕ). cond (eqb (fault_line lines) 0) (cond (rows_fit f rows) (cond s x 12) 12) 17)
      (one_test_lem u g last 13)
      ∙ ap (λ (x : ℕ). cond (eqb (fault_line lines) 0) x 17) (one_test_lem (rows_fit f rows) s (cond ready last 13) 12)

  -- the rows start in line `first`, and such is the spelling of no data
  module _ (first : ℕ) (nodata : List ℕ) (start : rows_of lines ≡ drop first lines)
      (spelling : no_data_of lines ≡ nodata)
      (there : first ≤ length lines) where
    row_place : (k : ℕ) → first ≤ k → get_or rows (k - first) [] ≡ line text k
    row_place k h =
        let place : first + (k - first) ≡ k = omega arith in
        row_line lines first start (k - first) ∙ ap (λ (j : ℕ). get_or lines j []) place

    row_inside : (k : ℕ) → first ≤ k → k < length lines → k - first < length rows
    row_inside k h l = omega (arith, ap length start, length-drop first lines)

    fits_on : fitting ≡ true → Sized text f first × InRange f
    fits_on e =
        let b = both (rows_fit f rows) (sided f && placed f && filled (levels_of rows) f) e in (
          sized lines first b.0 start there text refl,
          range_on f (both (sided f && placed f) (filled (levels_of rows) f) b.1).0,
        )

    rows_number : Sized text f first → length rows ≡ f.rows
    rows_number s = omega (arith, s.height, ap length start, length-drop first lines)

    rows_fit_here : Sized text f first → rows_fit f rows ≡ true
    unfolding rows_fit
    rows_fit_here s =
        both_true (eqb (length rows) f.rows) (all (has_values f.columns) rows)
        (eq-eqb (length rows) f.rows (rows_number s))
        (all_from (has_values f.columns) rows []
        (λ i h. let inside : i < f.rows = omega (arith, rows_number s) in
        let number = ap (λ (l : List ℕ). length (values_of l)) (row_line lines first start i)
        ∙ value_count (line text (first + i)) in
        eq-eqb (length (values_of (get_or rows i []))) f.columns (number ∙ omega (arith, s.width i inside))))

    fits_pass : Sized text f first → InRange f → fitting ≡ true
    fits_pass s r =
        let fit-now = rows_fit_here s in
        both_true (rows_fit f rows) (sided f && placed f && filled (levels_of rows) f) fit-now
        (both_true (sided f && placed f) (filled (levels_of rows) f) (range_passes f r)
        (eq-eqb (length (levels_of rows)) (f.rows * f.columns) (fit_length f rows fit-now)))

    -- every value is given
    sound_on : ((k : ℕ) → LineOn text first nodata k) → rows_fit f rows ≡ true → ready ≡ true
        → AllGiven text first nodata
    sound_on on fits e k c h l in_row =
        let b = both (all_within max_network_level (levels_of rows)) (all (row_given (no_data_of lines)) rows) e in
        let j = k - first in
        let inside = row_inside k h l in
        let same = row_place k h in
        let t = field_of 32 c (line text k) in
        let in-values : c < length (values_of (get_or rows j [])) = rw same
        (omega (arith, value_count (line text k))) in
        let g = all-at (given (no_data_of lines)) (values_of (get_or rows j [])) []
        (all-at (row_given (no_data_of lines)) rows [] b.1 j inside) c in-values in
        let g-here : given nodata t ≡ true = rw (spelling, value_field (get_or rows j []) c, same) at g in
        let other = given_other nodata t g-here in
        let level = (on k).row h l c in_row other in
        let r = length rows - suc j in
        let back : length rows - suc r ≡ j = omega arith in
        let level_is : get_or (levels_of rows) (r * f.columns + c) 0 ≡ level_in t =
        level_at_lem f.columns rows (fit lines first fits start there).1 r c (omega arith)
        (omega (arith, wide lines first fits start there j inside))
        ∙ ap level_in (ap (λ (i : ℕ). field_of 32 c (get_or rows i [])) back ∙ ap (field_of 32 c) same) in
        record {
          other = other;
          number = level.number;
          most = omega (
            arith,
            within_at max_network_level (levels_of rows) (r * f.columns + c) b.0,
            level_is,
            level_of_lem t level.number level.most level.is,
          );
          is = level.is;
        }

    sound_passes : AllGiven text first nodata → ready ≡ true
    sound_passes all-given =
        let value : (i c : ℕ) → i < length rows → c ≤ count_of 32 (get_or rows i [])
        → Given nodata (field_of 32 c (get_or rows i [])) =
        λ i c h in_row. (
        let same = row_line lines first start i in
        let inside : first + i < length lines = omega (arith, ap length start, length-drop first lines) in
        let in_line_rule : c ≤ count_of 32 (line text (first + i)) = rw same at in_row in
        rw same (all-given (first + i) c (omega arith) inside in_line_rule)
        ) in
        both_true (all_within max_network_level (levels_of rows)) (all (row_given (no_data_of lines)) rows)
        (levels_within max_network_level rows
        (λ i h. row_within max_network_level (get_or rows i [])
        (λ c in_row. let v = value i c h in_row in
        omega (arith, v.most, level_of_lem _ v.number (omega (arith, v.most)) v.is))))
        (all_from (row_given (no_data_of lines)) rows []
        (λ i h. all_from (given (no_data_of lines)) (values_of (get_or rows i [])) []
        (λ c l. let v = value i c h (omega (arith, value_count (get_or rows i []))) in
        rw (spelling, value_field (get_or rows i []) c) (given_is nodata (field_of 32 c (get_or rows i [])) v.other))))

  -- 17, 12, 13, 14, each exactly where the rules say
  refused_from : (headers room first : ℕ) (nodata : List ℕ) → Fault text (fault_line lines) first nodata
      → rows_of lines ≡ drop first lines
      → no_data_of lines ≡ nodata → (fault_line lines ≡ 0 → first ≤ length lines)
      → Refused text headers room (read_refusal text headers room) f first nodata
  refused_from headers room first nodata fault start spelling there =
      let n = read_refusal text headers room in
      let o : Ordered (eqb (fault_line lines) 0) fitting ready (enough headers room) n =
      rw (in_order headers room) (ordered (eqb (fault_line lines) 0) fitting ready (enough headers room)) in
      let none : eqb (fault_line lines) 0 ≡ true → fault_line lines ≡ 0 = λ e. eqb-true (fault_line lines) 0 e in
      let fit-now : fitting ≡ true → rows_fit f rows ≡ true =
      λ e. and_left (rows_fit f rows) (sided f && placed f && filled (levels_of rows) f) e in
      let number : fitting ≡ true → length (levels_of rows) ≡ f.rows * f.columns =
      λ e. fit_length f rows (fit-now e) in
      record {
        off = λ e on. off_line (fault_line lines) (eqb-false (fault_line lines) 0 (o.off e))
            (λ k s. fault.here k s (on k));
        on = λ h. fault.none (none (o.on h));
        head = λ h. headed text (none (o.on h));
        misfit = λ e s r. let m = o.misfit e in
            true≢false (sym (fits_pass first nodata start spelling (there (none m.0)) s r) ∙ m.1);
        fits = λ g h. fits_on first nodata start spelling (there (none (o.on g))) (o.fits g h);
        unsound = λ e s. let m = o.unsound e in
            true≢false (sym (sound_passes first nodata start spelling (there (none m.0)) s) ∙ m.2);
        sound = λ g h i. sound_on first nodata start spelling (there (none (o.on g)))
            (fault.none (none (o.on g))) (fit-now (o.fits g h)) (o.sound g h i);
        narrow = λ e h l. let m = o.narrow e in
            let full = number m.1 in
            true≢false (sym (both_true (leb header_size headers) (leb (length (levels_of rows)) room)
            (le-leb 5 headers h) (le-leb (length (levels_of rows)) room (omega arith))) ∙ m.2);
        roomy = λ e. let m = o.roomy e in
            let b = both (leb header_size headers) (leb (length (levels_of rows)) room) m.2 in (
              leb-true header_size headers b.0,
              omega (arith, number m.1, leb-true (length (levels_of rows)) room b.1),
            );
        known = o.known;
      }
    where
      off_line : (n : ℕ) → (n ≡ 0 → ⊥) → ((k : ℕ) → n ≡ suc k → ⊥) → ⊥
      off_line zero h g = h refl
      off_line (suc k) h g = g k refl

  pub refused : (headers room : ℕ)
      → Behind text (Refused text headers room (read_refusal text headers room) (text_frame text))
  refused headers room =
      behind text (Refused text headers room (read_refusal text headers room) (text_frame text))
      (λ first nodata low high word name rest start spelling.
      refused_from headers room first nodata (fault_from text first nodata low high word name rest) start spelling
      (λ none. either (eqb first 6)
      (λ yes. let six = eqb-true first 6 yes in omega (arith, six_there text none (word six)))
      (λ other. omega (arith, five_there text none, eqb-false first 6 other))))

  -- no data is 13
  no_data_from : (n first : ℕ) (nodata : List ℕ) (headers room : ℕ)
      → Refused text headers room n (text_frame text) first nodata
      → NoDataRefused text n (text_frame text) first nodata
  no_data_from n first nodata headers room r on size range k c h l in_row same =
      either (eqb n 13)
      (λ yes. eqb-true n 13 yes)
      (λ other. absurd ((r.sound (λ e. r.off e on) (λ e. r.misfit e size range)
      (eqb-false n 13 other) k c h l in_row).other same))

  pub no_data_refused : (headers room : ℕ)
      → Behind text (NoDataRefused text (read_refusal text headers room) (text_frame text))
  no_data_refused headers room =
      let n = read_refusal text headers room in
      let r = refused headers room in
      record {
        named = λ word. no_data_from n 6 (drop 13 (line text 5)) headers room (r.named word);
        unnamed = λ other. no_data_from n 5 (bytes "-9999") headers room (r.unnamed other);
      }
