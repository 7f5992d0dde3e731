-- What is written, line by line, and what is refused, reason by reason. Assumes nothing.
use Rattle.std.specs.Prelude.{◌≡◌, ℕ, zero, suc, ◌<◌, ◌≤◌, Bool, true, false, cond, ◌&&◌, List, [], ◌∷◌, ◌++◌, map}
use mathlib.Core.Path.{refl, sym, ap, ◌∙◌}
use mathlib.Core.List.{append_assoc}
use native.Mathlib.Omega.{arith}
use borrow.Author.Tests.{eq-eqb, ne_eqb, le-leb, lt-leb}
use lib.{Dec.leb, ListN.length, ListN.get_or, ListN.length-map}
use Rattle.refusal.specs.Range.{all_within}
use Rattle.refusal.proofs.Laws.{and_left, and_right}
use Rattle.text.specs.{Number.thousandths_of, Number.is_got, Number.show_thousandths, Number.InThousandths}
use Rattle.text.specs.{Field.count_of, Line.lines_of}
use Rattle.text.proofs.{Digits.either, Digits.got_value, Fields.count_append, Free.decimal_free}
use Rattle.text.proofs.Thousandths.{thousandths_read, thousandths_exact}
use Rattle.network.specs.declared.Frame.{Frame}
use Rattle.network.specs.{Edges.edge_at, Limits.max_network_level, Refusals.sided, Refusals.placed, Refusals.filled}
use Rattle.contour_rules.specs.{Contours.Contour, Contours.bit, Contours.contours_of, Picture.picture}
use Rattle.wkt.specs.{Calls.network_text, Places.spot_of}
use Rattle.wkt.specs.Text.{show_metres, place_text, bracket, comma, points_text, lines_text, multilinestring, empty}
use Rattle.wkt.specs.Text.{text_of, points_of}
use Rattle.grid.specs.Row.{all, row_given, levels_of}
use Rattle.grid.specs.File.{frame_of, no_data_of, rows_of, fault_line, rows_fit}
use Rattle.grid.specs.Read.{header_size, text_frame, text_levels, lines_refusal}
use Rattle.grid.specs.Write as write
use Rattle.grid.proofs.{WriteSizes.text_cons, WriteSizes.text_none, ValueLaws.all_cons, ValueLaws.all_none}
use Rattle.grid.proofs.Values.{lines_apart}
use Rattle.contours_steps.specs.Words.{word_level, is_contour, max_contour_levels, words_refusal, levels_in}
use Rattle.contours_steps.specs.Sheet.{line_start, level_lines, sheet_of, max_points_drawn, text_refusal, refusal_of}
use Rattle.contours_steps.specs.Sheet.{refused_at, refused_line, written_of}
use Rattle.contours_steps.specs.Told.{heading_text, Spells, EachWord, Judged}
use Rattle.contours_steps.proofs.{Levels.word_range, Drawings.fine_both, Drawings.words_fine}

-- ---- no text of contours has a CR
metres_free : (n : ℕ) → count_of 13 (show_metres n) ≡ 0
metres_free n = decimal_free 13 (omega arith) 3 n

-- `MULTILINE` and `STRING `, apart since each byte doubles the work
front_free : count_of 13 (77 ∷ 85 ∷ 76 ∷ 84 ∷ 73 ∷ 76 ∷ 73 ∷ 78 ∷ 69 ∷ []) ≡ 0
unfolding count_of
front_free = refl

rest_free : count_of 13 (83 ∷ 84 ∷ 82 ∷ 73 ∷ 78 ∷ 71 ∷ 32 ∷ []) ≡ 0
unfolding count_of
rest_free = refl

word_free : count_of 13 multilinestring ≡ 0
word_free =
    count_append 13 (77 ∷ 85 ∷ 76 ∷ 84 ∷ 73 ∷ 76 ∷ 73 ∷ 78 ∷ 69 ∷ [])
    (83 ∷ 84 ∷ 82 ∷ 73 ∷ 78 ∷ 71 ∷ 32 ∷ [])
    ∙ rw (front_free, rest_free) refl

empty_free : count_of 13 empty ≡ 0
unfolding count_of
empty_free = refl

bracket_free : count_of 13 bracket ≡ 0
unfolding count_of
bracket_free = refl

module _ (levels : List ℕ) (f : Frame) (v : ℕ) where
  place_free : (n : ℕ) → count_of 13 (place_text levels f v n) ≡ 0
  unfolding place_text count_of
  place_free n =
      let s = spot_of levels f v (edge_at f.columns f.rows n) in
      count_append 13 (show_metres s.x) (32 ∷ show_metres s.y)
      ∙ omega (arith, metres_free s.x, metres_free s.y)

  points_free : (before ns : List ℕ) → count_of 13 before ≡ 0
      → count_of 13 (points_text levels f v before ns) ≡ 0
  unfolding points_text count_of
  points_free before [] h = refl
  points_free before (n ∷ ns) h =
      count_append 13 (before ++ place_text levels f v n) (points_text levels f v comma ns)
      ∙ omega (arith, count_append 13 before (place_text levels f v n), h, place_free n, points_free comma ns refl)

  lines_free : (before : List ℕ) (ls : List (List ℕ)) → count_of 13 before ≡ 0
      → count_of 13 (lines_text levels f v before ls) ≡ 0
  unfolding lines_text count_of
  lines_free before [] h = refl
  lines_free before (l ∷ ls) h =
      count_append 13 (before ++ points_text levels f v bracket l) (lines_text levels f v comma ls)
      ∙ omega (
        arith,
        count_append 13 before (points_text levels f v bracket l),
        h,
        points_free bracket l refl,
        lines_free comma ls refl,
      )

  text_free : (ls : List (List ℕ)) → count_of 13 (text_of levels f v ls) ≡ 0
  unfolding text_of
  text_free [] = count_append 13 multilinestring empty ∙ rw (word_free, empty_free) refl
  text_free (l ∷ ls) =
      count_append 13 multilinestring (lines_text levels f v bracket (l ∷ ls))
      ∙ rw (word_free, lines_free bracket (l ∷ ls) bracket_free) refl

  -- the line of a level, without its end
  abbrev line_of : List ℕ
  line_of = show_thousandths v ++ (59 ∷ network_text levels f v)

  line_free : count_of 13 line_of ≡ 0
  unfolding count_of
  line_free =
      count_append 13 (show_thousandths v) (59 ∷ network_text levels f v)
      ∙ omega (
        arith,
        decimal_free 13 (omega arith) 3 v,
        text_free (map (λ (c : Contour). points_of c.edges (bit c.closes))
            (contours_of (picture levels f.columns f.rows v))),
      )

-- ---- the sheet by its lines

module _ (levels : List ℕ) (f : Frame) where
  abbrev lines_in : List ℕ → List (List ℕ)
  lines_in vs = map (λ (v : ℕ). show_thousandths v ++ (59 ∷ network_text levels f v)) vs

  lines_joined : (vs : List ℕ) → level_lines levels f vs ≡ write.text_of (lines_in vs)
  unfolding level_lines
  lines_joined [] = sym text_none
  lines_joined (v ∷ vs) =
      ap (λ (t : List ℕ). (line_start v ++ (network_text levels f v ++ (13 ∷ 10 ∷ []))) ++ t) (lines_joined vs)
      ∙ regroup (show_thousandths v) (network_text levels f v) (write.text_of (lines_in vs))
      ∙ sym (text_cons (show_thousandths v ++ (59 ∷ network_text levels f v)) (lines_in vs))
    where
      regroup : (a b t : List ℕ)
          → ((a ++ (59 ∷ [])) ++ (b ++ (13 ∷ 10 ∷ []))) ++ t
          ≡ ((a ++ (59 ∷ b)) ++ (13 ∷ 10 ∷ [])) ++ t
      regroup a b t = simp append_assoc

  sheet_joined : (vs : List ℕ) → sheet_of levels f vs ≡ write.text_of (heading_text ∷ lines_in vs)
  unfolding sheet_of
  sheet_joined vs =
      ap (λ (t : List ℕ). heading_text ++ (13 ∷ 10 ∷ t)) (lines_joined vs)
      ∙ sym (text_cons heading_text (lines_in vs))

  free_each : (vs : List ℕ) (i : ℕ) → i < length (lines_in vs) → count_of 13 (get_or (lines_in vs) i []) ≡ 0
  free_each [] i h = absurd (omega arith)
  free_each (v ∷ vs) zero h = line_free levels f v
  free_each (v ∷ vs) (suc i) h = free_each vs i (omega arith)

  free_all : (vs : List ℕ) (i : ℕ) → i < suc (length (lines_in vs))
      → count_of 13 (get_or (heading_text ∷ lines_in vs) i []) ≡ 0
  unfolding count_of
  free_all vs zero h = refl
  free_all vs (suc i) h = free_each vs i (omega arith)

  sheet_lines : (vs : List ℕ) → lines_of (sheet_of levels f vs) ≡ heading_text ∷ lines_in vs
  sheet_lines vs = ap lines_of (sheet_joined vs) ∙ lines_apart (heading_text ∷ lines_in vs) (free_all vs)

-- ---- words

word_spelled : (w : List ℕ) → is_contour w ≡ true → InThousandths w (word_level w)
unfolding is_contour
word_spelled w h =
    (thousandths_exact w (word_level w) (got_value (thousandths_of w) (and_left (is_got (thousandths_of w)) _ h))).1

pub contour_spells : (w : List ℕ) → is_contour w ≡ true → Spells w
contour_spells w h =
    record { level = word_level w; least = (word_range w h).0; most = (word_range w h).1; spelled = word_spelled w h }

pub spells_contour : (w : List ℕ) → Spells w → is_contour w ≡ true
unfolding is_contour
spells_contour w s =
    rw (
      thousandths_read w s.level (omega (arith, s.most)) s.spelled,
      le-leb 1 s.level s.least,
      le-leb s.level 150000 s.most,
    ) refl

all_each : (words : List (List ℕ)) → all is_contour words ≡ true → (i : ℕ) → i < length words
    → is_contour (get_or words i []) ≡ true
all_each [] h i l = absurd (omega arith)
all_each (w ∷ words) h zero l = and_left (is_contour w) (all is_contour words) (sym (all_cons is_contour w words) ∙ h)
all_each (w ∷ words) h (suc i) l =
    all_each words (and_right (is_contour w) (all is_contour words) (sym (all_cons is_contour w words) ∙ h)) i
    (omega arith)

each_all : (words : List (List ℕ)) → ((i : ℕ) → i < length words → Spells (get_or words i []))
    → all is_contour words ≡ true
each_all [] h = all_none is_contour
each_all (w ∷ words) h =
    all_cons is_contour w words
    ∙ rw (spells_contour w (h 0 (omega arith)), each_all words (λ i l. h (suc i) (omega arith))) refl

lines_at_lem : (levels : List ℕ) (f : Frame) (words : List (List ℕ)) (i : ℕ) → i < length words
    → get_or (lines_in levels f (levels_in words)) i [] ≡ show_thousandths (word_level (get_or words i [])) ++
    (59 ∷ network_text levels f (word_level (get_or words i [])))
lines_at_lem levels f [] i l = absurd (omega arith)
lines_at_lem levels f (w ∷ words) zero l = refl
lines_at_lem levels f (w ∷ words) (suc i) l = lines_at_lem levels f words i (omega arith)

pub each_word : (text : List ℕ) (words : List (List ℕ)) → refusal_of text words ≡ 0 → EachWord text words
unfolding written_of contour_spells
each_word text words fine =
    let levels = text_levels text in
    let f = text_frame text in
    let fits = (words_fine words (fine_both text words fine).1).1.0 in
    let e : lines_of (written_of text words) ≡ heading_text ∷ lines_in levels f (levels_in words) =
    rw fine (sheet_lines levels f (levels_in words)) in
    record {
      many = ap length e ∙ omega (
        arith,
        length-map (levels_in words) (λ (v : ℕ). show_thousandths v ++ (59 ∷ network_text levels f v)),
        length-map words word_level,
      );
      heading = ap (λ (ls : List (List ℕ)). get_or ls 0 []) e;
      spell = λ i l. contour_spells (get_or words i []) (all_each words fits i l);
      line = λ i l. ap (λ (ls : List (List ℕ)). get_or ls (suc i) []) e ∙ lines_at_lem levels f words i l;
    }

-- ---- refusals

-- a text on its layout is not refused with 17
later : (text : List ℕ) → fault_line (lines_of text) ≡ 0 → text_refusal text ≡ 17 → ⊥
unfolding lines_refusal
later text z e =
    let ls = lines_of text in
    none (rows_fit (frame_of ls) (rows_of ls))
    (sided (frame_of ls) && placed (frame_of ls) && filled (levels_of (rows_of ls)) (frame_of ls))
    (all_within max_network_level (levels_of (rows_of ls)))
    (all (row_given (no_data_of ls)) (rows_of ls))
    (leb header_size header_size && leb (length (levels_of (rows_of ls))) max_points_drawn)
    (rw (eq-eqb (fault_line ls) 0 z) at e)
  where
    none : (a b c d g : Bool) → ◌≡◌ {A = ℕ} (cond a (cond b (cond c (cond d (cond g 0 14) 13) 13) 12) 12) 17
        → ⊥
    none true true true true true h = omega arith
    none true true true true false h = omega arith
    none true true true false g h = omega arith
    none true true false d g h = omega arith
    none true false c d g h = omega arith
    none false b c d g h = omega arith

off_first : (text : List ℕ) → 1 ≤ fault_line (lines_of text) → text_refusal text ≡ 17
unfolding lines_refusal
off_first text h = rw (ne_eqb (fault_line (lines_of text)) 0 (λ z. absurd (omega arith))) refl

module _ (text : List ℕ) (words : List (List ℕ)) where
  text_first : (text_refusal text ≡ 0 → ⊥) → refusal_of text words ≡ text_refusal text
  unfolding refusal_of
  text_first ne = rw (ne_eqb (text_refusal text) 0 ne) refl

  words_next : text_refusal text ≡ 0 → refusal_of text words ≡ words_refusal words
  unfolding refusal_of
  words_next z = rw z refl

  written_as : (n : ℕ) → refusal_of text words ≡ n → (n ≡ 0 → ⊥)
      → written_of text words ≡ refused_line n (refused_at text n)
  unfolding written_of
  written_as n e ne = rw (e, ne_eqb n 0 ne) refl

  unfit : all is_contour words ≡ false → words_refusal words ≡ 15
  unfolding words_refusal
  unfit h = rw h (none (leb 1 (length words)))
    where
      none : (b : Bool) → ◌≡◌ {A = ℕ} (cond (b && false) (cond (leb (length words) max_contour_levels) 0 14) 15) 15
      none true = refl
      none false = refl

  pub judged : Judged text words
  unfolding words_refusal
  judged = record {
    off_layout_rule = λ h. let e = off_first text h in
        written_as 17 (text_first (λ z. absurd (omega arith)) ∙ e) (λ z. absurd (omega arith));
    network = λ z ne. written_as (text_refusal text) (text_first ne) ne
        ∙ ap (refused_line (text_refusal text)) (rw (ne_eqb (text_refusal text) 17 (later text z)) refl);
    no_word = λ z n. written_as 15 (words_next z ∙ rw (lt-leb 1 (length words) (omega arith)) refl)
        (λ q. absurd (omega arith));
    a_word = λ z i l ne. written_as 15 (words_next z
        ∙ unfit (either (all is_contour words)
        (λ yes. absurd (ne (contour_spells (get_or words i []) (all_each words yes i l)))) (λ no. no)))
        (λ q. absurd (omega arith));
    many_words = λ z each m. written_as 14 (words_next z
        ∙ rw (le-leb 1 (length words) (omega arith), each_all words each, lt-leb (length words) 15000 m) refl)
        (λ q. absurd (omega arith));
    drawn = λ z each some few. words_next z
        ∙ rw (le-leb 1 (length words) some, each_all words each, le-leb (length words) 15000 few) refl;
  }
