-- The text of contours has as many points as they have edges, and one more a closed line. Assumes nothing.
use mathlib.Core.Path.{◌≡◌, refl, sym, ap, ◌∙◌, subst}
use mathlib.Core.{Bool.Bool, Bool.true, Bool.false, Bool.◌&&◌, Bool.cond, Logic.inl, Logic.inr, Logic.⊎_elim}
use mathlib.Core.List.{List, [], ◌∷◌, ◌++◌, map}
use Prim.Native.Nat.{ℕ, zero, suc, ◌+◌, ◌≤◌, ◌<◌}
use native.Mathlib.Omega.{arith}
use borrow.Author.Tests.{leb-true}
use lib.Dec.{leb}
use lib.ListN.{length, get_or, length-map, length-append, get_or-append}
use lib.Seq.{get_or-append-add}
use Rattle.room.specs.{Lent.Lent, Lent.LentRoom, Room.fits_in, Room.front, Room.leaves, Room.then_room}
use Rattle.room.proofs.Fronts.{front_is, length_front}
use Rattle.text.specs.{Spelled.bytes, Field.count_of}
use Rattle.network.specs.declared.Frame.{Frame}
use Rattle.network.specs.{Refusals.contour_refusal, Edges.Checked}
use Rattle.network.proofs.Refusals.{both, contour_not_refused}
use Rattle.contour_rules.specs.{Rule.lines, EachEdge.edges_at, EachEdge.CrossedNumber}
use Rattle.contour_rules.specs.Contours.{Contour, bit, contours_of, edges_of, counts_of, closed_of}
use Rattle.contour_rules.specs.Once.{sum_to}
use Rattle.contour_rules.proofs.Every.{every_crossing}
use Rattle.contour_rules.proofs.Sums.{length_counts, length_closed, sum_same, sum_add}
use Rattle.wkt.specs.{Text.place_text, Calls.network_text, Calls.Prints, Printout.parted, Printout.line_text}
use Rattle.wkt.specs.Printout.{RowPlace, ColumnPlace}
use Rattle.wkt.proofs.Printout.{places_printed, text_printed}
use Rattle.grid.specs.Read.{text_frame, text_levels}
use Rattle.contours_steps.specs.Sheet.{refusal_of}
use Rattle.contours_steps.proofs.{Drawings.fine_both, Drawings.text_checked, Telling.each_word}
use Rattle.crossing_rules.specs.Sheet.{LineShows}
use Rattle.crossing_rules.specs.OneTime.{edge_of, OneTime}
use Rattle.crossing_rules.specs.Points.{points_of, closed_ones, line_of, text_from, PlaceOf, Points, Shows, TextHolds}
use Rattle.crossing_rules.proofs.Sums.{sum_first}
use Rattle.crossing_rules.proofs.{Reading.contour_at, Reading.Tells, Reading.tells, Every.closes_if}
use Rattle.crossing_rules.proofs.{Every.one_time, Only.are_the_contours, Calling.answered_if}
use Rattle.crossing_rules.proofs.Tallies.{points_in, many_one, many_none, weight, in_text_rule}

-- ---- lists

map_at : {A B : Type 0} (h : A → B) (xs : List A) (j : ℕ) (a : A) (b : B) → j < length xs
    → get_or (map h xs) j b ≡ h (get_or xs j a)
map_at h [] j a b k = absurd (omega arith)
map_at h (x ∷ xs) zero a b k = refl
map_at h (x ∷ xs) (suc j) a b k = map_at h xs j a b (omega arith)

-- so many points in all
abbrev lengths : List (List (List ℕ)) → ℕ
lengths ls = sum_to (λ i. length (get_or ls i [])) (length ls)

module _ (levels : List ℕ) (f : Frame) (v : ℕ) where
  abbrev place : ℕ → List ℕ
  place n = place_text levels f v n

  abbrev shown : Contour → List (List ℕ)
  shown c = points_in levels f v c

  -- ---- the points of one contour

  as_many : (c : Contour) → length (shown c) ≡ points_of (length c.edges) (bit c.closes)
  as_many c = go c.closes
    where
      go : (b : Bool) → length (map place (c.edges ++ cond b (get_or c.edges 0 0 ∷ []) []))
          ≡ points_of (length c.edges) (bit b)
      go true = length-map (c.edges ++ (get_or c.edges 0 0 ∷ [])) place
          ∙ length-append c.edges (get_or c.edges 0 0 ∷ [])
      go false = length-map (c.edges ++ []) place ∙ length-append c.edges []

  point_at : (c : Contour) (j : ℕ) → j < length c.edges → get_or (shown c) j [] ≡ place (get_or c.edges j 0)
  point_at c j h =
      let more = cond c.closes (get_or c.edges 0 0 ∷ []) [] in
      map_at place (c.edges ++ more) j 0 [] (omega (arith, length-append c.edges more))
      ∙ ap place (get_or-append c.edges more 0 j h)

  first_again : (c : Contour) → c.closes ≡ true → 1 ≤ length c.edges
      → get_or (shown c) (length c.edges) [] ≡ get_or (shown c) 0 []
  first_again c e h =
      let first = get_or c.edges 0 0 in
      let n = length c.edges in
      let is : shown c ≡ map place (c.edges ++ (first ∷ [])) =
      ap (λ (b : Bool). map place (c.edges ++ cond b (first ∷ []) [])) e in
      ap (λ (ts : List (List ℕ)). get_or ts n []) is
      ∙ map_at place (c.edges ++ (first ∷ [])) n 0 [] (omega (arith, length-append c.edges (first ∷ [])))
      ∙ ap (λ (m : ℕ). place (get_or (c.edges ++ (first ∷ [])) m 0)) (omega arith)
      ∙ ap place (get_or-append-add c.edges (first ∷ []) 0 0) ∙ sym (point_at c 0 h)

  -- ---- the text of all

  same_lines : (cs : List Contour) → map (line_text levels f v) cs ≡ map (line_of levels f v) (map shown cs)
  same_lines [] = refl
  same_lines (c ∷ cs) = ap (λ (ts : List (List ℕ)). line_text levels f v c ∷ ts) (same_lines cs)

  spells : 2 ≤ f.columns → network_text levels f v
      ≡ text_from levels f v (map shown (contours_of (lines levels f.columns f.rows v)))
  spells wide = go (contours_of (lines levels f.columns f.rows v)) refl
    where
      go : (cs : List Contour) → contours_of (lines levels f.columns f.rows v) ≡ cs
          → network_text levels f v ≡ text_from levels f v (map shown cs)
      go [] e = (text_printed levels f v wide).none e
      go (c ∷ cs) e = (text_printed levels f v wide).some c cs e
          ∙ ap (λ (ts : List (List ℕ)). bytes "MULTILINESTRING (" ++ parted levels f v ts ++ bytes ")")
          (same_lines (c ∷ cs))

  line_at : (cs : List Contour) (i : ℕ) → get_or (map shown cs) i [] ≡ shown (contour_at cs i)
  line_at [] i = refl
  line_at (c ∷ cs) zero = refl
  line_at (c ∷ cs) (suc i) = line_at cs i

  -- ---- commas and brackets

  all_points : (cs : List Contour) → weight levels f v 1 0 cs ≡ lengths (map shown cs)
  unfolding weight sum_to
  all_points [] = refl
  all_points (c ∷ cs) =
      sym (sum_first (λ i. length (get_or (map shown (c ∷ cs)) i [])) (length (map shown cs))
      ∙ omega (arith, many_one (length (shown c)), all_points cs))

  all_lines : (cs : List Contour) → weight levels f v 0 1 cs ≡ length cs
  unfolding weight
  all_lines [] = refl
  all_lines (c ∷ cs) = omega (arith, many_none (length (shown c)), all_lines cs)

  commas_in : 2 ≤ f.columns → (cs : List Contour) → contours_of (lines levels f.columns f.rows v) ≡ cs
      → 0 < length cs → count_of 44 (network_text levels f v) + 1 ≡ lengths (map shown cs)
  unfolding count_of
  commas_in wide [] e h = absurd (omega arith)
  commas_in wide (c ∷ cs) e h =
      omega (
        arith,
        in_text_rule levels f v 44 1 0 (omega arith) refl refl refl refl 0 refl wide c cs e,
        all_points (c ∷ cs),
      )

  brackets_in : 2 ≤ f.columns → (cs : List Contour) → contours_of (lines levels f.columns f.rows v) ≡ cs
      → 0 < length cs → count_of 40 (network_text levels f v) ≡ length cs + 1
  unfolding count_of
  brackets_in wide [] e h = absurd (omega arith)
  brackets_in wide (c ∷ cs) e h =
      omega (
        arith,
        in_text_rule levels f v 40 0 1 (omega arith) refl refl refl refl 1 refl wide c cs e,
        all_lines (c ∷ cs),
      )

  -- ---- the theorem, of numbers that tell the contours

  place_of : Checked levels f → (n : ℕ) → CrossedNumber levels f.columns f.rows v n
      → PlaceOf levels f v n (place n)
  place_of k n c =
      let p = places_printed levels f v k in
      ⊎_elim
      (λ d. inl (record {
        edge = d;
        place = subst (λ (m : ℕ). RowPlace levels f v d.row d.col (place m)) (sym d.number)
            (p.on_row d.row d.col d.within.0 d.within.1 d.one_in);
      }))
      (λ d. inr (record {
        edge = d;
        place = subst (λ (m : ℕ). ColumnPlace levels f v d.row d.col (place m)) (sym d.number)
            (p.on_column d.row d.col d.within.0 d.within.1 d.one_in);
      })) c

  module _ (k : Checked levels f) (edges counts closed : List ℕ) (listed contours : ℕ)
      (t : Tells (contours_of (lines levels f.columns f.rows v)) edges counts closed listed contours)
      (o : OneTime levels f.columns f.rows v edges counts closed listed contours) where
    abbrev cs : List Contour
    cs = contours_of (lines levels f.columns f.rows v)

    wide : 2 ≤ f.columns
    wide = k.sized.sides.wide

    below : (i : ℕ) → i < contours → i < length cs
    below i h = omega (arith, t.contours_are)

    points_at_rule : (i : ℕ) → i < contours
        → length (get_or (map shown cs) i []) ≡ points_of (get_or counts i 0) (get_or closed i 0)
    points_at_rule i h = rw (t.count i (below i h), t.mark i (below i h))
        (ap length (line_at cs i) ∙ as_many (contour_at cs i))

    place_at : (i j : ℕ) → i < contours → j < get_or counts i 0
        → PlaceOf levels f v (edge_of edges counts i j) (get_or (get_or (map shown cs) i []) j [])
    place_at i j h l =
        let m : j < length (edges_at cs i) = omega (arith, t.count i (below i h)) in
        let e : get_or (get_or (map shown cs) i []) j [] ≡ place (edge_of edges counts i j) =
        ap (λ (ts : List (List ℕ)). get_or ts j []) (line_at cs i) ∙ point_at (contour_at cs i) j m
        ∙ ap place (sym (t.edge i j (below i h) m)) in
        rw e (place_of k (edge_of edges counts i j)
        (o.no_other (edge_of edges counts i j) i j (record { contour = h; place = l; number = refl })))

    again_at_rule : (i : ℕ) → i < contours → get_or closed i 0 ≡ 1
        → get_or (get_or (map shown cs) i []) (get_or counts i 0) [] ≡ get_or (get_or (map shown cs) i []) 0 []
    again_at_rule i h e =
        rw (line_at cs i, t.count i (below i h))
        (first_again (contour_at cs i) (closes_if (contour_at cs i).closes (sym (t.mark i (below i h)) ∙ e))
        (omega (arith, o.some i h, t.count i (below i h))))

    all_shown : lengths (map shown cs) ≡ listed + closed_ones closed contours
    all_shown =
        ap (sum_to (λ i. length (get_or (map shown cs) i []))) (length-map cs shown ∙ sym t.contours_are)
        ∙ sum_same (λ i. length (get_or (map shown cs) i [])) (λ i. points_of (get_or counts i 0) (get_or closed i 0))
        contours
        points_at_rule
        ∙ sum_add (λ i. get_or counts i 0) (λ i. get_or closed i 0) contours
        ∙ ap (λ (n : ℕ). n + closed_ones closed contours) t.start

    pub points : Points levels f v edges counts closed listed contours (network_text levels f v)
    points = record {
      lines = map shown cs;
      spelled = spells wide;
      each_contour = length-map cs shown ∙ sym t.contours_are;
      points = points_at_rule;
      places = place_at;
      repeats = again_at_rule;
      commas = λ h. commas_in wide cs refl (below 0 h) ∙ all_shown;
      brackets = λ h. brackets_in wide cs refl (below 0 h) ∙ ap (λ (n : ℕ). n + 1) (sym t.contours_are);
    }

-- ---- so the text of a network shows every crossing one time

pub text_shows : (levels : List ℕ) (f : Frame) (v : ℕ) → Checked levels f → Shows levels f v (network_text levels f v)
text_shows levels f v k =
    let g = lines levels f.columns f.rows v in
    let cs = contours_of g in
    let s = k.sized.sides in
    let d : length cs ≤ length (closed_of cs) = omega (arith, length_closed cs) in
    let t = tells cs (edges_of cs) (counts_of cs) (closed_of cs) (length (edges_of cs)) (length cs)
    (omega arith, (omega (arith, length_counts cs), d)) refl refl (λ p l. refl) (λ i l. refl) (λ i l. refl) in
    record {
      edges = edges_of cs;
      counts = counts_of cs;
      closed = closed_of cs;
      listed = length (edges_of cs);
      contours = length cs;
      one_time =
          one_time levels f.columns f.rows v s.wide s.tall cs (every_crossing g s.wide) _ _ _ _ _ t;
      shows = λ edges counts closed listed contours o. points levels f v k edges counts closed listed contours
          (are_the_contours levels f.columns f.rows v s.wide edges counts closed listed contours o) o;
    }

-- of a call that keeps its contract
module _ (levels : Lent) (f : Frame) (v : ℕ) (text size : LentRoom) (r : ℕ)
    (printed : Prints (contour_refusal levels.entry.now f v) (network_text levels.entry.now f v) text size r)
    (answered : r ≡ 0) where
  abbrev here : List ℕ
  here = levels.entry.now

  abbrev whole : List ℕ
  whole = network_text here f v

  abbrev fitting : Bool
  fitting = fits_in whole text.entry.now && fits_in (length whole ∷ []) size.entry.now

  number : then_room (contour_refusal here f v) fitting ≡ 0
  number = sym printed.number ∙ answered

  fits : (contour_refusal here f v ≡ 0) × (length whole ≤ length text.entry.now)
  fits =
      let a = answered_if (contour_refusal here f v) fitting number in
      (a.0, leb-true _ _ (both (fits_in whole text.entry.now) (leb 1 (length size.entry.now)) a.1).0)

  text_left : text.exit.now ≡ front whole text.entry.now
  text_left = printed.left_first ∙ ap (λ (m : ℕ). leaves m whole text.entry.now) number

  -- the size says how much of the room is the text
  size_left_rule : get_or size.exit.now 0 0 ≡ length whole
  size_left_rule = ap (λ (s : List ℕ). get_or s 0 0) (printed.left_second
      ∙ ap (λ (m : ℕ). leaves m (length whole ∷ []) size.entry.now) number)

  pub text_holds : TextHolds levels f v text size
  text_holds = record {
    there = rw (size_left_rule, text_left, length_front whole text.entry.now fits.1) fits.1;
    shows = rw (size_left_rule, text_left, front_is whole text.entry.now (length whole) refl)
        (text_shows here f v (contour_not_refused here f v fits.0).0);
  }

-- and of the program contours, line by line
pub line_shows : (text : List ℕ) (words : List (List ℕ)) → refusal_of text words ≡ 0 → (i : ℕ) → i < length words
    → LineShows text words i
line_shows text words fine i h =
    let e = each_word text words fine in
    let v = (e.spell i h).level in
    record {
      spells = e.spell i h;
      wkt = network_text (text_levels text) (text_frame text) v;
      line = e.line i h;
      shows = text_shows (text_levels text) (text_frame text) v (text_checked text (fine_both text words fine).0);
    }
