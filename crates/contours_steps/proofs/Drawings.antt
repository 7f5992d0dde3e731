-- What is accepted can be drawn, and what is written is then the sheet; what is refused is written as its line. Assumes
-- nothing.
use Rattle.std.specs.Prelude.{◌≡◌, ℕ, zero, suc, ◌*◌, ◌<◌, ◌≤◌, eqb, leb, length, get_or, take, drop, replicate}
use mathlib.Core.Path.{refl, sym, ap, ◌∙◌}
use mathlib.Core.{Bool.Bool, Bool.true, Bool.false, Bool.cond, Bool.◌&&◌, List.List, List.[], List.◌∷◌}
use native.Mathlib.Omega.{arith}
use borrow.Author.Tests.{eq-eqb, ne_eqb, eqb-true, leb-true}
use lib.ListN.{length-map, length-append}
use lib.Seq.{take-append_seam}
use Rattle.refusal.specs.Range.{all_within}
use Rattle.refusal.proofs.Laws.{and_left, and_right, refuse_none}
use Rattle.text.specs.Line.{lines_of}
use Rattle.text.proofs.Digits.{either}
use Rattle.room.specs.Room.{front}
use Rattle.network.specs.declared.Frame.{Frame}
use Rattle.network.specs.{Edges.Checked, Limits.max_network_level, Limits.least_contour, Limits.max_contour}
use Rattle.network.specs.Refusals.{sided, placed, filled}
use Rattle.network.proofs.Refusals.{is_checked}
use Rattle.grid.specs.{Row.all, Row.levels_of, File.frame_of, File.rows_of, File.fault_line, File.rows_fit}
use Rattle.grid.specs.Read.{header_size, numbers_of, text_frame, text_levels, lines_refusal, read_refusal, header_after}
use Rattle.grid.specs.Read.{levels_after}
use Rattle.grid.proofs.{WriteLaws.points_most, ValueLaws.all_cons}
use Rattle.contours_steps.proofs.{Levels.word_range, Gathering.words_given}
use Rattle.contours_steps.specs.declared.words.Given.{Given}
use Rattle.contours_steps.specs.Words.{word_level, is_contour, max_contour_levels, words_refusal, given_refusal}
use Rattle.contours_steps.specs.Words.{levels_in, Gathered}
use Rattle.contours_steps.specs.Sheet.{max_points_drawn, text_refusal, refusal_of, refused_at, refused_line}
use Rattle.contours_steps.specs.{Sheet.sheet_of, Sheet.written_of, Drawing.Accepted, Drawing.Refused}
use Rattle.contours_steps.specs.InnerDrawing.{Stored, Drawable}

-- no refusal is none of the text and none of the words
pub fine_both : (text : List ℕ) (words : List (List ℕ)) → refusal_of text words ≡ 0
    → (text_refusal text ≡ 0) × (words_refusal words ≡ 0)
unfolding refusal_of
fine_both text words h =
    either (eqb (text_refusal text) 0)
    (λ yes. (eqb-true (text_refusal text) 0 yes, rw yes at h))
    (λ no. let z : text_refusal text ≡ 0 = rw no at h in let t = eq-eqb (text_refusal text) 0 z in
    let never : true ≡ false = sym t ∙ no in let n : ◌≡◌ {A = ℕ} 0 1 = cc in absurd (omega arith))

-- a text that is not refused has a network that can be drawn
pub text_checked : (text : List ℕ) → text_refusal text ≡ 0 → Checked (text_levels text) (text_frame text)
unfolding lines_refusal
text_checked text h =
    let ls = lines_of text in
    let a = (refuse_none 17 (eqb (fault_line ls) 0) _ (omega arith) h).1 in
    let b = (refuse_none 12 (rows_fit (frame_of ls) (rows_of ls)) _ (omega arith) a).1 in
    let c =
    refuse_none 12 (sided (frame_of ls) && placed (frame_of ls) && filled (levels_of (rows_of ls)) (frame_of ls)) _
    (omega arith) b in
    let d = refuse_none 13 (all_within max_network_level (levels_of (rows_of ls))) _ (omega arith) c.1 in
    is_checked (text_levels text) (text_frame text) c.0 d.0

words_range : (words : List (List ℕ)) → all is_contour words ≡ true → (i : ℕ) → i < length (levels_in words)
    → (least_contour ≤ get_or (levels_in words) i 0) × (get_or (levels_in words) i 0 ≤ max_contour)
words_range [] h i l = absurd (omega arith)
words_range (w ∷ words) h zero l =
    word_range w (and_left (is_contour w) (all is_contour words) (sym (all_cons is_contour w words) ∙ h))
words_range (w ∷ words) h (suc i) l =
    words_range words (and_right (is_contour w) (all is_contour words) (sym (all_cons is_contour w words) ∙ h)) i
    (omega arith)

pub words_fine : (words : List (List ℕ)) → words_refusal words ≡ 0
    → (1 ≤ length words) × ((all is_contour words ≡ true) × (length words ≤ max_contour_levels))
unfolding words_refusal
words_fine words h =
    let a = refuse_none 15 (leb 1 (length words) && all is_contour words) _ (omega arith) h in
    let b = refuse_none 14 (leb (length words) max_contour_levels) 0 (omega arith) a.1 in (
      leb-true _ _ (and_left (leb 1 (length words)) (all is_contour words) a.0),
      (and_right (leb 1 (length words)) (all is_contour words) a.0, leb-true _ _ b.0),
    )

module _ {text room levels asked : List ℕ} {g : Given} {f : Frame} (a : Accepted text g room levels f asked) where
  pub drawable : Drawable levels f asked
  drawable =
      let ws = a.given.words in
      let fine = fine_both text ws a.fine in
      let w = words_fine ws fine.1 in
      rw (a.network, a.frame, a.order) (record {
        checked = text_checked text fine.0;
        few = omega (arith, length-map ws word_level, w.1.1);
        least = λ i l. (words_range ws w.1.0 i l).0;
        most = λ i l. (words_range ws w.1.0 i l).1;
      })

  -- what is written is the sheet
  pub accepted_written : written_of text a.given.words ≡ sheet_of levels f asked
  unfolding written_of
  accepted_written = rw (a.fine, a.network, a.frame, a.order) refl

-- what is written is the line
pub refused_written : {text room : List ℕ} {g : Given} {number line : ℕ} (r : Refused text g room number line)
    → written_of text r.given.words ≡ refused_line number line
unfolding written_of
refused_written {text} {room} {g} {number} {line} r = rw (← r.why, ne_eqb number 0 r.some, ← r.at) refl

-- the text's refusal comes before that of the words
pub refused_text_lem : {text room : List ℕ} {g : Given} {number line : ℕ} → Gathered g room
    → number ≡ text_refusal text → (number ≡ 0 → ⊥) → line ≡ refused_at text number
    → Refused text g room number line
unfolding refusal_of
refused_text_lem {text} {room} {g} {number} {line} k e ne l =
    record { given = k; some = ne; why = rw (← e, ne_eqb number 0 ne) refl; at = l }

pub refused_words : {text room : List ℕ} {g : Given} {number : ℕ} → Gathered g room → text_refusal text ≡ 0
    → number ≡ given_refusal g → (number ≡ 0 → ⊥)
    → Refused text g room number 0
unfolding refusal_of given_refusal
refused_words {text} {room} {g} {number} k z e ne =
    record { given = k; some = ne; why = rw (z, words_given k) e; at = line }
  where
    number_is : (b c : Bool) → ◌≡◌ {A = ℕ} (cond b (cond c 0 14) 15) 17 → ⊥
    number_is true true h = omega arith
    number_is true false h = omega arith
    number_is false c h = omega arith

    line : 0 ≡ refused_at text number
    line =
        rw
        (ne_eqb number 17 (λ q. number_is (leb 1 g.count && g.fit) (leb g.count max_contour_levels) (sym e
        ∙ q))) refl

-- a network and words that are not refused
pub accepted : {text room levels asked : List ℕ} {g : Given} {f : Frame} (k : Gathered g room)
    → text_refusal text ≡ 0 → given_refusal g ≡ 0 → levels ≡ text_levels text → f ≡ text_frame text
    → asked ≡ levels_in k.words → Accepted text g room levels f asked
unfolding refusal_of
accepted k z w l f a = record { given = k; fine = rw z (words_given k ∙ w); network = l; frame = f; order = a }

-- ---- what was stored

pub given_fine : (g : Given) → given_refusal g ≡ 0 → (g.fit ≡ true) × (g.count ≤ max_contour_levels)
unfolding given_refusal
given_fine g h =
    let a = refuse_none 15 (leb 1 g.count && g.fit) _ (omega arith) h in
    let b = refuse_none 14 (leb g.count max_contour_levels) 0 (omega arith) a.1 in
    (and_right (leb 1 g.count) g.fit a.0, leb-true _ _ b.0)

-- the levels at the front of the words' room
pub words_front : {g : Given} {room : List ℕ} (k : Gathered g room) → given_refusal g ≡ 0
    → length room ≡ max_contour_levels → take g.count room ≡ levels_in k.words
words_front {g} {room} k z long =
    let f = given_fine g z in
    rw k.count (k.stored f.0 (omega (arith, k.count, f.1)))

-- the frame of five numbers
pub frame_back : (header : List ℕ) (f : Frame) → header ≡ numbers_of f
    → ◌≡◌ {A = Frame}
    (record {
      columns = get_or header 0 0;
      rows = get_or header 1 0;
      spacing = get_or header 2 0;
      west =
          get_or header 3 0;
      south = get_or header 4 0;
    }) f
frame_back header f e = rw e refl

-- as many points as the frame says
pub points_are : (text : List ℕ) → text_refusal text ≡ 0
    → length (text_levels text) ≡ (text_frame text).rows * (text_frame text).columns
points_are text z = (text_checked text z).sized.full

pub stored : {text header header' levels' : List ℕ} (levels : List ℕ) → text_refusal text ≡ 0
    → header ≡ replicate 5 0 → length levels ≡ max_points_drawn
    → header' ≡ header_after text header levels → levels' ≡ levels_after text header levels
    → Stored text header' levels'
stored {text} {header} {header'} {levels'} levels z five room h l =
    let k = text_checked text z in
    let few = points_most (text_levels text) (text_frame text).columns (text_frame text).rows k.sized in
    let five' : length header ≡ header_size = ap length five in
    let r : read_refusal text (length header) (length levels) ≡ 0 = rw (five', room) z in
    let h' : header' ≡ numbers_of (text_frame text) = h ∙ rw (r, five) refl in
    let l' : levels' ≡ front (text_levels text) levels = l ∙ rw r refl in
    record {
      five = ap length h';
      numbers = h';
      fits = rw (l', length-append (text_levels text) (drop (length (text_levels text)) levels)) (omega arith);
      front = rw l' (take-append_seam (text_levels text) (drop (length (text_levels text)) levels));
    }
