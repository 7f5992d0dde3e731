-- `contours::draw`: the network that was stored is the text's, and the levels in front of their room are the words'.
-- Assumes nothing.
use mathlib.Core.{Path.◌≡◌, Path.sym, List.List}
use Rattle.std.specs.Prelude.{ℕ, ◌*◌, ◌≤◌}
use native.Mathlib.Omega.{arith}
use lib.{ListN.length, ListN.get_or, Seq.length-take-le}
use Rattle.grid.specs.Read.{text_frame, text_levels}
use Rattle.contours_steps.specs.{Sheet.text_refusal, InnerDrawing.Stored}
use Rattle.contours_steps.proofs.Drawings.{given_fine, words_front, frame_back, points_are, accepted}
use Rattle.contours.proofs.draw.Goals as goal
use Rattle.contours.proofs.draw.Goals.{Start}

-- as many points as the text has levels
points : {text header levels : List ℕ} → Stored text header levels → text_refusal text ≡ 0
    → get_or header 1 0 * get_or header 0 0 ≡ length (text_levels text)
points {text} {header} {levels} st z = rw st.numbers (sym (points_are text z))

inside : (s : Start)
    → get_or s.args.header.now 1 0 * get_or s.args.header.now 0 0 ≤ length s.args.levels.now
inside s = omega (arith, points s.requires.stored s.requires.text_value, s.requires.stored.fits)

pub slice_bounds-sheet-end-2 : goal.slice_bounds-sheet-end-2
slice_bounds-sheet-end-2 c =
    sym (length-take-le _ _ (omega (arith, (given_fine c.args.given c.requires.given_value).1, c.requires.asked_len)))

pub sheet-requires : goal.sheet-requires
sheet-requires c =
    let r = c.requires in
    let st = r.stored in
    let frame = frame_back c.args.header.now (text_frame c.args.text.now) st.numbers in
    let words = words_front r.gathered r.given_value r.asked_len in
    let given = accepted r.gathered r.text_value r.given_value in
    record {
      read_whole = r.read_whole;
      accepted = given (rw (points st r.text_value) st.front) frame words;
      sent_value = r.sent_value;
    }

pub overflow_mul-points : goal.overflow_mul-points
overflow_mul-points c = omega (arith, inside (goal.at.overflow_mul-points c).Start)

pub slice_bounds-sheet-end : goal.slice_bounds-sheet-end
slice_bounds-sheet-end c = sym (length-take-le _ _ (inside (goal.at.slice_bounds-sheet-end c).Start))
