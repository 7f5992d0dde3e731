-- The sheet in its order: the heading, and the lines from a level on. Assumes nothing.
use Rattle.std.specs.Prelude.{ℕ, ◌+◌, ◌<◌, ◌≤◌}
use mathlib.Core.{Path.◌≡◌, Path.refl, Bool.Bool, Bool.true, List.List, List.[], List.◌++◌}
use native.Mathlib.Numerals.{add-one}
use lib.{ListN.length, ListN.get_or, ListN.drop, ListN.drop_of_length-le, Seq.drop-cons}
use Rattle.network.specs.declared.Frame.{Frame}
use Rattle.channel.specs.Due.{Due, Sends}
use Rattle.channel.proofs.Dues.{due_whole, due_front, due_rest, Rest, rest_all, rest_next_lem}
use Rattle.contours_steps.specs.Sheet.{heading, level_line, level_lines, sheet_of}

module _ (levels : List ℕ) (f : Frame) (vs : List ℕ) where
  sheet_due : Due (sheet_of levels f vs) 0 (heading ++ level_lines levels f (drop 0 vs))
  unfolding sheet_of
  sheet_due = due_whole (heading ++ level_lines levels f vs)

  sheet_rest : Rest 0 (sheet_of levels f vs) 0 (heading ++ level_lines levels f (drop 0 vs))
  unfolding sheet_of
  sheet_rest = rest_all 0 (heading ++ level_lines levels f vs)

  -- the heading is due, and then the lines from the first level on, which end the sheet
  pub heading_due : Due (sheet_of levels f vs) 0 heading
  heading_due = due_front heading (level_lines levels f (drop 0 vs)) sheet_due

  pub lines_due : (at : ℕ) → at ≡ 0 + length heading
      → Due (sheet_of levels f vs) at (level_lines levels f (drop 0 vs))
  lines_due at e = rw e (due_rest heading (level_lines levels f (drop 0 vs)) sheet_due)

  pub lines_rest : {at : ℕ} {r : Bool} → r ≡ true → Sends 0 heading r at
      → Rest 0 (sheet_of levels f vs) at (level_lines levels f (drop 0 vs))
  lines_rest e s = rest_next_lem heading (level_lines levels f (drop 0 vs)) sheet_rest e s

  pub lines_more : (i : ℕ) → i < length vs
      → level_lines levels f (drop i vs) ≡ level_line levels f (get_or vs i 0) ++ level_lines levels f
      (drop (i + 1) vs)
  unfolding level_lines
  lines_more i h = rw (add-one i, drop-cons vs i 0 h) refl

  pub lines_none : (i : ℕ) → length vs ≤ i → level_lines levels f (drop i vs) ≡ []
  unfolding level_lines
  lines_none i h = rw (drop_of_length-le vs {i = i} h) refl
