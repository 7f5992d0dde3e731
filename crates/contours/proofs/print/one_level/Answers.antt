-- `contours::print::one_level` meets its contract: the start, the text and the end are due one behind the other.
-- Assumes nothing.
use Rattle.std.specs.Prelude.{ℕ, List, ◌++◌, get_or}
use mathlib.Core.Path.{sym, ◌∙◌}
use Rattle.wkt.specs.Calls.{network_text}
use Rattle.contours_steps.specs.Sheet.{line_end, line_start}
use Rattle.channel.proofs.Dues.{due_front, due_rest, sends_lost, sends_then}
use Rattle.contours.proofs.print.one_level.Goals as goal
use Rattle.contours.proofs.print.one_level.Goals.{Start, then-start, else-start}

-- the level, and the text of its contours
abbrev v : Start → ℕ
v s = get_or s.args.asked.now s.args.i 0

abbrev text : Start → List ℕ
text s = network_text s.args.levels.now s.args.frame (v s)

pub start-requires : goal.start-requires
start-requires c =
    let s = (goal.at.start-requires c).Start in
    record {
      drawable = c.requires.drawable;
      i_in_bounds = c.requires.i_in_bounds;
      due = due_front (line_start (v s))
          (text s ++ line_end) c.requires.due;
    }

pub contours-requires : goal.contours-requires
contours-requires c =
    let all = c.if-start.true in
    let s = (goal.at.contours-requires c).Start in
    let rest = due_rest (line_start (v s)) (text s ++ line_end) c.requires.due in
    record {
      drawable = c.requires.drawable;
      due = rw (c.start.ensures.count all)
          (due_front (text s) line_end rest);
    }

pub written-requires : goal.written-requires
written-requires c =
    let s = (goal.at.written-requires c).Start in
    let rest = due_rest (line_start (v s)) (text s ++ line_end) c.requires.due in
    elim c.if-start.branch [
      | then-start w ↦ record {
        drawable = c.requires.drawable;
        due = rw (
          w.sent-is,
          w.contours.ensures.count (sym w.value-is ∙ c.if-contours.true),
          c.start.ensures.count w.if-start.true,
        ) (due_rest (text s) line_end rest);
      }
      | else-start w ↦ let e = sym c.if-contours.true ∙ w.value-is ∙ w.if-start.false in cc
    ]

pub returns-then-contours : goal.returns-then-contours
returns-then-contours c =
    let s = (goal.at.returns-then-contours c).Start in
    elim c.if-start.branch [
      | then-start w ↦
          sends_then (line_start (v s)) (text s ++ line_end) w.if-start.true c.start.ensures
          (sends_then (text s) line_end (sym w.value-is ∙ c.if-contours.true) w.contours.ensures
          (rw w.sent-is at c.written.ensures))
      | else-start w ↦ let e = sym c.if-contours.true ∙ w.value-is ∙ w.if-start.false in cc
    ]

pub returns-else-contours : goal.returns-else-contours
returns-else-contours c =
    elim c.if-start.branch [
      | then-start w ↦ rw (c.if-contours.false, w.sent-is)
          (sends_lost _ (w.contours.ensures.lost (sym w.value-is ∙ c.if-contours.false)))
      | else-start w ↦ rw (c.if-contours.false, w.sent-is) (sends_lost _ (c.start.ensures.lost w.if-start.false))
    ]
