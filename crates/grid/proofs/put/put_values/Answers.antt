use Rattle.std.specs.Prelude.{◌≡◌, ℕ, ◌+◌, ◌-◌, ◌≤◌, length, get_or, take, drop}
use mathlib.Core.{Path.ap, Path.◌∙◌, List.List, List.◌∷◌, List.◌++◌}
use native.Mathlib.Omega.{arith}
use lib.ListN.{length-append}
use Rattle.text.specs.Number.{show_thousandths}
use Rattle.text.proofs.Digits.{part-rest}
use Rattle.room.proofs.Laws.{wrote_then}
use Rattle.room.proofs.Writing.{Writing, writing_start, writing_room, writing_more, writing_end}
use Rattle.grid.specs.Write.{row_line}
use Rattle.grid.proofs.WriteLaws.{quiet_part, spaced_of, spaced_more, spaced_none, row_first}
use Rattle.grid.proofs.put.put_values.Goals as goal
use Rattle.grid.proofs.put.put_values.Goals.{After-put_thousandths-at, In-loop-level}

-- the row begins with its first level, and the others come spaced
abbrev others : List ℕ → List ℕ
others row = take (length row - 1) (drop 1 row)

parted : (row : List ℕ) → 1 ≤ length row
    → row_line row ≡ show_thousandths (get_or row 0 0) ++ spaced_of (others row)
parted row h = row_first row h ∙ rw (part-rest row 1)

pub put_thousandths-at-requires : goal.put_thousandths-at-requires
put_thousandths-at-requires c =
    let row = c.args.row.now in (
      omega (arith, c.requires.1 0),
      omega (
        arith,
        c.requires.2,
        ap length (parted row c.requires.0),
        length-append (show_thousandths (get_or row 0 0)) (spaced_of (others row)),
      ),
    )

pub loop-level-init : goal.loop-level-init
loop-level-init c = writing_start _ _ _

-- past the first level there is room for the others
started : (c : After-put_thousandths-at)
    → c.put_thousandths-at.result + length (spaced_of (others c.args.row.now)) ≤ length c.put_thousandths-at.new.out
started c =
    let row = c.args.row.now in
    let p = c.put_thousandths-at in
    omega (
      arith,
      c.requires.2,
      ap length (parted row c.requires.0),
      length-append (show_thousandths (get_or row 0 0)) (spaced_of (others row)),
      p.ensures.place,
      p.auto.out,
    )

-- what is left begins with the next space and level
next : (c : In-loop-level) →
    let rest = others c.args.row.now in let l = c.loop-level in let p = c.put_thousandths-at in
    Writing p.new.out p.result (spaced_of rest) l.out l.at
    ((32 ∷ show_thousandths (get_or rest l.level-index 0)) ++ spaced_of (drop (l.level-index + 1) rest))
next c =
    rw (← spaced_more (others c.args.row.now) c.loop-level.level-index c.loop-level-test.true) c.loop-level.invariant

pub put_spaced-at-requires : goal.put_spaced-at-requires
put_spaced-at-requires c =
    let at = goal.at.put_spaced-at-requires c in
    let rest = others c.args.row.now in
    let i = c.loop-level.level-index in
    let piece : List ℕ = 32 ∷ show_thousandths (get_or rest i 0) in
    let quiet = quiet_part c.args.row.now 1 (length c.args.row.now - 1) c.requires.1 (omega (arith, c.requires.0)) in (
      quiet i,
      omega (
        arith,
        (writing_room (next at.In-loop-level) (started at.After-put_thousandths-at)).0,
        length-append piece (spaced_of (drop (i + 1) rest)),
      ),
    )

pub loop-level-preserved : goal.loop-level-preserved
loop-level-preserved c =
    let at = goal.at.loop-level-preserved c in
    let rest = others c.args.row.now in
    let i = c.loop-level.level-index in
    let piece : List ℕ = 32 ∷ show_thousandths (get_or rest i 0) in
    writing_more piece (spaced_of (drop (i + 1) rest)) (next at.In-loop-level)
    (started at.After-put_thousandths-at) c.put_spaced-at.ensures

pub returns : goal.returns
returns c =
    let row = c.args.row.now in
    let l = c.loop-level in
    let first = parted row c.requires.0 in
    let rest = writing_end (rw (spaced_none (others row) l.level-index c.loop-level-test.false) at l.invariant) in
    rw first (wrote_then (omega (arith, c.requires.2, ap length first)) c.put_thousandths-at.ensures rest)
