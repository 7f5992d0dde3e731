-- `stream::inner::lines::take_piece` meets its contract: the lines, a line that is too long, or the bytes that wait.
-- Assumes nothing.
use Rattle.std.specs.Prelude.{◌≡◌, ◌-◌, ◌≤◌, List, ℕ, length, take, drop}
use mathlib.Core.Path.{refl, sym, ◌∙◌}
use native.Mathlib.Omega.{arith}
use lib.{ListN.length-drop, Seq.length-take-le}
use Rattle.refusal.proofs.Laws.{settled}
use Rattle.stream.proofs.Told.{err_some, fine_none}
use Rattle.stream.proofs.Pieces.{piece_refused, piece_long, piece_left, waiting}
use Rattle.stream.proofs.inner.lines.take_piece.Goals as goal

-- what is left of the bytes that are taken, past the lines
left : (at len : ℕ) (bytes : List ℕ) → len ≤ length bytes → length (drop at (take len bytes)) ≡ len - at
left at len bytes fits = length-drop at (take len bytes) ∙ rw (length-take-le len bytes fits) refl

pub returns-then-is_err-clause-taken : goal.returns-then-is_err-clause-taken
returns-then-is_err-clause-taken g c =
    piece_refused g.T.Lines.LONGEST _ c.take_lines-feed.ensures.taken
    (err_some c.take_lines-feed.result.refusal (settled c.is_err.ensures.value c.if-is_err.true))

pub returns-then-longest-saturating_sub-clause-taken : goal.returns-then-longest-saturating_sub-clause-taken
returns-then-longest-saturating_sub-clause-taken g c =
    let a = c.args in
    let f = c.take_lines-feed in
    let size = left f.result.at a.len a.bytes.now c.requires.len_in_bounds in
    piece_long g.T.Lines.LONGEST _ f.ensures.taken c.requires.long_is_off
    (fine_none f.result.refusal (settled c.is_err.ensures.value c.if-is_err.false))
    (omega (arith, size, c.longest.ensures, c.saturating_sub.ensures, c.if-longest-saturating_sub.true))

pub returns-clause-taken : goal.returns-clause-taken
returns-clause-taken g c =
    let a = c.args in
    let f = c.take_lines-feed in
    let size = left f.result.at a.len a.bytes.now c.requires.len_in_bounds in
    let within = rw (length-take-le a.len a.bytes.now c.requires.len_in_bounds) at f.ensures.taken.within in
    piece_left g.T.Lines.LONGEST _ f.ensures.taken
    (fine_none f.result.refusal (settled c.is_err.ensures.value c.if-is_err.false))
    (omega (arith, size, c.longest.ensures, c.saturating_sub.ensures, c.if-longest-saturating_sub.false))
    (c.to_front.ensures ∙ sym (waiting a.bytes.now f.result.at a.len within c.requires.len_in_bounds))
