-- The book that a register gives is the book after the calls that it makes: so what is proved of histories holds of
-- registers. Assumes nothing.
use Rattle.std.specs.Prelude.{◌≡◌, ℕ, ◌-◌}
use mathlib.Core.Path.{refl, sym, ap, ◌∙◌}
use mathlib.Core.{Bool.Bool, Bool.true, Bool.false, Bool.cond, Bool.◌&&◌, List.List, List.[], List.◌∷◌, List.◌++◌}
use lib.{Dec.eqb, ListN.length}
use borrow.Author.Tests.{eqb-false}
use Rattle.text.proofs.Digits.{either}
use Rattle.text.specs.Line.{lines_of}
use Rattle.book_rules.specs.{Columns.Book, Calls.refusal, Calls.after}
use Rattle.book_rules.specs.History.{Made, booked, movements, empty_book, rows_of}
use Rattle.book_rules.proofs.{Accepted.after_refused, History.history_rows}
use Rattle.register.specs.Row.{Layout}
use Rattle.register.specs.Row.{layout_of}
use Rattle.report_steps.specs.Intake.{entering, layout_after, entered_after, row_after}
use Rattle.stream.specs.Reading.{line_read, lines_read, opening, closing, whole_read}
use Rattle.report_steps.specs.Reading.{Reading, line_after, register_step, registered}
use Rattle.report_steps.specs.Booking.{layout_calls, row_calls, lines_calls, register_calls}

booked_then : (b : Book) (cs ds : List Made) → booked b (cs ++ ds) ≡ booked (booked b cs) ds
unfolding booked
booked_then b [] ds = refl
booked_then b (c ∷ cs) ds = booked_then (after c.points b c.call) cs ds

layout_booked : (p : ℕ) (b : Book) (l : Layout)
    → layout_after p b l (refusal p b (entering p l)) ≡ booked b (layout_calls p b l)
unfolding layout_after entered_after layout_calls booked
layout_booked p b l =
    either (eqb (refusal p b (entering p l)) 0)
    (λ yes. either (eqb l.fields.computed 0) (λ blank. rw (yes, blank) refl) (λ given. rw (yes, given) refl))
    (λ no. rw no (sym (after_refused p b (entering p l) (eqb-false (refusal p b (entering p l)) 0 no))))

pub row_booked : (p : ℕ) (b : Book) (line : List ℕ) → row_after p b line ≡ booked b (row_calls p b line)
unfolding row_after row_calls booked
row_booked p b line =
    either (eqb (layout_of p line).refusal 0) (λ yes. rw yes (layout_booked p b (layout_of p line))) (λ no. rw no refl)

line-booked : (p n : ℕ) (b : Book) (line : List ℕ)
    → line_after p n b line ≡ booked b (cond (eqb n 1) [] (row_calls p b line))
unfolding line_after booked
line-booked p n b line = either (eqb n 1) (λ yes. rw yes refl) (λ no. rw no (row_booked p b line))

pub read_booked : (p : ℕ) (s : Reading) (l : List ℕ)
    → (line_read (register_step p) s l).held ≡ booked s.held (cond (eqb s.line 1) [] (row_calls p s.held l))
unfolding line_read
read_booked p s l = line-booked p s.line s.held l

lines_booked : (p : ℕ) (s : Reading) (ls : List (List ℕ))
    → (lines_read (register_step p) s ls).held ≡ booked s.held (lines_calls p s ls)
unfolding lines_read lines_calls booked
lines_booked p s [] = refl
lines_booked p s (l ∷ ls) = go (eqb s.refusal 0) (lines_booked p (line_read (register_step p) s l) ls)
  where
    go : (t : Bool)
        → (lines_read (register_step p) (line_read (register_step p) s l) ls).held
        ≡ booked (line_read (register_step p) s l).held (lines_calls p (line_read (register_step p) s l) ls)
        → (cond t (lines_read (register_step p) (line_read (register_step p) s l) ls) s).held
        ≡ booked s.held (cond t (cond (eqb s.line 1) [] (row_calls p s.held l) ++ lines_calls p
        (line_read (register_step p) s l) ls) [])
    go false r = refl
    go true r =
        r ∙ ap (λ (b : Book). booked b (lines_calls p (line_read (register_step p) s l) ls)) (read_booked p s l)
        ∙ sym (booked_then s.held (cond (eqb s.line 1) [] (row_calls p s.held l))
        (lines_calls p (line_read (register_step p) s l) ls))

closing_book : (s : Reading) → (closing s).held ≡ s.held
unfolding closing
closing_book s = either (eqb s.refusal 0 && eqb s.line 1) (λ yes. rw yes refl) (λ no. rw no refl)

-- the book of a register is the book after its calls
pub register_booked : (p : ℕ) (b : Book) (bytes : List ℕ)
    → (registered p b bytes).held ≡ booked b (register_calls p b bytes)
unfolding whole_read register_calls
register_booked p b bytes =
    closing_book (lines_read (register_step p) (opening b) (lines_of bytes))
    ∙ lines_booked p (opening b) (lines_of bytes)

-- and so, from an empty book, the rows of the movements that its calls leave standing
pub register_rows : (p n : ℕ) (bytes : List ℕ)
    → (registered p (empty_book p n) bytes).held
    ≡ rows_of p (n - length (movements p n (register_calls p (empty_book p n) bytes)))
    (movements p n (register_calls p (empty_book p n) bytes))
register_rows p n bytes =
    register_booked p (empty_book p n) bytes ∙ history_rows p n (register_calls p (empty_book p n) bytes)
