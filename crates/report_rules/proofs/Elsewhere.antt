-- No row of a register is refused 19, since it counts at every point. Assumes nothing.
use mathlib.Core.{Path.◌≡◌, Path.refl, Bool.Bool, Bool.true, Bool.false, Bool.not, Bool.cond, Bool.◌&&◌}
use mathlib.Core.List.{List, [], ◌∷◌}
use Prim.Native.Nat.{ℕ, zero, suc, ◌≤◌}
use native.Mathlib.Omega.{arith}
use lib.{ListN.take, ListN.replicate, Dec.eqb, Dec.leb}
use borrow.Author.Tests.{eq-eqb, ne_eqb, eqb-true, leb-false}
use Rattle.refusal.specs.Refuse.{refuse}
use Rattle.text.specs.Line.{lines_of}
use Rattle.std.specs.Prelude.{Option, Some, None}
use Rattle.text.proofs.Digits.{either}
use Rattle.movement.specs.Group.{group_of}
use Rattle.movement.specs.Rules.{fields_fit, counts, movement_refusal, identity_fits, levels_fit, counts_fit}
use Rattle.movement.specs.Rules.{zero_elsewhere}
use Rattle.book_rules.specs.Columns.{Book, sound, stands}
use Rattle.book_rules.specs.Calls.{refused_or, enter_refusal, sound_refusal, refusal, after}
use Rattle.book_rules.specs.Calls.Call.{enter, supply}
use Rattle.book_rules.specs.History.{Movement, movement, added, standing, counts_for, step, list_of, Made, made}
use Rattle.book_rules.specs.History.{sizes_fit, standing_refusal, list_refusal, accepted, empty_book}
use Rattle.book_rules.specs.History.Held.{none}
use Rattle.book_rules.proofs.History.{Told, told, told_empty, refusal_told}
use Rattle.register.specs.Row.{Layout}
use Rattle.register.specs.Row.{layout_of}
use Rattle.stream.specs.Reading.{opening, line_read, lines_read, closing, whole_read}
use Rattle.report_steps.specs.Intake.{taken_number, entering, supplying, entered_taken, layout_taken, row_taken}
use Rattle.report_steps.specs.Reading.{Reading, points_refusal, header_points, line_refusal, register_step, registered}
use Rattle.report_steps.specs.Booking.{row_calls}
use Rattle.report_steps.proofs.Bookings.{read_booked}
use Rattle.report_rules.specs.Report.{book_rows}
use Rattle.report_rules.proofs.{Rows.told_one, Refusing.supplied_number}

-- numbers up to k
most : (k n : ℕ) (ok : Bool) (rest : ℕ) → n ≤ k → rest ≤ k → refuse n ok rest ≤ k
most k n true rest h r = r
most k n false rest h r = h

or_most : (k r rest : ℕ) → r ≤ k → rest ≤ k → refused_or r rest ≤ k
or_most k r rest h l = either (eqb r 0) (λ z. rw z l) (λ no. rw no h)

-- *enter* gives none over 9
enter_most : (p : ℕ) (b : Book) (x t k s m : ℕ) (cs : List ℕ) → refusal p b (enter x t k s m cs) ≤ 9
unfolding refusal sound_refusal enter_refusal movement_refusal
enter_most p b x t k s m cs =
    let two = refuse 2 (counts m) 0 in
    let six = refuse 6 (stands 0 b.identities) 0 in
    let four = refuse 4 (not (stands x b.identities)) six in
    let three = refuse 3 (identity_fits x) four in
    let one = refuse 1 (fields_fit t k s m) two in
    most 9 9 (sound p b) (refuse 9 (counts_fit p cs) (refused_or one three)) (omega arith)
    (most 9 9 (counts_fit p cs) (refused_or one three) (omega arith)
    (or_most 9 one three
    (most 9 1 (fields_fit t k s m) two (omega arith) (most 9 2 (counts m) 0 (omega arith) (omega arith)))
    (most 9 3 (identity_fits x) four (omega arith)
    (most 9 4 (not (stands x b.identities)) six (omega arith)
    (most 9 6 (stands 0 b.identities) 0 (omega arith) (omega arith))))))

-- and neither does *supply* of a movement that counts wherever a level is other than zero
supply_most : (p n : ℕ) (ms : List Movement) (x : ℕ) (ls : List ℕ) → zero_elsewhere (counts_for x ms) ls ≡ true
    → list_refusal p n ms (made p (supply x ls)) ≤ 9
unfolding list_refusal standing_refusal
supply_most p n ms x ls ok =
    let five = refuse 5 (standing x ms) 0 in
    let seven = refuse 7 (levels_fit p ls) five in
    rw ok
    (most 9 9 (eqb p p && sizes_fit p n) (refuse 3 (identity_fits x) seven) (omega arith)
    (most 9 3 (identity_fits x) seven (omega arith)
    (most 9 7 (levels_fit p ls) five (omega arith)
    (most 9 5 (standing x ms) 0 (omega arith) (omega arith)))))

-- a movement that has just come in counts as it was given, and one that counts everywhere may have any levels
counts-added : (m : Movement) (ms : List Movement) → counts_for m.identity (added m ms) ≡ m.counts
unfolding counts_for added
counts-added m [] = rw (eq-eqb m.identity m.identity refl) refl
counts-added m (a ∷ ms) =
    either (leb m.identity a.identity)
    (λ here. rw (here, eq-eqb m.identity m.identity refl) refl)
    (λ later. let less = leb-false m.identity a.identity later in
    rw (later, ne_eqb a.identity m.identity (λ e. absurd (omega arith))) (counts-added m ms))

any_level : (p : ℕ) (ls : List ℕ) → zero_elsewhere (replicate p 1) ls ≡ true
unfolding zero_elsewhere
any_level zero ls = refl
any_level (suc p) [] = refl
any_level (suc p) (l ∷ ls) = any_level p ls

-- The lines of a register

row_most : (p n : ℕ) (b : Book) (ms : List Movement) (line : List ℕ) → Told p n b ms
    → taken_number (row_taken p b line) ≤ 16
unfolding row_taken layout_taken entered_taken step
row_most p n b ms line t =
    either (eqb l.refusal 0)
    (λ on. rw on (either (eqb r 2)
    (λ two. rw two (omega arith))
    (λ other. either (eqb r 0)
    (λ zero. either (eqb l.fields.computed 0)
    (λ none. rw (other, zero, none) (omega arith))
    (λ some. rw (other, zero, some) (omega (arith, supplied_number s, supplied (eqb-true r 0 zero)))))
    (λ more. rw (other, more) (omega (arith, entered))))))
    (λ off. rw off (omega arith))
  where
    l : Layout
    l = layout_of p line

    r : ℕ
    r = refusal p b (entering p l)

    s : ℕ
    s = refusal p (after p b (entering p l)) (supplying p l)

    x : ℕ
    x = l.fields.identity

    entered : r ≤ 9
    entered = enter_most p b x l.fields.ty l.fields.kind l.fields.time l.fields.mass (replicate p 1)

    supplied : r ≡ 0 → s ≤ 9
    supplied z =
        let c = made p (supplying p l) in
        let ns = step ms (entering p l) in
        let m = movement x (group_of l.fields.ty l.fields.kind l.fields.time) (replicate p 1) none in
        let fine : zero_elsewhere (counts_for x ns) (take p l.levels) ≡ true =
        rw (counts-added m ms) (any_level p (take p l.levels)) in
        rw (refusal_told p n (after p b (entering p l)) ns c (told_one p n b ms (entering p l) t z))
        (supply_most p n ns x (take p l.levels) fine)

header_most_lem : (p : ℕ) (r : Option ℕ) → points_refusal p r ≤ 16
header_most_lem p None = omega arith
header_most_lem p (Some n) = either (eqb n p) (λ yes. rw yes (omega arith)) (λ no. rw no (omega arith))

line_most : (p n : ℕ) (s : Reading) (ms : List Movement) (l : List ℕ) → Told p n s.held ms
    → (line_read (register_step p) s l).refusal ≤ 16
unfolding line_read line_refusal
line_most p n s ms l t =
    either (eqb s.line 1)
    (λ head. rw head (header_most_lem p (header_points l)))
    (λ row. rw row (row_most p n s.held ms l t))

lines_most : (p n : ℕ) (s : Reading) (ls : List (List ℕ)) (ms : List Movement) → Told p n s.held ms
    → s.refusal ≤ 16
    → (lines_read (register_step p) s ls).refusal ≤ 16
unfolding lines_read
lines_most p n s [] ms t h = h
lines_most p n s (l ∷ ls) ms t h =
    let cs : List Made = cond (eqb s.line 1) [] (row_calls p s.held l) in
    let next = rw (← read_booked p s l) at (told p n cs s.held ms t) in
    either (eqb s.refusal 0)
    (λ fine. rw fine (lines_most p n (line_read (register_step p) s l) ls (list_of ms (accepted p n ms cs)) next
    (line_most p n s ms l t)))
    (λ refused. rw refused h)

pub register_most : (p : ℕ) (register : List ℕ) → (registered p (empty_book p book_rows) register).refusal ≤ 16
unfolding whole_read closing
register_most p register =
    let s = lines_read (register_step p) (opening (empty_book p book_rows)) (lines_of register) in
    either (eqb s.refusal 0 && eqb s.line 1)
    (λ none. rw none (omega arith))
    (λ some. rw some (lines_most p book_rows (opening (empty_book p book_rows)) (lines_of register) []
    (told_empty p book_rows) (omega arith)))
