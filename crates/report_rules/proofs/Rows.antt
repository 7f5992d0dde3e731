-- A row of a register and the movements that stand: what its calls leave of the list, and when it is passed over.
-- Assumes nothing.
use mathlib.Core.{Path.◌≡◌, Path.refl, Path.sym, Path.ap, Path.subst, Path.◌∙◌, Bool.Bool, Bool.true}
use mathlib.Core.List.{List, [], ◌∷◌}
use Prim.Native.Nat.{ℕ, ◌+◌, ◌≤◌}
use Rattle.std.specs.Prelude.{Ok}
use native.Mathlib.Omega.{arith}
use lib.{ListN.take, ListN.replicate, Dec.eqb, Dec.ltb}
use borrow.Author.Tests.{eq-eqb, ne_eqb, eqb-true, eqb-false, le-ltb}
use Rattle.text.proofs.Digits.{either}
use Rattle.movement.specs.Group.{group_of}
use Rattle.book_rules.specs.{Columns.Book, Columns.sound, Calls.Call, Calls.refusal, Calls.after}
use Rattle.book_rules.specs.History.{Held, Movement, movement, step, list_of, Made, made, list_refusal, accepted}
use Rattle.book_rules.specs.History.{booked}
use Rattle.book_rules.specs.History.Held.{none, holds}
use Rattle.book_rules.proofs.History.{Told, refusal_told, told}
use Rattle.register.specs.Row.{Layout}
use Rattle.register.specs.Row.{layout_of}
use Rattle.report_steps.specs.Intake.Taken.{Entered, PassedOver, Refused}
use Rattle.report_steps.specs.declared.Entry.TheVariants.{Skipped}
use Rattle.report_steps.specs.Intake.{taken_number, taken_of, entering, supplying, entered_taken}
use Rattle.report_steps.specs.{Intake.layout_taken, Intake.row_taken, Booking.layout_calls, Booking.row_calls}
use Rattle.report_steps.proofs.Intakes.{same_taken}
use Rattle.report_rules.specs.Flights.{flight_of, flights_in, how_many, Light, PassedExactly}
use Rattle.report_rules.proofs.Listed.{many_added, many_held, one_accepted, one_refused}
use Rattle.report_rules.proofs.Listed.{none_left, many_one, many_none}
use Rattle.report_rules.proofs.Entering.{Entering, enter_none, enter_two, two_enter, all_fit}

-- what a row that is not refused did, by the answer r of *enter*
pub data Did (p : ℕ) (b : Book) (line : List ℕ) : Type 0 where
  passed : refusal p b (entering p (layout_of p line)) ≡ 2 → Did p b line
  blank : refusal p b (entering p (layout_of p line)) ≡ 0 → (layout_of p line).fields.computed ≡ 0 → Did p b line
  given : refusal p b (entering p (layout_of p line)) ≡ 0 → ((layout_of p line).fields.computed ≡ 0 → ⊥)
      → refusal p (after p b (entering p (layout_of p line))) (supplying p (layout_of p line)) ≡ 0 → Did p b line

pub row_read : (p : ℕ) (b : Book) (line : List ℕ) → taken_number (row_taken p b line) ≡ 0
    → (layout_of p line).refusal ≡ 0
unfolding row_taken
row_read p b line z =
    either (eqb (layout_of p line).refusal 0)
    (λ yes. eqb-true (layout_of p line).refusal 0 yes)
    (λ no. absurd (omega (arith, rw no at z)))

row_did : (p : ℕ) (b : Book) (line : List ℕ) → taken_number (row_taken p b line) ≡ 0 → Did p b line
unfolding row_taken layout_taken entered_taken
row_did p b line z =
    let l = layout_of p line in
    let r = refusal p b (entering p l) in
    let s = refusal p (after p b (entering p l)) (supplying p l) in
    let read = eq-eqb l.refusal 0 (row_read p b line z) in
    either (eqb r 2)
    (λ two. passed (eqb-true r 2 two))
    (λ other. either (eqb r 0)
    (λ zero. either (eqb l.fields.computed 0)
    (λ none. blank (eqb-true r 0 zero) (eqb-true l.fields.computed 0 none))
    (λ some. given (eqb-true r 0 zero) (eqb-false l.fields.computed 0 some)
    (either (eqb s 0) (λ yes. eqb-true s 0 yes)
    (λ no. absurd (eqb-false s 0 no (rw (read, other, zero, some, no) at z))))))
    (λ more. absurd (eqb-false r 0 more (rw (read, other, more) at z))))

-- a flight more, or none
flight_yes : (p : ℕ) (line : List ℕ) → ltb 150 (layout_of p line).fields.mass ≡ true
    → flights_in p (line ∷ []) ≡ flight_of p (layout_of p line) ∷ []
unfolding flights_in
flight_yes p line e = rw e refl

flight_no : (p : ℕ) (line : List ℕ) → (layout_of p line).fields.mass ≤ 150 → flights_in p (line ∷ []) ≡ []
unfolding flights_in
flight_no p line h = rw (le-ltb 150 (layout_of p line).fields.mass h) refl

-- the calls of a row, by what it did
calls_passed : (p : ℕ) (b : Book) (line : List ℕ) → (layout_of p line).refusal ≡ 0
    → refusal p b (entering p (layout_of p line)) ≡ 2
    → row_calls p b line ≡ made p (entering p (layout_of p line)) ∷ []
unfolding row_calls layout_calls
calls_passed p b line read two =
    rw (
      eq-eqb (layout_of p line).refusal 0 read,
      ne_eqb (refusal p b (entering p (layout_of p line))) 0 (λ e. absurd
          (omega arith)),
    ) refl

calls_blank : (p : ℕ) (b : Book) (line : List ℕ) → (layout_of p line).refusal ≡ 0
    → refusal p b (entering p (layout_of p line)) ≡ 0
    → (layout_of p line).fields.computed ≡ 0 → row_calls p b line ≡ made p (entering p (layout_of p line)) ∷ []
unfolding row_calls layout_calls
calls_blank p b line read in-book empty =
    rw (
      eq-eqb (layout_of p line).refusal 0 read,
      eq-eqb (refusal p b (entering p (layout_of p line))) 0 in-book,
      eq-eqb (layout_of p line).fields.computed 0 empty,
    ) refl

calls_given : (p : ℕ) (b : Book) (line : List ℕ) → (layout_of p line).refusal ≡ 0
    → refusal p b (entering p (layout_of p line)) ≡ 0
    → ((layout_of p line).fields.computed ≡ 0 → ⊥)
    → row_calls p b line ≡ made p (entering p (layout_of p line)) ∷ (made p (supplying p (layout_of p line)) ∷ [])
unfolding row_calls layout_calls
calls_given p b line read in-book some =
    rw (
      eq-eqb (layout_of p line).refusal 0 read,
      eq-eqb (refusal p b (entering p (layout_of p line))) 0 in-book,
      ne_eqb (layout_of p line).fields.computed 0 some,
    ) refl

-- a row's movement, blank and with levels
flight_blank : (p : ℕ) (l : Layout) → l.fields.computed ≡ 0
    → flight_of p l ≡ movement l.fields.identity
    (group_of l.fields.ty l.fields.kind l.fields.time) (replicate p 1) none
flight_blank p l e = rw (eq-eqb l.fields.computed 0 e) refl

flight_given : (p : ℕ) (l : Layout) → (l.fields.computed ≡ 0 → ⊥)
    → flight_of p l ≡ movement l.fields.identity (group_of l.fields.ty l.fields.kind l.fields.time)
    (replicate p 1) (holds (take p l.levels))
flight_given p l ne = rw (ne_eqb l.fields.computed 0 ne) refl

-- a call that is accepted
pub told_one : (p n : ℕ) (b : Book) (ms : List Movement) (c : Call) → Told p n b ms → refusal p b c ≡ 0
    → Told p n (after p b c) (step ms c)
unfolding booked
told_one p n b ms c t z =
    subst (λ (ns : List Movement). Told p n (after p b c) ns)
    (one_accepted p n ms (made p c) [] (sym (refusal_told p n b ms (made p c) t) ∙ z) ∙ none_left p n (step ms c))
    (told p n (made p c ∷ []) b ms t)

-- the list of movements after a row: its flight counts once, and a row that is passed over not at all
pub row_flights : (p n : ℕ) (b : Book) (ms : List Movement) (line : List ℕ) → Told p n b ms
    → taken_number (row_taken p b line) ≡ 0
    → (test : Movement → Bool)
    → how_many test (list_of ms (accepted p n ms (row_calls p b line)))
    ≡ how_many test ms + how_many test (flights_in p (line ∷ []))
unfolding step
row_flights p n b ms line t z test = go (row_did p b line z)
  where
    l : Layout
    l = layout_of p line

    x : ℕ
    x = l.fields.identity

    group : ℕ
    group = group_of l.fields.ty l.fields.kind l.fields.time

    read : l.refusal ≡ 0
    read = row_read p b line z

    listed : refusal p b (entering p l) ≡ list_refusal p n ms (made p (entering p l))
    listed = refusal_told p n b ms (made p (entering p l)) t

    entered : List Movement
    entered = step ms (entering p l)

    known : refusal p b (entering p l) ≡ 0 → Entering l.fields.mass x ms
    known in-book =
        enter_none p n ms x l.fields.ty l.fields.kind l.fields.time l.fields.mass (replicate p 1)
        (sym listed ∙ in-book)

    go : Did p b line
        → how_many test (list_of ms (accepted p n ms (row_calls p b line)))
        ≡ how_many test ms + how_many test (flights_in p (line ∷ []))
    go (passed two) =
        ap (λ (cs : List Made). how_many test (list_of ms (accepted p n ms cs))) (calls_passed p b line read two)
        ∙ ap (how_many test) (one_refused p n ms (made p (entering p l)) (λ e. absurd (omega (arith, listed))))
        ∙ many_none test ms
        ∙ ap (λ (fs : List Movement). how_many test ms + how_many test fs)
        (sym (flight_no p line (enter_two p b x l.fields.ty l.fields.kind l.fields.time
        l.fields.mass (replicate p 1) two).light))
    go (blank in-book empty) =
        ap (λ (cs : List Made). how_many test (list_of ms (accepted p n ms cs)))
        (calls_blank p b line read in-book empty)
        ∙ ap (how_many test) (one_accepted p n ms (made p (entering p l)) [] (sym listed ∙ in-book)
        ∙ none_left p n entered)
        ∙ many_added test (movement x group (replicate p 1) Held.none) ms
        ∙ many_one test (movement x group (replicate p 1) Held.none) ms
        ∙ ap (λ (fs : List Movement). how_many test ms + how_many test fs)
        (ap (λ (m : Movement). m ∷ []) (sym (flight_blank p l empty))
        ∙ sym (flight_yes p line (known in-book).heavy))
    go (given in-book some fine) =
        let accepts : list_refusal p n entered (made p (supplying p l)) ≡ 0 =
        sym (refusal_told p n (after p b (entering p l)) entered (made p (supplying p l))
        (told_one p n b ms (entering p l) t in-book)) ∙ fine in
        ap (λ (cs : List Made). how_many test (list_of ms (accepted p n ms cs)))
        (calls_given p b line read in-book some)
        ∙ ap (how_many test) (one_accepted p n ms (made p (entering p l)) (made p (supplying p l) ∷ [])
        (sym listed ∙ in-book)
        ∙ one_accepted p n entered (made p (supplying p l)) [] accepts
        ∙ none_left p n (step entered (supplying p l)))
        ∙ many_held test x group (replicate p 1) (holds (take p l.levels)) ms (known in-book).new
        ∙ many_one test (movement x group (replicate p 1) (holds (take p l.levels))) ms
        ∙ ap (λ (fs : List Movement). how_many test ms + how_many test fs)
        (ap (λ (m : Movement). m ∷ []) (sym (flight_given p l some))
        ∙ sym (flight_yes p line (known in-book).heavy))

-- A row is passed over exactly where it is too light

never_entered : {A : Type 0} → Entered ≡ PassedOver → A
never_entered e = let z : ◌≡◌ {A = ℕ} 0 1 = cc in absurd (omega arith)

never_refused : {A : Type 0} {n : ℕ} → Refused n ≡ PassedOver → A
never_refused e = let z : ◌≡◌ {A = ℕ} 0 1 = cc in absurd (omega arith)

passed_two : (p : ℕ) (b : Book) (line : List ℕ) → (layout_of p line).refusal ≡ 0
    → row_taken p b line ≡ PassedOver
    → refusal p b (entering p (layout_of p line)) ≡ 2
unfolding row_taken layout_taken entered_taken
passed_two p b line read e =
    let l = layout_of p line in
    let r = refusal p b (entering p l) in
    let s = refusal p (after p b (entering p l)) (supplying p l) in
    let on = eq-eqb l.refusal 0 read in
    either (eqb r 2)
    (λ two. eqb-true r 2 two)
    (λ other. either (eqb r 0)
    (λ zero. either (eqb l.fields.computed 0)
    (λ none. never_entered (rw (on, other, zero, none) at e))
    (λ some. either (eqb s 0)
    (λ fine. never_entered (rw (on, other, zero, some, fine) at e))
    (λ bad. never_refused (rw (on, other, zero, some, bad) at e))))
    (λ more. never_refused (rw (on, other, more) at e)))

pub row_passed : (p : ℕ) (b : Book) (line : List ℕ) → row_taken p b line ≡ PassedOver → Light p line
row_passed p b line e =
    let f = (layout_of p line).fields in
    let read = row_read p b line (ap taken_number e) in
    let two = passed_two p b line read e in
    let l = enter_two p b f.identity f.ty f.kind f.time f.mass (replicate p 1) two in
    record { read = read; rule_1 = l.rule_1; light = l.light }

pub light_passed : (p : ℕ) (b : Book) (line : List ℕ) → sound p b ≡ true → Light p line
    → row_taken p b line ≡ PassedOver
unfolding row_taken layout_taken
light_passed p b line ok k =
    let f = (layout_of p line).fields in
    let two =
    two_enter p b f.identity f.ty f.kind f.time f.mass (replicate p 1) ok (all_fit p)
    (record { rule_1 = k.rule_1; light = k.light }) in
    rw (eq-eqb (layout_of p line).refusal 0 k.read, two) refl

pub passed_exactly : (p : ℕ) (b : Book) (row : List ℕ) → PassedExactly p b row
passed_exactly p b row =
    record {
      when = row_passed p b row;
      only = light_passed p b row;
      skipped = λ r told e. row_passed p b row (sym told ∙ ap taken_of e);
      skips = λ ok k r told. same_taken r (Ok Skipped) (told ∙ light_passed p b row ok k);
    }
