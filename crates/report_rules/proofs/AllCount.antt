-- Each movement that a register leaves standing counts at every point. Assumes nothing.
use mathlib.Core.{Path.◌≡◌, Path.refl, Path.ap, Path.◌∙◌, Bool.Bool, Bool.true, Bool.false, Bool.cond}
use mathlib.Core.List.{List, [], ◌∷◌, ◌++◌}
use Prim.Native.Nat.{ℕ, zero, suc, ◌<◌}
use native.Mathlib.Omega.{arith}
use lib.ListN.{length, get_or, replicate, get_or-replicate}
use lib.Dec.{eqb, leb}
use Rattle.text.proofs.Digits.{either}
use Rattle.text.specs.Line.{lines_of}
use Rattle.movement.specs.Group.{group_of}
use Rattle.book_rules.specs.{Columns.Book, Calls.Call, Calls.refusal}
use Rattle.book_rules.specs.Calls.Call.{enter, supply, take_back, withdraw}
use Rattle.book_rules.specs.History.{Held, Movement, movement, added, holding, without, step, list_of, Made, made}
use Rattle.book_rules.specs.History.{list_refusal, accepted, empty_book, movements}
use Rattle.book_rules.specs.History.Held.{none, holds}
use Rattle.load_rules.specs.Shares.{Everywhere}
use Rattle.load_rules.proofs.Brings.{each_brings}
use Rattle.register.specs.Row.{Layout}
use Rattle.register.specs.Row.{layout_of}
use Rattle.stream.specs.Reading.{opening, line_read}
use Rattle.report_steps.specs.Intake.{entering, supplying}
use Rattle.report_steps.specs.Reading.{Reading, register_step}
use Rattle.report_steps.specs.Booking.{layout_calls, row_calls, lines_calls, register_calls}
use Rattle.report_rules.specs.Report.{book_rows}
use Rattle.report_rules.specs.Flights.{standing_in}
use Rattle.report_rules.specs.AllCount.{AllCount}
use Rattle.report_rules.proofs.Elsewhere.{register_most}

module _ (p : ℕ) where
  -- movements with one yes a point, and calls that bring no other in
  abbrev Yes : List Movement → Type 0
  Yes [] = Unit {0}
  Yes (m ∷ ms) = (m.counts ≡ replicate p 1) × Yes ms

  abbrev Brings : Call → Type 0
  Brings (enter x t k s m cs) = cs ≡ replicate p 1
  Brings (supply x ls) = Unit {0}
  Brings (take_back x) = Unit {0}
  Brings (withdraw x) = Unit {0}

  abbrev AllBring : List Made → Type 0
  AllBring [] = Unit {0}
  AllBring (c ∷ cs) = Brings c.call × AllBring cs

  -- The list of movements

  yes_added : (m : Movement) → m.counts ≡ replicate p 1 → (ms : List Movement) → Yes ms → Yes (added m ms)
  unfolding added
  yes_added m e [] ys = (e, tt)
  yes_added m e (a ∷ ms) ys =
      either (leb m.identity a.identity)
      (λ here. rw here (e, ys))
      (λ later. rw later (ys.0, yes_added m e ms ys.1))

  yes_holding : (x : ℕ) (h : Held) (ms : List Movement) → Yes ms → Yes (holding x h ms)
  unfolding holding
  yes_holding x h [] ys = tt
  yes_holding x h (a ∷ ms) ys =
      either (eqb a.identity x)
      (λ this. rw this ys)
      (λ other. rw other (ys.0, yes_holding x h ms ys.1))

  yes_without : (x : ℕ) (ms : List Movement) → Yes ms → Yes (without x ms)
  unfolding without
  yes_without x [] ys = tt
  yes_without x (a ∷ ms) ys =
      either (eqb a.identity x)
      (λ this. rw this ys.1)
      (λ other. rw other (ys.0, yes_without x ms ys.1))

  yes_step : (ms : List Movement) (c : Call) → Brings c → Yes ms → Yes (step ms c)
  unfolding step
  yes_step ms (enter x t k s m cs) e ys = yes_added (movement x (group_of t k s) cs none) e ms ys
  yes_step ms (supply x ls) e ys = yes_holding x (holds ls) ms ys
  yes_step ms (take_back x) e ys = yes_holding x none ms ys
  yes_step ms (withdraw x) e ys = yes_without x ms ys

  yes_calls : (n : ℕ) (cs : List Made) (ms : List Movement) → AllBring cs → Yes ms
      → Yes (list_of ms (accepted p n ms cs))
  unfolding list_of accepted
  yes_calls n [] ms bs ys = ys
  yes_calls n (c ∷ cs) ms bs ys =
      either (eqb (list_refusal p n ms c) 0)
      (λ taken. rw taken (yes_calls n cs (step ms c.call) bs.1 (yes_step ms c.call bs.0 ys)))
      (λ refused. rw refused (yes_calls n cs ms bs.1 ys))

  -- A register's calls

  all_then : (cs ds : List Made) → AllBring cs → AllBring ds → AllBring (cs ++ ds)
  all_then [] ds bs es = es
  all_then (c ∷ cs) ds bs es = (bs.0, all_then cs ds bs.1 es)

  layout_brings : (b : Book) (l : Layout) → AllBring (layout_calls p b l)
  unfolding layout_calls
  layout_brings b l =
      (refl, supplies (eqb (refusal p b (entering p l)) 0) (eqb l.fields.computed 0))
    where
      supplies : (s t : Bool) → AllBring (cond s (cond t [] (made p (supplying p l) ∷ [])) [])
      supplies false t = tt
      supplies true false = (tt, tt)
      supplies true true = tt

  row_brings : (b : Book) (line : List ℕ) → AllBring (row_calls p b line)
  unfolding row_calls
  row_brings b line =
      either (eqb (layout_of p line).refusal 0)
      (λ on. rw on (layout_brings b (layout_of p line)))
      (λ off. rw off tt)

  line_brings : (s : Reading) (l : List ℕ) → AllBring (cond (eqb s.line 1) [] (row_calls p s.held l))
  line_brings s l =
      either (eqb s.line 1) (λ head. rw head tt) (λ row. rw row (row_brings s.held l))

  lines_bring : (s : Reading) (ls : List (List ℕ)) → AllBring (lines_calls p s ls)
  unfolding lines_calls
  lines_bring s [] = tt
  lines_bring s (l ∷ ls) =
      either (eqb s.refusal 0)
      (λ fine. rw fine (all_then (cond (eqb s.line 1) [] (row_calls p s.held l))
      (lines_calls p (line_read (register_step p) s l) ls) (line_brings s l)
      (lines_bring (line_read (register_step p) s l) ls)))
      (λ refused. rw refused tt)

  -- what stands of a register
  yes_standing : (register : List ℕ) → Yes (standing_in p register)
  unfolding movements register_calls
  yes_standing register =
      let b : Book = empty_book p book_rows in
      yes_calls book_rows (register_calls p b register) [] (lines_bring (opening b) (lines_of register)) tt

  yes_at : (ms : List Movement) → Yes ms → (i : ℕ) → i < length ms
      → (get_or ms i (movement 0 0 [] none)).counts ≡ replicate p 1
  yes_at [] ys i h = absurd (omega arith)
  yes_at (m ∷ ms) ys zero h = ys.0
  yes_at (m ∷ ms) ys (suc i) h = yes_at ms ys.1 i (omega arith)

pub all_count : (p : ℕ) (register : List ℕ) → AllCount p register
all_count p register =
    let each = yes_at p (standing_in p register) (yes_standing p register) in
    let everywhere : Everywhere p (standing_in p register) =
    λ i pt h k. ap (λ (cs : List ℕ). get_or cs pt 0) (each i h) ∙ get_or-replicate p pt 1 0 k in
    record {
      each = each;
      everywhere = everywhere;
      all = λ pt h. (each_brings pt).everybody p (standing_in p register) h everywhere;
      never = λ e. absurd (omega (arith, register_most p register, e));
    }
