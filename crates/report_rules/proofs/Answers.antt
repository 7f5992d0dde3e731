-- The answer to limits.csv and a register, by how far each is read. Assumes nothing.
use mathlib.Core.{Path.◌≡◌, Path.refl, Path.sym, Path.ap, Path.◌∙◌, Bool.true, List.List, List.[], List.◌++◌}
use Prim.Native.Nat.{ℕ, ◌≤◌}
use native.Mathlib.Omega.{arith}
use lib.{ListN.length, ListN.length-append, Seq.take-append-le}
use borrow.Author.Tests.{ne_eqb, le-leb}
use Rattle.text.specs.Sheet.{refused_text}
use Rattle.movement.specs.Limits.{max_points}
use Rattle.book_rules.specs.{Columns.sound, History.empty_book, History.booked, History.sizes_fit}
use Rattle.book_rules.proofs.History.{history_sound}
use Rattle.register.specs.LimitsFile.{LimitsFile}
use Rattle.register.specs.LimitsFile.{limits_of}
use Rattle.register.proofs.LimitsFront.{limits_front}
use Rattle.stream.specs.Coming.{Coming}
use Rattle.stream.proofs.Turns.{of_as}
use Rattle.report_steps.specs.{Stream.longest_row, Reading.Reading, Reading.registered}
use Rattle.report_text.specs.Text.{book_text}
use Rattle.report_rules.specs.Report.{book_rows, Telling, reading_text, register_text, answer_text, answer_of}
use Rattle.report_rules.specs.Report.{report_of}
use Rattle.report_rules.specs.Report.{limits_room, Opened, Answers}
use Rattle.report_rules.specs.Report.Opened.{all, cut, unread}
use Rattle.report_rules.specs.Told.{LimitsFrom}
use Rattle.report_rules.specs.Told.LimitsFrom.{ended, enough, missing}

pub reading_refused : (tell : Telling) (l : LimitsFile) (s : Reading) → (s.refusal ≡ 0 → ⊥)
    → reading_text tell l s ≡ refused_text s.refusal s.line
unfolding reading_text
reading_refused tell l s ne = rw (ne_eqb s.refusal 0 ne) refl

pub reading_reported : (tell : Telling) (l : LimitsFile) (s : Reading) → s.refusal ≡ 0
    → reading_text tell l s ≡ tell l s.held
unfolding reading_text
reading_reported tell l s z = rw z refl

-- a register that was read is answered by its reading
pub register_text_lem : (tell : Telling) (l : LimitsFile) (register : List ℕ) (s : Reading)
    → s ≡ registered l.points (empty_book l.points book_rows) register
    → reading_text tell l s ≡ register_text tell l register
unfolding register_text
register_text_lem tell l register s e = ap (reading_text tell l) e

-- limits.csv is refused, whatever the register is; or accepted, and the register is answered
pub report_refused : (tell : Telling) (limits register : List ℕ) → ((limits_of limits).refusal ≡ 0 → ⊥)
    → answer_of tell limits register ≡ refused_text (limits_of limits).refusal (limits_of limits).line
unfolding answer_of answer_text
report_refused tell limits register ne = rw (ne_eqb (limits_of limits).refusal 0 ne) refl

pub report_accepted : (tell : Telling) (limits register : List ℕ) → (limits_of limits).refusal ≡ 0
    → answer_of tell limits register ≡ register_text tell (limits_of limits) register
unfolding answer_of answer_text
report_accepted tell limits register z = rw z refl

pub answers_accepted : (tell : Telling) (limits : List ℕ) (came : Coming) (text : List ℕ) → (limits_of limits).refusal
    ≡ 0
    → Answers (register_text tell (limits_of limits)) came text
    → Answers (answer_of tell limits) came text
answers_accepted tell limits came text z a =
    of_as longest_row came (λ register is. is ∙ sym (report_accepted tell limits register z)) a

-- an empty book of the report is sound
pub empty_sound : (p : ℕ) → 1 ≤ p → p ≤ 8 → sound p (empty_book p book_rows) ≡ true
unfolding booked sizes_fit
empty_sound p some few = history_sound p book_rows [] ∙ rw (le-leb 1 p some, le-leb p max_points few) refl

-- limits.csv longer than its buffer: past its first 128 bytes nothing of it counts
limits_same : (limits more : List ℕ) → 128 ≤ length limits → limits_of (limits ++ more) ≡ limits_of limits
limits_same limits more h =
    limits_front (limits ++ more) (omega (arith, length-append limits more))
    ∙ ap limits_of (take-append-le 128 limits more h) ∙ sym (limits_front limits h)

pub limits_any : (limits more register : List ℕ) → 128 ≤ length limits
    → report_of (limits ++ more) register ≡ report_of limits register
unfolding answer_of
limits_any limits more register h =
    ap (λ (l : LimitsFile). answer_text book_text l register) (limits_same limits more h)

-- and so nothing is lost where its bytes fill the room that the programs have for them
pub limits_cut : (tell : Telling) (limits more register : List ℕ) → length limits ≡ limits_room
    → answer_of tell (limits ++ more) register ≡ answer_of tell limits register
unfolding answer_of
limits_cut tell limits more register full =
    ap (λ (l : LimitsFile). answer_text tell l register) (limits_same limits more (omega (arith, full)))

-- of limits.csv nothing is left out that counts
pub limits_from : (tell : Telling) (limits : List ℕ) → Opened limits → LimitsFrom tell limits
limits_from tell limits (all h) = ended h
limits_from tell limits (cut h full) = enough h (λ more register. limits_cut tell limits more register full)
limits_from tell limits (unread came h none) = missing came h none
