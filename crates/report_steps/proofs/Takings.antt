-- What the code knows of a line of a register: it keeps a sound book sound, and is the header or a row.
-- Assumes nothing.
use mathlib.Core.{Path.◌≡◌, Path.refl, Path.ap, Path.◌∙◌, Bool.true, List.List}
use Rattle.std.specs.Prelude.{ℕ, eqb}
use borrow.Author.Tests.{eq-eqb, ne_eqb}
use Rattle.std.specs.Prelude.{Option, Some}
use Rattle.text.proofs.Digits.{either}
use Rattle.book_rules.specs.Columns.{Book, sound}
use Rattle.stream.specs.InnerTaken.{LineTaken}
use Rattle.report_steps.specs.Intake.{Taken}
use Rattle.report_steps.specs.Intake.{taken_number}
use Rattle.report_steps.specs.Reading.{points_refusal, header_points, line_refusal, line_after, register_step}
use Rattle.report_steps.specs.InnerTaken.{RowTaken}
use Rattle.report_steps.proofs.Intakes.{row_sound_lem}

-- one line keeps a sound book sound
line-sound : (p n : ℕ) (b : Book) (line : List ℕ) → sound p b ≡ true
    → sound p (line_after p n b line) ≡ true
unfolding line_after
line-sound p n b line s =
    either (eqb n 1) (λ yes. rw yes s) (λ no. rw no (row_sound_lem line s (record { answer = refl; book = refl })))

pub taken_sound : (p : ℕ) {n r : ℕ} {b b' : Book} {line : List ℕ} → sound p b ≡ true
    → LineTaken (register_step p) n b line r b' → sound p b' ≡ true
taken_sound p {n} {r} {b} {b'} {line} s k = ap (sound p) k.held ∙ line-sound p n b line s

-- the header, as it was read
pub header_fits : {p n : ℕ} {x y : Option ℕ} → x ≡ y → x ≡ Some n → n ≡ p → 0 ≡ points_refusal p y
header_fits {p} {n} {x} {y} e g q = rw (← e, g, eq-eqb n p q) refl

pub header_other : {p n : ℕ} {x y : Option ℕ} → x ≡ y → x ≡ Some n → (n ≡ p → ⊥) → 16 ≡ points_refusal p y
header_other {p} {n} {x} {y} e g q = rw (← e, g, ne_eqb n p q) refl

-- a line is the header or a row
pub header_taken : (p n r : ℕ) (b : Book) (line : List ℕ) → n ≡ 1 → r ≡ points_refusal p (header_points line)
    → LineTaken (register_step p) n b line r b
unfolding line_refusal line_after
header_taken p n r b line one e = record { answer = rw (eq-eqb n 1 one) e; held = rw (eq-eqb n 1 one) refl }

pub row_taken_lem : {p n r : ℕ} {b b' : Book} {line : List ℕ} {t : Taken} → (n ≡ 1 → ⊥)
    → RowTaken p b line t b'
    → r ≡ taken_number t → LineTaken (register_step p) n b line r b'
unfolding line_refusal line_after
row_taken_lem {p} {n} {r} {b} {b'} {line} {t} ne k e =
    record { answer = rw (ne_eqb n 1 ne) (e ∙ ap taken_number k.answer); held = rw (ne_eqb n 1 ne) k.book }
