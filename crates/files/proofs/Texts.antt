-- The texts of the program's steps, and which answer each is. Assumes nothing.
use mathlib.Core.{Path.◌≡◌, Path.sym, Path.◌∙◌, List.List, List.[]}
use Rattle.std.specs.Prelude.{ℕ}
use lib.{ListN.take}
use Rattle.room.specs.Room.{Wrote}
use Rattle.room.proofs.Laws.{wrote_front, wrote_fits}
use Rattle.book_rules.specs.{Columns.Book, History.empty_book}
use Rattle.register.specs.LimitsFile.{LimitsFile}
use Rattle.register.specs.LimitsFile.{limits_of}
use Rattle.stream.specs.declared.Turn.{Turn}
use Rattle.stream.specs.{Reading.reading_at, Feeding.turned_to, Feeding.Done}
use Rattle.stream.specs.Coming.Coming.{stopped}
use Rattle.stream.proofs.Turns.{of_as}
use Rattle.report_steps.specs.{Stream.longest_row, Reading.register_step}
use Rattle.text.specs.{Sheet.refused_text, InnerWithin.longest_refused, InnerWithin.WroteWithin}
use Rattle.channel.specs.{System.none_came}
use Rattle.channel.specs.System.Origin.{input}
use Rattle.report_rules.specs.Report.{book_rows, Telling, Opened}
use Rattle.report_rules.proofs.Answers.{reading_refused, reading_reported, register_text_lem, report_refused}
use Rattle.report_rules.proofs.Answers.{answers_accepted}
use Rattle.files.specs.InnerSteps.{Sized, AnsweredIn, WrittenIn}

pub sized_refused : (tell : Telling) (l : LimitsFile) (b : Book) {s e : List ℕ} {r n size : ℕ} → (r ≡ 0 → ⊥)
    → WroteWithin longest_refused s 0 (refused_text r n) e size → Sized tell l (reading_at r n b) e size
sized_refused tell l b {s} {e} {r} {n} {size} ne w =
    record {
      fits = wrote_fits w.wrote;
      text = wrote_front w.wrote
          ∙ sym (reading_refused tell l (reading_at r n b) ne);
    }

pub sized_report : (tell : Telling) (l : LimitsFile) (b : Book) {s e : List ℕ} {r size : ℕ} (n : ℕ) → r ≡ 0
    → Wrote s 0 (tell l b) e size → Sized tell l (reading_at r n b) e size
sized_report tell l b {s} {e} {r} {size} n z w =
    record { fits = wrote_fits w; text = wrote_front w ∙ sym (reading_reported tell l (reading_at r n b) z) }

-- a register that was read, however its bytes came
pub answered : (tell : Telling) (l : LimitsFile) {b₀ b : Book} {t : Turn} {out : List ℕ} {size : ℕ}
    → Done input (register_step l.points) longest_row b₀ t b → b₀ ≡ empty_book l.points book_rows
    → Sized tell l (turned_to t b) out size → AnsweredIn tell l out size
answered tell l {b₀} {b} {t} {out} {size} d none w =
    record {
      fits = w.fits;
      came = d.came;
      heard = d.heard;
      is = of_as longest_row d.came
          (λ register e. w.text ∙ register_text_lem tell l register (turned_to t b) (rw none at e)) d.is;
    }

-- limits.csv refused, and accepted
pub limits_refused : (tell : Telling) (limits : List ℕ) → Opened limits
    → {l : LimitsFile} {s e : List ℕ} {size : ℕ} → l ≡ limits_of limits
    → (l.refusal ≡ 0 → ⊥)
    → WroteWithin longest_refused s 0 (refused_text l.refusal l.line) e size → WrittenIn tell limits e size
limits_refused tell limits opened {l} {s} {e} {size} q ne w =
    record {
      fits = wrote_fits w.wrote;
      written = record {
        opened = opened;
        came = stopped [];
        heard = none_came input;
        is = λ rest. wrote_front w.wrote ∙ rw q (sym (report_refused tell limits rest (rw q at ne)));
      };
    }

pub limits_accepted : (tell : Telling) (limits : List ℕ) → Opened limits
    → {l : LimitsFile} {e : List ℕ} {size : ℕ} → l ≡ limits_of limits
    → l.refusal ≡ 0
    → AnsweredIn tell l e size → WrittenIn tell limits e size
limits_accepted tell limits opened {l} {e} {size} q z a =
    let b : AnsweredIn tell (limits_of limits) e size = rw q at a in
    let is = answers_accepted tell limits b.came (take size e) (rw q at z) b.is in
    record { fits = b.fits; written = record { opened = opened; came = b.came; heard = b.heard; is = is } }
