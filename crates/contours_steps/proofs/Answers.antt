-- What may be written, by how the reading went, and the run that it ends. Assumes nothing.
use Rattle.std.specs.Prelude.{ℕ}
use mathlib.Core.{Path.◌≡◌, Path.refl, Path.sym, Path.ap, Bool.Bool, List.List}
use borrow.Author.Tests.{eq-eqb, ne_eqb}
use Rattle.channel.specs.{Due.Sends, Run.Run}
use Rattle.channel.proofs.Running as running
use Rattle.network.specs.declared.Frame.{Frame}
use Rattle.contours_steps.specs.declared.words.Given.{Given}
use Rattle.contours_steps.specs.Words.{Gathered}
use Rattle.contours_steps.specs.Sheet.{refused_line, sheet_of, line_begun, overlong_line, overlong_of}
use Rattle.contours_steps.specs.{Drawing.Accepted, Drawing.Refused}
use Rattle.contours_steps.specs.Answer.{ReadWhole, ReadFailed, ReadFull, Answered, MayWrite}
use Rattle.contours_steps.specs.Answer.TextFor.{whole, fails, full}
use Rattle.contours_steps.proofs.Drawings.{refused_written, accepted_written}

-- ---- what may then be written

module _ {bytes asked : List ℕ} {g : Given} where
  pub answered_refusal : {number line : ℕ} → ReadWhole bytes → Refused bytes g asked number line
      → Answered bytes g asked (refused_line number line)
  answered_refusal k r = record { given = r.given; is = whole k (sym (refused_written r)) }

  pub answered_sheet : {levels vs : List ℕ} {f : Frame} → ReadWhole bytes → Accepted bytes g asked levels f vs
      → Answered bytes g asked (sheet_of levels f vs)
  answered_sheet k a = record { given = a.given; is = whole k (sym (accepted_written a)) }

  pub answered_failed : {line : ℕ} → ReadFailed bytes → Gathered g asked → line ≡ line_begun bytes
      → Answered bytes g asked (refused_line 17 line)
  answered_failed k w e = record { given = w; is = fails k (ap (refused_line 17) e) }

  module _ {line : ℕ} (k : ReadFull bytes) (w : Gathered g asked) (e : line ≡ overlong_line bytes) where
    pub answered_many : line ≡ 0 → Answered bytes g asked (refused_line 12 0)
    unfolding overlong_of
    answered_many z = record { given = w; is = full k (rw (← e, eq-eqb line 0 z) refl) }

    pub answered_line : (line ≡ 0 → ⊥) → Answered bytes g asked (refused_line 17 line)
    unfolding overlong_of
    answered_line ne = record { given = w; is = full k (rw (← e, ne_eqb line 0 ne) refl) }

  -- the run that it ends, from nothing sent on
  pub ran : {out : List ℕ} {r : Bool} {sent sent' : ℕ} → Answered bytes g asked out → sent ≡ 0
      → Sends sent out r sent' → Run MayWrite r sent'
  ran a z s = running.ran (record { bytes = bytes; given = g; asked = asked; answered = a }) z s
