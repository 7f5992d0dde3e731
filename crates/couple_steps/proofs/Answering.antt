-- Which text may be written once the two files are read: a refusal, or the sheet of the tables that hold them.
-- Assumes nothing.
use Rattle.refusal.specs.Refusal.{told}
use Rattle.std.specs.Prelude.{ℕ}
use mathlib.Core.{Path.◌≡◌, Path.sym, Path.ap, Path.◌∙◌, List.List, List.[]}
use Rattle.channel.specs.System.Origin.{input}
use Rattle.text.specs.Sheet.{refused_text}
use Rattle.stream.specs.declared.Turn.{Turn}
use Rattle.stream.specs.Reading.{Reading}
use Rattle.stream.specs.Feeding.{ReadWhole, Done}
use Rattle.stream.proofs.Turns.{of_as}
use Rattle.couple_steps.specs.Table.{Rows, table_step, table_of, longest_text}
use Rattle.couple_steps.specs.Sheet.{coupled_sheet}
use Rattle.couple_steps.specs.Written.{tracks_origin, MayWrite}
use Rattle.couple_steps.specs.Written.MayWrite.{tracks, both}
use Rattle.couple_steps.proofs.Says.{text_coupled, text_tracks, text_movements}

-- tracks.csv is refused
pub may_tracks : {t : Turn} {rows : Rows} {text : List ℕ} → Done tracks_origin (table_step 8) longest_text [] t rows
    → (told t.refusal ≡ 0 → ⊥) → text ≡ refused_text (told t.refusal) t.line → MayWrite text
may_tracks {t} {rows} {text} d ne e =
    tracks d.came d.heard (of_as longest_text d.came (λ file is m.
    let not : (table_of 8 file).refusal ≡ 0 → ⊥ = λ z. ne (ap (λ (s : Reading Rows). s.refusal) is ∙ z) in
    e ∙ ap (λ (s : Reading Rows). refused_text s.refusal s.line) is ∙ sym (text_tracks file m not)) d.is)

-- it is not, and was read to its end
module _ {t : Turn} {rows : Rows} (w : ReadWhole tracks_origin (table_step 8) [] t rows) (z : told t.refusal ≡ 0) where
  fine : (table_of 8 w.all).refusal ≡ 0
  fine = ap (λ (s : Reading Rows). s.refusal) (sym w.is) ∙ z

  module _ {u : Turn} {moves : Rows} (text : List ℕ) (d : Done input (table_step 9) longest_text [] u moves) where
    -- the movements are refused
    pub may_movements : (told u.refusal ≡ 0 → ⊥) → text ≡ refused_text (told u.refusal) u.line → MayWrite text
    may_movements ne e =
        both w.all w.whole fine d.came d.heard (of_as longest_text d.came (λ file is.
        let not : (table_of 9 file).refusal ≡ 0 → ⊥ = λ q. ne (ap (λ (s : Reading Rows). s.refusal) is ∙ q) in
        e ∙ ap (λ (s : Reading Rows). refused_text s.refusal s.line) is
        ∙ sym (text_movements w.all file fine not)) d.is)

    -- nothing is refused
    pub may_sheet : told u.refusal ≡ 0 → text ≡ coupled_sheet rows moves → MayWrite text
    may_sheet q e =
        both w.all w.whole fine d.came d.heard (of_as longest_text d.came (λ file is.
        let also : (table_of 9 file).refusal ≡ 0 = ap (λ (s : Reading Rows). s.refusal) (sym is) ∙ q in
        e ∙ ap (λ (s : Reading Rows). coupled_sheet s.held moves) w.is
        ∙ ap (λ (s : Reading Rows). coupled_sheet (table_of 8 w.all).held s.held) is
        ∙ sym (text_coupled w.all file fine also)) d.is)
