-- What the program knows once a table is read: it may be coupled, and what may then be written. Assumes nothing.
use Rattle.refusal.specs.Refusal.{told}
use Rattle.std.specs.Prelude.{ℕ, ◌-◌, ◌≤◌}
use mathlib.Core.{Path.◌≡◌, Path.refl, Path.sym, Path.ap, Path.◌∙◌, Bool.true, List.List, List.[]}
use native.Mathlib.Omega.{arith}
use Rattle.channel.specs.System.{Origin}
use Rattle.channel.specs.System.Origin.{input}
use Rattle.room.specs.Room.{front}
use Rattle.text.specs.Sheet.{refused_text}
use Rattle.coupling_rules.specs.{Limits.max_flights, Flights.Movements, Flights.Flights, Rule.tracks_for}
use Rattle.coupling_rules.specs.Promises.{Coupled}
use Rattle.coupling_rules.specs.Refusals.{flights_fit, movements_fit, couple_refusal}
use Rattle.coupling_rules.specs.Tables.{flights_in, movements_in}
use Rattle.coupling_rules.proofs.Promised as rules
use Rattle.stream.specs.declared.Turn.{Turn}
use Rattle.stream.specs.Reading.{Reading}
use Rattle.stream.specs.Feeding.{ReadWhole, Done}
use Rattle.stream.proofs.{Readings.whole_lines, Firsts.text_accepted}
use Rattle.couple_steps.specs.Table.{Rows, table_step, longest_text}
use Rattle.couple_steps.specs.Sheet.{sheet_text}
use Rattle.couple_steps.specs.Written.{tracks_origin, MayWrite}
use Rattle.couple_steps.specs.InnerTable.{held_in, Roomy, TableRead}
use Rattle.couple_steps.proofs.Answering.{may_movements, may_sheet}
use Rattle.couple_steps.specs.{Right.RightTracks, Right.RightMovements, Said.CoupledSays}
use Rattle.couple_steps.proofs.{Held.tracks_fit, Held.moves_fit, Says.says_so}
use Rattle.couple_steps.proofs.Flat.{tracks_few, tracks_ready, moves_few, moves_ready, sheet_same}

-- flights that fit are coupled by the rule
pub coupled_by_rule : (m : Movements) (t : Flights) → movements_fit m ≡ true → flights_fit t ≡ true
    → Coupled m t (tracks_for m t)
unfolding couple_refusal
coupled_by_rule m t f g = rules.coupled m t (rw (f, g) refl)

module _ {origin : Origin} {columns : ℕ} {flat : List ℕ} {t : Turn} (k : TableRead origin columns flat t) where
  pub table_roomy : columns ≤ 9 → Roomy columns flat
  table_roomy few = record { few = few; room = omega (arith, k.long) }

  read_whole : ReadWhole origin (table_step columns) [] t (held_in columns flat t.line)
  read_whole = k.done.ended k.fine

  -- it has a header
  pub table_line : 2 ≤ t.line
  table_line =
      let w = read_whole in
      let z = ap (λ (s : Reading Rows). s.refusal) (sym w.is) ∙ k.fine in
      let some = (text_accepted (table_step columns) [] w.all z).some in
      omega (arith, some, ap (λ (s : Reading Rows). s.line) w.is, whole_lines (table_step columns) [] w.all z)

module _ {numbers : List ℕ} {t : Turn} (k : TableRead tracks_origin 8 numbers t) where
  pub tracks_most : t.line - 2 ≤ max_flights
  tracks_most = tracks_few numbers (read_whole k) k.fine

  pub tracks_fitted : flights_fit (flights_in numbers (t.line - 2)) ≡ true
  tracks_fitted = tracks_ready numbers (read_whole k) k.fine (table_roomy k (omega arith))

  -- the movements are refused
  pub refused_movements : {u : Turn} {moves : Rows} → Done input (table_step 9) longest_text [] u moves
      → (told u.refusal ≡ 0 → ⊥) → MayWrite (refused_text (told u.refusal) u.line)
  refused_movements {u} d ne = may_movements (read_whole k) k.fine (refused_text (told u.refusal) u.line) d ne refl

module _ {ids : List ℕ} {u : Turn} (l : TableRead input 9 ids u) where
  pub moves_most : u.line - 2 ≤ max_flights
  moves_most = moves_few ids (read_whole l) l.fine

  pub moves_fitted : movements_fit (movements_in ids (u.line - 2)) ≡ true
  moves_fitted = moves_ready ids (read_whole l) l.fine (table_roomy l (omega arith))

-- neither is refused
module _ (numbers ids room answers : List ℕ) {t u : Turn} (k : TableRead tracks_origin 8 numbers t)
    (l : TableRead input 9 ids u) where
  pub sheet_may : answers ≡ front (tracks_for (movements_in ids (u.line - 2)) (flights_in numbers (t.line - 2))) room
      → MayWrite (sheet_text ids numbers answers (u.line - 2))
  sheet_may e =
      let text = sheet_text ids numbers answers (u.line - 2) in
      let coupled = coupled_by_rule _ _ (moves_fitted l) (tracks_fitted k) in
      let same = sheet_same ids numbers room (u.line - 2) (t.line - 2) (table_roomy l (omega arith))
      (table_roomy k (omega arith)) (moves_most l) (tracks_most k) coupled in
      may_sheet (read_whole k) k.fine text l.done l.fine
      (ap (λ (a : List ℕ). sheet_text ids numbers a (u.line - 2)) e ∙ same)

-- Where both files are right, the sheet says what the rule gives
pub coupled_says : (tracks movements : List ℕ) → RightTracks tracks → RightMovements movements
    → CoupledSays tracks movements
coupled_says tracks movements rt rm =
    says_so tracks movements rt rm (coupled_by_rule _ _ (moves_fit movements rm) (tracks_fit tracks rt))
