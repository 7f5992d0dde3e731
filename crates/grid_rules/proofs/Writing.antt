-- A network is written exactly where the rules let it be, and lent room keeps the rest. Assumes nothing.
use Prim.Native.Nat.{ℕ, ◌≤◌}
use mathlib.Core.{Path.◌≡◌, Path.refl, Path.◌∙◌, Bool.◌&&◌, List.List, List.[], List.◌∷◌}
use native.Mathlib.Omega.{arith}
use lib.{ListN.length, Dec.leb}
use borrow.Author.Tests.{eq-eqb, le-leb, leb-true}
use Rattle.refusal.specs.Refuse.{refuse}
use Rattle.refusal.proofs.Laws.{and_left, and_right}
use Rattle.room.specs.Room.{leaves}
use Rattle.room.proofs.Fronts.{front_past, left_alone}
use Rattle.text.proofs.Digits.{either}
use Rattle.network.specs.declared.Frame.{Frame}
use Rattle.network.specs.Limits.{max_network_level}
use Rattle.network.proofs.{Refusals.checked_on, Refusals.checked_off, Ranges.network_refused}
use Rattle.grid.specs.Read.{numbers_of, text_frame, text_levels, read_refusal, header_after, levels_after}
use Rattle.grid.specs.Write.{show_network, write_refusal, text_after, size_after}
use Rattle.grid_rules.specs.Writing.{WriteRefused, Keeps}

module _ (levels : List ℕ) (f : Frame) (text sizes : List ℕ) where
  abbrev size : ℕ
  size = length (show_network levels f)

  abbrev rest : ℕ
  rest = refuse 14 (leb size (length text) && leb 1 (length sizes)) 0

  no_room : ((size ≤ length text) × (1 ≤ length sizes) → ⊥) → rest ≡ 14
  no_room short =
      either (leb size (length text) && leb 1 (length sizes))
      (λ yes. absurd (short (
        leb-true size (length text) (and_left (leb size (length text)) (leb 1 (length sizes)) yes),
        leb-true 1 (length sizes) (and_right (leb size (length text)) (leb 1 (length sizes)) yes),
      )))
      (λ no. rw no refl)

  pub write_refused : WriteRefused levels f text sizes (write_refusal levels f (length text) (length sizes))
  write_refused =
      let judged = network_refused levels f in
      record {
        twelve = λ off. let e = judged.twelve.1 off in
            checked_off max_network_level levels f rest (λ z. absurd (omega (arith, e, z))) ∙ e;
        thirteen = λ right high. let e = judged.thirteen.1 (right, high) in
            checked_off max_network_level levels f rest (λ z. absurd (omega (arith, e, z))) ∙ e;
        fourteen = λ right low short.
            checked_on max_network_level levels f rest (judged.none.1 (right, low)) ∙ no_room short;
        none = λ right low long one. checked_on max_network_level levels f rest (judged.none.1 (right, low))
            ∙ rw (le-leb size (length text) long, le-leb 1 (length sizes) one) refl;
      }

keeps : (n : ℕ) (answer room : List ℕ) → Keeps n (length answer) room (leaves n answer room)
keeps n answer room =
    record { refused = left_alone n answer room; past = λ z i h. rw (eq-eqb n 0 z) (front_past answer room i 0 h) }

-- the room for a text and its size, and for the five numbers of a header and the levels
pub write_keeps : (levels : List ℕ) (f : Frame) (text sizes : List ℕ)
    → let n = write_refusal levels f (length text) (length sizes) in
    Keeps n (length (show_network levels f)) text (text_after levels f text sizes)
    × Keeps n 1 sizes (size_after levels f text sizes)
write_keeps levels f text sizes =
    let n = write_refusal levels f (length text) (length sizes) in
    (keeps n (show_network levels f) text, keeps n (length (show_network levels f) ∷ []) sizes)

pub read_keeps : (text headers levels : List ℕ) → let n = read_refusal text (length headers) (length levels) in
    Keeps n 5 headers (header_after text headers levels)
    × Keeps n (length (text_levels text)) levels (levels_after text headers levels)
read_keeps text headers levels =
    let n = read_refusal text (length headers) (length levels) in
    (keeps n (numbers_of (text_frame text)) headers, keeps n (text_levels text) levels)
