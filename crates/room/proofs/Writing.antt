-- Texts written part by part into room that is lent, and those at its front. Assumes nothing.
use Prim.Native.Nat.{ℕ, ◌+◌, ◌≤◌}
use mathlib.Core.Path.{◌≡◌, refl, sym, ap, ◌∙◌}
use mathlib.Core.List.{List, [], ◌++◌, append_assoc, append-nil}
use native.Mathlib.Omega.{arith}
use lib.ListN.{length, length-append}
use Rattle.room.specs.Room.{front, put, Wrote}
use Rattle.room.proofs.{Answers.front-put, Laws.wrote_then, Laws.wrote_none, Laws.length_wrote}

pub wrote_leaves : {old text new : List ℕ} {r : ℕ} → Wrote old 0 text new r → new ≡ front text old
wrote_leaves {old} {text} w = w.bytes ∙ front-put old text

-- what of a text is done, and what is left of it
pub record Writing (old : List ℕ) (from : ℕ) (text new : List ℕ) (at : ℕ) (rest : List ℕ) : Type 0 where
  pub done : List ℕ
  pub wrote : Wrote old from done new at
  pub whole : done ++ rest ≡ text

pub writing_start : (old : List ℕ) (from : ℕ) (text : List ℕ) → Writing old from text old from text
writing_start old from text = record { done = []; wrote = wrote_none old from; whole = refl }

module _ {old : List ℕ} {from : ℕ} {text new : List ℕ} {at : ℕ} where
  -- the room for what is left
  pub writing_room : {rest : List ℕ} → Writing old from text new at rest → from + length text ≤ length old
      → (at + length rest ≤ length new) × (length new ≡ length old)
  writing_room {rest} w room =
      let l = ap length (sym w.whole) ∙ length-append w.done rest in
      let place = w.wrote.place in
      let kept = length_wrote (omega arith) w.wrote in
      (omega arith, kept)

  -- a piece more
  pub writing_more : (piece rest : List ℕ) {last : List ℕ} {next : ℕ}
      → Writing old from text new at (piece ++ rest)
      → from + length text ≤ length old → Wrote new at piece last next → Writing old from text last next rest
  writing_more piece rest w room p =
      let l = ap length (sym w.whole) ∙ length-append w.done (piece ++ rest) in
      let k = length-append piece rest in
      let m = length-append w.done piece in
      record {
        done = w.done ++ piece;
        wrote = wrote_then (omega arith) w.wrote p;
        whole = append_assoc w.done piece rest ∙ w.whole;
      }

  pub writing_end : Writing old from text new at [] → Wrote old from text new at
  writing_end w =
      let e : w.done ≡ text = sym (append-nil w.done) ∙ w.whole in
      record {
        place = w.wrote.place ∙ ap (λ t. from + length t) e;
        bytes = w.wrote.bytes
            ∙ ap (put old from) e;
      }
