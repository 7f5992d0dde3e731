-- The lines of the sheet, one past the other in a buffer. Assumes nothing.
use Rattle.std.specs.Prelude.{ℕ, suc, ◌+◌, ◌-◌, ◌*◌, ◌<◌, ◌≤◌, List, [], ◌∷◌, ◌++◌}
use mathlib.Core.{Path.◌≡◌, Path.refl, Path.sym, Path.ap, Path.◌∙◌}
use mathlib.Core.List.{append_assoc}
use native.Mathlib.{Numerals.add-one, Omega.arith}
use lib.{ListN.length, ListN.get_or, ListN.drop, ListN.length-append, Seq.drop-cons}
use borrow.Author.Tests.{ne_eqb}
use Rattle.room.specs.Room.{Wrote}
use Rattle.room.proofs.Laws.{wrote_then, wrote_none, wrote_front, wrote_fits, length_wrote}
use Rattle.text.specs.{Number.show_number, Field.joined_by, Index.listing, Spelled.crlf}
use Rattle.text.specs.InnerWithin.{longest_number, longest_field, WroteWithin}
use Rattle.text.specs.Sheet.{ended, comma, line}
use Rattle.text.proofs.{Within.within, Within.within_three, Within.within_is}
use Rattle.text.proofs.Indices.{length_listing, listing_at}
use Rattle.couple_steps.specs.Sheet.{track_text, flight_line}
use Rattle.couple_steps.specs.InnerSheet.{longest_flight, lines_from, PartPut}

-- a track or none
module _ (numbers : List ℕ) {at r answer : ℕ} {s e : List ℕ} where
  pub track_none : answer ≡ 0 → Wrote s at (comma ∷ []) e r
      → WroteWithin longest_field s at (comma ∷ track_text numbers answer) e r
  track_none z w = rw z (within (omega arith) w)

  pub track_some : {v : ℕ} → (answer ≡ 0 → ⊥) → v ≡ get_or numbers (answer - 1) 0
      → WroteWithin longest_field s at (comma ∷ show_number v) e r
      → WroteWithin longest_field s at (comma ∷ track_text numbers answer) e r
  track_some {v} ne q w = rw (ne_eqb answer 0 ne, ← q) w

-- a line: its id, its track and its end
fields_line : (a b : List ℕ) → a ++ ((comma ∷ b) ++ crlf) ≡ line (a ∷ b ∷ []) ++ crlf
unfolding joined_by
fields_line a b = sym (append_assoc a (comma ∷ b) crlf)

pub line_put : (ids numbers answers : List ℕ) (i : ℕ) {at j k l v answer : ℕ} {s m n e : List ℕ}
    → at + longest_flight ≤ length s → v ≡ get_or ids i 0 → answer ≡ get_or answers i 0
    → WroteWithin longest_number s at (show_number v) m j
    → WroteWithin longest_field m j (comma ∷ track_text numbers answer) n k → WroteWithin 2 n k crlf e l
    → WroteWithin longest_flight s at (flight_line ids numbers answers i ++ crlf) e l
line_put ids numbers answers i {at} {j} {k} {l} {v} {answer} room q p u w x =
    rw (← q, ← p) (within_is (within_three room u w x) (fields_line (show_number v) (track_text numbers answer)))

-- the lines from a movement on: its own, and those past it
module _ (ids numbers answers : List ℕ) (many : ℕ) where
  pub lines_next : (i : ℕ) → i < many
      → lines_from ids numbers answers many i
      ≡ (flight_line ids numbers answers i ++ crlf) ++ lines_from ids numbers answers many (i + 1)
  unfolding ended
  lines_next i h =
      let f = flight_line ids numbers answers in
      let ls = listing f many in
      let short : i < length ls = rw (length_listing f many) h in
      rw (drop-cons ls i [] short, listing_at f many i [] h, add-one i)
      (sym (append_assoc (f i) crlf (ended (drop (suc i) ls))))

  -- so many lines stand in the buffer
  pub record Putting (from : ℕ) (out₀ : List ℕ) (at i : ℕ) (out : List ℕ) : Type 0 where
    pub done : List ℕ
    pub wrote : Wrote out₀ 0 done out at
    pub joined : lines_from ids numbers answers many from ≡ done ++ lines_from ids numbers answers many i
    pub long : length out ≡ length out₀
    pub low : from ≤ i
    pub high : i ≤ many
    pub most : at ≤ longest_flight * (i - from)

  pub putting_none : (from : ℕ) (out : List ℕ) → from < many → Putting from out 0 from out
  putting_none from out h =
      record {
        done = [];
        wrote = wrote_none out 0;
        joined = refl;
        long = refl;
        low = omega arith;
        high = omega arith;
        most = omega arith;
      }

  module _ {from at i : ℕ} {out₀ out : List ℕ} (k : Putting from out₀ at i out) where
    pub at_within : at ≤ length out
    at_within = wrote_fits k.wrote

    pub putting_next : {at' : ℕ} {out' : List ℕ} → i < many → at + longest_flight ≤ length out
        → WroteWithin longest_flight out at (flight_line ids numbers answers i ++ crlf) out' at'
        → Putting from out₀ at' (i + 1) out'
    putting_next {at'} {out'} h room w =
        let one = flight_line ids numbers answers i ++ crlf in
        let place = w.wrote.place in
        let size = length-append k.done one in
        record {
          done = k.done ++ one;
          wrote = wrote_then (omega (arith, size, place, k.wrote.place, w.within, k.long)) k.wrote w.wrote;
          joined = k.joined ∙ ap (λ (t : List ℕ). k.done ++ t) (lines_next i h)
              ∙ sym (append_assoc k.done one (lines_from ids numbers answers many (i + 1)));
          long = length_wrote (omega (arith, place, w.within)) w.wrote ∙ k.long;
          low = omega (arith, k.low);
          high = omega arith;
          most = omega (arith, k.most, k.low, w.within);
        }

    -- the part that was put
    pub part_put : from < i → PartPut ids numbers answers many from out₀ (record { size = at; next = i }) out
    part_put more =
        record {
          long = k.long;
          fits = at_within;
          joined = k.joined
              ∙ ap (λ (t : List ℕ). t ++ lines_from ids numbers answers many i) (sym (wrote_front k.wrote));
          within = k.high;
          more = more;
        }
