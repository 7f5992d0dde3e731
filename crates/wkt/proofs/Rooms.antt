-- A room filled piece by piece from its front. Assumes nothing.
use mathlib.Core.{Path.◌≡◌, Path.refl, Path.sym, Path.ap, Path.◌∙◌, Bool.Bool, Bool.true, Bool.false}
use mathlib.Core.{List.List, List.◌++◌, List.append_assoc, Logic.◌⊎◌}
use Rattle.std.specs.Prelude.{ℕ, suc, ◌+◌, ◌<◌, ◌≤◌}
use native.Mathlib.Omega.{arith}
use borrow.Author.Tests.{ltb-true, ltb-false}
use lib.{Dec.ltb, ListN.length, ListN.take, ListN.drop, ListN.length-append}
use lib.Seq.{take_at, drop_at, drop-drop, length-take-le}
use Rattle.room.specs.Room.{put, Wrote}
use Rattle.room.proofs.Laws.{length_wrote}
use Rattle.network.specs.declared.Frame.{Frame}
use Rattle.wkt.specs.declared.Cursor.{Cursor}
use Rattle.wkt.specs.InnerParts.{Reached, left_of, piece_of, next_of, walk, pieces, Printed}

module _ (old room piece : List ℕ) (size : ℕ) (fits : size + length piece ≤ length room) where
  front_long : length (take size room ++ piece) ≡ size + length piece
  front_long = length-append (take size room) piece
      ∙ ap (λ (n : ℕ). n + length piece) (length-take-le size room (omega arith))

  -- the front grows by the piece
  pub front_more_rule : take (size + length piece) (put room size piece) ≡ take size room ++ piece
  unfolding put
  front_more_rule = take_at (take size room ++ piece) (drop (size + length piece) room) (size + length piece) front_long

  -- and what lies past it stays
  pub past_more : drop size room ≡ drop size old
      → drop (size + length piece) (put room size piece) ≡ drop (size + length piece) old
  unfolding put
  past_more e =
      drop_at (take size room ++ piece) (drop (size + length piece) room) (size + length piece) front_long
      ∙ sym (drop-drop (length piece) size room) ∙ ap (drop (length piece)) e ∙ drop-drop (length piece) size old

-- a text so far, one piece more
pub joined-more : (text front piece left rest : List ℕ) → text ≡ front ++ left → left ≡ piece ++ rest
    → text ≡ (front ++ piece) ++ rest
joined-more text front piece left rest e h = e ∙ ap (λ (t : List ℕ). front ++ t) h
    ∙ sym (append_assoc front piece rest)

-- ---- what holds after some pieces

-- from the cursor `from` and the room `old`: the room holds the text up to the cursor `at`, which some steps lead
-- to, and past it what it held
pub record Come (levels : List ℕ) (f : Frame) (v : ℕ) (listed counts closed : List ℕ) (from : Cursor)
    (old room piece : List ℕ) (at : Cursor) (size : ℕ) : Type 0 where
  pub reached : Reached listed counts closed at
  pub whole : length piece ≡ 64
  pub long : length room ≡ length old
  pub fits : size ≤ length old
  pub joined : left_of levels f v listed counts closed from ≡ take size room
      ++ left_of levels f v listed counts closed at
  pub kept : drop size room ≡ drop size old
  pub steps : ℕ
  pub there : at ≡ walk counts closed steps from
  pub bytes : take size room ≡ pieces levels f v listed counts closed steps from
  pub not_before_rule : (m : ℕ) → m < steps
      → ((walk counts closed m from).line ≤ length counts)
      × (length (pieces levels f v listed counts closed (suc m) from) ≤ length old)

module _ (levels : List ℕ) (f : Frame) (v : ℕ) (listed counts closed : List ℕ) (from : Cursor)
    (old : List ℕ) where
  pub come_none : (piece : List ℕ) → Reached listed counts closed from → length piece ≡ 64
      → Come levels f v listed counts closed from old old piece from 0
  unfolding walk pieces
  come_none piece r w =
      record {
        reached = r;
        whole = w;
        long = refl;
        fits = omega arith;
        joined = refl;
        kept = refl;
        steps =
            0;
        there = refl;
        bytes = refl;
        not_before_rule = λ m h. absurd (omega arith);
      }

  -- one piece more
  module _ (room piece : List ℕ) (at : Cursor) (size : ℕ)
      (i : Come levels f v listed counts closed from old room piece at size) where
    abbrev text : List ℕ
    text = piece_of levels f v listed counts closed at

    module _ (next : Cursor) (piece' room' : List ℕ) (size' : ℕ) (q : next ≡ next_of counts closed at)
        (l : at.line ≤ length counts) (h : size + length text ≤ length room)
        (k : Wrote room size text room' size') where
      front' : take size' room' ≡ take size room ++ text
      front' = ap (λ (n : ℕ). take n room') k.place ∙ ap (take (size + length text)) k.bytes
          ∙ front_more_rule old room text size h

      all_bytes_rule : take size' room' ≡ pieces levels f v listed counts closed (suc i.steps) from
      unfolding pieces
      all_bytes_rule = front' ∙ ap (λ (t : List ℕ). t ++ text) i.bytes
          ∙ ap (λ (c : Cursor). pieces levels f v listed counts closed i.steps from
          ++ piece_of levels f v listed counts closed c) i.there

      size_fits : size' ≤ length old
      size_fits = omega (arith, k.place, i.long)

      longer : length room' ≡ length old
      longer = length_wrote h k ∙ i.long

      none_before : (m : ℕ) → m < suc i.steps
          → ((walk counts closed m from).line ≤ length counts)
          × (length (pieces levels f v listed counts closed (suc m) from) ≤ length old)
      none_before m b = go (ltb m i.steps) refl
        where
          last : m ≡ i.steps → ((walk counts closed m from).line ≤ length counts)
              × (length (pieces levels f v listed counts closed (suc m) from) ≤ length old)
          last e = rw e (
            omega (arith, l, ap (λ (c : Cursor). c.line) i.there),
            omega (
              arith,
              ap length all_bytes_rule,
              length-take-le size' room' (omega (arith, size_fits, longer)),
              size_fits,
            ),
          )

          go : (t : Bool) → ltb m i.steps ≡ t
              → ((walk counts closed m from).line ≤ length counts)
              × (length (pieces levels f v listed counts closed (suc m) from) ≤ length old)
          go true t = i.not_before_rule m (ltb-true _ _ t)
          go false t = last (omega (arith, ltb-false m i.steps t))

      pub come_more : left_of levels f v listed counts closed at ≡ text
          ++ left_of levels f v listed counts closed next → Reached listed counts closed next → length piece' ≡ 64
          → Come levels f v listed counts closed from old room' piece' next size'
      unfolding walk
      come_more e r w =
          record {
            reached = r;
            whole = w;
            long = longer;
            fits = size_fits;
            joined = joined-more _ (take size room) text _ _ i.joined e
                ∙ ap (λ (t : List ℕ). t ++ left_of levels f v listed counts closed next) (sym front');
            kept = rw k.place (ap (drop (size + length text)) k.bytes
                ∙ past_more old room text size h i.kept);
            steps = suc i.steps;
            there = q ∙ ap (next_of counts closed) i.there;
            bytes = all_bytes_rule;
            not_before_rule = none_before;
          }

-- what has come is a part, where the text ends or the next piece has no room
pub come_stops : {levels : List ℕ} {f : Frame} {v : ℕ} {listed counts closed : List ℕ} {from : Cursor}
    {old room piece : List ℕ} {at : Cursor} {size : ℕ}
    → Come levels f v listed counts closed from old room piece at size
    → (length counts < at.line) ⊎ (length old < size + length (piece_of levels f v listed counts closed at))
    → Printed levels f v listed counts closed from old (record { next = at; size = size }) room
come_stops i stopped = record {
  steps = i.steps;
  there = i.there;
  bytes = i.bytes;
  fits = i.fits;
  long = i.long;
  kept = i.kept;
  stopped = stopped;
  not_before_rule = i.not_before_rule;
  reached = i.reached;
  joined = i.joined;
}
