-- Writes within so many bytes, one past the other. Assumes nothing.
use mathlib.Core.{Path.◌≡◌, List.List, List.[], List.◌∷◌, List.◌++◌}
use Rattle.std.specs.Prelude.{ℕ, ◌+◌, ◌≤◌, length}
use native.Mathlib.Omega.{arith}
use lib.ListN.{length-append}
use Rattle.room.specs.Room.{Wrote}
use Rattle.room.proofs.Laws.{wrote_then, wrote_none, length_wrote}
use Rattle.text.specs.InnerWithin.{WroteWithin}

pub within : {m : ℕ} {s t e : List ℕ} {at i : ℕ} → length t ≤ m → Wrote s at t e i
    → WroteWithin m s at t e i
within {m} {s} {t} {e} {at} {i} h w = record { wrote = w; within = omega (arith, w.place) }

-- two writes are one
pub within_then : {m n : ℕ} {s a b mid e : List ℕ} {at i j : ℕ} → at + (m + n) ≤ length s
    → WroteWithin m s at a mid i → WroteWithin n mid i b e j → WroteWithin (m + n) s at (a ++ b) e j
within_then {m} {n} {s} {a} {b} {mid} {e} {at} {i} {j} room u v =
    record {
      wrote = wrote_then (omega (arith, length-append a b, u.wrote.place, u.within, v.wrote.place, v.within))
          u.wrote v.wrote;
      within = omega (arith, u.within, v.within);
    }

-- a byte, and a text past it
pub byte_then : {m b : ℕ} {s t mid e : List ℕ} {at i j : ℕ} → at + (1 + m) ≤ length s
    → Wrote s at (b ∷ []) mid i → WroteWithin m mid i t e j → WroteWithin (1 + m) s at (b ∷ t) e j
byte_then room u v = within_then room (within (omega arith) u) v

-- and so are three and four: a write leaves the room past it
room_past : {m : ℕ} {s a mid : List ℕ} {at i : ℕ} (n : ℕ) → at + (m + n) ≤ length s
    → WroteWithin m s at a mid i → i + n ≤ length mid
room_past {m} {s} {a} {mid} {at} {i} n room u =
    omega (arith, u.within, length_wrote (omega (arith, u.wrote.place, u.within)) u.wrote)

pub within_three : {m n k : ℕ} {s a b c mid mid' e : List ℕ} {at i j l : ℕ} → at + (m + (n + k)) ≤ length s
    → WroteWithin m s at a mid i → WroteWithin n mid i b mid' j → WroteWithin k mid' j c e l
    → WroteWithin (m + (n + k)) s at (a ++ (b ++ c)) e l
within_three room u v w = within_then room u (within_then (room_past _ room u) v w)

pub within_four : {m n k o : ℕ} {s a b c d mid mid' mid'' e : List ℕ} {at i j l h : ℕ}
    → at + (m + (n + (k + o))) ≤ length s
    → WroteWithin m s at a mid i → WroteWithin n mid i b mid' j → WroteWithin k mid' j c mid'' l
    → WroteWithin o mid'' l d e h → WroteWithin (m + (n + (k + o))) s at (a ++ (b ++ (c ++ d))) e h
within_four room u v w x = within_then room u (within_three (room_past _ room u) v w x)

-- no byte; and fewer than so many
pub within_none : {s : List ℕ} {at : ℕ} → WroteWithin 0 s at [] s at
within_none {s} {at} = record { wrote = wrote_none s at; within = omega arith }

pub within_more : {m n : ℕ} {s t e : List ℕ} {at i : ℕ} → m ≤ n → WroteWithin m s at t e i
    → WroteWithin n s at t e i
within_more h w = record { wrote = w.wrote; within = omega (arith, w.within) }

-- the same text, grouped otherwise
pub within_is : {m : ℕ} {s t u e : List ℕ} {at i : ℕ} → WroteWithin m s at t e i → t ≡ u
    → WroteWithin m s at u e i
within_is w q = rw q at w

-- the same of texts whose length is known: what one leaves past it, and three in a row
pub room_after : {s t e : List ℕ} {at i : ℕ} (n : ℕ) → at + (length t + n) ≤ length s → Wrote s at t e i
    → i + n ≤ length e
room_after {s} {t} {e} {at} {i} n room w = omega (arith, w.place, length_wrote (omega arith) w)

pub wrote_three : {s a b c m n e : List ℕ} {at i j k : ℕ} → at + (length a + (length b + length c)) ≤ length s
    → Wrote s at a m i → Wrote m i b n j → Wrote n j c e k → Wrote s at (a ++ (b ++ c)) e k
wrote_three {s} {a} {b} {c} room u v w =
    let p = length-append a (b ++ c) in
    let q = length-append b c in
    let past = room_after (length b + length c) room u in
    wrote_then (omega arith) u (wrote_then (omega arith) v w)
