-- A text written into the middle of lent room, place by place. Assumes nothing.
use Prim.Native.Nat.{ℕ, ◌+◌, ◌-◌, ◌≤◌, ◌<◌}
use mathlib.Core.{Path.◌≡◌, Path.sym, Path.ap, Path.◌∙◌, List.List, List.◌++◌}
use native.Mathlib.Omega.{arith}
use lib.ListN.{length, get_or, take, drop, length-append, get_or-append}
use lib.Seq.{length-take-le, get_or-take, get_or-drop, get_or-append-add}
use Rattle.room.specs.Room.{put, Wrote}
use Rattle.room_rules.specs.Kept.{WroteSo}

module _ (old : List ℕ) (at : ℕ) (text : List ℕ) (fits : at + length text ≤ length old) where
  abbrev rest : List ℕ
  rest = drop (at + length text) old

  head : length (take at old) ≡ at
  head = length-take-le at old (omega arith)

  front : length (take at old ++ text) ≡ at + length text
  front = length-append (take at old) text ∙ omega (arith, head)

  before : (i : ℕ) → i < at → get_or (put old at text) i 0 ≡ get_or old i 0
  unfolding put
  before i h =
      get_or-append (take at old ++ text) rest 0 i (omega (arith, front))
      ∙ get_or-append (take at old) text 0 i (omega (arith, head)) ∙ get_or-take at old i 0 h

  here : (i : ℕ) → i < length text → get_or (put old at text) (at + i) 0 ≡ get_or text i 0
  unfolding put
  here i h =
      get_or-append (take at old ++ text) rest 0 (at + i) (omega (arith, front))
      ∙ ap (λ (k : ℕ). get_or (take at old ++ text) (k + i) 0) (sym head)
      ∙ get_or-append-add (take at old) text i 0

  past : (i : ℕ) → at + length text ≤ i → get_or (put old at text) i 0 ≡ get_or old i 0
  unfolding put
  past i h =
      let k = i - (at + length text) in
      let e : i ≡ length (take at old ++ text) + k = omega (arith, front) in
      let f : at + length text + k ≡ i = omega arith in
      ap (λ (j : ℕ). get_or (take at old ++ text ++ rest) j 0) e ∙ get_or-append-add (take at old ++ text) rest k 0
      ∙ get_or-drop (at + length text) old k 0 ∙ ap (λ (j : ℕ). get_or old j 0) f

pub wrote_so : {old text new : List ℕ} {at next : ℕ} → at + length text ≤ length old
    → Wrote old at text new next → WroteSo old at text new next
wrote_so {old} {text} {new} {at} {next} fits w =
    record {
      place = w.place;
      before = λ i h. ap (λ (s : List ℕ). get_or s i 0) w.bytes ∙ before old at text fits i h;
      here = λ i h. ap (λ (s : List ℕ). get_or s (at + i) 0) w.bytes ∙ here old at text fits i h;
      past = λ i h. ap (λ (s : List ℕ). get_or s i 0) w.bytes
          ∙ past old at text fits i (omega (arith, w.place));
    }
