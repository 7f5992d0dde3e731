-- Bytes that are read behind those that stand at the front of a buffer. Assumes nothing.
use mathlib.Core.{Path.◌≡◌, Path.refl, Path.sym, Path.ap, Path.subst, Path.◌∙◌, List.List, List.◌++◌}
use Rattle.std.specs.Prelude.{ℕ, ◌+◌, ◌≤◌}
use native.Mathlib.Omega.{arith}
use lib.ListN.{length, take, length-append}
use lib.Seq.{take-append-add, take-append-le, length-take-le, take-length}
use borrow.Rule.Slice.PartMut.{put_mid, post_of, take_put}
use Rattle.channel.specs.declared.input.Arrived.{Arrived}
use Rattle.channel.specs.declared.input.Arrived.TheVariants.{Bytes, End, Failed}
use Rattle.channel.specs.System.{Origin, First}
use Rattle.channel.specs.declared.whole.Filled.TheVariants.{Complete, FailedAfter, Full}
use Rattle.channel.specs.Input.{Came, Gave, Reads, Final, Fills}

-- the first bytes of a buffer once a part from n on is replaced: the n before it, and the part's
pub front_behind : (n m k : ℕ) (xs ys : List ℕ) → n ≤ length xs → k ≤ length ys
    → take (n + k) (put_mid n m xs ys) ≡ take n xs ++ take k ys
front_behind n m k xs ys h f =
    let rest = ys ++ post_of n m xs in
    ap (λ (j : ℕ). take (j + k) (take n xs ++ rest)) (sym (length-take-le n xs h))
    ∙ take-append-add (take n xs) rest k
    ∙ ap (λ (t : List ℕ). take n xs ++ t) (take-append-le k ys (post_of n m xs) f)

-- the part's bytes lie within the buffer
pub behind_fits : (n m k : ℕ) (xs ys : List ℕ) → n ≤ length xs → k ≤ length ys
    → n + k ≤ length (put_mid n m xs ys)
behind_fits n m k xs ys h f =
    let rest = ys ++ post_of n m xs in
    omega (arith, length-append (take n xs) rest, length-append ys (post_of n m xs), length-take-le n xs h)

-- what a read gave, once its answer is known
pub gave_as : {origin : Origin} {taken taken' : ℕ} {r : Arrived} {room : List ℕ} → Reads origin taken r taken' room
    → (known : Arrived) → r ≡ known → Gave origin taken known taken' room
gave_as {origin} {taken} {taken'} {r} {room} reads known e =
    subst (λ a. Gave origin taken a taken' room) e reads.gave

-- What a read behind the first n bytes gave, said of the buffer

module _ {origin : Origin} {taken taken' : ℕ} {room : List ℕ} {r : Arrived} (reads : Reads origin taken r taken' room)
    (n m : ℕ) (text : List ℕ) (h : n ≤ length text) (came : Came origin taken (take n text)) where
  pub read_more : (k : ℕ) → r ≡ Bytes k → (1 ≤ k) × (n + k ≤ length (put_mid n m text room))
      × Came origin taken' (take (n + k) (put_mid n m text room))
  read_more k e =
      let more = gave_as reads (Bytes k) e in (
        more.0,
        behind_fits n m k text room h more.1,
        rw (front_behind n m k text room h more.1) (more.4 (take n text) came),
      )

  -- the bytes before it are within the buffer, and are the first
  kept : (n ≤ length (put_mid n m text room)) × First origin (take n (put_mid n m text room))
  kept =
      (omega (arith, behind_fits n m 0 text room h (omega arith)), rw (take_put n m text room h) came.first)

  pub read_end : r ≡ End → Fills origin (Complete n) (put_mid n m text room)
  read_end e =
      let last = (gave_as reads End e).1 (take n text) came in
      record { filling = (kept.0, kept.1, rw (take_put n m text room h) last) }

  pub read_broken : 1 ≤ length room → r ≡ Failed → Fills origin (FailedAfter n) (put_mid n m text room)
  read_broken some e =
      let last = (gave_as reads Failed e).1 some (take n text) came in
      record { filling = (kept.0, kept.1, rw (take_put n m text room h) last) }

-- the buffer is full
pub filled_up : {origin : Origin} {taken : ℕ} (n : ℕ) (text : List ℕ) → n ≤ length text → length text ≤ n
    → Came origin taken (take n text) → Fills origin Full text
filled_up n text h f came =
    let all : n ≡ length text = omega arith in
    record { filling = rw (all, take-length text) at came.first }

-- an end and a failure are final
pub final : {origin : Origin} {taken taken' : ℕ} {room : List ℕ} (r : Arrived)
    → Reads origin taken r taken' room → Final origin r taken'
final (Bytes n) k = record { no_more = λ none. absurd (none n refl) }
final End k = record { no_more = λ _ old b. omega (arith, k.gave.0, b.long) }
final Failed k = record { no_more = λ _ old b. omega (arith, k.gave.0, b.long) }
