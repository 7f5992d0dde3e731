-- The numbers of a load, one by one, and the load and the verdict in lent room. Assumes nothing.
use Prim.Native.Nat.{ℕ, suc, ◌+◌, ◌-◌, ◌≤◌, ◌<◌}
use mathlib.Core.{Path.◌≡◌, Path.refl, Path.sym, Path.ap, Path.◌∙◌, Bool.◌&&◌}
use mathlib.Core.List.{List, [], ◌∷◌, ◌++◌, map}
use native.Mathlib.{Nat.zero-add, Numerals.add-one, Omega.arith}
use lib.ListN.{length, get_or, take, drop, set, length-append, length-map, get_or-append, get_or-map}
use lib.{Seq.get_or-append-add, Seq.paste-suc, Dec.eqb, Dec.ltb}
use Rattle.level.specs.declared.{Level.Level, Verdict.Verdict}
use Rattle.level.specs.Level.{verdict_number}
use Rattle.text.proofs.Digits.{either}
use Rattle.book_rules.specs.Columns.{Book, sound}
use Rattle.std.specs.Prelude.{Ok, Err}
use Rattle.load_rules.specs.declared.{Counts.Counts}
use Rattle.load_rules.specs.Told.{Judged}
use Rattle.load_rules.specs.Shares.{book_shares}
use Rattle.load_rules.specs.Load.{load_refusal, answer, refused_load, load_of, book_load}
use Rattle.load_rules.specs.Verdict.{refusal_number}
use Rattle.room.specs.Room.{Writes}
use Rattle.movement.specs.Limits.{group_count}
use Rattle.okubinrafo.specs.Loads.{computed_of, missing_of, numbers_from, load_numbers, verdict_numbers}
use Rattle.okubinrafo.specs.Loads.{computed_from, missing_from, load_size}
use Rattle.room.proofs.Answers.{nothing}

-- a turn of a loop that copies from the front
pub copy_more : (to from : List ℕ) (j : ℕ) → j < length to → j < length from
    → set (take j from ++ drop j to) j (get_or from j 0) ≡ take (j + 1) from ++ drop (j + 1) to
copy_more to from j ht hf = let e = paste-suc to 0 from j 0 (omega arith) hf in rw (add-one j) (simp zero-add at e)

abbrev none : Counts
none = record { computed = 0; missing = 0 }

module _ (total : ℕ) (level : Level) (counts : List Counts) (all : length counts ≡ group_count) where
  pub length-numbers : length (numbers_from total level counts) ≡ load_size
  unfolding numbers_from
  length-numbers = simp (length-append, length-map) (omega arith)

  -- V and U of a group
  pub number_computed : (k : ℕ) → computed_from ≤ k → k < missing_from
      → (get_or counts (k - computed_from) none).computed ≡ get_or (numbers_from total level counts) k 0
  unfolding numbers_from
  number_computed k low high =
      let g = k - computed_from in
      let e : suc (suc (suc g)) ≡ k = omega arith in
      let inside : g < length (map computed_of counts) = omega (arith, length-map counts computed_of) in
      sym
      (ap (λ j. get_or (numbers_from total level counts) j 0) (sym e)
      ∙ get_or-append (map computed_of counts) (map missing_of counts) 0 g inside
      ∙ get_or-map computed_of counts g none)

  pub number_missing : (k : ℕ) → missing_from ≤ k
      → (get_or counts (k - missing_from) none).missing ≡ get_or (numbers_from total level counts) k 0
  unfolding numbers_from
  number_missing k low =
      let g = k - missing_from in
      let e : suc (suc (suc (length (map computed_of counts) + g))) ≡ k =
      omega (arith, length-map counts computed_of) in
      sym
      (ap (λ j. get_or (numbers_from total level counts) j 0) (sym e)
      ∙ get_or-append-add (map computed_of counts) (map missing_of counts) g 0
      ∙ get_or-map missing_of counts g none)

-- a load has V and U of every group, refused or not
every_group : (p pt : ℕ) (b : Book) (days : ℕ) → length (book_load p pt b days).counts ≡ group_count
unfolding book_load load_of answer refused_load
every_group p pt b days =
    either (eqb (load_refusal (sound p b && ltb pt p) (book_shares p pt b) days) 0) (λ e. rw e refl) (λ e. rw e refl)

pub length_load : (p pt : ℕ) (b : Book) (days : ℕ) → length (load_numbers (book_load p pt b days)) ≡ load_size
length_load p pt b days =
    let a = book_load p pt b days in
    length-numbers a.total a.level a.counts (every_group p pt b days)

-- a verdict: refused, or given and written
module _ (judged : Judged) (room : List ℕ) where
  pub judged_refused : {n : ℕ} → judged ≡ Err n
      → Writes (refusal_number judged) (verdict_numbers judged) room n room
  judged_refused {n} e = rw e (nothing n room)

  pub judged_given : {v : Verdict} {n r : ℕ} {room' : List ℕ} → judged ≡ Ok v → n ≡ verdict_number v
      → Writes 0 (n ∷ []) room r room'
      → Writes (refusal_number judged) (verdict_numbers judged) room r room'
  judged_given e p w = rw e (rw p at w)
