-- What each call does, by look-up: how a reader of the rows finds an identity before and after it. Assumes nothing.
use Rattle.std.specs.Prelude.{ℕ, ◌+◌, ◌*◌, ◌≤◌, ◌<◌, ◌≡◌, true, cond, List, [], ◌∷◌, length, take, drop, get_or}
use Rattle.std.specs.Prelude.{replicate, eqb}
use Rattle.movement.specs.Ranges.{CountsInRange}
use Rattle.book_rules.specs.Columns.{Book, sound}
use Rattle.book_rules.specs.Reasons.{Fields}
use Rattle.book_rules.specs.Calls.{Call, refusal}
use Rattle.book_rules.specs.Calls.Call.{enter}
use Rattle.book_rules.specs.History.{Held, Movement}
use Rattle.book_rules.specs.History.Held.{none, holds}

-- what is found of an identity: nothing, or its group, its mark, where it counts and its levels
pub data Row : Type 0 where
  nowhere : Row
  row : (group mark : ℕ) (counts levels : List ℕ) → Row

-- the row of identity x, by going through the rows from the first; each has a yes or no and a level for p points
unfoldable pub found_from : (x p : ℕ) (identities groups marks counts levels : List ℕ) → Row
found_from x p [] gs ms cs ls = nowhere
found_from x p (y ∷ ys) gs ms cs ls =
    cond (eqb y x) (row (get_or gs 0 0) (get_or ms 0 0) (take p cs) (take p ls))
    (found_from x p ys (drop 1 gs) (drop 1 ms) (drop p cs) (drop p ls))

abbrev pub found : (x p : ℕ) → Book → Row
found x p b = found_from x p b.identities b.groups b.marks b.counts b.levels

-- its mark, its group and where it counts
abbrev pub mark_found : Row → ℕ
mark_found nowhere = 0
mark_found (row g m cs ls) = m

abbrev pub group_found : Row → ℕ
group_found nowhere = 0
group_found (row g m cs ls) = g

abbrev pub counts_found : Row → List ℕ
counts_found nowhere = []
counts_found (row g m cs ls) = cs

-- the row of a movement of group g that counts as cs say, not computed: a level of zero for each of p points
abbrev pub bare : (p g : ℕ) (counts : List ℕ) → Row
bare p g cs = row g 0 cs (replicate p 0)

-- Every call that is accepted

-- the book stays sound, with as many rows, and every other identity is found as before
pub record KeepsOthers (p x : ℕ) (b b' : Book) : Type 0 where
  pub sound= : sound p b' ≡ true
  pub rows : length b'.identities ≡ length b.identities
  pub others : (y : ℕ) → 1 ≤ y → (y ≡ x → ⊥) → found y p b' ≡ found y p b

-- *enter*: x was not there, and stands with the group 6·type + 3·kind + period and where it counts, not computed.
-- Day is from 07:00:00 to before 19:00:00, evening to before 23:00:00, night otherwise
pub record Enters (p x t k s : ℕ) (cs : List ℕ) (b b' : Book) : Type 0 where
  pub kept : KeepsOthers p x b b'
  pub new : found x p b ≡ nowhere
  pub day : 25200 ≤ s → s < 68400 → found x p b' ≡ bare p (6 * t + 3 * k + 0) cs
  pub evening : 68400 ≤ s → s < 82800 → found x p b' ≡ bare p (6 * t + 3 * k + 1) cs
  pub late : 82800 ≤ s → found x p b' ≡ bare p (6 * t + 3 * k + 2) cs
  pub early : s < 25200 → found x p b' ≡ bare p (6 * t + 3 * k + 2) cs

-- *supply*: x stood, keeps its group and where it counts, and is computed with the given levels, whatever it held
-- before
pub record Supplies (p x : ℕ) (ls : List ℕ) (b b' : Book) : Type 0 where
  pub kept : KeepsOthers p x b b'
  pub stood : found x p b ≡ nowhere → ⊥
  pub found= : found x p b' ≡ row (group_found (found x p b)) 1 (counts_found (found x p b)) ls

-- *take back*: x was computed, keeps its group and where it counts, and is no longer computed
pub record TakesBack (p x : ℕ) (b b' : Book) : Type 0 where
  pub kept : KeepsOthers p x b b'
  pub held : mark_found (found x p b) ≡ 1
  pub found= : found x p b' ≡ bare p (group_found (found x p b)) (counts_found (found x p b))

-- *withdraw*: x stood and is found no more; the room and the identity are free again: any movement may be entered as x
pub record Withdraws (p x : ℕ) (b b' : Book) : Type 0 where
  pub kept : KeepsOthers p x b b'
  pub stood : found x p b ≡ nowhere → ⊥
  pub gone : found x p b' ≡ nowhere
  pub free : (t k s m : ℕ) (cs : List ℕ) → CountsInRange p cs → Fields t k s m → 150 < m
      → refusal p b' (enter x t k s m cs) ≡ 0

-- what an accepted call does
abbrev pub Does : (p : ℕ) (call : Call) (b b' : Book) → Type 0
Does p (Call.enter x t k s m cs) b b' = Enters p x t k s cs b b'
Does p (Call.supply x ls) b b' = Supplies p x ls b b'
Does p (Call.take_back x) b b' = TakesBack p x b b'
Does p (Call.withdraw x) b b' = Withdraws p x b b'

-- The list of movements

-- the same of a list of movements: the row that a book of p points has of the movement x
unfoldable pub row_held : (p g : ℕ) (counts : List ℕ) → Held → Row
row_held p g cs none = bare p g cs
row_held p g cs (holds ls) = row g 1 cs ls

unfoldable pub listed : (x p : ℕ) → List Movement → Row
listed x p [] = nowhere
listed x p (a ∷ ms) = cond (eqb a.identity x) (row_held p a.group a.counts a.held) (listed x p ms)
