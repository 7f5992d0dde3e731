-- Laws on tests and refusals that every crate uses: what a test that passed says of its parts, and what a branch on
-- a test says of the test. Assumes nothing.
use mathlib.Core.Path.{◌≡◌, refl, sym, ap, ◌∙◌}
use mathlib.Core.Bool.{Bool, true, false, ◌&&◌, false≢true}
use mathlib.Core.List.{List, [], ◌∷◌}
use Prim.Native.Nat.{ℕ, ◌<◌}
use native.Mathlib.Omega.{arith}
use lib.ListN.{length, get_or}
use Rattle.std.specs.Prelude.{Result, Ok, Err, is_ok}
use Rattle.refusal.specs.Refuse.{refuse}
use Rattle.refusal.specs.Refusal.{number_of, told, Answers}
use Rattle.refusal.specs.declared.Refusal.{Refusal}
use Rattle.refusal.specs.declared.Refusal.TheVariants.{OutOfRange, TooLight, WrongIdentity, AlreadyStands}
use Rattle.refusal.specs.declared.Refusal.TheVariants.{DoesNotStand, NoUnusedRow, WrongLevels, NoLevelsHeld}
use Rattle.refusal.specs.declared.Refusal.TheVariants.{NotSound, NoneComputed, WrongDays, WrongNetwork}
use Rattle.refusal.specs.declared.Refusal.TheVariants.{WrongNetworkLevel, TooLittleRoom, WrongLevelAsked, OffLayout}
use Rattle.refusal.specs.declared.Refusal.TheVariants.{NetworkOffLayout, WrongFlights, LevelElsewhere}

pub and_left : (a b : Bool) → (a && b) ≡ true → a ≡ true
and_left true b e = refl
and_left false b e = e

pub and_right : (a b : Bool) → (a && b) ≡ true → b ≡ true
and_right true b e = e
and_right false b e = absurd (false≢true e)

-- no refusal here, and none further on
pub refuse_none : (n : ℕ) (ok : Bool) (rest : ℕ) → 0 < n → refuse n ok rest ≡ 0
    → (ok ≡ true) × (rest ≡ 0)
refuse_none n true rest h e = (refl, e)
refuse_none n false rest h e = absurd (omega arith)

-- a function answered r, which is the test t: what a branch says of r holds of the test
pub settled : {r t b : Bool} → r ≡ t → r ≡ b → t ≡ b
settled e h = sym e ∙ h

-- a list of no length
pub nil_of_lem : {A : Type 0} (xs : List A) → length xs ≡ 0 → xs ≡ []
nil_of_lem [] e = refl
nil_of_lem (x ∷ xs) e = absurd (omega arith)

-- every refusal has a number over 0
pub numbered : (why : Refusal) → 0 < number_of why
numbered OutOfRange = omega arith
numbered TooLight = omega arith
numbered WrongIdentity = omega arith
numbered AlreadyStands = omega arith
numbered DoesNotStand = omega arith
numbered NoUnusedRow = omega arith
numbered WrongLevels = omega arith
numbered NoLevelsHeld = omega arith
numbered NotSound = omega arith
numbered NoneComputed = omega arith
numbered WrongDays = omega arith
numbered WrongNetwork = omega arith
numbered WrongNetworkLevel = omega arith
numbered TooLittleRoom = omega arith
numbered WrongLevelAsked = omega arith
numbered OffLayout = omega arith
numbered NetworkOffLayout = omega arith
numbered WrongFlights = omega arith
numbered LevelElsewhere = omega arith

-- so 0 is told exactly of an answer
pub told_ok : {A : Type 0} (r : Result A Refusal) → told r ≡ 0 → is_ok r ≡ true
told_ok (Ok answer) e = refl
told_ok (Err why) e = absurd (let low = numbered why in omega arith)

pub ok_told : {A : Type 0} (r : Result A Refusal) → is_ok r ≡ true → told r ≡ 0
ok_told (Ok answer) e = refl
ok_told (Err why) e = absurd (false≢true e)

pub err_told : {A : Type 0} (r : Result A Refusal) (why : Refusal) → r ≡ Err why → told r ≡ number_of why
err_told r why e = ap told e

-- no two refusals have one number
abbrev named : List Refusal
named =
    OutOfRange ∷ OutOfRange ∷ TooLight ∷ WrongIdentity ∷ AlreadyStands ∷ DoesNotStand ∷ NoUnusedRow ∷ WrongLevels ∷
    NoLevelsHeld ∷ NotSound ∷ NoneComputed ∷ WrongDays ∷ WrongNetwork ∷ WrongNetworkLevel ∷ TooLittleRoom ∷
    WrongLevelAsked ∷ OffLayout ∷ NetworkOffLayout ∷ WrongFlights ∷ LevelElsewhere ∷ []

named_at : (why : Refusal) → get_or named (number_of why) OutOfRange ≡ why
named_at OutOfRange = refl
named_at TooLight = refl
named_at WrongIdentity = refl
named_at AlreadyStands = refl
named_at DoesNotStand = refl
named_at NoUnusedRow = refl
named_at WrongLevels = refl
named_at NoLevelsHeld = refl
named_at NotSound = refl
named_at NoneComputed = refl
named_at WrongDays = refl
named_at WrongNetwork = refl
named_at WrongNetworkLevel = refl
named_at TooLittleRoom = refl
named_at WrongLevelAsked = refl
named_at OffLayout = refl
named_at NetworkOffLayout = refl
named_at WrongFlights = refl
named_at LevelElsewhere = refl

pub same_number : (a b : Refusal) → number_of a ≡ number_of b → a ≡ b
same_number a b e = sym (named_at a) ∙ ap (λ n. get_or named n OutOfRange) e ∙ named_at b

-- a call that doesn't refuse answers, and two outcomes of one call are equal
pub answered : {A : Type 0} {refusal : ℕ} {x : A} (r : Result A Refusal) → Answers refusal x r → refusal ≡ 0 → r ≡ Ok x
answered (Ok y) a e = ap Ok a.answer
answered (Err why) a e = absurd (let low = numbered why in omega (arith, a.number))

pub one_answer : {A : Type 0} {refusal : ℕ} {x : A} (r s : Result A Refusal) → Answers refusal x r
    → Answers refusal x s → r ≡ s
one_answer (Ok y) (Ok z) a b = ap Ok (a.answer ∙ sym b.answer)
one_answer (Ok y) (Err why) a b = absurd (let low = numbered why in omega (arith, a.number, b.number))
one_answer (Err why) (Ok z) a b = absurd (let low = numbered why in omega (arith, a.number, b.number))
one_answer (Err why) (Err more) a b = ap Err (same_number why more (a.number ∙ sym b.number))

-- nor are there two outcomes of a call that only refuses or doesn't
pub same_told : (r s : Result (Unit {0}) Refusal) → told r ≡ told s → r ≡ s
same_told (Ok y) (Ok z) e = refl
same_told (Ok y) (Err why) e = absurd (let low = numbered why in omega arith)
same_told (Err why) (Ok z) e = absurd (let low = numbered why in omega arith)
same_told (Err why) (Err more) e = ap Err (same_number why more e)
