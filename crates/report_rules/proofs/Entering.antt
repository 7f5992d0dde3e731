-- *enter*, by its answer: what 0 and 2 say of a movement. Assumes nothing.
use Rattle.book_rules.proofs.Accepted.{neither_refused}
use mathlib.Core.{Path.◌≡◌, Path.refl, Bool.Bool, Bool.true, Bool.false, Bool.not, Bool.◌&&◌, List.List}
use Prim.Native.Nat.{ℕ, ◌≤◌}
use native.Mathlib.Omega.{arith}
use lib.{ListN.length, ListN.replicate, ListN.length-replicate, ListN.get_or-replicate, Dec.eqb, Dec.ltb}
use borrow.Author.Tests.{le-ltb, ltb-false}
use Rattle.refusal.specs.Refuse.{refuse}
use Rattle.refusal.proofs.Laws.{refuse_none}
use Rattle.text.proofs.Digits.{either}
use Rattle.movement.specs.Rules.{fields_fit, counts, movement_refusal, identity_fits, counts_fit}
use Rattle.movement.proofs.Ranges.{ranges_hold}
use Rattle.book_rules.specs.Columns.{Book, sound, stands}
use Rattle.book_rules.specs.Calls.{refused_or, enter_refusal, sound_refusal, refusal}
use Rattle.book_rules.specs.Calls.Call.{enter}
use Rattle.book_rules.specs.History.{Movement, standing, made, standing_refusal, list_refusal, sizes_fit}

-- 0: the movement is over 150 kg, and its identity is new
pub record Entering (m x : ℕ) (ms : List Movement) : Type 0 where
  pub heavy : ltb 150 m ≡ true
  pub new : standing x ms ≡ false

moved_none : (t k s m : ℕ) → movement_refusal t k s m ≡ 0 → ltb 150 m ≡ true
unfolding movement_refusal counts
moved_none t k s m z =
    (refuse_none 2 (counts m) 0 (omega arith) (refuse_none 1 (fields_fit t k s m) (refuse 2 (counts m) 0)
    (omega arith) z).1).0

pub enter_none : (p n : ℕ) (ms : List Movement) (x t k s m : ℕ) (cs : List ℕ)
    → list_refusal p n ms (made p (enter x t k s m cs)) ≡ 0
    → Entering m x ms
unfolding list_refusal standing_refusal
enter_none p n ms x t k s m cs z =
    let rest = refuse 3 (identity_fits x) (refuse 4 (not (standing x ms)) (refuse 6 (ltb (length ms) n) 0)) in
    let first = refused_or (movement_refusal t k s m) rest in
    let size = (refuse_none 9 (eqb p p && sizes_fit p n) (refuse 9 (counts_fit p cs) first) (omega arith) z).1 in
    let a = (refuse_none 9 (counts_fit p cs) first (omega arith) size).1 in
    let b = neither_refused (movement_refusal t k s m) rest a in
    let c =
    (refuse_none 3 (identity_fits x) (refuse 4 (not (standing x ms)) (refuse 6 (ltb (length ms) n) 0)) (omega arith)
    b.1).1 in
    let d = (refuse_none 4 (not (standing x ms)) (refuse 6 (ltb (length ms) n) 0) (omega arith) c).0 in
    record { heavy = moved_none t k s m b.0; new = not-true (standing x ms) d }
  where
    not-true : (b : Bool) → not b ≡ true → b ≡ false
    not-true true e = let never : ◌≡◌ {A = ℕ} 0 1 = cc in absurd (omega arith)
    not-true false e = refl

-- 2: rule 1 holds and the movement is not over 150 kg
refuse_is : (n k : ℕ) (ok : Bool) (rest : ℕ) → refuse n ok rest ≡ k → (n ≡ k → ⊥)
    → (ok ≡ true) × (rest ≡ k)
refuse_is n k true rest e ne = (refl, e)
refuse_is n k false rest e ne = absurd (ne e)

pub record TooLight (t k s m : ℕ) : Type 0 where
  pub rule_1 : fields_fit t k s m ≡ true
  pub light : m ≤ 150

moved_two : (t k s m : ℕ) → movement_refusal t k s m ≡ 2 → TooLight t k s m
unfolding movement_refusal counts
moved_two t k s m e =
    let a = refuse_is 1 2 (fields_fit t k s m) (refuse 2 (counts m) 0) e (λ q. absurd (omega arith)) in
    either (ltb 150 m)
    (λ yes. let z : ◌≡◌ {A = ℕ} 0 2 = rw yes at a.1 in absurd (omega arith))
    (λ no. record { rule_1 = a.0; light = ltb-false 150 m no })

two_moved : (t k s m : ℕ) → TooLight t k s m → movement_refusal t k s m ≡ 2
unfolding movement_refusal counts
two_moved t k s m l = rw (l.rule_1, le-ltb 150 m l.light) refl

pub enter_two : (p : ℕ) (b : Book) (x t k s m : ℕ) (cs : List ℕ) → refusal p b (enter x t k s m cs) ≡ 2
    → TooLight t k s m
unfolding refusal sound_refusal enter_refusal
enter_two p b x t k s m cs e =
    let r = movement_refusal t k s m in
    let ids = b.identities in
    let six = refuse 6 (stands 0 ids) 0 in
    let four = refuse 4 (not (stands x ids)) six in
    let first = refused_or r (refuse 3 (identity_fits x) four) in
    let whole = (refuse_is 9 2 (sound p b) (refuse 9 (counts_fit p cs) first) e (λ q. absurd (omega arith))).1 in
    let a = (refuse_is 9 2 (counts_fit p cs) first whole (λ q. absurd (omega arith))).1 in
    either (eqb r 0)
    (λ yes. let c = (refuse_is 3 2 (identity_fits x) four (rw yes at a) (λ q. absurd (omega arith))).1 in
    let d = (refuse_is 4 2 (not (stands x ids)) six c (λ q. absurd (omega arith))).1 in
    let f = (refuse_is 6 2 (stands 0 ids) 0 d (λ q. absurd (omega arith))).1 in absurd (omega arith))
    (λ no. moved_two t k s m (rw no at a))

pub two_enter : (p : ℕ) (b : Book) (x t k s m : ℕ) (cs : List ℕ) → sound p b ≡ true → counts_fit p cs ≡ true
    → TooLight t k s m
    → refusal p b (enter x t k s m cs) ≡ 2
unfolding refusal sound_refusal enter_refusal
two_enter p b x t k s m cs ok fit l = rw (ok, fit, two_moved t k s m l) refl

-- a row says yes at every point
pub all_fit : (p : ℕ) → counts_fit p (replicate p 1) ≡ true
all_fit p =
    let long : length {A = ℕ} (replicate p 1) ≡ p = length-replicate p 1 in
    (ranges_hold.counts= p (replicate p 1)).1 (record {
      one_a_point_rule = long;
      yes_or_no = λ i h. omega (arith, get_or-replicate {A = ℕ} p i 1 0 (omega (arith, long, h)));
    })
