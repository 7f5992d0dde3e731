-- Laws on calls: what an accepted call says of the book, and the book after a call. Assumes nothing.
use mathlib.Core.Path.{◌≡◌, refl, sym, ◌∙◌}
use mathlib.Core.{Bool.Bool, Bool.true, Bool.false, Bool.cond, Bool.not, Bool.◌&&◌, List.List}
use Prim.Native.Nat.{ℕ, ◌≤◌, ◌<◌}
use native.Mathlib.Omega.{arith}
use lib.{ListN.length, ListN.get_or, Dec.eqb, Dec.leb, Dec.ltb}
use borrow.Author.Tests.{ltb-true, leb-true, eqb-true, eqb-false, eq-eqb, ne_eqb}
use Rattle.refusal.specs.{Refuse.refuse, Range.all_within}
use Rattle.refusal.proofs.Laws.{and_left, and_right, refuse_none}
use Rattle.movement.specs.Limits.{max_identity, max_mass, max_count, max_level, type_count, kind_count, seconds_a_day}
use Rattle.movement.specs.Aircraft.{aircraft_numbered, mass_fits}
use Rattle.movement.specs.Rules.{fields_fit, movement_refusal, identity_fits, levels_fit, counts_fit, zero_elsewhere}
use Rattle.book_rules.specs.Columns.{Book, index_of, stands, cells_at, sound}
use Rattle.book_rules.specs.Calls.{Call, Called, refused_or, enter_refusal, supply_refusal, take_back_refusal}
use Rattle.book_rules.specs.Calls.{withdraw_refusal, sound_refusal, refusal, changed, after}

-- The tests that an accepted call passed

pub record Entered (p : ℕ) (ids : List ℕ) (x t k s m : ℕ) (cs : List ℕ) : Type 0 where
  pub counts= : counts_fit p cs ≡ true
  pub fields : fields_fit t k s m ≡ true
  pub identity= : identity_fits x ≡ true
  pub new : not (stands x ids) ≡ true
  pub unused : stands 0 ids ≡ true

-- no refusal at first, and none further on
pub neither_refused : (r rest : ℕ) → refused_or r rest ≡ 0 → (r ≡ 0) × (rest ≡ 0)
neither_refused r rest e = by (eqb r 0) refl e
  where
    by : (t : Bool) → eqb r 0 ≡ t → cond t rest r ≡ 0 → (r ≡ 0) × (rest ≡ 0)
    by true z e = (eqb-true r 0 z, e)
    by false z e = absurd (eqb-false r 0 z e)

pub entered : (p : ℕ) (ids : List ℕ) (x t k s m : ℕ) (cs : List ℕ) → enter_refusal p ids x t k s m cs ≡ 0
    → Entered p ids x t k s m cs
unfolding enter_refusal movement_refusal
entered p ids x t k s m cs e =
    let r₉ = refuse_none 9 (counts_fit p cs) _ (omega arith) e in
    let n = neither_refused (movement_refusal t k s m) _ r₉.1 in
    let r₁ = refuse_none 1 (fields_fit t k s m) _ (omega arith) n.0 in
    let r₃ = refuse_none 3 (identity_fits x) _ (omega arith) n.1 in
    let r₄ = refuse_none 4 (not (stands x ids)) _ (omega arith) r₃.1 in
    let r₆ = refuse_none 6 (stands 0 ids) _ (omega arith) r₄.1 in
    record { counts= = r₉.0; fields = r₁.0; identity= = r₃.0; new = r₄.0; unused = r₆.0 }

-- type, kind and time of fields that fit are in range
pub fields_in : (t k s m : ℕ) → fields_fit t k s m ≡ true
    → (t < type_count) × (k < kind_count) × (s < seconds_a_day)
unfolding fields_fit
fields_in t k s m e =
    let a = and_left ((ltb t type_count && ltb k kind_count) && (ltb s seconds_a_day && leb m max_mass))
    (mass_fits (aircraft_numbered t) m) e in
    let d = and_left (ltb t type_count && ltb k kind_count) (ltb s seconds_a_day && leb m max_mass) a in
    let c = and_right (ltb t type_count && ltb k kind_count) (ltb s seconds_a_day && leb m max_mass) a in (
      ltb-true t type_count (and_left (ltb t type_count) (ltb k kind_count) d),
      ltb-true k kind_count (and_right (ltb t type_count) (ltb k kind_count) d),
      ltb-true s seconds_a_day (and_left (ltb s seconds_a_day) (leb m max_mass) c),
    )

pub identity_in : (x : ℕ) → identity_fits x ≡ true → (1 ≤ x) × (x ≤ max_identity)
unfolding identity_fits
identity_in x e = (
  leb-true 1 x (and_left (leb 1 x) (leb x max_identity) e),
  leb-true x max_identity (and_right (leb 1 x) (leb x max_identity) e),
)

-- there is one value a point
pub fit_length : (p top : ℕ) (vs : List ℕ) → (eqb (length vs) p && all_within top vs) ≡ true → length vs ≡ p
fit_length p top vs e = eqb-true (length vs) p (and_left (eqb (length vs) p) _ e)

pub levels_length : (p : ℕ) (ls : List ℕ) → levels_fit p ls ≡ true → length ls ≡ p
unfolding levels_fit
levels_length p ls e = fit_length p max_level ls e

pub counts_length : (p : ℕ) (cs : List ℕ) → counts_fit p cs ≡ true → length cs ≡ p
unfolding counts_fit
counts_length p cs e = fit_length p max_count cs e

-- the identity of a supply, a take back or a withdrawal
pub record Stood (ids : List ℕ) (x : ℕ) : Type 0 where
  pub identity= : identity_fits x ≡ true
  pub stands= : stands x ids ≡ true

pub withdrawn : (ids : List ℕ) (x : ℕ) → withdraw_refusal ids x ≡ 0 → Stood ids x
unfolding withdraw_refusal
withdrawn ids x e =
    let r₃ = refuse_none 3 (identity_fits x) _ (omega arith) e in
    let r₅ = refuse_none 5 (stands x ids) _ (omega arith) r₃.1 in
    record { identity= = r₃.0; stands= = r₅.0 }

pub taken_back : (ids ms : List ℕ) (x : ℕ) → take_back_refusal ids ms x ≡ 0 → Stood ids x
unfolding take_back_refusal
taken_back ids ms x e =
    let r₃ = refuse_none 3 (identity_fits x) _ (omega arith) e in
    let r₅ = refuse_none 5 (stands x ids) _ (omega arith) r₃.1 in
    record { identity= = r₃.0; stands= = r₅.0 }

pub supplied : (p : ℕ) (ids cs : List ℕ) (x : ℕ) (ls : List ℕ) → supply_refusal p ids cs x ls ≡ 0
    → Stood ids x × (levels_fit p ls ≡ true) × (zero_elsewhere (cells_at p (index_of x ids) cs) ls ≡ true)
unfolding supply_refusal
supplied p ids cs x ls e =
    let r₃ = refuse_none 3 (identity_fits x) _ (omega arith) e in
    let r₇ = refuse_none 7 (levels_fit p ls) _ (omega arith) r₃.1 in
    let r₅ = refuse_none 5 (stands x ids) _ (omega arith) r₇.1 in
    let r₁₉ = refuse_none 19 (zero_elsewhere (cells_at p (index_of x ids) cs) ls) _ (omega arith) r₅.1 in
    (record { identity= = r₃.0; stands= = r₅.0 }, r₇.0, r₁₉.0)

-- What a refusal goes by

-- rules 1 and 2 refuse an entry with one yes or no a point as they refuse its movement
pub enter_refused : (p : ℕ) (ids : List ℕ) (x t k s m : ℕ) (cs : List ℕ) → counts_fit p cs ≡ true
    → (movement_refusal t k s m ≡ 0 → ⊥)
    → movement_refusal t k s m ≡ enter_refusal p ids x t k s m cs
unfolding enter_refusal
enter_refused p ids x t k s m cs c h = rw (c, ne_eqb (movement_refusal t k s m) 0 h) refl

pub enter_allowed : (p : ℕ) (ids : List ℕ) (x t k s m : ℕ) (cs : List ℕ) → counts_fit p cs ≡ true
    → movement_refusal t k s m ≡ 0
    → enter_refusal p ids x t k s m cs ≡ refuse 3 (identity_fits x)
    (refuse 4 (not (stands x ids)) (refuse 6 (stands 0 ids) 0))
unfolding enter_refusal
enter_allowed p ids x t k s m cs c e = rw (c, e) refl

-- a take back is refused as a withdrawal is, and then for the mark
pub take_back_mark : (ids ms : List ℕ) (x : ℕ) → withdraw_refusal ids x ≡ 0
    → take_back_refusal ids ms x ≡ refuse 8 (eqb (get_or ms (index_of x ids) 0) 1) 0
unfolding take_back_refusal
take_back_mark ids ms x e = let w = withdrawn ids x e in rw (w.identity=, w.stands=) refl

pub take_back_refused : (ids ms : List ℕ) (x : ℕ) → (withdraw_refusal ids x ≡ 0 → ⊥)
    → withdraw_refusal ids x ≡ take_back_refusal ids ms x
unfolding withdraw_refusal take_back_refusal
take_back_refused ids ms x h = by (identity_fits x) (stands x ids) (refuse 8 (eqb (get_or ms (index_of x ids) 0) 1) 0) h
  where
    by : (i t : Bool) (rest : ℕ) → (refuse 3 i (refuse 5 t 0) ≡ 0 → ⊥)
        → refuse 3 i (refuse 5 t 0) ≡ refuse 3 i (refuse 5 t rest)
    by false t rest h = refl
    by true false rest h = refl
    by true true rest h = absurd (h refl)

-- The book after a call

pub after_refused : (p : ℕ) (b : Book) (c : Call) → (refusal p b c ≡ 0 → ⊥) → after p b c ≡ b
unfolding after
after_refused p b c h = rw (ne_eqb (refusal p b c) 0 h) refl

pub after_accepted : (p : ℕ) (b : Book) (c : Call) → refusal p b c ≡ 0 → after p b c ≡ changed p b c
unfolding after
after_accepted p b c h = rw (eq-eqb (refusal p b c) 0 h) refl

-- an accepted call finds a sound book, which refuses nothing
pub accepted_sound : (p : ℕ) (b : Book) (c : Call) → refusal p b c ≡ 0
    → (sound p b ≡ true) × (sound_refusal p b c ≡ 0)
unfolding refusal
accepted_sound p b c e = refuse_none 9 (sound p b) (sound_refusal p b c) (omega arith) e

refusal-sound : (p : ℕ) (b : Book) (c : Call) → sound p b ≡ true → refusal p b c ≡ sound_refusal p b c
unfolding refusal
refusal-sound p b c s = rw s refl

-- an unsound book refuses every call
pub unsound : {p : ℕ} {b : Book} {c : Call} → sound p b ≡ false → Called p b c 9 b
unfolding refusal
unsound {p} {b} {c} s =
    let e : refusal p b c ≡ 9 = rw s refl in
    record { answer = sym e; book = sym (after_refused p b c (λ z. omega arith)) }

-- a call that a sound book refuses keeps its promise if it changes nothing
pub keeps : {p r : ℕ} {b : Book} {c : Call} → sound p b ≡ true → r ≡ sound_refusal p b c
    → (r ≡ 0 → ⊥) → Called p b c r b
keeps {p} {r} {b} {c} s e h =
    let a : r ≡ refusal p b c = e ∙ sym (refusal-sound p b c s) in
    record { answer = a; book = sym (after_refused p b c (λ z. h (a ∙ z))) }

-- and one that it accepts if it makes the change
pub meets : {p : ℕ} {b b' : Book} {c : Call} → sound p b ≡ true → sound_refusal p b c ≡ 0
    → b' ≡ changed p b c
    → Called p b c 0 b'
meets {p} {b} {b'} {c} s e h =
    let a : refusal p b c ≡ 0 = refusal-sound p b c s ∙ e in
    record { answer = sym a; book = h ∙ sym (after_accepted p b c a) }

-- two outcomes of one call are equal: the contract is an equation for the answer and one for the book
pub called_once : {p r s : ℕ} {b b' b'' : Book} {c : Call} → Called p b c r b' → Called p b c s b''
    → (r ≡ s) × (b' ≡ b'')
called_once x y = (x.answer ∙ sym y.answer, x.book ∙ sym y.book)
