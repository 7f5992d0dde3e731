-- Each call is answered in the order of the rules, each number exactly for its reason. Assumes nothing.
use mathlib.Core.Path.{◌≡◌, refl, sym, ap, subst, ◌∙◌}
use mathlib.Core.Bool.{Bool, true, false, not, ◌&&◌, true≢false}
use mathlib.Core.{Logic.inl, Logic.inr, Logic.⊎_elim, List.List}
use Prim.Native.Nat.{ℕ, zero, suc, ◌≤◌, ◌<◌}
use native.Mathlib.Omega.{arith}
use lib.{ListN.length, ListN.get_or, Dec.eqb, Dec.leb, Dec.ltb}
use borrow.Author.Tests.{ltb-true, ltb-false, leb-true, leb-false, eqb-true, eqb-false, le-leb, lt-ltb, eq-eqb, ne_eqb}
use Rattle.refusal.specs.Refuse.{refuse}
use Rattle.refusal.proofs.{Laws.and_left, Laws.and_right, Ranges.within_at, Ranges.within_each}
use Rattle.movement.specs.Limits.{type_count, kind_count, seconds_a_day, max_mass, mass_not_counted, max_identity}
use Rattle.movement.specs.Limits.{max_level}
use Rattle.movement.specs.Aircraft.{aircraft_numbered, mass_fits}
use Rattle.movement.specs.Rules.{fields_fit, counts, movement_refusal, identity_fits, levels_fit, counts_fit}
use Rattle.movement.specs.Rules.{zero_elsewhere}
use Rattle.movement.specs.Ranges.{CountsInRange, ZeroElsewhere}
use Rattle.movement.proofs.Ranges.{ranges_hold}
use Rattle.book_rules.specs.Columns.{Book, index_of, stands, sound, cells_at}
use Rattle.book_rules.specs.Calls.{Call, refused_or, enter_refusal, supply_refusal, take_back_refusal}
use Rattle.book_rules.specs.Calls.{withdraw_refusal, sound_refusal, refusal}
use Rattle.book_rules.specs.Calls.Call.{enter, supply, take_back, withdraw}
use Rattle.book_rules.specs.Reasons.{Fields, Levels, NoIdentity, Full}
use Rattle.book_rules.specs.{SoundBook.SoundBook, Lookup.Row, Lookup.found_from, Lookup.found, Lookup.mark_found}
use Rattle.book_rules.specs.Lookup.{counts_found}
use Rattle.book_rules.specs.Lookup.Row.{nowhere}
use Rattle.book_rules.specs.Order.{Given, InOrder}
use Rattle.book_rules.proofs.Search.{index_is, index_before_lem, stands_index}
use Rattle.book_rules.proofs.Finding.{is_found, stands_found, found_none, row_found_lem}
use Rattle.book_rules.proofs.{Cells.cells_length, Accepted.levels_length, SoundBook.sound_exactly}

-- A test and the reason that it fails for

-- the test fails exactly for this reason
pub record Decides (ok : Bool) (Reason : Type 0) : Type 0 where
  pub fails : Reason → ok ≡ false
  pub passes : (Reason → ⊥) → ok ≡ true

pub decides : {Reason : Type 0} (ok : Bool) → (ok ≡ true → Reason → ⊥) → (ok ≡ false → Reason)
    → Decides ok Reason
decides true never known = record { fails = λ r. absurd (never refl r); passes = λ _. refl }
decides false never known = record { fails = λ _. refl; passes = λ n. absurd (n (known refl)) }

-- the test passes exactly if this holds
decides_not : {Holds : Type 0} (ok : Bool) → (ok ≡ true → Holds) → (Holds → ok ≡ true)
    → Decides ok (Holds → ⊥)
decides_not ok holds back = decides ok (λ e n. n (holds e)) (λ e h. true≢false (sym (back h) ∙ e))

-- one number of the order
pub given_by : {Reason Rest : Type 0} {r n rest : ℕ} (ok : Bool) → r ≡ refuse n ok rest → Decides ok Reason
    → (ok ≡ true → r ≡ rest → Rest)
    → Given r n Reason Rest
given_by {Reason} {Rest} {r} {n} {rest} ok e d go =
    record {
      given = λ h. e ∙ ap (λ (t : Bool). refuse n t rest) (d.fails h);
      otherwise = λ h. go (d.passes h) (e ∙ ap (λ (t : Bool). refuse n t rest) (d.passes h));
    }

-- The reasons

pub sound_decides : (p : ℕ) (b : Book) → Decides (sound p b) (SoundBook p b → ⊥)
sound_decides p b = decides_not (sound p b) (sound_exactly p b).only (sound_exactly p b).passes

small_fits : (t m : ℕ) → mass_fits (aircraft_numbered t) m ≡ true → t ≡ 1 → m < 6000
small_fits t m e z = ltb-true m 6000 (rw z at e)

small_back : (t m : ℕ) → (t ≡ 1 → m < 6000) → mass_fits (aircraft_numbered t) m ≡ true
small_back zero m h = refl
small_back (suc zero) m h = lt-ltb m 6000 (h refl)
small_back (suc (suc t)) m h = rw (ne_eqb (suc (suc t)) 0 (omega arith), ne_eqb (suc (suc t)) 1 (omega arith)) refl

fields_decide : (t k s m : ℕ) → Decides (fields_fit t k s m) (Fields t k s m → ⊥)
unfolding fields_fit
fields_decide t k s m = decides_not (fields_fit t k s m) holds back
  where
    holds : fields_fit t k s m ≡ true → Fields t k s m
    holds e =
        let a = and_left ((ltb t type_count && ltb k kind_count) && (ltb s seconds_a_day && leb m max_mass))
        (mass_fits (aircraft_numbered t) m) e in
        let d = and_left (ltb t type_count && ltb k kind_count) (ltb s seconds_a_day && leb m max_mass) a in
        let c = and_right (ltb t type_count && ltb k kind_count) (ltb s seconds_a_day && leb m max_mass) a in
        record {
          type = omega (arith, ltb-true t type_count (and_left (ltb t type_count) _ d));
          kind = omega (arith, ltb-true k kind_count (and_right (ltb t type_count) _ d));
          time = omega (arith, ltb-true s seconds_a_day (and_left (ltb s seconds_a_day) _ c));
          mass = leb-true m max_mass (and_right (ltb s seconds_a_day) _ c);
          small =
              small_fits t m (and_right
              ((ltb t type_count && ltb k kind_count) && (ltb s seconds_a_day && leb m max_mass)) _ e);
        }

    back : Fields t k s m → fields_fit t k s m ≡ true
    back f =
        rw (
          lt-ltb t type_count (omega (arith, f.type)),
          lt-ltb k kind_count (omega (arith, f.kind)),
          lt-ltb s seconds_a_day (omega (arith, f.time)),
          le-leb m max_mass f.mass,
          small_back t m f.small,
        )

counts_decide : (m : ℕ) → Decides (counts m) (m ≤ 150)
unfolding counts
counts_decide m =
    decides (ltb mass_not_counted m) (λ e h. omega (arith, ltb-true mass_not_counted m e))
    (ltb-false mass_not_counted m)

identity_decides : (x : ℕ) → Decides (identity_fits x) (NoIdentity x)
unfolding identity_fits
identity_decides x = decides (identity_fits x) never (by (leb 1 x) (leb x max_identity) refl refl)
  where
    never : identity_fits x ≡ true → NoIdentity x → ⊥
    never e r =
        let a = leb-true 1 x (and_left (leb 1 x) _ e) in
        let c = leb-true x max_identity (and_right (leb 1 x) _ e) in
        ⊎_elim (λ z. omega arith) (λ z. omega arith) r

    by : (a c : Bool) → leb 1 x ≡ a → leb x max_identity ≡ c → (a && c) ≡ false → NoIdentity x
    by false c e f z = inl (omega (arith, leb-false 1 x e))
    by true false e f z = inr (leb-false x max_identity f)
    by true true e f z = absurd (true≢false z)

levels_decide : (p : ℕ) (ls : List ℕ) → Decides (levels_fit p ls) (Levels p ls → ⊥)
unfolding levels_fit
levels_decide p ls =
    decides_not (levels_fit p ls)
    (λ e. record {
      number = eqb-true (length ls) p (and_left (eqb (length ls) p) _ e);
      range = λ j h. within_at max_level ls j (and_right (eqb (length ls) p) _ e);
    })
    (λ l. rw (eq-eqb (length ls) p l.number)
    (within_each max_level ls (λ j h. l.range j (omega (arith, l.number)))))

given_decide : (p : ℕ) (cs : List ℕ) → Decides (counts_fit p cs) (CountsInRange p cs → ⊥)
given_decide p cs = let r = ranges_hold.counts= p cs in decides_not (counts_fit p cs) r.0 r.1

found_decides : (r : Row) → Decides (is_found r) (r ≡ nowhere)
unfolding is_found
found_decides r = decides (is_found r) (λ e z. true≢false (sym e ∙ ap is_found z)) (found_none r)

stands_decides : (x p : ℕ) (b : Book) → Decides (stands x b.identities) (found x p b ≡ nowhere)
stands_decides x p b =
    let e = stands_found x p b.identities b.groups b.marks b.counts b.levels in
    let d = found_decides (found x p b) in
    record { fails = λ h. e ∙ d.fails h; passes = λ n. e ∙ d.passes n }

pub not_standing : (x p : ℕ) (b : Book) → stands x b.identities ≡ false → found x p b ≡ nowhere
not_standing x p b e =
    found_none (found x p b)
    (sym (stands_found x p b.identities b.groups b.marks b.counts b.levels) ∙ e)

pub standing_found : (x p : ℕ) (b : Book) → stands x b.identities ≡ true → found x p b ≡ nowhere → ⊥
standing_found x p b e z = true≢false (sym e ∙ (stands_decides x p b).fails z)

new_decides : (x p : ℕ) (b : Book) → Decides (not (stands x b.identities)) (found x p b ≡ nowhere → ⊥)
new_decides x p b = turned (stands x b.identities) (stands_decides x p b)
  where
    turned : {R : Type 0} (t : Bool) → Decides t R → Decides (not t) (R → ⊥)
    turned true d = record { fails = λ _. refl; passes = λ n. absurd (n (λ r. true≢false (d.fails r))) }
    turned false d = record { fails = λ n. absurd (true≢false (sym (d.passes n))); passes = λ _. refl }

room_decides : (b : Book) → Decides (stands 0 b.identities) (Full b)
unfolding stands
room_decides b = decides (stands 0 b.identities) never full
  where
    never : stands 0 b.identities ≡ true → Full b → ⊥
    never e f =
        let h = stands_index 0 b.identities e in
        omega (arith, f (index_of 0 b.identities) h, index_is 0 b.identities h)

    full : stands 0 b.identities ≡ false → Full b
    full e i h = by (leb 1 (get_or b.identities i 0)) refl
      where
        by : (t : Bool) → leb 1 (get_or b.identities i 0) ≡ t → 1 ≤ get_or b.identities i 0
        by true k = leb-true 1 (get_or b.identities i 0) k
        by false k =
            let z : get_or b.identities i 0 ≡ 0 = omega (arith, leb-false 1 (get_or b.identities i 0) k) in
            absurd (omega (
              arith,
              index_before_lem 0 b.identities i h z,
              ltb-false (index_of 0 b.identities)
                  (length b.identities) e,
            ))

-- the mark of a row that stands
pub mark_found_lem : (x p : ℕ) (xs gs ms cs ls : List ℕ) → index_of x xs < length xs
    → get_or ms (index_of x xs) 0 ≡ mark_found (found_from x p xs gs ms cs ls)
mark_found_lem x p xs gs ms cs ls h = sym (ap mark_found (row_found_lem x p xs gs ms cs ls h))

held_decides : (x p : ℕ) (b : Book) → SoundBook p b → stands x b.identities ≡ true
    → Decides (eqb (get_or b.marks (index_of x b.identities) 0) 1) (mark_found (found x p b) ≡ 0)
held_decides x p b s e =
    let h = stands_index x b.identities e in
    let m = get_or b.marks (index_of x b.identities) 0 in
    let same = mark_found_lem x p b.identities b.groups b.marks b.counts b.levels h in
    let top = (s.row (index_of x b.identities) h).mark in
    decides (eqb m 1) (λ t z. omega (arith, eqb-true m 1 t)) (λ t. omega (arith, eqb-false m 1 t))

-- the levels given for a row that stands are zero where it doesn't count
elsewhere_decides : (x p : ℕ) (b : Book) (ls : List ℕ) → SoundBook p b → stands x b.identities ≡ true
    → levels_fit p ls ≡ true
    → Decides (zero_elsewhere (cells_at p (index_of x b.identities) b.counts) ls)
    (ZeroElsewhere p (counts_found (found x p b)) ls → ⊥)
elsewhere_decides x p b ls s e l =
    let h = stands_index x b.identities e in
    let cs = cells_at p (index_of x b.identities) b.counts in
    let wide = cells_length p (index_of x b.identities) (length b.identities) b.counts h s.counts in
    let same : cs ≡ counts_found (found x p b) =
    sym (ap counts_found (row_found_lem x p b.identities b.groups b.marks b.counts b.levels h)) in
    let r = ranges_hold.elsewhere p cs ls wide (levels_length p ls l) in
    subst (λ (v : List ℕ). Decides (zero_elsewhere cs ls) (ZeroElsewhere p v ls → ⊥)) same
    (decides_not (zero_elsewhere cs ls) r.0 r.1)

-- The theorem

rules_first : (a b : Bool) (rest : ℕ) → refused_or (refuse 1 a (refuse 2 b 0)) rest ≡ refuse 1 a (refuse 2 b rest)
rules_first false b rest = refl
rules_first true false rest = refl
rules_first true true rest = refl

enter_rules : (p : ℕ) (ids : List ℕ) (x t k s m : ℕ) (cs : List ℕ)
    → enter_refusal p ids x t k s m cs
    ≡ refuse 9 (counts_fit p cs)
    (refuse 1 (fields_fit t k s m)
    (refuse 2 (counts m) (refuse 3 (identity_fits x) (refuse 4 (not (stands x ids)) (refuse 6 (stands 0 ids) 0)))))
unfolding enter_refusal movement_refusal
enter_rules p ids x t k s m cs =
    ap (λ r. refuse 9 (counts_fit p cs) r)
    (rules_first (fields_fit t k s m) (counts m)
    (refuse 3 (identity_fits x) (refuse 4 (not (stands x ids)) (refuse 6 (stands 0 ids) 0))))

pub refusal_order : (p : ℕ) (b : Book) (c : Call) → InOrder p b c (refusal p b c)
unfolding refusal sound_refusal supply_refusal take_back_refusal withdraw_refusal
refusal_order p b (enter x t k s m cs) =
    given_by (sound p b) refl (sound_decides p b) λ _ e.
    given_by (counts_fit p cs) (e ∙ enter_rules p b.identities x t k s m cs) (given_decide p cs) λ _ e₉.
    given_by (fields_fit t k s m) e₉ (fields_decide t k s m) λ _ e₁.
    given_by (counts m) e₁ (counts_decide m) λ _ e₂.
    given_by (identity_fits x) e₂ (identity_decides x) λ _ e₃.
    given_by (not (stands x b.identities)) e₃ (new_decides x p b) λ _ e₄.
    given_by (stands 0 b.identities) e₄ (room_decides b) λ _ e₆. e₆
refusal_order p b (supply x ls) =
    given_by (sound p b) refl (sound_decides p b) λ s e₉.
    given_by (identity_fits x) e₉ (identity_decides x) λ _ e₃.
    given_by (levels_fit p ls) e₃ (levels_decide p ls) λ l e₇.
    given_by (stands x b.identities) e₇ (stands_decides x p b) λ t e₅.
    given_by (zero_elsewhere (cells_at p (index_of x b.identities) b.counts) ls) e₅
    (elsewhere_decides x p b ls ((sound_exactly p b).only s) t l) λ _ e₁₉. e₁₉
refusal_order p b (take_back x) =
    given_by (sound p b) refl (sound_decides p b) λ s e₉.
    given_by (identity_fits x) e₉ (identity_decides x) λ _ e₃.
    given_by (stands x b.identities) e₃ (stands_decides x p b) λ t e₅.
    given_by (eqb (get_or b.marks (index_of x b.identities) 0) 1) e₅
    (held_decides x p b ((sound_exactly p b).only s) t) λ _ e₈. e₈
refusal_order p b (withdraw x) =
    given_by (sound p b) refl (sound_decides p b) λ _ e₉.
    given_by (identity_fits x) e₉ (identity_decides x) λ _ e₃.
    given_by (stands x b.identities) e₃ (stands_decides x p b) λ _ e₅. e₅
