-- How a list of movements is found, by look-up: as the rows that it makes, and after each change of it. Assumes
-- nothing.
use mathlib.Core.Path.{◌≡◌, refl, sym, ap, subst, ◌∙◌}
use mathlib.Core.{Bool.Bool, Bool.true, Bool.false, Bool.cond, List.List, List.[], List.◌∷◌}
use Prim.Native.Nat.{ℕ, zero, suc, ◌*◌, ◌≤◌}
use native.Mathlib.Omega.{arith}
use lib.{ListN.drop, ListN.replicate, Seq.take_at, Seq.drop_at, Dec.eqb}
use borrow.Author.Tests.{eq-eqb, ne_eqb}
use Rattle.book_rules.specs.History.{Held, Movement, movement, added, holding, without, counts_for, mark_of}
use Rattle.book_rules.specs.History.{levels_of, column, identity_cell, group_cell, mark_cell, count_cells, level_cells}
use Rattle.book_rules.specs.History.{rows_of}
use Rattle.book_rules.specs.History.Held.{none, holds}
use Rattle.book_rules.specs.Lookup.{Row, found_from, found, group_found, counts_found, row_held, listed}
use Rattle.book_rules.specs.Lookup.Row.{nowhere, row}
use Rattle.book_rules.proofs.Blocks.{Place, Found, added_last, added_here, added_there, without_this}
use Rattle.book_rules.proofs.Blocks.{without_later, holding_this, holding_later}
use Rattle.book_rules.proofs.Blocks.{Place.last, Place.here, Place.there, Found.this, Found.later}
use Rattle.book_rules.proofs.Standing.{AllGood, Below, Rising}

-- The rows of a list of movements are found as the list says

pub none_found : (x p n : ℕ) (gs ms cs ls : List ℕ) → 1 ≤ x
    → found_from x p (replicate n 0) gs ms cs ls ≡ nowhere
unfolding found_from
none_found x p zero gs ms cs ls l = refl
none_found x p (suc n) gs ms cs ls l =
    rw (ne_eqb 0 x (omega arith)) (none_found x p n (drop 1 gs) (drop 1 ms) (drop p cs) (drop p ls) l)

row_held_rule : (p g : ℕ) (cs : List ℕ) (h : Held) → row g (mark_of h) cs (levels_of p h) ≡ row_held p g cs h
unfolding mark_of levels_of row_held
row_held_rule p g cs none = refl
row_held_rule p g cs (holds ls) = refl

found_listed : (x p u : ℕ) (ms : List Movement) → 1 ≤ x → AllGood p ms
    → found_from x p (column identity_cell 1 u ms) (column group_cell 1 u ms) (column mark_cell 1 u ms)
    (column count_cells p u ms) (column (level_cells p) p u ms) ≡ listed x p ms
unfolding column found_from listed
found_listed x p u [] l g = none_found x p (u * 1) _ _ _ _ l
found_listed x p u (a ∷ ms) l g =
    let v = g.0.counted.wide in
    let w = g.0.filled.wide in
    rw (
      take_at a.counts (column count_cells p u ms) p v,
      drop_at a.counts (column count_cells p u ms) p v,
      take_at (levels_of p a.held) (column (level_cells p) p u ms) p w,
      drop_at (levels_of p a.held) (column (level_cells p) p u ms) p w,
      found_listed x p u ms l g.1,
      row_held_rule p a.group a.counts a.held,
    )

pub rows_found : (x p u : ℕ) (ms : List Movement) → 1 ≤ x → AllGood p ms
    → found x p (rows_of p u ms) ≡ listed x p ms
unfolding rows_of
rows_found x p u ms l g = found_listed x p u ms l g

-- How each change of the list is found

pub listed_none : (x p : ℕ) → listed x p [] ≡ nowhere
unfolding listed
listed_none x p = refl

-- the first movement is looked at, then the others
pub listed_this : (x p : ℕ) (a : Movement) (ms : List Movement) → a.identity ≡ x
    → listed x p (a ∷ ms) ≡ row_held p a.group a.counts a.held
unfolding listed
listed_this x p a ms e = rw (eq-eqb a.identity x e) refl

pub listed_later : (x p : ℕ) (a : Movement) (ms : List Movement) → (a.identity ≡ x → ⊥)
    → listed x p (a ∷ ms) ≡ listed x p ms
unfolding listed
listed_later x p a ms e = rw (ne_eqb a.identity x e) refl

-- what two lists begin with alike changes nothing
listed_cons : (y p : ℕ) (a : Movement) (ms ns : List Movement) → listed y p ms ≡ listed y p ns
    → listed y p (a ∷ ms) ≡ listed y p (a ∷ ns)
unfolding listed
listed_cons y p a ms ns e = ap (cond (eqb a.identity y) (row_held p a.group a.counts a.held)) e

pub added_found : (p : ℕ) (m : Movement) {ms : List Movement} {k : ℕ} → Place m.identity ms k
    → listed m.identity p (added m ms) ≡ row_held p m.group m.counts m.held
added_found p m last = ap (listed m.identity p) (added_last m) ∙ listed_this m.identity p m [] refl
added_found p m (here {a} {ms} h) =
    ap (listed m.identity p) (added_here m a ms h) ∙ listed_this m.identity p m (a ∷ ms) refl
added_found p m (there {a} {ms} h r) =
    ap (listed m.identity p) (added_there m a ms h)
    ∙ listed_later m.identity p a (added m ms) (omega arith)
    ∙ added_found p m r

pub added_other : (y p : ℕ) (m : Movement) {ms : List Movement} {k : ℕ} → (m.identity ≡ y → ⊥)
    → Place m.identity ms k
    → listed y p (added m ms) ≡ listed y p ms
added_other y p m n last = ap (listed y p) (added_last m) ∙ listed_later y p m [] n
added_other y p m n (here {a} {ms} h) = ap (listed y p) (added_here m a ms h) ∙ listed_later y p m (a ∷ ms) n
added_other y p m n (there {a} {ms} h r) =
    ap (listed y p) (added_there m a ms h) ∙ listed_cons y p a (added m ms) ms (added_other y p m n r)

counts_held : (p g : ℕ) (cs : List ℕ) (h : Held) → counts_found (row_held p g cs h) ≡ cs
unfolding row_held
counts_held p g cs none = refl
counts_held p g cs (holds ls) = refl

-- where a movement counts is found as the list says
pub counts_listed : (x p : ℕ) (ms : List Movement) → counts_found (listed x p ms) ≡ counts_for x ms
unfolding listed counts_for
counts_listed x p [] = refl
counts_listed x p (a ∷ ms) = by (eqb a.identity x) (counts_listed x p ms)
  where
    by : (t : Bool) → counts_found (listed x p ms) ≡ counts_for x ms
        → counts_found (cond t (row_held p a.group a.counts a.held) (listed x p ms))
        ≡ cond t a.counts (counts_for x ms)
    by true e = counts_held p a.group a.counts a.held
    by false e = e

-- a row that now holds h, and keeps the rest
abbrev pub now_holds : (p : ℕ) → Held → Row → Row
now_holds p h w = row_held p (group_found w) (counts_found w) h

now_held : (p g : ℕ) (cs : List ℕ) (h k : Held) → now_holds p h (row_held p g cs k) ≡ row_held p g cs h
unfolding row_held
now_held p g cs h none = refl
now_held p g cs h (holds ls) = refl

pub holding_found : (p : ℕ) (h : Held) {x k : ℕ} {ms : List Movement} → Found x ms k
    → listed x p (holding x h ms) ≡ now_holds p h (listed x p ms)
holding_found p h {x} (this {a} {ms} e) =
    ap (listed x p) (holding_this x h a ms e)
    ∙ listed_this x p (movement a.identity a.group a.counts h) ms e
    ∙ sym (ap (now_holds p h) (listed_this x p a ms e) ∙ now_held p a.group a.counts h a.held)
holding_found p h {x} (later {a} {ms} e r) =
    ap (listed x p) (holding_later x h a ms e)
    ∙ listed_later x p a (holding x h ms) e
    ∙ holding_found p h r
    ∙ ap (now_holds p h) (sym (listed_later x p a ms e))

pub holding_other : (y p : ℕ) (h : Held) {x k : ℕ} {ms : List Movement} → (y ≡ x → ⊥) → Found x ms k
    → listed y p (holding x h ms) ≡ listed y p ms
holding_other y p h {x} n (this {a} {ms} e) =
    let other : a.identity ≡ y → ⊥ = λ z. n (sym z ∙ e) in
    ap (listed y p) (holding_this x h a ms e)
    ∙ listed_later y p (movement a.identity a.group a.counts h) ms other
    ∙ sym (listed_later y p a ms other)
holding_other y p h {x} n (later {a} {ms} e r) =
    ap (listed y p) (holding_later x h a ms e) ∙ listed_cons y p a (holding x h ms) ms (holding_other y p h n r)

-- no identity comes again after a higher one
pub below_none : (x p : ℕ) (ms : List Movement) → Below x ms → Rising ms → listed x p ms ≡ nowhere
unfolding listed
below_none x p [] b r = refl
below_none x p (a ∷ ms) b r = rw (ne_eqb a.identity x (omega arith)) (below_none x p ms (below ms r.0) r.1)
  where
    below : (ns : List Movement) → Below a.identity ns → Below x ns
    below [] h = tt
    below (c ∷ ns) h = omega (arith, b)

pub without_found : (p : ℕ) {x k : ℕ} {ms : List Movement} → Rising ms → Found x ms k
    → listed x p (without x ms) ≡ nowhere
without_found p {x} r (this {a} {ms} e) =
    ap (listed x p) (without_this x a ms e) ∙ below_none x p ms (subst (λ n. Below n ms) e r.0) r.1
without_found p {x} r (later {a} {ms} e f) =
    ap (listed x p) (without_later x a ms e) ∙ listed_later x p a (without x ms) e ∙ without_found p r.1 f

pub without_other : (y p : ℕ) {x k : ℕ} {ms : List Movement} → (y ≡ x → ⊥) → Found x ms k
    → listed y p (without x ms) ≡ listed y p ms
without_other y p {x} n (this {a} {ms} e) =
    ap (listed y p) (without_this x a ms e) ∙ sym (listed_later y p a ms (λ z. n (sym z ∙ e)))
without_other y p {x} n (later {a} {ms} e r) =
    ap (listed y p) (without_later x a ms e) ∙ listed_cons y p a (without x ms) ms (without_other y p n r)
