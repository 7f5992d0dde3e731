-- Laws of the movements that count at a point. Assumes nothing.
use mathlib.Core.{Path.◌≡◌, Path.refl, Path.ap, Path.◌∙◌, Bool.Bool, Bool.true, Bool.false, Bool.cond}
use mathlib.Core.List.{List, [], ◌∷◌, ◌++◌}
use Prim.Native.Nat.{ℕ, suc, ◌≤◌, ◌<◌}
use native.Mathlib.Omega.{arith}
use lib.{ListN.length, ListN.get_or, Dec.eqb}
use borrow.Author.Tests.{eq-eqb, ne_eqb}
use Rattle.book_rules.specs.History.{Movement}
use Rattle.book_rules.proofs.Standing.{AllGood}
use Rattle.load_rules.specs.Shares.{counting_at, Everywhere}

module _ (pt : ℕ) where
  pub counting_none : counting_at pt [] ≡ []
  unfolding counting_at
  counting_none = refl

  pub counting_left_out : (m : Movement) (ms : List Movement) → get_or m.counts pt 0 ≡ 0
      → counting_at pt (m ∷ ms) ≡ counting_at pt ms
  unfolding counting_at
  counting_left_out m ms e =
      ap (λ (t : Bool). cond t (counting_at pt ms) (m ∷ counting_at pt ms)) (eq-eqb (get_or m.counts pt 0) 0 e)

  pub counting_kept : (m : Movement) (ms : List Movement) → ¬ (get_or m.counts pt 0 ≡ 0)
      → counting_at pt (m ∷ ms) ≡ m ∷ counting_at pt ms
  unfolding counting_at
  counting_kept m ms n =
      ap (λ (t : Bool). cond t (counting_at pt ms) (m ∷ counting_at pt ms)) (ne_eqb (get_or m.counts pt 0) 0 n)

  -- what two lists begin with alike changes nothing
  pub counting_cons : (m : Movement) (ms ns : List Movement) → counting_at pt ms ≡ counting_at pt ns
      → counting_at pt (m ∷ ms) ≡ counting_at pt (m ∷ ns)
  unfolding counting_at
  counting_cons m ms ns e = ap (λ (l : List Movement). cond (eqb (get_or m.counts pt 0) 0) l (m ∷ l)) e

  pub counting_append : (xs ys : List Movement)
      → counting_at pt (xs ++ ys) ≡ counting_at pt xs ++ counting_at pt ys
  unfolding counting_at
  counting_append [] ys = refl
  counting_append (x ∷ xs) ys = rw (counting_append xs ys) (go (eqb (get_or x.counts pt 0) 0))
    where
      go : (t : Bool)
          → cond t (counting_at pt xs ++ counting_at pt ys) (x ∷ (counting_at pt xs ++ counting_at pt ys))
          ≡ cond t (counting_at pt xs) (x ∷ counting_at pt xs) ++ counting_at pt ys
      go true = refl
      go false = refl

  -- no more of them than of all
  pub counting_le : (ms : List Movement) → length (counting_at pt ms) ≤ length ms
  unfolding counting_at
  counting_le [] = omega arith
  counting_le (m ∷ ms) = go (eqb (get_or m.counts pt 0) 0) (counting_le ms)
    where
      go : (t : Bool) → length (counting_at pt ms) ≤ length ms
          → length (cond t (counting_at pt ms) (m ∷ counting_at pt ms)) ≤ suc (length ms)
      go true l = omega arith
      go false l = omega arith

  -- each in range, as all are
  pub counting_good : (p : ℕ) (ms : List Movement) → AllGood p ms → AllGood p (counting_at pt ms)
  unfolding counting_at
  counting_good p [] g = tt
  counting_good p (m ∷ ms) g = go (eqb (get_or m.counts pt 0) 0) (counting_good p ms g.1)
    where
      go : (t : Bool) → AllGood p (counting_at pt ms)
          → AllGood p (cond t (counting_at pt ms) (m ∷ counting_at pt ms))
      go true s = s
      go false s = (g.0, s)

  -- all of them, where each counts everywhere
  pub counting_all : (p : ℕ) (ms : List Movement) → pt < p → Everywhere p ms → counting_at pt ms ≡ ms
  counting_all p [] h e = counting_none
  counting_all p (m ∷ ms) h e =
      let here : get_or m.counts pt 0 ≡ 1 = e 0 pt (omega arith) h in
      counting_kept m ms (λ z. omega arith)
      ∙ ap (λ (l : List Movement). m ∷ l) (counting_all p ms h (λ i q l k. e (suc i) q (omega arith) k))
