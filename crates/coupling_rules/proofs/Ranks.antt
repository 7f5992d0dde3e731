-- The orders that the three sorts make, by class and moment as one number, and that sorting the movements by class as
-- well
-- changes no answer: movements of two classes have no track in common. Assumes nothing.
use mathlib.Core.{Path.◌≡◌, Path.sym, Path.subst, Path.◌∙◌, List.List, List.[], Logic.inl, Logic.inr}
use mathlib.Core.{Logic.⊎_elim}
use Prim.Native.Nat.{ℕ, ◌≤◌, ◌<◌}
use native.Mathlib.Omega.{arith}
use lib.ListN.{length, get_or}
use Rattle.sorting.specs.Sorted.{key_of, sorted}
use Rattle.coupling_rules.specs.Rule.{places, couple}
use Rattle.coupling_rules.specs.InnerSides.{In, Chain, Over, Split, Ordered}
use Rattle.coupling_rules.specs.InnerPacked.{Packed, class_in, moment_in, rank_in, in_order, reach_of}
use Rattle.coupling_rules.specs.InnerPacked.{gaps_in}
use Rattle.coupling_rules.proofs.{Members.zero_or, Orders.Lex, Orders.sorted_in, Orders.in_sorted}
use Rattle.coupling_rules.proofs.{Orders.chain_sorted, Orders.chain_map, Orders.places_in, Orders.places_rise}
use Rattle.coupling_rules.proofs.{Gapped.ranked_high, Gapped.ranked_low, Gapped.ranked_same, Gapped.gap_says}
use Rattle.coupling_rules.proofs.{Swaps.sorted_couple}

-- columns of 64 bits
pub record Wide (p : Packed) : Type 0 where
  pub low : (j : ℕ) → key_of p.lows j < 18446744073709551616
  pub moment : (j : ℕ) → key_of p.moments j < 18446744073709551616

module _ (p : Packed) (w : Wide p) where
  abbrev ByMoment : ℕ → ℕ → Type 0
  ByMoment = Lex (moment_in p) (λ (x y : ℕ). x < y)

  abbrev ByLow : ℕ → ℕ → Type 0
  ByLow = Lex (key_of p.lows) ByMoment

  by_rank : (x y : ℕ) → Lex (key_of p.highs) ByLow x y → Over (rank_in p) x y
  by_rank x y (inl h) =
      inl (ranked_high (class_in p x) (moment_in p x) (class_in p y) (moment_in p y)
      (ranked_high (key_of p.highs x) (key_of p.lows x) (key_of p.highs y) (key_of p.lows y) h (w.low x))
      (w.moment x))
  by_rank x y (inr (e, inl h)) =
      inl (ranked_high (class_in p x) (moment_in p x) (class_in p y) (moment_in p y)
      (rw e (ranked_low (key_of p.highs y) (key_of p.lows x) (key_of p.lows y) h)) (w.moment x))
  by_rank x y (inr (e, inr (f, inl h))) =
      inl (rw (e, f) (ranked_low (class_in p y) (moment_in p x) (moment_in p y) h))
  by_rank x y (inr (e, inr (f, inr (g, h)))) = inr (rw (e, f, g), h)

  rank_order : (n : ℕ) → Chain (Over (rank_in p)) (in_order p n)
  rank_order n =
      chain_map (Lex (key_of p.highs) ByLow) (Over (rank_in p)) by_rank (in_order p n)
      (chain_sorted (key_of p.highs) ByLow (sorted (key_of p.lows) (sorted (moment_in p) (places n)))
      (chain_sorted (key_of p.lows) ByMoment (sorted (moment_in p) (places n))
      (chain_sorted (moment_in p) (λ (x y : ℕ). x < y) (places n) (places_rise 0 n))))

  order_in_rule : (n j : ℕ) → In j (in_order p n) → In j (places n)
  order_in_rule n j m =
      sorted_in (moment_in p) j (places n)
      (sorted_in (key_of p.lows) j (sorted (moment_in p) (places n))
      (sorted_in (key_of p.highs) j (sorted (key_of p.lows) (sorted (moment_in p) (places n))) m))

  in_order_rule : (n j : ℕ) → In j (places n) → In j (in_order p n)
  in_order_rule n j m =
      in_sorted (key_of p.highs) j (sorted (key_of p.lows) (sorted (moment_in p) (places n)))
      (in_sorted (key_of p.lows) j (sorted (moment_in p) (places n)) (in_sorted (moment_in p) j (places n) m))

  order_split : (n : ℕ) → Split (rank_in p) (places n) [] (in_order p n)
  order_split n = record {
    whole = λ j m. inr (in_order_rule n j m);
    left_in = λ j m. absurd m;
    right_in = λ j m. order_in_rule n j m;
    down = tt;
    up = rank_order n;
    apart = λ x y m k. absurd m;
  }

  not_over_rule : (x y : ℕ) → Over (rank_in p) x y → rank_in p x ≤ rank_in p y
  not_over_rule x y (inl h) = omega arith
  not_over_rule x y (inr h) = let e = h.0 in omega arith

  order_rising : (n : ℕ) → Chain (λ (x y : ℕ). rank_in p x ≤ rank_in p y) (in_order p n)
  order_rising n =
      chain_map (Over (rank_in p)) (λ (x y : ℕ). rank_in p x ≤ rank_in p y) not_over_rule (in_order p n) (rank_order n)

-- what the pairing asks
pub all_ordered_lem : (t m : Packed) → Wide t → Wide m → (turns order free answers : List ℕ) (k n : ℕ)
    → turns ≡ in_order m k → order ≡ in_order t n → free ≡ places n → k ≤ length answers
    → n ≤ 4294967295
    → Ordered (rank_in t) (rank_in m) turns order free answers
all_ordered_lem t m wt wm turns order free answers k n e f q h s =
    record {
      rising = subst (Chain (λ (x y : ℕ). rank_in m x ≤ rank_in m y)) (sym e) (order_rising m wm k);
      placed = λ i p. omega (arith, places_in k i (order_in_rule m wm k i (subst (In i) e p)));
      split = subst (λ (l : List ℕ). Split (rank_in t) l [] order) (sym q)
          (subst (Split (rank_in t) (places n) []) (sym f) (order_split t wt n));
      small = λ j p. omega (arith, places_in n j (subst (In j) q p));
    }

-- of two movements that could take one track the class is one
module _ (t m : Packed) (classes circuits : List ℕ) (w : Wide m) where
  abbrev gaps : ℕ → ℕ → ℕ
  gaps = gaps_in t m classes circuits

  one_class : (i y j : ℕ) → 0 < gaps i j → 0 < gaps y j → class_in m i ≡ class_in m y
  one_class i y j h k =
      sym (gap_says (class_in t) (moment_in t) (class_in m i) (moment_in m i)
      (reach_of (get_or classes i 0) (get_or circuits i 0)) j h).agrees
      ∙ (gap_says (class_in t) (moment_in t) (class_in m y) (moment_in m y)
      (reach_of (get_or classes y 0) (get_or circuits y 0)) j k).agrees

  both_same : (i y : ℕ) → class_in m i ≡ class_in m y
      → (key_of m.highs i ≡ key_of m.highs y) × (key_of m.lows i ≡ key_of m.lows y)
  both_same i y e =
      ranked_same (key_of m.highs i) (key_of m.lows i) (key_of m.highs y) (key_of m.lows y) (w.low i)
      (w.low y) e

  -- the movements by class and moment take what they take by moment
  pub by_moment : (n : ℕ) (free answers : List ℕ)
      → couple (gaps_in t m classes circuits) (moment_in t) (in_order m n) free answers
      ≡ couple (gaps_in t m classes circuits) (moment_in t) (sorted (moment_in m) (places n)) free answers
  by_moment n free answers =
      let turns = sorted (moment_in m) (places n) in
      sorted_couple gaps (moment_in t) (key_of m.highs)
      (λ i y d j h. ⊎_elim (λ z. z) (λ k. absurd (d (both_same i y (one_class i y j h k)).0))
      (zero_or (gaps y j)))
      (sorted (key_of m.lows) turns) free answers
      ∙ sorted_couple gaps (moment_in t) (key_of m.lows)
      (λ i y d j h. ⊎_elim (λ z. z) (λ k. absurd (d (both_same i y (one_class i y j h k)).1))
      (zero_or (gaps y j)))
      turns free answers
