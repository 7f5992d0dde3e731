-- What each movement took, by look-up in the answer: the best of what was free at its turn, and free at its turn is
-- what no
-- movement before it took. Assumes nothing.
use mathlib.Core.{Path.◌≡◌, Path.refl, Path.sym, Path.ap, Path.subst, Path.◌∙◌, List.List, List.[], List.◌∷◌}
use mathlib.Core.{List.◌++◌, Logic.inl, Logic.inr, Logic.⊎_elim}
use Prim.Native.Nat.{ℕ, suc, ◌≤◌, ◌<◌}
use native.Mathlib.Omega.{arith}
use lib.{ListN.length, ListN.get_or, ListN.set, ListN.length-set, Seq.get_or-set_same, Seq.get_or-set_other}
use Rattle.sorting.specs.Sorted.{sorted}
use Rattle.coupling_rules.specs.Rule.{best, after, couple, places}
use Rattle.coupling_rules.specs.InnerSides.{In, Over}
use Rattle.coupling_rules.proofs.{Members.after_in, Members.in_after, Orders.in_sorted, Orders.in_places}
use Rattle.coupling_rules.proofs.{Orders.in_order, Turns.Once, Turns.once, Turns.Cut, Turns.cut, Turns.inside}
use Rattle.coupling_rules.proofs.{Turns.stands, Turns.goes}

module _ (gaps : ℕ → ℕ → ℕ) (time : ℕ → ℕ) where
  untouched : (turns free answers : List ℕ) (k : ℕ) → (In k turns → ⊥)
      → get_or (couple gaps time turns free answers) k 0 ≡ get_or answers k 0
  unfolding couple
  untouched [] free answers k n = refl
  untouched (i ∷ turns) free answers k n =
      let b = best (gaps i) time free in
      untouched turns (after b free) (set answers i b) k (λ m. n (inr m))
      ∙ get_or-set_other answers i k b 0 (λ e. n (inl e))

  own : (i : ℕ) (turns free answers : List ℕ) → i < length answers → (In i turns → ⊥)
      → get_or (couple gaps time (i ∷ turns) free answers) i 0 ≡ best (gaps i) time free
  unfolding couple
  own i turns free answers h n =
      let b = best (gaps i) time free in
      untouched turns (after b free) (set answers i b) i n ∙ get_or-set_same answers i b 0 h

  -- what was free at the turn of i, when those before it had their turns
  record Took (free answer before : List ℕ) (i : ℕ) : Type 0 where
    left : List ℕ
    is_best : get_or answer i 0 ≡ best (gaps i) time left
    left_in : (j : ℕ) → In j left → In j free × ((h : ℕ) → In h before → get_or answer h 0 ≡ suc j → ⊥)
    in_left : (j : ℕ) → In j free → ((h : ℕ) → In h before → get_or answer h 0 ≡ suc j → ⊥)
        → In j left

  not_in : (i : ℕ) (l : List ℕ) → Once (i ∷ l) → In i l → ⊥
  not_in i l o m = o.0 i m refl

  took : (before : List ℕ) (i : ℕ) (rest free answers : List ℕ) → Once (before ++ i ∷ rest)
      → ((k : ℕ) → In k (before ++ i ∷ rest) → k < length answers)
      → Took free (couple gaps time (before ++ i ∷ rest) free answers) before i
  unfolding couple
  took [] i rest free answers o p = record {
    left = free;
    is_best = own i rest free answers (p i (inl refl)) (not_in i rest o);
    left_in = λ j m. (m, λ h n e. n);
    in_left = λ j m n. m;
  }
  took (x ∷ before) i rest free answers o p =
      let b = best (gaps x) time free in
      let l = before ++ i ∷ rest in
      let more = took before i rest (after b free) (set answers x b) o.1
      (λ k m. omega (arith, length-set answers x b, p k (inr m))) in
      let first = own x l free answers (p x (inl refl)) (not_in x l o) in
      let whole = couple gaps time l (after b free) (set answers x b) in
      record {
        left = more.left;
        is_best = more.is_best;
        left_in = λ j m.
            let w = more.left_in j m in
            let a = after_in b j free w.0 in (
              a.0,
              λ h n e. ⊎_elim (λ q. a.1 (sym first ∙ ap (λ (k : ℕ). get_or whole k 0) (sym q) ∙ e))
                  (λ q. w.1 h q e) n,
            );
        in_left = λ j m n.
            more.in_left j (in_after b j free (λ e. n x (inl refl) (first ∙ e)) m) (λ h q. n h (inr q));
      }

-- Of n movements, in order of their moment `at` and then of their place, and of tracks that are free at first
module _ (gaps : ℕ → ℕ → ℕ) (time at : ℕ → ℕ) (n : ℕ) (free answers : List ℕ)
    (long : n ≤ length answers) where
  abbrev turns : List ℕ
  turns = sorted at (places n)

  abbrev answer : List ℕ
  answer = couple gaps time (sorted at (places n)) free answers

  pub record Turn (i : ℕ) : Type 0 where
    pub left : List ℕ
    pub is_best : get_or (couple gaps time (sorted at (places n)) free answers) i 0 ≡ best (gaps i) time left
    pub left_in : (j : ℕ) → In j left → In j free
        × ((h : ℕ) → h < n → Over at h i
        → get_or (couple gaps time (sorted at (places n)) free answers) h 0 ≡ suc j → ⊥)
    pub in_left : (j : ℕ) → In j free
        → ((h : ℕ) → h < n → Over at h i
        → get_or (couple gaps time (sorted at (places n)) free answers) h 0 ≡ suc j → ⊥)
        → In j left

  turn_at : (i : ℕ) (c : Cut i turns) → Turn i
  turn_at i c =
      let o : Once (c.before ++ i ∷ c.rest) = subst Once c.is (once at turns (in_order at n)) in
      let p : (k : ℕ) → In k (c.before ++ i ∷ c.rest) → k < length answers =
      λ k m. omega (arith, inside at n k (subst (In k) (sym c.is) m)) in
      let t : Took gaps time free answer c.before i =
      subst (λ (l : List ℕ). Took gaps time free (couple gaps time l free answers) c.before i) (sym c.is)
      (took gaps time c.before i c.rest free answers o p) in
      record {
        left = t.left;
        is_best = t.is_best;
        left_in = λ j m.
            let w = t.left_in j m in
            (w.0, λ h q v e. w.1 h (stands at n i h c q v) e);
        in_left = λ j m f.
            t.in_left j m (λ h q e. let g = goes at n i h c q in f h g.0 g.1 e);
      }

  pub turn_told : (i : ℕ) → i < n → Turn i
  turn_told i h = turn_at i (cut i turns (in_sorted at i (places n) (in_places n i h)))
