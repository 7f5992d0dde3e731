-- Walks over numbers below `total`, of which `next` leads from one that is crossed to another or out, and `prev`
-- leads back.
-- A walk over waits numbers stops only out of them or where it began. Assumes nothing.
use mathlib.Core.Path.{◌≡◌, refl, sym, ap, ◌∙◌, subst}
use mathlib.Core.{Bool.Bool, Bool.true, Bool.false, Bool.cond, Logic.◌⊎◌, Logic.inl, Logic.inr, Logic.⊎_elim}
use mathlib.Core.List.{List, [], ◌∷◌}
use Prim.Native.Nat.{ℕ, zero, suc, ◌≤◌, ◌<◌}
use native.Mathlib.Omega.{arith}
use lib.ListN.{length, set, length-set}
use Rattle.contour_rules.specs.Contours.{waits, waiting, follow, without}
use Rattle.contour_rules.proofs.Waiting.{is_or_not, clash, stays, waits_lt, waits_set_same, waits_set_other}
use Rattle.contour_rules.proofs.Waiting.{waiting-set}

-- the edges begin with `start`, each leads to the next, and the last leads to `end`
abbrev pub Run : (ℕ → ℕ) → ℕ → List ℕ → ℕ → Type 0
Run next start [] end = start ≡ end
Run next start (n ∷ ns) end = (n ≡ start) × Run next (next n) ns end

module _ (total : ℕ) (crossed : ℕ → Bool) (next prev : ℕ → ℕ)
    (leads : (n : ℕ) → n < total → crossed n ≡ true → next n < total
    → (crossed (next n) ≡ true) × (prev (next n) ≡ n)) where
  -- m waited at first and is marked now
  abbrev pub New : List ℕ → List ℕ → ℕ → Type 0
  New list₀ list m = (m < total) × ((waits list₀ m ≡ true) × (waits list m ≡ false))

  pub record Walk (s : ℕ) (list₀ list : List ℕ) (n : ℕ) : Type 0 where
    pub long : length list ≡ total
    -- what is marked came from what is marked, or is the start
    pub from : (m : ℕ) → m < total → crossed m ≡ true → waits list m ≡ false → prev m < total
        → (m ≡ s) ⊎ (waits list (prev m) ≡ false)
    -- and leads to what is marked, or is the last
    pub onto : (m : ℕ) → m < total → crossed m ≡ true → waits list m ≡ false → next m < total
        → (next m ≡ n) ⊎ (waits list (next m) ≡ false)
    pub new : (m : ℕ) → New list₀ list m → (m ≡ s) ⊎ New list₀ list (prev m)
    pub grows : (m : ℕ) → waits list m ≡ true → waits list₀ m ≡ true
    pub crosses : n < total → crossed n ≡ true
    pub came : n < total → ((n ≡ s) × (waits list s ≡ true)) ⊎ New list₀ list (prev n)
    pub stop : n < total → waits list n ≡ false → n ≡ s

  pub goes : (s : ℕ) (list₀ list : List ℕ) (n : ℕ) → Walk s list₀ list n → waits list n ≡ true
      → Walk s list₀ (set list n 0) (next n)
  goes s list₀ list n w h =
      let l : n < total = subst (λ (k : ℕ). n < k) w.long (waits_lt list n h) in
      let x : crossed n ≡ true = w.crosses l in
      let marked : New list₀ (set list n 0) n = (l, (w.grows n h, waits_set_same list n)) in
      let keeps : (m : ℕ) → New list₀ list m → New list₀ (set list n 0) m =
      λ m k. (k.0, (k.1.0, stays list n m k.1.1)) in
      let old : (m : ℕ) → (m ≡ n → ⊥) → waits (set list n 0) m ≡ false → waits list m ≡ false =
      λ m e k. sym (waits_set_other list n m e) ∙ k in
      record {
        long = length-set list n 0 ∙ w.long;
        from = λ m b y k p. ⊎_elim
            (λ e. ⊎_elim (λ c. inl (e ∙ c.0))
            (λ c. inr (stays list n (prev m)
            (subst (λ (i : ℕ). waits list (prev i) ≡ false) (sym e) c.1.1))) (w.came l))
            (λ e. ⊎_elim (λ c. inl c) (λ c. inr (stays list n (prev m) c)) (w.from m b y (old m e k) p))
            (is_or_not m n);
        onto = λ m b y k p. ⊎_elim
            (λ e. inl (ap next e))
            (λ e. ⊎_elim (λ c. inr (rw c (waits_set_same list n))) (λ c. inr (stays list n (next m) c))
            (w.onto m b y (old m e k) p)) (is_or_not m n);
        new = λ m k. ⊎_elim
            (λ e. ⊎_elim (λ c. inl (e ∙ c.0))
            (λ c. inr (subst (λ (i : ℕ). New list₀ (set list n 0) (prev i)) (sym e) (keeps (prev n) c)))
            (w.came l))
            (λ e. ⊎_elim (λ c. inl c) (λ c. inr (keeps (prev m) c))
            (w.new m (k.0, (k.1.0, old m e k.1.1)))) (is_or_not m n);
        grows = λ m k. ⊎_elim (λ e. clash k (rw e (waits_set_same list n)))
            (λ e. w.grows m (sym (waits_set_other list n m e) ∙ k)) (is_or_not m n);
        crosses = λ b. (leads n l x b).0;
        came = λ b. inr (subst (New list₀ (set list n 0)) (sym (leads n l x b).1) marked);
        stop = λ b k.
            let back : prev (next n) ≡ n = (leads n l x b).1 in
            ⊎_elim
            (λ e. ⊎_elim (λ c. e ∙ c.0)
            (λ c. clash h (subst (λ (i : ℕ). waits list i ≡ false) (sym (ap prev e) ∙ back) c.1.1))
            (w.came l))
            (λ e. ⊎_elim (λ c. c) (λ c. clash h (subst (λ (i : ℕ). waits list i ≡ false) back c))
            (w.from (next n) b (leads n l x b).0 (old (next n) e k)
            (subst (λ (i : ℕ). i < total) (sym back) l)))
            (is_or_not (next n) n);
      }

  -- ---- to the end

  pub record Ended (s : ℕ) (list₀ list : List ℕ) (n : ℕ) (ns : List ℕ) (Q : ℕ → Type 0) : Type 0 where
    pub end : ℕ
    pub run : Run next n ns end
    pub walk : Walk s list₀ (without list ns) end
    pub stopped : waits (without list ns) end ≡ false
    pub kept : Q end

  module _ (s : ℕ) (list₀ : List ℕ) (Q : ℕ → Type 0) (keeps : (n : ℕ) → n < total
      → waits list₀ n ≡ true → crossed n ≡ true → Q n → Q (next n)) where
    one_step_rule : (most : ℕ) (list : List ℕ) (n : ℕ) → waits list n ≡ true → Walk s list₀ list n
        → Ended s list₀ (set list n 0) (next n) (follow next most (set list n 0) (next n)) Q
        → Ended s list₀ list n (n ∷ follow next most (set list n 0) (next n)) Q
    unfolding without
    one_step_rule most list n h w i =
        record { end = i.end; run = (refl, i.run); walk = i.walk; stopped = i.stopped; kept = i.kept }

    next_kept : (list : List ℕ) (n : ℕ) → waits list n ≡ true → Walk s list₀ list n → Q n → Q (next n)
    next_kept list n h w q = let l : n < total = subst (λ (k : ℕ). n < k) w.long (waits_lt list n h) in
        keeps n l (w.grows n h) (w.crosses l) q

    pub to_the_end : (most : ℕ) (list : List ℕ) (n : ℕ) → waiting list ≤ most → Walk s list₀ list n
        → Q n → Ended s list₀ list n (follow next most list n) Q
    unfolding follow without
    to_the_end zero list n f w q = go (waits list n) refl
      where
        go : (b : Bool) → waits list n ≡ b → Ended s list₀ list n [] Q
        go true h = absurd (omega (arith, waiting-set list n h))
        go false h = record { end = n; run = refl; walk = w; stopped = h; kept = q }
    to_the_end (suc most) list n f w q =
        go (waits list n) refl (λ h. to_the_end most (set list n 0) (next n) (omega (arith, waiting-set list n h))
        (goes s list₀ list n w h) (next_kept list n h w q))
      where
        go : (b : Bool) → waits list n ≡ b
            → (waits list n ≡ true → Ended s list₀ (set list n 0) (next n)
            (follow next most (set list n 0) (next n)) Q)
            → Ended s list₀ list n (cond b (n ∷ follow next most (set list n 0) (next n)) []) Q
        go true h i = one_step_rule most list n h w (i h)
        go false h i = record { end = n; run = refl; walk = w; stopped = h; kept = q }

  -- ---- where a walk sets out, and what it leaves

  -- of what is crossed and marked, what it comes from and leads to is marked
  pub record Settled (list : List ℕ) : Type 0 where
    pub long : length list ≡ total
    pub from : (m : ℕ) → m < total → crossed m ≡ true → waits list m ≡ false → prev m < total
        → waits list (prev m) ≡ false
    pub onto : (m : ℕ) → m < total → crossed m ≡ true → waits list m ≡ false → next m < total
        → waits list (next m) ≡ false

  pub sets_out : (list : List ℕ) (s : ℕ) → Settled list → crossed s ≡ true → waits list s ≡ true
      → Walk s list list s
  sets_out list s c x f = record {
    long = c.long;
    from = λ m b y k p. inr (c.from m b y k p);
    onto = λ m b y k p. inr (c.onto m b y k p);
    new = λ m k. clash k.1.0 k.1.1;
    grows = λ m k. k;
    crosses = λ _. x;
    came = λ _. inl (refl, f);
    stop = λ _ _. refl;
  }

  -- a walk that stopped where it began was somewhere: it came there from a new one
  pub returned : (s : ℕ) (list₀ list : List ℕ) (n : ℕ) → Walk s list₀ list n → waits list n ≡ false
      → n < total → (n ≡ s) × New list₀ list (prev s)
  returned s list₀ list n w f b =
      let e : n ≡ s = w.stop b f in (
        e,
        ⊎_elim (λ c. clash c.1 (subst (λ (i : ℕ). waits list i ≡ false) e f))
            (λ c. subst (λ (i : ℕ). New list₀ list (prev i)) e c) (w.came b),
      )

  -- a walk that left, from a start that came from outside, and one that returned, leave a settled set
  pub settled_left : (s : ℕ) (list₀ list : List ℕ) (n : ℕ) → Walk s list₀ list n → total ≤ n
      → total ≤ prev s → Settled list
  settled_left s list₀ list n w o p = record {
    long = w.long;
    from = λ m b y k q. ⊎_elim (λ e. absurd (omega (arith, subst (λ (i : ℕ). prev i < total) e q))) (λ c. c)
        (w.from m b y k q);
    onto = λ m b y k q. ⊎_elim (λ e. absurd (omega (arith, e))) (λ c. c) (w.onto m b y k q);
  }

  pub settled_returned : (s : ℕ) (list₀ list : List ℕ) (n : ℕ) → Walk s list₀ list n
      → waits list n ≡ false → n < total → Settled list
  settled_returned s list₀ list n w f b =
      let r = returned s list₀ list n w f b in
      record {
        long = w.long;
        from = λ m b y k q. ⊎_elim
            (λ e. subst (λ (i : ℕ). waits list (prev i) ≡ false) (sym e) r.1.1.1) (λ c. c)
            (w.from m b y k q);
        onto = λ m b y k q. ⊎_elim (λ e. subst (λ (i : ℕ). waits list i ≡ false) (sym e) f) (λ c. c)
            (w.onto m b y k q);
      }

-- ---- where nothing waits comes from outside, a walk returns: the walk backwards does, and holds the walk

module _ (total : ℕ) (crossed : ℕ → Bool) (next prev : ℕ → ℕ)
    (leads : (n : ℕ) → n < total → crossed n ≡ true → next n < total
    → (crossed (next n) ≡ true) × (prev (next n) ≡ n))
    (comes : (n : ℕ) → n < total → crossed n ≡ true → prev n < total
    → (crossed (prev n) ≡ true) × (next (prev n) ≡ n)) where
  pub comes_back : (list : List ℕ) (s : ℕ) → Settled total crossed next prev leads list → s < total
      → crossed s ≡ true → waits list s ≡ true
      → ((m : ℕ) → m < total → crossed m ≡ true → waits list m ≡ true → prev m < total)
      → Ended total crossed next prev leads s list list s (follow next (waiting list) list s) (λ n. n < total)
  comes_back list s c b x f inner =
      let turned : Settled total crossed prev next comes list =
      record { long = c.long; from = c.onto; onto = c.from } in
      let back = to_the_end total crossed prev next comes s list (λ n. n < total) (λ n l f x q. inner n l x f)
      (waiting list) list s (omega arith) (sets_out total crossed prev next comes list s turned x f) b in
      let list' = without list (follow prev (waiting list) list s) in
      let r = returned total crossed prev next comes s list list' back.end back.walk back.stopped
      back.kept in
      let first : New total crossed prev next comes list list' s =
      (b, (f, subst (λ (i : ℕ). waits list' i ≡ false) r.0 back.stopped)) in
      let on : (m : ℕ) → New total crossed prev next comes list list' m
      → New total crossed prev next comes list list' (next m) =
      λ m k. ⊎_elim (λ e. subst (λ (i : ℕ). New total crossed prev next comes list list' (next i)) (sym e)
      r.1) (λ c. c) (back.walk.new m k) in
      let ahead = to_the_end total crossed next prev leads s list (New total crossed prev next comes list list')
      (λ n l f x q. on n q) (waiting list) list s (omega arith)
      (sets_out total crossed next prev leads list s c x f) first in
      record { end = ahead.end; run = ahead.run; walk = ahead.walk; stopped = ahead.stopped; kept = ahead.kept.0 }
