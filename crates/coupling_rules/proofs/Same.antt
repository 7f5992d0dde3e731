-- Gaps, moments and keys count only at the places that are met, and of the room only the first answers: what is equal
-- there
-- gives equal answers. Assumes nothing.
use mathlib.Core.{Path.◌≡◌, Path.refl, Path.sym, Path.ap, Path.◌∙◌, List.List, List.[], List.◌∷◌, List.◌++◌}
use mathlib.Core.{Logic.◌⊎◌, Logic.inl, Logic.inr, Logic.⊎_elim}
use Prim.Native.Nat.{ℕ, zero, suc, ◌≤◌, ◌<◌}
use native.Mathlib.Omega.{arith}
use lib.{ListN.length, ListN.get_or, ListN.take, ListN.drop, ListN.set, ListN.replicate, ListN.length-set}
use lib.{ListN.length-replicate, ListN.take-append-drop, Seq.ext_get_or, Seq.get_or-set_same, Seq.get_or-set_other}
use lib.{Seq.set-append_left, Seq.length-take-le}
use Rattle.sorting.specs.Sorted.{insert, sorted}
use Rattle.room.specs.Room.{front}
use Rattle.coupling_rules.specs.Rule.{closer, against, best, after, couple}
use Rattle.coupling_rules.specs.InnerSides.{In}
use Rattle.coupling_rules.proofs.{Members.is_or_not, Members.after_in, Best.best_in, Orders.sorted_in}

-- Sorts

insert_by : (key key' : ℕ → ℕ) (x y : ℕ) (l : List ℕ) → key x ≡ key' x → key y ≡ key' y
    → insert key x l ≡ insert key' x l → insert key x (y ∷ l) ≡ insert key' x (y ∷ l)
unfolding insert
insert_by key key' x y l e f more = rw (e, f, more)

insert_same : (key key' : ℕ → ℕ) (x : ℕ) (l : List ℕ) → key x ≡ key' x
    → ((y : ℕ) → In y l → key y ≡ key' y)
    → insert key x l ≡ insert key' x l
unfolding insert
insert_same key key' x [] e h = refl
insert_same key key' x (y ∷ l) e h =
    insert_by key key' x y l e (h y (inl refl)) (insert_same key key' x l e (λ z m. h z (inr m)))

pub sorted_same : (key key' : ℕ → ℕ) (l : List ℕ) → ((y : ℕ) → In y l → key y ≡ key' y)
    → sorted key l ≡ sorted key' l
unfolding sorted
sorted_same key key' [] h = refl
sorted_same key key' (x ∷ l) h =
    insert_same key key' x (sorted key l) (h x (inl refl)) (λ y m. h y (inr (sorted_in key y l m)))
    ∙ ap (insert key' x) (sorted_same key key' l (λ y m. h y (inr m)))

-- The best

module _ (gap gap' time time' : ℕ → ℕ) where
  abbrev Same : List ℕ → Type 0
  Same l = (j : ℕ) → In j l → (gap j ≡ gap' j) × (time j ≡ time' j)

  closer_same : (j k : ℕ) → (gap j ≡ gap' j) × (time j ≡ time' j)
      → (gap k ≡ gap' k) × (time k ≡ time' k)
      → closer gap time j k ≡ closer gap' time' j k
  unfolding closer
  closer_same j k (a, b) (c, d) = rw (a, b, c, d)

  against_same : (x : ℕ) (l : List ℕ) (r : ℕ) → Same (x ∷ l) → best gap time l ≡ r
      → against gap time x r ≡ against gap' time' x r
  unfolding against
  against_same x l zero h e = refl
  against_same x l (suc k) h e =
      rw (closer_same x k (h x (inl refl)) (h k (inr (best_in gap time l k e).0)))

  pub best_same : (l : List ℕ) → Same l → best gap time l ≡ best gap' time' l
  unfolding best
  best_same [] h = refl
  best_same (x ∷ l) h =
      let more = best_same l (λ j m. h j (inr m)) in
      rw (against_same x l (best gap time l) h refl, (h x (inl refl)).0, more)

-- The answers

module _ (gaps gaps' : ℕ → ℕ → ℕ) (time time' : ℕ → ℕ) where
  pub couple_same : (turns free answers : List ℕ)
      → ((i : ℕ) → In i turns → (j : ℕ) → In j free → gaps i j ≡ gaps' i j)
      → ((j : ℕ) → In j free → time j ≡ time' j)
      → couple gaps time turns free answers ≡ couple gaps' time' turns free answers
  unfolding couple
  couple_same [] free answers g h = refl
  couple_same (i ∷ turns) free answers g h =
      let b : best (gaps i) time free ≡ best (gaps' i) time' free =
      best_same (gaps i) (gaps' i) time time' free (λ j m. (g i (inl refl) j m, h j m)) in
      couple_same turns (after (best (gaps i) time free) free) (set answers i (best (gaps i) time free))
      (λ k m j n. g k (inr m) j (after_in (best (gaps i) time free) j free n).0)
      (λ j n. h j (after_in (best (gaps i) time free) j free n).0)
      ∙ ap (λ (a : ℕ). couple gaps' time' turns (after a free) (set answers i a)) b

module _ (gaps : ℕ → ℕ → ℕ) (time : ℕ → ℕ) where
  pub length_couple : (turns free answers : List ℕ)
      → length (couple gaps time turns free answers) ≡ length answers
  unfolding couple
  length_couple [] free answers = refl
  length_couple (i ∷ turns) free answers =
      length_couple turns (after (best (gaps i) time free) free) (set answers i (best (gaps i) time free))
      ∙ length-set answers i (best (gaps i) time free)

  -- what the turns write doesn't hang on what stood there
  set_both : (a b : List ℕ) (i x k : ℕ) (turns : List ℕ) → length a ≡ length b → i < length a
      → In k (i ∷ turns) ⊎ (get_or a k 0 ≡ get_or b k 0)
      → In k turns ⊎ (get_or (set a i x) k 0 ≡ get_or (set b i x) k 0)
  set_both a b i x k turns l h w =
      ⊎_elim
      (λ e. inr (rw (e, get_or-set_same a i x 0 h, get_or-set_same b i x 0 (omega arith))))
      (λ n. ⊎_elim (λ m. inl (⊎_elim (λ e. absurd (n e)) (λ t. t) m))
      (λ q. inr (rw (get_or-set_other a i k x 0 n, get_or-set_other b i k x 0 n) q)) w)
      (is_or_not k i)

  couple_over : (turns free a b : List ℕ) → length a ≡ length b → ((i : ℕ) → In i turns → i < length a)
      → ((k : ℕ) → k < length a → In k turns ⊎ (get_or a k 0 ≡ get_or b k 0))
      → couple gaps time turns free a ≡ couple gaps time turns free b
  unfolding couple
  couple_over [] free a b l p h = ext_get_or 0 a b l (λ k q. ⊎_elim (λ m. absurd m) (λ e. e) (h k q))
  couple_over (i ∷ turns) free a b l p h =
      let x = best (gaps i) time free in
      let la : length (set a i x) ≡ length a = length-set a i x in
      let lb : length (set b i x) ≡ length b = length-set b i x in
      couple_over turns (after x free) (set a i x) (set b i x) (omega arith) (λ k m. omega (arith, p k (inr m)))
      (λ k q. set_both a b i x k turns l (p i (inl refl)) (h k (omega arith)))

  -- room past the answers keeps what it held
  couple_rest : (turns free a rest : List ℕ) → ((i : ℕ) → In i turns → i < length a)
      → couple gaps time turns free (a ++ rest) ≡ couple gaps time turns free a ++ rest
  unfolding couple
  couple_rest [] free a rest p = refl
  couple_rest (i ∷ turns) free a rest p =
      let x = best (gaps i) time free in
      ap (couple gaps time turns (after x free)) (set-append_left a rest i x (p i (inl refl)))
      ∙ couple_rest turns (after x free) (set a i x) rest (λ k m. omega (arith, length-set a i x, p k (inr m)))

  pub couple_front : (turns free room : List ℕ) (n : ℕ) → n ≤ length room
      → ((i : ℕ) → In i turns → i < n)
      → ((i : ℕ) → i < n → In i turns)
      → couple gaps time turns free room ≡ front (couple gaps time turns free (replicate n 0)) room
  couple_front turns free room n h p q =
      let l : length (take n room) ≡ n = length-take-le n room h in
      let z : length {A = ℕ} (replicate n 0) ≡ n = length-replicate {A = ℕ} n 0 in
      let w : length (couple gaps time turns free (replicate n 0)) ≡ n =
      length_couple turns free (replicate n 0) ∙ z in
      ap (couple gaps time turns free) (sym (take-append-drop n room))
      ∙ couple_rest turns free (take n room) (drop n room) (λ i m. omega (arith, p i m))
      ∙ ap (λ (t : List ℕ). t ++ drop n room)
      (couple_over turns free (take n room) (replicate n 0) (l ∙ sym z) (λ i m. omega (arith, p i m))
      (λ k r. inl (q k (omega arith))))
      ∙ ap (λ (k : ℕ). couple gaps time turns free (replicate n 0) ++ drop k room) (sym w)
