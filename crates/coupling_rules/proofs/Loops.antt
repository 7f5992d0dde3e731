-- One movement more: the answers so far, and what the rest of the turns makes of them. Assumes nothing.
use mathlib.Core.{Path.◌≡◌, Path.sym, Path.ap, Path.subst, Path.◌∙◌, List.List, Path.refl, Logic.inl}
use Prim.Native.Nat.{ℕ, zero, suc, ◌+◌, ◌≤◌, ◌<◌}
use native.Mathlib.{Omega.arith, Numerals.add-one}
use lib.{ListN.length, ListN.drop, ListN.get_or, ListN.set, ListN.drop_of_length-le, Seq.drop-cons}
use Rattle.coupling_rules.specs.Rule.{best, after, couple}
use Rattle.coupling_rules.specs.InnerSides.{In, Chain, Split, Below, Turned}
use Rattle.coupling_rules.proofs.{Members.after_in, Best.best_in, Runs.chain_drop}

best_by : (gap time : ℕ → ℕ) (free : List ℕ) (n b : ℕ) → ((j : ℕ) → In j free → j < n)
    → best gap time free ≡ b
    → b ≤ n
best_by gap time free n zero h e = omega arith
best_by gap time free n (suc j) h e = omega (arith, h j (best_in gap time free j e).0)

-- `rank` and `time` of a track, `at` the rank of a movement, `gaps` of each track from it
module _ (rank time at : ℕ → ℕ) (gaps : ℕ → ℕ → ℕ) (turns order whole : List ℕ) where
  -- how things stand before movement n of the turns: some tracks are free, and what is still to do gives the whole
  pub record Mid (n from top : ℕ) (stack answers : List ℕ) : Type 0 where
    pub free : List ℕ
    pub split : Split rank free (drop top stack) (drop from order)
    pub below : (i : ℕ) → In i (drop n turns) → Below rank (at i) (drop top stack)
    pub same : couple gaps time (drop n turns) free answers ≡ whole
    pub small : (j : ℕ) → In j free → j < 4294967295

  abbrev Rising : List ℕ → Type 0
  Rising l = Chain (λ (i k : ℕ). at i ≤ at k) l

  module _ (n from top : ℕ) (stack answers : List ℕ) (h : n < length turns) (m : Mid n from top stack answers) where
    abbrev i : ℕ
    i = get_or turns n 0

    first : In i (drop n turns)
    first = subst (In i) (sym (drop-cons turns n 0 h)) (inl refl)

    module _ (answer from' top' : ℕ) (stack' : List ℕ)
        (t : Turned rank (gaps i) time (at i) answer (drop top stack) (drop from order) (drop top' stack')
        (drop from' order)) where
      is_best : best (gaps i) time m.free ≡ answer
      is_best = t.is_best m.free m.split (m.below i first)

      pub answer_fits : answer ≤ 4294967295
      answer_fits = best_by (gaps i) time m.free 4294967295 answer m.small is_best

      pub mid_more : Chain (λ (i k : ℕ). at i ≤ at k) turns
          → Mid (n + 1) from' top' stack' (set answers i answer)
      unfolding couple
      mid_more r =
          let d = drop-cons turns n 0 h in
          let a = add-one n in
          let b = m.below i first in
          let rise : (k : ℕ) → In k (drop (suc n) turns) → at i ≤ at k =
          (subst Rising d (chain_drop (λ (i k : ℕ). at i ≤ at k) n turns r)).0 in
          record {
            free = after answer m.free;
            split = t.split m.free m.split b;
            below = λ k q j p. omega (
              arith,
              t.below m.free m.split b j p,
              rise k (subst (λ (z : ℕ). In k (drop z turns)) a q),
            );
            same =
                ap (λ (z : ℕ). couple gaps time (drop z turns) (after answer m.free) (set answers i answer)) a
                ∙ ap (λ (z : ℕ). couple gaps time (drop (suc n) turns) (after z m.free) (set answers i z))
                (sym is_best)
                ∙ ap (λ (l : List ℕ). couple gaps time l m.free answers) (sym d)
                ∙ m.same;
            small = λ j p. m.small j (after_in answer j m.free p).0;
          }

  pub all_done : (n from top : ℕ) (stack answers : List ℕ) → length turns ≤ n → Mid n from top stack answers
      → answers ≡ whole
  unfolding couple
  all_done n from top stack answers h m =
      sym (ap (λ (l : List ℕ). couple gaps time l m.free answers) (drop_of_length-le turns h)) ∙ m.same
