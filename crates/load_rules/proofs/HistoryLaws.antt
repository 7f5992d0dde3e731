-- The rows of a book after any calls bring to a point what the movements of the list that count there bring. Assumes
-- nothing.
use mathlib.Core.{Path.◌≡◌, Path.refl, Path.ap, Path.◌∙◌, Bool.Bool, Bool.true, Bool.false, Bool.cond}
use mathlib.Core.List.{List, [], ◌∷◌, ◌++◌, append-nil, append_assoc}
use Prim.Native.Nat.{ℕ, zero, suc, ◌+◌, ◌*◌, ◌<◌}
use native.Mathlib.{Nat.zero-mul, Nat.zero-add, Nat.suc-mul, Omega.arith}
use lib.{ListN.length, ListN.get_or, ListN.replicate, ListN.get_or-append, Seq.get_or-append-add, Dec.eqb}
use Rattle.movement.specs.Limits.{group_count}
use Rattle.book_rules.specs.Columns.{book_of}
use Rattle.book_rules.specs.History.{Held, Movement, mark_of, levels_of, column, identity_cell, rows_of, empty_book}
use Rattle.book_rules.specs.History.{Made}
use Rattle.book_rules.specs.History.{booked, movements}
use Rattle.book_rules.specs.History.Held.{none, holds}
use Rattle.book_rules.proofs.{Standing.AllGood, History.told_all}
use Rattle.load_rules.specs.Shares.{counting_at, held_share, shares_of, row_share, shares_to, book_shares}
use Rattle.load_rules.specs.Afresh.{standing_at}
use Rattle.load_rules.proofs.{TallyLaws.group_in, TallyLaws.AllGrouped, Counting.counting_good}

-- a row that doesn't count brings nothing, and an unused one counts nowhere
zeros_at : (u n : ℕ) → ◌≡◌ {A = ℕ} (get_or (replicate u 0) n 0) 0
zeros_at zero n = refl
zeros_at (suc u) zero = refl
zeros_at (suc u) (suc n) = zeros_at u n

held_grouped : (pt g : ℕ) (h : Held) → g < group_count → group_in (held_share pt g h) < group_count
unfolding held_share
held_grouped pt g none l = l
held_grouped pt g (holds ls) l = l

module _ (p pt : ℕ) where
  shares_zeros : (u n : ℕ) (xs gs ms ls : List ℕ) → shares_to p pt (book_of xs gs ms (replicate u 0) ls) n ≡ []
  unfolding shares_to row_share
  shares_zeros u zero xs gs ms ls = refl
  shares_zeros u (suc n) xs gs ms ls = rw (zeros_at u (n * p + pt), shares_zeros u n xs gs ms ls) refl

  -- what a column of one a point has in its first row, and in a later one
  at_first : (w ls : List ℕ) → length w ≡ p → pt < p → get_or (w ++ ls) (zero * p + pt) 0 ≡ get_or w pt 0
  at_first w ls e h = rw (zero-mul, zero-add) (get_or-append w ls 0 pt (omega arith))

  at_later : (w ls : List ℕ) → length w ≡ p → (n : ℕ)
      → get_or (w ++ ls) (suc n * p + pt) 0 ≡ get_or ls (n * p + pt) 0
  at_later w ls e n =
      let q : suc n * p + pt ≡ length w + (n * p + pt) = omega (arith, suc-mul n p) in
      rw q (get_or-append-add w ls (n * p + pt) 0)

  -- the first row, and the others
  shares_cons : (x g m : ℕ) (c w xs gs ms cs ls : List ℕ) → length c ≡ p → length w ≡ p → pt < p → (n : ℕ)
      → shares_to p pt (book_of (x ∷ xs) (g ∷ gs) (m ∷ ms) (c ++ cs) (w ++ ls)) (suc n)
      ≡ row_share g m (get_or c pt 0) (get_or w pt 0) ++ shares_to p pt (book_of xs gs ms cs ls) n
  unfolding shares_to
  shares_cons x g m c w xs gs ms cs ls d e h zero = rw (at_first c cs d h, at_first w ls e h, append-nil) refl
  shares_cons x g m c w xs gs ms cs ls d e h (suc n) =
      rw (shares_cons x g m c w xs gs ms cs ls d e h n, at_later c cs d n, at_later w ls e n, append_assoc) refl

  -- one movement's row
  row_held_rule : (g c : ℕ) (h : Held)
      → row_share g (mark_of h) c (get_or (levels_of p h) pt 0) ≡ cond (eqb c 0) [] (held_share pt g h ∷ [])
  unfolding row_share held_share mark_of levels_of
  row_held_rule g c none = refl
  row_held_rule g c (holds ls) = refl

  pub shares_rows : (u : ℕ) (ms : List Movement) → AllGood p ms → pt < p
      → book_shares p pt (rows_of p u ms) ≡ shares_of pt (counting_at pt ms)
  unfolding book_shares rows_of column shares_of counting_at
  shares_rows u [] s h = shares_zeros (u * p) _ _ _ _ _
  shares_rows u (a ∷ ms) s h =
      shares_cons a.identity a.group (mark_of a.held) a.counts (levels_of p a.held) _ _ _ _ _
      s.0.counted.wide s.0.filled.wide h (length (column identity_cell 1 u ms))
      ∙ rw (row_held_rule a.group (get_or a.counts pt 0) a.held, shares_rows u ms s.1 h)
      (go (eqb (get_or a.counts pt 0) 0))
    where
      go : (t : Bool)
          → cond t [] (held_share pt a.group a.held ∷ []) ++ shares_of pt (counting_at pt ms)
          ≡ shares_of pt (cond t (counting_at pt ms) (a ∷ counting_at pt ms))
      go true = refl
      go false = refl

  pub shares_grouped : (ms : List Movement) → AllGood p ms → AllGrouped (shares_of pt ms)
  unfolding shares_of
  shares_grouped [] s = tt
  shares_grouped (a ∷ ms) s = (held_grouped pt a.group a.held s.0.group<, shares_grouped ms s.1)

  -- after any calls on an empty book of n rows
  pub history_shares : (n : ℕ) (cs : List Made) → pt < p
      → book_shares p pt (booked (empty_book p n) cs) ≡ shares_of pt (standing_at p n pt cs)
  history_shares n cs h =
      let t = told_all p n cs in
      ap (book_shares p pt) t.rows ∙ shares_rows t.unused (movements p n cs) t.good h

  pub history_good : (n : ℕ) (cs : List Made) → AllGood p (standing_at p n pt cs)
  history_good n cs = counting_good pt p (movements p n cs) (told_all p n cs).good

  pub history_grouped : (n : ℕ) (cs : List Made) → AllGrouped (shares_of pt (standing_at p n pt cs))
  history_grouped n cs = shares_grouped (standing_at p n pt cs) (history_good n cs)
