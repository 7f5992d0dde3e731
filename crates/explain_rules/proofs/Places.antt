-- Where each line stands: behind the header, the points before its own, and the groups before its own that have a
-- movement. Assumes nothing.
use mathlib.Core.{Path.◌≡◌, Path.refl, Path.sym, Path.ap, Path.subst, Path.◌∙◌, Bool.Bool, Bool.true, Bool.cond}
use mathlib.Core.List.{List, [], ◌∷◌, ◌++◌}
use Prim.Native.Nat.{ℕ, zero, suc, ◌+◌, ◌-◌, ◌≤◌, ◌<◌}
use native.Mathlib.Omega.{arith}
use lib.{ListN.length, ListN.get_or, ListN.length-append, ListN.get_or-append, Seq.get_or_at, Seq.get_or-append-add}
use lib.Dec.{eqb, ltb}
use borrow.Author.Tests.{eqb-true, eqb-false, ltb-true, ltb-false}
use Rattle.movement.specs.Limits.{group_count}
use Rattle.book_rules.specs.Columns.{Book}
use Rattle.load_rules.{specs.Factors.sum_to, proofs.SumLaws.sum_more}
use Rattle.text.specs.Sheet.{line}
use Rattle.text.specs.{Field.count_of, Index.many}
use Rattle.text.proofs.{Digits.either, Fields.Free}
use Rattle.explain_text.specs.declared.amounts.Amounts.{Amounts}
use Rattle.explain_text.specs.Text.{group_fields, all_fields, stands, group_line, group_lines}
use Rattle.explain_text.specs.Text.{point_lines, lines_at, lines_to}
use Rattle.explain_rules.proofs.Fields.{group_unbroken, all_unbroken}

-- fewer pass the test below a number that passes than below any later one
many_rises : (p : ℕ → Bool) (g n : ℕ) → g < n → p g ≡ true → many p g < many p n
unfolding many
many_rises p g zero h e = absurd (omega arith)
many_rises p g (suc n) h e =
    either (eqb g n)
    (λ same. let q = eqb-true g n same in
    let t : p n ≡ true = ap p (sym q) ∙ e in
    rw (q, t) (omega arith))
    (λ other. let less = many_rises p g n (omega (arith, eqb-false g n other)) e in omega arith)

pub many_grows : (p : ℕ → Bool) (g n : ℕ) → g ≤ n → many p g ≤ many p n
unfolding many
many_grows p g zero h = let e : g ≡ 0 = omega arith in rw e (omega arith)
many_grows p g (suc n) h =
    either (eqb g (suc n))
    (λ same. rw (eqb-true g (suc n) same) (omega arith))
    (λ other. let less = many_grows p g n (omega (arith, eqb-false g (suc n) other)) in omega arith)

-- lines without a byte, behind such lines
free_append : (d : ℕ) (a b : List (List ℕ)) → Free d a → Free d b → Free d (a ++ b)
free_append d a b f g i h =
    either (ltb i (length a))
    (λ yes. let less = ltb-true i (length a) yes in
    ap (count_of d) (get_or-append a b [] i less) ∙ f i less)
    (λ no. let past = ltb-false i (length a) no in
    let e : i ≡ length a + (i - length a) = omega arith in
    let l = length-append a b in
    ap (λ (k : ℕ). count_of d (get_or (a ++ b) k [])) e
    ∙ ap (count_of d) (get_or-append-add a b (i - length a) [])
    ∙ g (i - length a) (omega arith))

one_free : (d : ℕ) (l : List ℕ) → count_of d l ≡ 0 → Free d (l ∷ [])
one_free d l e zero h = e
one_free d l e (suc i) h = absurd (omega arith)

none_free : (d : ℕ) → Free d []
none_free d i h = absurd (omega arith)

-- the groups of a point
module _ (point : ℕ) (a : ℕ → Amounts) where
  abbrev some : ℕ → Bool
  some g = stands (a g)

  one_length : (g : ℕ) → length (group_line point g (a g)) ≡ cond (some g) 1 0
  unfolding group_line
  one_length g = either (some g) (λ yes. rw yes refl) (λ no. rw no refl)

  groups_length : (n : ℕ) → length (group_lines point a n) ≡ many some n
  unfolding group_lines many
  groups_length zero = refl
  groups_length (suc n) =
      length-append (group_lines point a n) (group_line point n (a n)) ∙ omega (arith, groups_length n, one_length n)

  last_at : (n : ℕ) → some n ≡ true
      → get_or (group_lines point a n ++ group_line point n (a n)) (many some n) [] ≡ line (group_fields point n (a n))
  unfolding group_line
  last_at n e = rw e (get_or_at (group_lines point a n) (line (group_fields point n (a n))) [] [] (many some n)
      (groups_length n))

  group_at : (n g : ℕ) → g < n → some g ≡ true
      → get_or (group_lines point a n) (many some g) [] ≡ line (group_fields point g (a g))
  unfolding group_lines
  group_at zero g h e = absurd (omega arith)
  group_at (suc n) g h e =
      either (eqb g n)
      (λ same. let q = eqb-true g n same in rw q (last_at n (ap some (sym q) ∙ e)))
      (λ other. let less : g < n = omega (arith, eqb-false g n other) in
      get_or-append (group_lines point a n) (group_line point n (a n)) [] (many some g)
      (omega (arith, groups_length n, many_rises some g n less e))
      ∙ group_at n g less e)

  one_unbroken : (g : ℕ) → g < 18 → Free 13 (group_line point g (a g))
  unfolding group_line
  one_unbroken g h =
      either (some g)
      (λ yes. rw yes (one_free 13 (line (group_fields point g (a g))) (group_unbroken point g h (a g))))
      (λ no. rw no (none_free 13))

  groups_unbroken : (n : ℕ) → n ≤ 18 → Free 13 (group_lines point a n)
  unfolding group_lines
  groups_unbroken zero h = none_free 13
  groups_unbroken (suc n) h =
      free_append 13 (group_lines point a n) (group_line point n (a n)) (groups_unbroken n (omega arith))
      (one_unbroken n (omega arith))

  -- and all
  module _ (all : Amounts) where
    pub point_length : length (point_lines point a all) ≡ many some 18 + 1
    unfolding point_lines
    point_length =
        length-append (group_lines point a group_count) (line (all_fields point all) ∷ [])
        ∙ omega (arith, groups_length group_count)

    pub point_group : (g : ℕ) → g < 18 → some g ≡ true
        → get_or (point_lines point a all) (many some g) [] ≡ line (group_fields point g (a g))
    unfolding point_lines
    point_group g h e =
        get_or-append (group_lines point a group_count) (line (all_fields point all) ∷ []) [] (many some g)
        (omega (arith, groups_length group_count, many_rises some g group_count h e))
        ∙ group_at group_count g h e

    pub point_all : get_or (point_lines point a all) (many some 18) [] ≡ line (all_fields point all)
    unfolding point_lines
    point_all =
        get_or_at (group_lines point a group_count) (line (all_fields point all)) [] [] (many some 18)
        (groups_length group_count)

    pub point_unbroken : Free 13 (point_lines point a all)
    unfolding point_lines
    point_unbroken =
        free_append 13 (group_lines point a group_count) (line (all_fields point all) ∷ [])
        (groups_unbroken group_count (omega arith)) (one_free 13 (line (all_fields point all)) (all_unbroken point all))

-- the points of a book, m q lines at point q
module _ (p : ℕ) (b : Book) where
  pub points_unbroken : (n : ℕ) → Free 13 (lines_to p b n)
  unfolding lines_to lines_at
  points_unbroken zero = none_free 13
  points_unbroken (suc n) =
      free_append 13 (lines_to p b n) (lines_at p n b) (points_unbroken n) (point_unbroken n _ _)

  module _ (m : ℕ → ℕ) where
    pub points_length : (n : ℕ) → ((q : ℕ) → q < n → length (lines_at p q b) ≡ m q)
        → length (lines_to p b n) ≡ sum_to m n
    unfolding lines_to sum_to
    points_length zero each = refl
    points_length (suc n) each =
        length-append (lines_to p b n) (lines_at p n b)
        ∙ omega (arith, points_length n (λ q h. each q (omega arith)), each n (omega arith))

    pub points_at_rule : (n pt j : ℕ) → pt < n → j < m pt → ((q : ℕ) → q < n → length (lines_at p q b) ≡ m q)
        → get_or (lines_to p b n) (sum_to m pt + j) [] ≡ get_or (lines_at p pt b) j []
    unfolding lines_to sum_to
    points_at_rule zero pt j h k each = absurd (omega arith)
    points_at_rule (suc n) pt j h k each =
        let long = points_length n (λ q l. each q (omega arith)) in
        either (eqb pt n)
        (λ same. let q = eqb-true pt n same in
        let e : sum_to m pt + j ≡ length (lines_to p b n) + j = rw q (omega arith) in
        ap (λ (i : ℕ). get_or (lines_to p b n ++ lines_at p n b) i []) e
        ∙ get_or-append-add (lines_to p b n) (lines_at p n b) j []
        ∙ ap (λ (i : ℕ). get_or (lines_at p i b) j []) (sym q))
        (λ other. let less : pt < n = omega (arith, eqb-false pt n other) in
        let e : n - suc pt + suc pt ≡ n = omega arith in
        let below : sum_to m pt + m pt ≤ sum_to m n =
        subst (λ (i : ℕ). sum_to m (suc pt) ≤ sum_to m i) e (sum_more m (suc pt) (n - suc pt)) in
        get_or-append (lines_to p b n) (lines_at p n b) [] (sum_to m pt + j) (omega arith)
        ∙ points_at_rule n pt j less k (λ q l. each q (omega arith)))
