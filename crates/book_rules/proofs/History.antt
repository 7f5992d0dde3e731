-- Demand 3 for the book: after any calls on an empty book, refused ones included, the columns are the rows of the list
-- of movements that the accepted calls define, each call is answered as that list says, and the book stays sound.
-- Assumes nothing.
use mathlib.Core.Path.{◌≡◌, refl, sym, ap, subst, ◌∙◌}
use mathlib.Core.{Bool.Bool, Bool.true, Bool.false, Bool.cond, Bool.◌||◌, List.List, List.[], List.◌∷◌}
use Prim.Native.Nat.{ℕ, zero, suc, ◌+◌, ◌*◌, ◌-◌, ◌≤◌}
use native.Mathlib.{Nat.mul-one, Omega.arith}
use lib.{ListN.length, ListN.replicate, Dec.eqb}
use borrow.Author.Tests.{lt-ltb, ne_eqb, eqb-true, eqb-false}
use Rattle.book_rules.specs.{Columns.Book, Columns.sound, Calls.Call}
use Rattle.book_rules.specs.Calls.{sound_refusal, refusal, changed, after}
use Rattle.book_rules.specs.History.{Movement, Made, step, list_of, booked, answered, accepted_by_rows}
use Rattle.book_rules.specs.History.{accepted, list_answered, movements, standing, sizes_fit}
use Rattle.book_rules.specs.History.{list_refusal, column}
use Rattle.book_rules.specs.History.{rows_of, empty_book, how_often, in_order, HistoryHolds}
use Rattle.book_rules.proofs.Accepted.{accepted_sound, after_refused, after_accepted}
use Rattle.book_rules.proofs.Standing.{AllGood, Below, Rising, book_sound}
use Rattle.book_rules.proofs.{Steps.ids, Steps.stepped, ByList.points_same, ByList.refusal_by_list}

-- Any calls

-- the book is the rows of these movements, and they still stand
pub record Told (p n : ℕ) (b : Book) (ms : List Movement) : Type 0 where
  pub unused : ℕ
  pub same : unused + length ms ≡ n
  pub rows : b ≡ rows_of p unused ms
  pub good : AllGood p ms
  pub rising : Rising ms

pub refusal_told : (p n : ℕ) (b : Book) (ms : List Movement) (c : Made) → Told p n b ms
    → refusal c.points b c.call ≡ list_refusal p n ms c
refusal_told p n b ms c t =
    ap (λ (k : Book). refusal c.points k c.call) t.rows
    ∙ refusal_by_list p t.unused ms c t.good t.rising
    ∙ ap (λ k. list_refusal p k ms c) t.same

-- an accepted call changes book and list alike
told_step : (p n : ℕ) (b : Book) (ms : List Movement) (c : Made) → Told p n b ms
    → refusal c.points b c.call ≡ 0
    → Told p n (after c.points b c.call) (step ms c.call)
told_step p n b ms c t z =
    let q = c.points in
    let a = accepted_sound q b c.call z in
    let k : q ≡ p = points_same p q t.unused ms t.good
    (subst (λ (x : Book). sound q x ≡ true) t.rows a.0) in
    let e : sound_refusal p (rows_of p t.unused ms) c.call ≡ 0 =
    ap (λ i. sound_refusal i (rows_of p t.unused ms) c.call) (sym k)
    ∙ ap (λ (x : Book). sound_refusal q x c.call) (sym t.rows) ∙ a.1 in
    let s = stepped p t.unused ms c.call t.good t.rising e in
    record {
      unused = s.unused;
      same = s.same ∙ t.same;
      rows =
          after_accepted q b c.call z ∙ ap (λ i. changed i b c.call) k
          ∙ ap (λ (x : Book). changed p x c.call) t.rows ∙ s.rows;
      good = s.good;
      rising = s.rising;
    }

-- the movements after one call, as the list alone decides
next : (p n : ℕ) (b : Book) (ms : List Movement) (c : Made) → Told p n b ms
    → Told p n (after c.points b c.call) (cond (eqb (list_refusal p n ms c) 0) (step ms c.call) ms)
next p n b ms c t = by (eqb (list_refusal p n ms c) 0) refl
  where
    same : refusal c.points b c.call ≡ list_refusal p n ms c
    same = refusal_told p n b ms c t

    by : (a : Bool) → eqb (list_refusal p n ms c) 0 ≡ a
        → Told p n (after c.points b c.call) (cond a (step ms c.call) ms)
    by true e = told_step p n b ms c t (same ∙ eqb-true (list_refusal p n ms c) 0 e)
    by false e =
        subst (λ (k : Book). Told p n k ms)
        (sym (after_refused c.points b c.call
        (λ z. eqb-false (list_refusal p n ms c) 0 e (sym same ∙ z)))) t

pub told : (p n : ℕ) (cs : List Made) (b : Book) (ms : List Movement) → Told p n b ms
    → Told p n (booked b cs) (list_of ms (accepted p n ms cs))
unfolding booked accepted list_of
told p n [] b ms t = t
told p n (c ∷ cs) b ms t =
    by (eqb (list_refusal p n ms c) 0) (next p n b ms c t) (told p n cs (after c.points b c.call))
  where
    by : (a : Bool) → Told p n (after c.points b c.call) (cond a (step ms c.call) ms)
        → ((ns : List Movement) → Told p n (after c.points b c.call) ns
        → Told p n (booked (after c.points b c.call) cs) (list_of ns (accepted p n ns cs)))
        → Told p n (booked (after c.points b c.call) cs)
        (list_of ms (cond a (c.call ∷ accepted p n (step ms c.call) cs) (accepted p n ms cs)))
    by true t ih = ih (step ms c.call) t
    by false t ih = ih ms t

-- each call is answered as the list alone says
pub answers_by_list : (p n : ℕ) (cs : List Made) (b : Book) (ms : List Movement) → Told p n b ms
    → answered b cs ≡ list_answered p n ms cs
unfolding answered list_answered
answers_by_list p n [] b ms t = refl
answers_by_list p n (c ∷ cs) b ms t =
    let head = refusal_told p n b ms c t in
    let rest = answers_by_list p n cs (after c.points b c.call)
    (cond (eqb (list_refusal p n ms c) 0) (step ms c.call) ms) (next p n b ms c t) in
    λ i. head i ∷ rest i

pub accepted_by_list : (p n : ℕ) (cs : List Made) (b : Book) (ms : List Movement) → Told p n b ms
    → accepted_by_rows b cs ≡ accepted p n ms cs
unfolding accepted_by_rows accepted
accepted_by_list p n [] b ms t = refl
accepted_by_list p n (c ∷ cs) b ms t =
    rw (refusal_told p n b ms c t)
    (by (eqb (list_refusal p n ms c) 0) (next p n b ms c t)
    (accepted_by_list p n cs (after c.points b c.call)))
  where
    by : (a : Bool) → Told p n (after c.points b c.call) (cond a (step ms c.call) ms)
        → ((ns : List Movement) → Told p n (after c.points b c.call) ns
        → accepted_by_rows (after c.points b c.call) cs ≡ accepted p n ns cs)
        → cond a (c.call ∷ accepted_by_rows (after c.points b c.call) cs)
        (accepted_by_rows (after c.points b c.call) cs)
        ≡ cond a (c.call ∷ accepted p n (step ms c.call) cs) (accepted p n ms cs)
    by true t ih = ap (λ (l : List Call). c.call ∷ l) (ih (step ms c.call) t)
    by false t ih = ih ms t

-- From an empty book

pub told_empty : (p n : ℕ) → Told p n (empty_book p n) []
unfolding empty_book rows_of column
told_empty p n = record { unused = n; same = omega arith; rows = rw (mul-one n) refl; good = tt; rising = tt }

pub told_all : (p n : ℕ) (cs : List Made) → Told p n (booked (empty_book p n) cs) (movements p n cs)
unfolding movements
told_all p n cs = told p n cs (empty_book p n) [] (told_empty p n)

pub history_rows : (p n : ℕ) (cs : List Made)
    → booked (empty_book p n) cs ≡ rows_of p (n - length (movements p n cs)) (movements p n cs)
history_rows p n cs =
    let t = told_all p n cs in
    let e : t.unused ≡ n - length (movements p n cs) = omega (arith, t.same) in
    t.rows ∙ ap (λ u. rows_of p u (movements p n cs)) e

-- calls never make a book unsound: it is sound exactly if its size is in range
pub history_sound : (p n : ℕ) (cs : List Made) → sound p (booked (empty_book p n) cs) ≡ sizes_fit p n
history_sound p n cs =
    let t = told_all p n cs in
    ap (sound p) t.rows
    ∙ book_sound p t.unused (movements p n cs) t.good t.rising
    ∙ ap (sizes_fit p) t.same

-- after any calls, the next is refused as the movements left standing say
pub history_refusal : (p n : ℕ) (cs : List Made) (c : Made)
    → refusal c.points (booked (empty_book p n) cs) c.call ≡ list_refusal p n (movements p n cs) c
history_refusal p n cs c = refusal_told p n (booked (empty_book p n) cs) (movements p n cs) c (told_all p n cs)

-- Each movement once

order-of : (ms : List Movement) → Rising ms → in_order ms ≡ true
unfolding in_order
order-of [] r = refl
order-of (a ∷ []) r = refl
order-of (a ∷ (b ∷ ms)) r = rw (lt-ltb a.identity b.identity r.0) (order-of (b ∷ ms) r.1)

-- no identity comes again after a higher one
not_again : (x : ℕ) (ms : List Movement) → Below x ms → Rising ms → standing x ms ≡ false
unfolding standing
not_again x [] b r = refl
not_again x (a ∷ ms) b r = rw (ne_eqb a.identity x (omega arith)) (not_again x ms (below ms r.0) r.1)
  where
    below : (ns : List Movement) → Below a.identity ns → Below x ns
    below [] h = tt
    below (c ∷ ns) h = omega (arith, b)

times_zeros : (x n : ℕ) → 1 ≤ x → how_often x (replicate n 0) ≡ 0
unfolding how_often
times_zeros x zero l = refl
times_zeros x (suc n) l = rw (ne_eqb 0 x (omega arith)) (times_zeros x n l)

times_once : (x u : ℕ) (ms : List Movement) → 1 ≤ x → Rising ms
    → how_often x (ids u ms) ≡ cond (standing x ms) 1 0
unfolding how_often standing column
times_once x u [] l r = times_zeros x (u * 1) l
times_once x u (a ∷ ms) l r = by (eqb a.identity x) refl (times_once x u ms l r.1)
  where
    by : (t : Bool) → eqb a.identity x ≡ t → how_often x (ids u ms) ≡ cond (standing x ms) 1 0
        → cond t (suc (how_often x (ids u ms))) (how_often x (ids u ms)) ≡ cond (t || standing x ms) 1 0
    by false e ih = ih
    by true e ih =
        let again = not_again x ms (subst (λ k. Below k ms) (eqb-true a.identity x e) r.0) r.1 in
        ap suc (ih ∙ ap (λ (k : Bool). cond k 1 0) again)

-- The theorem

pub history : (p n : ℕ) (cs : List Made) → HistoryHolds p n cs
unfolding rows_of
history p n cs =
    let t = told_all p n cs in
    record {
      rows = history_rows p n cs;
      order = order-of (movements p n cs) t.rising;
      once =
          λ x l. ap (λ (b : Book). how_often x b.identities) t.rows
          ∙ times_once x t.unused (movements p n cs) l t.rising;
      room = omega (arith, t.same);
      answers = answers_by_list p n cs (empty_book p n) [] (told_empty p n);
      same = accepted_by_list p n cs (empty_book p n) [] (told_empty p n);
      kept = history_sound p n cs;
    }
