-- What holds while a contour is traced: the list, the buffer, the edge and what lies ahead of it. Assumes nothing.
use Rattle.std.specs.Prelude.{Some, None}
use mathlib.Core.{Path.◌≡◌, Path.refl, Path.sym, Path.ap, Path.◌∙◌, Path.subst, Bool.true, Bool.false}
use Rattle.std.specs.Prelude.{ℕ, ◌+◌, ◌<◌, ◌≤◌, List, [], ◌++◌, length, take, drop, set}
use mathlib.Core.List.{append_assoc, append-nil}
use native.Mathlib.{Numerals.add-one, Omega.arith}
use lib.ListN.{length-set, length-append, take-append-drop}
use lib.Seq.{take-suc-set, drop-set-lt, drop-drop, length-take-le}
use Rattle.room.specs.Room.{put}
use Rattle.network.specs.Edges.{WithinEdge}
use Rattle.network.proofs.Numbers.{edge_within, at_number}
use Rattle.contour_rules.specs.Crossings.{Ahead}
use Rattle.contour_rules.specs.{Picture.Picture, Squares.side_edge, Squares.exit_of}
use Rattle.contour_rules.specs.Crossings.{ahead_of, through, edges_in}
use Rattle.contour_rules.specs.Crossings.{edge_of, crossed_at, next_at}
use Rattle.contour_rules.specs.Contours.{waits, waiting, contour_from, without}
use Rattle.contour_rules.proofs.{Heading.Entered, Heading.entered, Heading.next_within, Back.goes_beyond}
use Rattle.contour_rules.proofs.Waiting.{waiting-set, waited, follow_on, follow_stop}
use Rattle.contour.specs.InnerWalk.{WithinAhead, step_edge, step_ahead, OnlyCrossed, Traceable, Traced}

-- what lies ahead of a crossed edge is in the network
pub ahead_within : (g : Picture) → 2 ≤ g.nx → (n : ℕ) (a : Ahead) → n < edges_in g
    → a ≡ ahead_of g (edge_of g n) → WithinAhead g.nx g.ny a
ahead_within g k n a l h =
    go a (subst (Entered g (edge_of g n)) (sym h) (entered g (edge_of g n) (edge_within g.nx g.ny k n l)))
  where
    go : (a : Ahead) → Entered g (edge_of g n) a → WithinAhead g.nx g.ny a
    go (Some a) i = i.within
    go None i = tt

-- a step leads to the next edge, and ahead of it lies what the step says
pub steps_on : (g : Picture) → 2 ≤ g.nx → (n : ℕ) (a : Ahead) → n < edges_in g → crossed_at g n ≡ true
    → a ≡ ahead_of g (edge_of g n)
    → (step_edge g a ≡ next_at g n) × (step_edge g a < edges_in g
    → step_ahead g a ≡ ahead_of g (edge_of g (step_edge g a)))
steps_on g k n a l x h = (ap (step_edge g) h, go a h)
  where
    w : WithinEdge g.nx g.ny (edge_of g n)
    w = edge_within g.nx g.ny k n l

    go : (a : Ahead) → a ≡ ahead_of g (edge_of g n) → step_edge g a < edges_in g
        → step_ahead g a ≡ ahead_of g (edge_of g (step_edge g a))
    go (Some a) h b =
        let e' = side_edge a.row a.col (exit_of g a.row a.col a.side) in
        let i : edge_of g (step_edge g (Some a)) ≡ e' =
        at_number g.nx g.ny k e' (next_within g (edge_of g n) e' w (ap (through g) (sym h))) in
        sym (ap (ahead_of g) i ∙ goes_beyond g (edge_of g n) w x a.row a.col a.side (sym h))
    go None h b = absurd (omega arith)

pub record Going (g : Picture) (list₀ edges₀ : List ℕ) (from start : ℕ) (list edges : List ℕ) (n : ℕ)
    (ahead : Ahead) (at : ℕ) : Type 0 where
  pub only : OnlyCrossed g list
  pub heads : n < edges_in g → ahead ≡ ahead_of g (edge_of g n)
  pub as_many : length list ≡ length list₀
  pub as_long : length edges ≡ length edges₀
  pub room : at + waiting list ≤ length edges
  pub rest : take at edges ++ contour_from g list n ≡ take from edges₀ ++ contour_from g list₀ start
  pub kept : drop at edges ≡ drop at edges₀
  pub taking : without list (contour_from g list n) ≡ without list₀ (contour_from g list₀ start)

module _ (g : Picture) (list₀ edges₀ : List ℕ) (from start : ℕ) where
  pub begins : (ahead : Ahead) → Traceable g list₀ edges₀ from start ahead
      → Going g list₀ edges₀ from start list₀ edges₀ start ahead from
  begins ahead t = record {
    only = t.only;
    heads = t.heads;
    as_many = refl;
    as_long = refl;
    room = t.room;
    rest =
        refl;
    kept = refl;
    taking = refl;
  }

  module _ (list edges : List ℕ) (n : ℕ) (ahead : Ahead) (at : ℕ)
      (i : Going g list₀ edges₀ from start list edges n ahead at) where
    pub fits : waits list n ≡ true → at < length edges
    fits h = omega (arith, waiting-set list n h, i.room)

    pub goes_on : 2 ≤ g.nx → n < edges_in g → waits list n ≡ true → (n' : ℕ) (ahead' : Ahead)
        → n' ≡ step_edge g ahead → ahead' ≡ step_ahead g ahead
        → Going g list₀ edges₀ from start (set list n 0) (set edges at n) n' ahead' (at + 1)
    unfolding without
    goes_on k b h n' ahead' p q =
        let f = waiting-set list n h in
        let s = steps_on g k n ahead b (i.only n h) (i.heads b) in
        let e : n' ≡ next_at g n = p ∙ s.0 in
        let l : at < length edges = fits h in
        record {
          only = λ m w. i.only m (waited list n m w);
          heads = λ l. q ∙ s.1 (subst (λ (j : ℕ). j < edges_in g) p l)
              ∙ ap (λ (j : ℕ). ahead_of g (edge_of g j)) (sym p);
          as_many = length-set list n 0 ∙ i.as_many;
          as_long = length-set edges at n ∙ i.as_long;
          room = rw length-set (omega (arith, i.room));
          rest = rw (e, add-one, take-suc-set edges at n l, append_assoc)
              (ap (λ (ns : List ℕ). take at edges ++ ns) (sym (follow_on g list n h)) ∙ i.rest);
          kept = drop-set-lt (at + 1) edges at n (omega arith) ∙ sym (drop-drop 1 at edges)
              ∙ ap (drop 1) i.kept ∙ drop-drop 1 at edges₀;
          taking = rw e (ap (without list) (sym (follow_on g list n h)) ∙ i.taking);
        }

    pub ended : from ≤ length edges₀ → waits list n ≡ false
        → Traced g list₀ edges₀ from start at list edges
    unfolding without put
    ended k h =
        let t = contour_from g list₀ start in
        let stop : contour_from g list n ≡ [] = follow_stop (next_at g) (waiting list) list n h in
        let front : take at edges ≡ take from edges₀ ++ t = sym (append-nil (take at edges))
        ∙ ap (λ (ns : List ℕ). take at edges ++ ns) (sym stop) ∙ i.rest in
        let ends : at ≡ from + length t = sym (length-take-le at edges (omega (arith, i.room)))
        ∙ ap length front ∙ length-append (take from edges₀) t
        ∙ ap (λ (k : ℕ). k + length t) (length-take-le from edges₀ k) in
        record {
          ends = ends;
          listed = sym (take-append-drop at edges) ∙ ap (λ (ns : List ℕ). ns ++ drop at edges) front
              ∙ ap (λ (ns : List ℕ). take from edges₀ ++ t ++ ns) (i.kept
              ∙ ap (λ (k : ℕ). drop k edges₀) ends);
          taken = ap (without list) (sym stop) ∙ i.taking;
        }
