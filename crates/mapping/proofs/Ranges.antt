-- What is answered for the edge of a number is the rules' crossing and map point, or none. Assumes nothing.
use mathlib.Core.{Path.◌≡◌, Path.refl, Path.sym, Path.ap, Path.◌∙◌, Bool.Bool, Bool.true, Bool.false}
use mathlib.Core.{Logic.◌⊎◌, Logic.inl, List.List}
use Rattle.std.specs.Prelude.{ℕ, ◌+◌, ◌*◌, ◌<◌, ◌≤◌, Option, Some, Ok, Err}
use native.Mathlib.{Nat.mul-le-mul, Nat.le_of_lt, Omega.arith}
use borrow.Author.Tests.{ltb-true, lt-ltb, le-ltb}
use lib.{Dec.ltb, Ieee.binary64, Ieee.round, Ieee.of_int}
use Rattle.refusal.proofs.Laws.{answered}
use Rattle.network.specs.declared.{Edge.Edge, Frame.Frame}
use Rattle.network.specs.declared.Edge.TheVariants.{Horizontal, Vertical}
use Rattle.network.specs.{Limits.max_side, Limits.max_origin, Edges.edges, Edges.edge_at, Edges.Checked}
use Rattle.network.specs.{Crossed.crossed_edge, Crossed.crossed_at, Crossed.distance, Refusals.contour_refusal}
use Rattle.network.proofs.{Numbers.by_cond, Numbering.parts, Numbering.edges_numbered, Numbering.crossed_exactly}
use Rattle.network.proofs.{Ranges.contour_refused, Astride.astride, Astride.num_den}
use Rattle.network.proofs.Refusals.{both, contour_not_refused}
use Rattle.mapping.specs.declared.Crossing.{Crossing}
use Rattle.mapping.specs.Fractions.{whole, fraction_of, along_edge, is_crossed, crossing_of, which_of, fraction_shown}
use Rattle.mapping.specs.Fractions.{asked_fraction, CrossingAsked}
use Rattle.mapping.specs.Places.{row_of, col_of, locate, located_of, MapPointAsked}
use Rattle.mapping.specs.Ranges.{Within, Exactly, Divided, Asked, Mapped, AlongRow, AlongColumn, None, ByNumber}
use Rattle.mapping.specs.Ranges.{Answered}
use Rattle.mapping.proofs.{Ends.ends_small, Quotients.whole_value_lem}
use Rattle.mapping.proofs.{Range.quotient_ranged, Range.at_least, Range.at_most, Stepwise.moves}

-- ---- the fraction

fraction_within : (num den : ℕ) → (0 < den) × (num ≤ den) → Within 0 (round binary64 false num den) 1
fraction_within num den h =
    let r = quotient_ranged num den h.0 h.1 in
    (at_least _ 0 1 (omega arith) r, at_most _ 0 1 (omega arith) r)

zero_within : Within 0 (whole 0) 1
unfolding of_int
zero_within = fraction_within 0 1 (omega arith, omega arith)

along_within : (levels : List ℕ) (nx v : ℕ) (e : Edge) → crossed_edge levels nx v e ≡ true
    → Within 0 (fraction_shown (along_edge levels nx v e)) 1
along_within levels nx v (Horizontal row col) h = fraction_within _ _ (num_den v _ _ (astride v _ _ h))
along_within levels nx v (Vertical row col) h = fraction_within _ _ (num_den v _ _ (astride v _ _ h))

-- an edge that is in the network and crossed
in_network : (levels : List ℕ) (f : Frame) (v n : ℕ) → is_crossed levels f v n ≡ true
    → (n < edges f.columns f.rows) × (crossed_at levels f.columns f.rows v n ≡ true)
in_network levels f v n h = let p =
    both (ltb n (edges f.columns f.rows)) (crossed_at levels f.columns f.rows v n) h in
    (ltb-true _ _ p.0, p.1)

-- ---- an edge that is asked for by its number

divided : (v a b : ℕ) → ((a < v) × (v ≤ b)) ⊎ ((b < v) × (v ≤ a)) → Divided v a b (fraction_of v a b)
divided v a b w = record {
  num = distance v a;
  den = distance b a;
  parts = parts v a b;
  quotient = refl;
  within =
      fraction_within _ _ (num_den v a b w);
}

module _ (levels : List ℕ) (f : Frame) (v n : ℕ) where
  -- the answered fraction is never under 0 or over 1
  shown_within : Within 0 (fraction_shown (crossing_of levels f v n)) 1
  shown_within =
      by_cond (λ (c : Crossing). Within 0 (fraction_shown c) 1) (is_crossed levels f v n) _ _
      (λ h. along_within levels f.columns v (edge_at f.columns f.rows n) (in_network levels f v n h).1)
      (λ _. zero_within)

  pub fraction_range : (asked : Asked) → CrossingAsked levels f v n asked → Within 0 (asked_fraction asked) 1
  fraction_range (Ok c) a = rw a.answer shown_within
  fraction_range (Err why) a = zero_within

  module _ (z : contour_refusal levels f v ≡ 0) where
    abbrev Both : (Asked → Mapped → Type 0) → Type 0
    Both P = P (Ok (crossing_of levels f v n)) (Ok (located_of levels f v n))

    k : Checked levels f
    k = (contour_not_refused levels f v z).0

    wide : 2 ≤ f.columns
    wide = k.sized.sides.wide

    -- a property of the crossing and the map point of edge e, which is crossed
    crossed_at_rule : (P : Asked → Mapped → Type 0) (e : Edge) → edge_at f.columns f.rows n ≡ e
        → is_crossed levels f v n ≡ true
        → P (Ok (along_edge levels f.columns v e))
        (Ok (locate (along_edge levels f.columns v e) (row_of e) (col_of e) f)) → Both P
    crossed_at_rule P e q h p = rw (h, q) p

    none_at_rule : is_crossed levels f v n ≡ false → Both (None levels f v)
    none_at_rule h = rw h (refl, refl)

    -- the edge of the number, whether it is crossed, and that it is one
    is_crossed_rule : (b : Bool) → n < edges f.columns f.rows
        → crossed_at levels f.columns f.rows v n ≡ b → is_crossed levels f v n ≡ b
    is_crossed_rule b l c = rw (lt-ltb _ _ l) c

    exact : (index origin : ℕ) → index < max_side → origin ≤ max_origin
        → Exactly (whole (index * f.spacing + origin)) (index * f.spacing + origin)
    exact index origin i o = whole_value_lem (index * f.spacing + origin)
        (omega (arith, mul-le-mul (le_of_lt i) k.near))

    along_row : (row col : ℕ) → row < f.rows → col + 1 < f.columns
        → crossed_edge levels f.columns v (Horizontal row col) ≡ true
        → AlongRow levels f v row col (Ok (along_edge levels f.columns v (Horizontal row col)))
        (Ok (locate (along_edge levels f.columns v (Horizontal row col)) row col f))
    along_row row col h l x =
        let w = astride v _ _ x in
        let d = num_den v _ _ w in
        let s = ends_small (Horizontal row col) k.sized.sides (h, l) in
        record {
          which = (refl, refl);
          crossing = refl;
          located = refl;
          fraction = divided v _ _ w;
          x_moves = moves col _ _ f.spacing f.west s.1 d.0 d.1 k.near k.west;
          y_exact = exact row f.south s.0 k.south;
        }

    along_column : (row col : ℕ) → row + 1 < f.rows → col < f.columns
        → crossed_edge levels f.columns v (Vertical row col) ≡ true
        → AlongColumn levels f v row col (Ok (along_edge levels f.columns v (Vertical row col)))
        (Ok (locate (along_edge levels f.columns v (Vertical row col)) row col f))
    along_column row col h l x =
        let w = astride v _ _ x in
        let d = num_den v _ _ w in
        let s = ends_small (Vertical row col) k.sized.sides (h, l) in
        record {
          which = (refl, refl);
          crossing = refl;
          located = refl;
          fraction = divided v _ _ w;
          x_exact = exact col f.west s.1 k.west;
          y_moves = moves row _ _ f.spacing f.south s.0 d.0 d.1 k.near k.south;
        }

    -- the edge of a number m
    crossed_number : (P : Asked → Mapped → Type 0) (e : Edge) (m : ℕ) → n ≡ m
        → edge_at f.columns f.rows m ≡ e → m < edges f.columns f.rows
        → crossed_at levels f.columns f.rows v m ≡ true
        → (crossed_edge levels f.columns v e ≡ true
        → P (Ok (along_edge levels f.columns v e))
        (Ok (locate (along_edge levels f.columns v e) (row_of e) (col_of e) f))) → Both P
    crossed_number P e m q i l c p =
        let at : edge_at f.columns f.rows n ≡ e = ap (edge_at f.columns f.rows) q ∙ i in
        let x : crossed_at levels f.columns f.rows v n ≡ true =
        ap (crossed_at levels f.columns f.rows v) q ∙ c in
        crossed_at_rule P e at (is_crossed_rule true (omega arith) x)
        (p (sym (ap (crossed_edge levels f.columns v) at) ∙ x))

    none_number : (m : ℕ) → n ≡ m → m < edges f.columns f.rows
        → (crossed_at levels f.columns f.rows v m ≡ true → ⊥) → Both (None levels f v)
    none_number m q l c = none_at_rule (is_crossed_rule false (omega arith) (ap (crossed_at levels f.columns f.rows v) q
        ∙ isnt _ c))
      where
        isnt : (b : Bool) → (b ≡ true → ⊥) → b ≡ false
        isnt true h = absurd (h refl)
        isnt false h = refl

    by_number : Both (ByNumber levels f v n)
    by_number =
        let e = edges_numbered f.columns f.rows wide in
        let x = crossed_exactly levels f.columns f.rows v wide in
        record {
          row_crossed = λ row col h l q o.
              crossed_number (AlongRow levels f v row col) (Horizontal row col) _ q (e.lying row col h l).1
              ((e.below row col).0 h l) ((x.lying row col h l).1 o) (along_row row col h l);
          row_not = λ row col h l q o. none_number _ q ((e.below row col).0 h l) (λ t. o ((x.lying row col h l).0 t));
          column_crossed = λ row col h l q o.
              crossed_number (AlongColumn levels f v row col) (Vertical row col) _ q (e.standing row col h l).1
              ((e.below row col).1 h l) ((x.standing row col h l).1 o) (along_column row col h l);
          column_not = λ row col h l q o. none_number _ q ((e.below row col).1 h l)
              (λ t. o ((x.standing row col h l).0 t));
          past = λ h. none_at_rule (rw (le-ltb n (edges f.columns f.rows) h));
        }

  pub answered_by_number : (asked : Asked) (mapped : Mapped) → CrossingAsked levels f v n asked
      → MapPointAsked levels f v n mapped → Answered levels f v n asked mapped
  answered_by_number asked mapped a m = record {
    asked_refusal_rule = rw a.number (contour_refused levels f v 0 (inl refl));
    mapped_refusal_rule = rw m.number (contour_refused levels f v 0 (inl refl));
    fraction_range = fraction_range asked a;
    by_number = λ t.
        let z : contour_refusal levels f v ≡ 0 = sym a.number ∙ t in
        rw (answered asked a z, answered mapped m z) (by_number z);
  }

-- ---- none exactly where the edge isn't in the network or isn't crossed

along_some : (levels : List ℕ) (nx v : ℕ) (e : Edge) → which_of (along_edge levels nx v e) ≡ 0 → ⊥
along_some levels nx v (Horizontal row col) h = omega arith
along_some levels nx v (Vertical row col) h = omega arith

pub none_where : (levels : List ℕ) (f : Frame) (v n : ℕ) → is_crossed levels f v n ≡ false
    → which_of (crossing_of levels f v n) ≡ 0
none_where levels f v n h = rw h

pub some_where : (levels : List ℕ) (f : Frame) (v n : ℕ) → is_crossed levels f v n ≡ true
    → which_of (crossing_of levels f v n) ≡ 0 → ⊥
some_where levels f v n h z = along_some levels f.columns v (edge_at f.columns f.rows n) (rw h at z)
