-- The contours of a checked network are printable, and listed as the text takes them. Assumes nothing.
use mathlib.Core.{Path.◌≡◌, Path.refl, Path.sym, Path.ap, Path.◌∙◌, Bool.Bool, Bool.true, Bool.false, Bool.◌&&◌}
use Rattle.std.specs.Prelude.{ℕ, zero, suc, ◌+◌, ◌<◌, ◌≤◌, List, [], ◌∷◌, map}
use native.Mathlib.Omega.{arith}
use borrow.Author.Tests.{ltb-true, eq-eqb}
use lib.{Dec.ltb, ListN.length, ListN.get_or, ListN.take, ListN.length-append, Seq.take-append_seam}
use lib.{Seq.drop-append_seam}
use Rattle.network.specs.declared.Frame.{Frame}
use Rattle.network.specs.{Edges.edges, Edges.Checked, Crossed.crossed_at}
use Rattle.network.proofs.Refusals.{both}
use Rattle.contour_rules.specs.{Picture.Picture, Picture.picture, Crossings.edges_in}
use Rattle.contour_rules.specs.Contours.{Contour, bit, contours_of, edges_of, counts_of, closed_of}
use Rattle.contour_rules.specs.Once.{occurs, Sound, AllSound}
use Rattle.contour_rules.proofs.Sums.{length_counts, length_closed, crossings_le, each_listed}
use Rattle.contour_rules.proofs.Every.{every_crossing}
use Rattle.room.specs.Room.{front}
use Rattle.room.proofs.Fronts.{front_is}
use Rattle.contour.specs.InnerDesk.{Listed}
use Rattle.wkt.specs.Text.{text_of, points_of, contours_text}
use Rattle.wkt.specs.InnerParts.{lines_from, total, Printable}

-- ---- lists of contours

pub lines_from_lem : (cs : List Contour)
    → lines_from (edges_of cs) (counts_of cs) (closed_of cs)
    ≡ map (λ (c : Contour). points_of c.edges (bit c.closes)) cs
unfolding lines_from edges_of counts_of closed_of
lines_from_lem [] = refl
lines_from_lem (c ∷ cs) = rw (take-append_seam c.edges (edges_of cs), drop-append_seam c.edges (edges_of cs))
    (ap (λ (ls : List (List ℕ)). points_of c.edges (bit c.closes) ∷ ls) (lines_from_lem cs))

counts_total : (cs : List Contour) → total (counts_of cs) ≡ length (edges_of cs)
unfolding total edges_of counts_of
counts_total [] = refl
counts_total (c ∷ cs) = ap (λ (n : ℕ). length c.edges + n) (counts_total cs)
    ∙ sym (length-append c.edges (edges_of cs))

bit_small : (b : Bool) → bit b ≤ 1
bit_small true = omega arith
bit_small false = omega arith

marks_small : (cs : List Contour) (k : ℕ) → get_or (closed_of cs) k 0 ≤ 1
unfolding closed_of
marks_small [] k = omega arith
marks_small (c ∷ cs) zero = bit_small c.closes
marks_small (c ∷ cs) (suc k) = marks_small cs k

sound_some : (g : Picture) (closes : Bool) (es : List ℕ) → Sound g closes es → 0 < length es
sound_some g closes [] s = absurd s
sound_some g closes (n ∷ es) s = omega arith

counts_some : (g : Picture) (cs : List Contour) → AllSound g cs → (k : ℕ) → k < length (counts_of cs)
    → 0 < get_or (counts_of cs) k 0
unfolding counts_of
counts_some g [] s k h = absurd (omega arith)
counts_some g (c ∷ cs) s zero h = sound_some g c.closes c.edges s.0
counts_some g (c ∷ cs) s (suc k) h = counts_some g cs s.1 k (omega arith)

-- ---- a listed edge is crossed

occurs_at_lem : (es : List ℕ) (i : ℕ) → i < length es → 0 < occurs (get_or es i 0) es
unfolding occurs
occurs_at_lem [] i h = absurd (omega arith)
occurs_at_lem (e ∷ es) zero h = rw (eq-eqb e e refl) (omega arith)
occurs_at_lem (e ∷ es) (suc i) h = omega (arith, occurs_at_lem es i (omega arith))

is_true : (b : Bool) → 0 < bit b → b ≡ true
is_true true h = refl
is_true false h = absurd (omega arith)

module _ (levels : List ℕ) (f : Frame) (v : ℕ) (k : Checked levels f) where
  abbrev g : Picture
  g = picture levels f.columns f.rows v

  abbrev listed : List ℕ
  listed = edges_of (contours_of g)

  crossing : (i : ℕ) → i < length listed
      → (get_or listed i 0 < edges f.columns f.rows)
      × (crossed_at levels f.columns f.rows v (get_or listed i 0) ≡ true)
  crossing i h =
      let n = get_or listed i 0 in
      let o : 0 < bit (ltb n (edges_in g) && crossed_at levels f.columns f.rows v n) =
      rw (sym ((every_crossing g k.sized.sides.wide).once n)) (occurs_at_lem listed i h) in
      let p = both (ltb n (edges_in g)) (crossed_at levels f.columns f.rows v n)
      (is_true (ltb n (edges_in g) && crossed_at levels f.columns f.rows v n) o) in
      (ltb-true _ _ p.0, p.1)

  pub few_listed : length listed ≤ edges f.columns f.rows
  few_listed = omega (
    arith,
    each_listed g (edges_in g) listed (every_crossing g k.sized.sides.wide).once,
    crossings_le g (edges_in g),
  )

  pub printable : Printable levels f v listed (counts_of (contours_of g)) (closed_of (contours_of g))
  printable =
      record {
        checked = k;
        crossing = crossing;
        some = counts_some g (contours_of g) (every_crossing g k.sized.sides.wide).sound;
        marked = length_closed (contours_of g) ∙ sym (length_counts (contours_of g));
        marks = marks_small (contours_of g);
        summed = counts_total (contours_of g);
        few = few_listed;
      }

-- ---- contours at the fronts of buffers

module _ {cs : List Contour} {e c d e' c' d' : List ℕ} {at made : ℕ} (l : Listed cs e c d e' c' d' at made) where
  front_of : (ns b b' : List ℕ) (n : ℕ) → b' ≡ front ns b → n ≡ length ns → take n b' ≡ ns
  front_of ns b b' n p q = ap (take n) p ∙ front_is ns b n (sym q)

  pub edges_front : take at e' ≡ edges_of cs
  edges_front = front_of (edges_of cs) e e' at l.the_edges l.edge_places

  pub counts_front : take made c' ≡ counts_of cs
  counts_front = front_of (counts_of cs) c c' made l.the_counts (l.contours ∙ sym (length_counts cs))

  pub closed_front : take made d' ≡ closed_of cs
  closed_front = front_of (closed_of cs) d d' made l.the_closed (l.contours ∙ sym (length_closed cs))

  pub text_front : (levels : List ℕ) (f : Frame) (v : ℕ)
      → text_of levels f v (lines_from (take at e') (take made c') (take made d')) ≡ contours_text levels f v cs
  text_front levels f v = rw (edges_front, counts_front, closed_front) (ap (text_of levels f v) (lines_from_lem cs))
