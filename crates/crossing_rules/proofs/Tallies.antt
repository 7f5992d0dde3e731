-- How often a byte that is in no number stands in the text of contours. Assumes nothing.
use mathlib.Core.Path.{◌≡◌, refl, ap, ◌∙◌, subst}
use mathlib.Core.{Bool.Bool, Bool.cond, List.List, List.[], List.◌∷◌, List.◌++◌, List.map}
use Prim.Native.Nat.{ℕ, zero, suc, ◌+◌, ◌≤◌, ◌<◌}
use native.Mathlib.Omega.{arith}
use lib.ListN.{length, get_or}
use Rattle.text.specs.{Spelled.bytes, Field.count_of}
use Rattle.text.proofs.{Fields.count_append, Free.decimal_free}
use Rattle.network.specs.declared.Frame.{Frame}
use Rattle.network.specs.Edges.{edge_at}
use Rattle.contour_rules.specs.{Picture.Picture, Contours.Contour, Contours.contours_of, Rule.lines}
use Rattle.contour_rules.specs.Once.{Sound, AllSound}
use Rattle.contour_rules.proofs.Every.{every_crossing}
use Rattle.wkt.specs.declared.Spot.{Spot}
use Rattle.wkt.specs.{Places.spot_of, Text.show_metres, Text.place_text, Printout.parted, Printout.line_text}
use Rattle.wkt.specs.Calls.{network_text}
use Rattle.wkt.proofs.Printout.{text_printed}
use Rattle.crossing_rules.specs.Points.{line_of}

-- the places that a contour shows: those of its edges, and the first again where it closes
abbrev pub points_in : (levels : List ℕ) (f : Frame) (v : ℕ) → Contour → List (List ℕ)
points_in levels f v c = map (place_text levels f v) (c.edges ++ cond c.closes (get_or c.edges 0 0 ∷ []) [])

-- a contour has an edge
pub some_edges : (g : Picture) (b : Bool) (ns : List ℕ) → Sound g b ns → 1 ≤ length ns
some_edges g b [] s = absurd s
some_edges g b (n ∷ ns) s = omega arith

-- n times k
unfoldable pub many : (k n : ℕ) → ℕ
many k zero = 0
many k (suc n) = k + many k n

pub many_one : (n : ℕ) → many 1 n ≡ n
unfolding many
many_one zero = refl
many_one (suc n) = omega (arith, many_one n)

pub many_none : (n : ℕ) → many 0 n ≡ 0
unfolding many
many_none zero = refl
many_none (suc n) = omega (arith, many_none n)

-- p for each contour, and k for each of its points
unfoldable pub weight : (levels : List ℕ) (f : Frame) (v k p : ℕ) → List Contour → ℕ
weight levels f v k p [] = 0
weight levels f v k p (c ∷ cs) = p + many k (length (points_in levels f v c)) + weight levels f v k p cs

-- of a byte d below that of a point, so in no number, that is no space and no closing bracket, stands k times in what
-- parts points, and p times before a line
module _ (levels : List ℕ) (f : Frame) (v : ℕ) (d k p : ℕ) (low : d < 46) (blank : count_of d (bytes " ") ≡ 0)
    (between : count_of d (bytes ", ") ≡ k) (before : count_of d (bytes "(") ≡ p) (shut : count_of d (bytes ")") ≡ 0)
  where
    place_free : (n : ℕ) → count_of d (place_text levels f v n) ≡ 0
    unfolding place_text
    place_free n =
        let s : Spot = spot_of levels f v (edge_at f.columns f.rows n) in
        let x = show_metres s.x in
        let y = show_metres s.y in
        omega (
          arith,
          count_append d x (bytes " " ++ y),
          count_append d (bytes " ") y,
          decimal_free d low 3 s.x,
          decimal_free d low 3 s.y,
          blank,
        )

    in_points : (n : ℕ) (ns : List ℕ) → count_of d (parted levels f v (map (place_text levels f v) (n ∷ ns))) + k
        ≡ many k (length (map (place_text levels f v) (n ∷ ns)))
    unfolding many
    in_points n [] = omega (arith, place_free n)
    in_points n (m ∷ ns) =
        let rest = parted levels f v (map (place_text levels f v) (m ∷ ns)) in
        omega (
          arith,
          place_free n,
          count_append d (place_text levels f v n) (bytes ", " ++ rest),
          count_append d (bytes ", ") rest,
          between,
          in_points m ns,
        )

    in_line_rule : (c : Contour) → 1 ≤ length c.edges
        → count_of d (line_text levels f v c) + k ≡ p + many k (length (points_in levels f v c))
    in_line_rule c h = go c.edges h
      where
        go : (es : List ℕ) → 1 ≤ length es
            → count_of d
            (line_of levels f v (map (place_text levels f v) (es ++ cond c.closes (get_or es 0 0 ∷ []) []))) + k
            ≡ p + many k (length (map (place_text levels f v) (es ++ cond c.closes (get_or es 0 0 ∷ []) [])))
        go [] h = absurd (omega arith)
        go (e ∷ es) h =
            let ns = es ++ cond c.closes (e ∷ []) [] in
            let t = parted levels f v (map (place_text levels f v) (e ∷ ns)) in
            omega (
              arith,
              count_append d (bytes "(" ++ t) (bytes ")"),
              count_append d (bytes "(") t,
              before,
              shut,
              in_points e ns,
            )

    in_lines : (g : Picture) (c : Contour) (cs : List Contour) → AllSound g (c ∷ cs)
        → count_of d (parted levels f v (map (line_text levels f v) (c ∷ cs))) + k ≡ weight levels f v k p (c ∷ cs)
    unfolding weight
    in_lines g c [] s = omega (arith, in_line_rule c (some_edges g c.closes c.edges s.0))
    in_lines g c (c' ∷ cs) s =
        let line = line_text levels f v c in
        let rest = parted levels f v (map (line_text levels f v) (c' ∷ cs)) in
        omega (
          arith,
          count_append d line (bytes ", " ++ rest),
          count_append d (bytes ", ") rest,
          between,
          in_line_rule c (some_edges g c.closes c.edges s.0),
          in_lines g c' cs s.1,
        )

    -- and in the text, which begins with q of them
    pub in_text_rule : (q : ℕ) → count_of d (bytes "MULTILINESTRING (") ≡ q → 2 ≤ f.columns → (c : Contour)
        (cs : List Contour) → contours_of (lines levels f.columns f.rows v) ≡ c ∷ cs
        → count_of d (network_text levels f v) + k ≡ q + weight levels f v k p (c ∷ cs)
    in_text_rule q begins wide c cs e =
        let t = parted levels f v (map (line_text levels f v) (c ∷ cs)) in
        let g = lines levels f.columns f.rows v in
        ap (λ (b : List ℕ). count_of d b + k) ((text_printed levels f v wide).some c cs e)
        ∙ omega (
          arith,
          count_append d (bytes "MULTILINESTRING (" ++ t) (bytes ")"),
          count_append d (bytes "MULTILINESTRING (") t,
          begins,
          shut,
          in_lines g c cs (subst (AllSound g) e (every_crossing g wide).sound),
        )
