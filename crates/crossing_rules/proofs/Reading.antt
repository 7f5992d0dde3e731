-- The numbers that tell a list of contours, place by place. Assumes nothing.
use mathlib.Core.{Path.◌≡◌, Path.refl, Path.sym, Path.ap, Path.◌∙◌, Bool.false, List.List, List.[], List.◌∷◌, List.◌++◌}
use mathlib.Core.Logic.{◌⊎◌, ⊎_elim}
use Prim.Native.Nat.{ℕ, zero, suc, ◌+◌, ◌≤◌, ◌<◌}
use native.Mathlib.Omega.{arith}
use lib.ListN.{length, get_or, take, drop, length-append, length-drop, take-append-drop, get_or-append}
use lib.{Dec.eqb, Seq.get_or-append-add, Seq.length-take-le}
use Rattle.contour_rules.specs.{Contours.Contour, Contours.bit, Contours.edges_of, Contours.counts_of}
use Rattle.contour_rules.specs.{Contours.closed_of}
use Rattle.contour_rules.specs.{Once.sum_to, EachEdge.edges_at}
use Rattle.contour_rules.proofs.Sums.{sum_same}
use Rattle.contour.specs.Told.{contours_told}
use Rattle.crossing_rules.specs.OneTime.{start_of, edge_of}
use Rattle.crossing_rules.proofs.Sums.{sum_first}

abbrev pub contour_at : List Contour → ℕ → Contour
contour_at cs i = get_or cs i (record { edges = []; closes = false })

-- `listed` edges and `contours` contours, told by three lists of numbers
pub record Tells (cs : List Contour) (edges counts closed : List ℕ) (listed contours : ℕ) : Type 0 where
  pub there : (listed ≤ length edges) × ((contours ≤ length counts) × (contours ≤ length closed))
  pub contours_are : contours ≡ length cs
  pub listed_are : listed ≡ length (edges_of cs)
  pub start : start_of counts contours ≡ listed
  pub count : (i : ℕ) → i < length cs → get_or counts i 0 ≡ length (edges_at cs i)
  pub mark : (i : ℕ) → i < length cs → get_or closed i 0 ≡ bit (contour_at cs i).closes
  pub edge : (i j : ℕ) → i < length cs → j < length (edges_at cs i)
      → edge_of edges counts i j ≡ get_or (edges_at cs i) j 0

-- ---- lists as long as what they tell

count_at : (cs : List Contour) (i : ℕ) → i < length cs → get_or (counts_of cs) i 0 ≡ length (edges_at cs i)
unfolding counts_of
count_at [] i h = absurd (omega arith)
count_at (c ∷ cs) zero h = refl
count_at (c ∷ cs) (suc i) h = count_at cs i (omega arith)

mark_at : (cs : List Contour) (i : ℕ) → i < length cs → get_or (closed_of cs) i 0 ≡ bit (contour_at cs i).closes
unfolding closed_of
mark_at [] i h = absurd (omega arith)
mark_at (c ∷ cs) zero h = refl
mark_at (c ∷ cs) (suc i) h = mark_at cs i (omega arith)

-- where a contour starts, one contour further
start_on : (c : Contour) (cs : List Contour) (i : ℕ)
    → start_of (counts_of (c ∷ cs)) (suc i) ≡ length c.edges + start_of (counts_of cs) i
unfolding counts_of
start_on c cs i = sum_first (λ k. get_or (length c.edges ∷ counts_of cs) k 0) i

no_start : (counts : List ℕ) → start_of counts 0 ≡ 0
unfolding sum_to
no_start counts = refl

start_all : (cs : List Contour) → start_of (counts_of cs) (length cs) ≡ length (edges_of cs)
unfolding edges_of
start_all [] = no_start (counts_of [])
start_all (c ∷ cs) = start_on c cs (length cs) ∙ ap (λ (n : ℕ). length c.edges + n) (start_all cs)
    ∙ sym (length-append c.edges (edges_of cs))

-- edge j of contour i stands on the list of all edges
edge_at : (cs : List Contour) (i j : ℕ) → i < length cs → j < length (edges_at cs i)
    → (start_of (counts_of cs) i + j < length (edges_of cs))
    × (get_or (edges_of cs) (start_of (counts_of cs) i + j) 0 ≡ get_or (edges_at cs i) j 0)
unfolding edges_of
edge_at [] i j h k = absurd (omega arith)
edge_at (c ∷ cs) zero j h k =
    let z = no_start (counts_of (c ∷ cs)) in
    let p : start_of (counts_of (c ∷ cs)) 0 + j ≡ j = omega (arith, z) in (
      omega (arith, z, length-append c.edges (edges_of cs)),
      ap (λ (n : ℕ). get_or (c.edges ++ edges_of cs) n 0) p ∙ get_or-append c.edges (edges_of cs) 0 j k,
    )
edge_at (c ∷ cs) (suc i) j h k =
    let r = edge_at cs i j (omega arith) k in
    let e = start_on c cs i in
    let s = start_of (counts_of cs) i in
    let p : start_of (counts_of (c ∷ cs)) (suc i) + j ≡ length c.edges + (s + j) = omega (arith, e) in (
      omega (arith, e, r.0, length-append c.edges (edges_of cs)),
      ap (λ (n : ℕ). get_or (c.edges ++ edges_of cs) n 0) p ∙ get_or-append-add c.edges (edges_of cs) (s + j) 0
          ∙ r.1,
    )

-- ---- lists that hold these numbers, and may be longer

module _ (cs : List Contour) (edges counts closed : List ℕ) (listed contours : ℕ) where
  pub tells : (listed ≤ length edges) × ((contours ≤ length counts) × (contours ≤ length closed))
      → listed ≡ length (edges_of cs) → contours ≡ length cs
      → ((p : ℕ) → p < listed → get_or edges p 0 ≡ get_or (edges_of cs) p 0)
      → ((i : ℕ) → i < contours → get_or counts i 0 ≡ get_or (counts_of cs) i 0)
      → ((i : ℕ) → i < contours → get_or closed i 0 ≡ get_or (closed_of cs) i 0)
      → Tells cs edges counts closed listed contours
  tells there n m same_edges same_counts same-closed = record {
    there = there;
    contours_are = m;
    listed_are = n;
    start = starts contours (omega arith) ∙ ap (start_of (counts_of cs)) m ∙ start_all cs ∙ sym n;
    count = λ i h. same_counts i (omega (arith, m)) ∙ count_at cs i h;
    mark = λ i h. same-closed i (omega (arith, m)) ∙ mark_at cs i h;
    edge = λ i j h k.
        let e = edge_at cs i j h k in
        ap (λ (s : ℕ). get_or edges (s + j) 0) (starts i (omega (arith, m)))
        ∙ same_edges (start_of (counts_of cs) i + j) (omega (arith, e.0, n)) ∙ e.1;
  }
    where
      starts : (i : ℕ) → i ≤ contours → start_of counts i ≡ start_of (counts_of cs) i
      starts i h = sum_same (λ k. get_or counts k 0) (λ k. get_or (counts_of cs) k 0) i
          (λ k l. same_counts k (omega arith))

-- ---- numbers read back as contours

no_edges : (es : List ℕ) → length es ≡ 0 → [] ≡ es
no_edges [] e = refl
no_edges (n ∷ es) e = absurd (omega arith)

-- as many edges as the counts say
abbrev pub Adds : List ℕ → List ℕ → Type 0
Adds es ms = start_of ms (length ms) ≡ length es

rest_adds : (es : List ℕ) (m : ℕ) (ms : List ℕ) → Adds es (m ∷ ms) → (m ≤ length es) × Adds (drop m es) ms
rest_adds es m ms a =
    let f = sum_first (λ k. get_or (m ∷ ms) k 0) (length ms) in
    (omega (arith, f, a), omega (arith, f, a, length-drop m es))

pub read_edges : (es ms ks : List ℕ) → Adds es ms → edges_of (contours_told es ms ks) ≡ es
unfolding edges_of contours_told sum_to
read_edges es [] ks a = no_edges es (sym a)
read_edges es (m ∷ ms) ks a =
    ap (λ (t : List ℕ). take m es ++ t) (read_edges (drop m es) ms (drop 1 ks) (rest_adds es m ms a).1)
    ∙ take-append-drop m es

pub read_counts : (es ms ks : List ℕ) → Adds es ms → counts_of (contours_told es ms ks) ≡ ms
unfolding counts_of contours_told
read_counts es [] ks a = refl
read_counts es (m ∷ ms) ks a =
    let r = rest_adds es m ms a in
    rw (length-take-le m es r.0) (ap (λ (t : List ℕ). m ∷ t) (read_counts (drop m es) ms (drop 1 ks) r.1))

marked_bit : (k : ℕ) → (k ≡ 0) ⊎ (k ≡ 1) → bit (eqb k 1) ≡ k
marked_bit k h = ⊎_elim (λ e. rw e) (λ e. rw e) h

pub read_marks : (es ms ks : List ℕ) → length ks ≡ length ms
    → ((i : ℕ) → i < length ks → (get_or ks i 0 ≡ 0) ⊎ (get_or ks i 0 ≡ 1)) → closed_of (contours_told es ms ks) ≡ ks
unfolding closed_of contours_told
read_marks es [] [] e h = refl
read_marks es [] (k ∷ ks) e h = absurd (omega arith)
read_marks es (m ∷ ms) [] e h = absurd (omega arith)
read_marks es (m ∷ ms) (k ∷ ks) e h =
    rw (marked_bit k (h 0 (omega arith)))
    (ap (λ (t : List ℕ). k ∷ t) (read_marks (drop m es) ms ks (omega arith) (λ i l. h (suc i) (omega arith))))
