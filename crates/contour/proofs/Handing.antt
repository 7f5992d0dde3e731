-- What was listed, handed out to the caller. Assumes nothing.
use mathlib.Core.{Path.◌≡◌, Path.refl, Path.sym, Path.ap, Path.◌∙◌, List.List, List.[], List.◌∷◌}
use Rattle.std.specs.Prelude.{ℕ, ◌≤◌}
use native.Mathlib.Omega.{arith}
use borrow.Author.Tests.{le-leb}
use lib.{ListN.length, ListN.take, Seq.take_at}
use Rattle.room.specs.Room.{front}
use Rattle.contour_rules.specs.Contours.{Contour, edges_of, counts_of, closed_of}
use Rattle.contour_rules.proofs.Sums.{length_counts, length_closed}
use Rattle.contour.specs.Answers.{Outcome, outcome_of, lists_of, answer_from, answer_of, handed_out}
use Rattle.contour.specs.InnerDesk.{Listed}

-- outcomes are equal where the answer and each buffer are
pub outcomes : {n n' : ℕ} {e e' c c' d d' s s' : List ℕ} → n ≡ n' → e ≡ e' → c ≡ c' → d ≡ d'
    → s ≡ s'
    → outcome_of n e c d s ≡ outcome_of n' e' c' d' s'
outcomes p q r t u = rw (p, q, r, t, u)

-- into the caller's buffers, which had room
pub straight : (cs : List Contour) (e c d s e' c' d' s' : List ℕ) (at made : ℕ) → Listed cs e c d e' c' d' at made
    → 2 ≤ length s → s' ≡ front (at ∷ made ∷ []) s
    → outcome_of 0 e' c' d' s' ≡ handed_out 0 (answer_of cs) (lists_of e c d s)
straight cs e c d s e' c' d' s' at made l h p =
    let m : made ≡ length (counts_of cs) = l.contours ∙ sym (length_counts cs) in
    let k : made ≡ length (closed_of cs) = l.contours ∙ sym (length_closed cs) in
    let a = le-leb (length (edges_of cs)) (length e) (omega (arith, l.edges_fit, l.edge_places)) in
    let b = le-leb (length (counts_of cs)) (length c) (omega (arith, l.counts_fit_rule, m)) in
    let o = le-leb (length (closed_of cs)) (length d) (omega (arith, l.closed_fit, k)) in
    rw (a, b, o, le-leb 2 (length s) h)
    (outcomes refl l.the_edges l.the_counts l.the_closed (rw (← l.edge_places, ← m) p))

-- from buffers apart
pub apart : (cs : List Contour) (e₀ c₀ d₀ all_edges all-counts all_closed : List ℕ) (at made : ℕ)
    → Listed cs e₀ c₀ d₀ all_edges all-counts all_closed at made
    → {o : Outcome} (e c d s : List ℕ)
    → o ≡ handed_out 0 (answer_from (take at all_edges) (take made all-counts) (take made all_closed))
    (lists_of e c d s)
    → o ≡ handed_out 0 (answer_of cs) (lists_of e c d s)
apart cs e₀ c₀ d₀ all_edges all-counts all_closed at made l e c d s h =
    let p : take at all_edges ≡ edges_of cs =
    ap (take at) l.the_edges ∙ take_at (edges_of cs) _ at (sym l.edge_places) in
    let q : take made all-counts ≡ counts_of cs =
    ap (take made) l.the_counts ∙ take_at (counts_of cs) _ made (length_counts cs ∙ sym l.contours) in
    let o : take made all_closed ≡ closed_of cs =
    ap (take made) l.the_closed ∙ take_at (closed_of cs) _ made (length_closed cs ∙ sym l.contours) in
    rw (← p, ← q, ← o) h

-- two outcomes that satisfy the contract are equal: the answer and each buffer
pub same_outcome : {o : Outcome} {r r' : ℕ} {e c d s e' c' d' s' : List ℕ} → outcome_of r e c d s ≡ o
    → outcome_of r' e' c' d' s' ≡ o → (r ≡ r') × ((e ≡ e') × ((c ≡ c') × ((d ≡ d') × (s ≡ s'))))
same_outcome p q =
    let e = p ∙ sym q in (
      ap (λ (o : Outcome). o.answer) e,
      (
        ap (λ (o : Outcome). o.edges) e,
        (ap (λ (o : Outcome). o.counts) e, (ap (λ (o : Outcome). o.closed) e, ap (λ (o : Outcome). o.sizes) e)),
      ),
    )
