-- The outcome of the call tells the contours. Assumes nothing.
use Rattle.contour_rules.proofs.{Waiting.bit_one, Sums.length_counts, Sums.length_closed}
use Rattle.std.specs.Prelude.{◌≡◌, ℕ}
use mathlib.Core.Path.{refl, sym, ap, ◌∙◌, subst}
use mathlib.Core.{Bool.Bool, Bool.true, Bool.false, Bool.◌&&◌, Bool.cond, Logic.◌↔◌, List.List, List.[], List.◌∷◌}
use native.Mathlib.Omega.{arith}
use borrow.Author.Tests.{leb-true, le-leb, eqb-false}
use lib.{Dec.leb, Dec.eqb, ListN.length, Seq.take-append_seam, Seq.drop-append_seam}
use Rattle.refusal.specs.Refuse.{refuse, first}
use Rattle.room.specs.Room.{fits_in}
use Rattle.room.proofs.Fronts.{front_is, front_past, left_alone}
use Rattle.network.specs.declared.Frame.{Frame}
use Rattle.network.specs.{Refusals.contour_refusal, Ranges.RoomRefused}
use Rattle.network.proofs.{Refusals.both, Ranges.room_refused}
use Rattle.contour_rules.specs.Contours.{Contour, edges_of, counts_of, closed_of}
use Rattle.contour.specs.Answers.{Lists, lists_of, answer_of, fits, left_with, outcome}
use Rattle.contour.specs.Told.{contours_told, found, Enough, Told}

-- listed contours, read back
told_back : (cs : List Contour) → contours_told (edges_of cs) (counts_of cs) (closed_of cs) ≡ cs
unfolding contours_told edges_of counts_of closed_of
told_back [] = refl
told_back (c ∷ cs) = rw (
  take-append_seam c.edges (edges_of cs),
  drop-append_seam c.edges (edges_of cs),
  bit_one c.closes,
) (ap (λ (ds : List Contour). c ∷ ds) (told_back cs))

module _ (levels : List ℕ) (f : Frame) (v : ℕ) (edges counts closed sizes : List ℕ) where
  abbrev cs : List Contour
  cs = found levels f v edges counts closed sizes

  abbrev lent : Lists
  lent = lists_of edges counts closed sizes

  abbrev fitting : Bool
  fitting = fits (answer_of cs) lent

  abbrev why : ℕ
  why = contour_refusal levels f v

  abbrev Suffices : Type 0
  Suffices = Enough levels f v edges counts closed sizes

  suffices : (fitting ≡ true) ↔ Suffices
  suffices = (
    λ h.
        let of-edges = fits_in (edges_of cs) edges in
        let of-counts = fits_in (counts_of cs) counts in
        let of-closed = fits_in (closed_of cs) closed in
        let a = both (of-edges && of-counts && of-closed) (leb 2 (length sizes)) h in
        let b = both (of-edges && of-counts) of-closed a.0 in
        let c = both of-edges of-counts b.0 in
        record {
          edges_fit = leb-true _ _ c.0;
          counts_fit_rule = rw (sym (length_counts cs)) (leb-true _ _ c.1);
          closed_fit = rw (sym (length_closed cs)) (leb-true _ _ b.1);
          sizes_fit_rule = leb-true _ _ a.1;
        },
    λ e. rw (
      le-leb _ _ e.edges_fit,
      le-leb (length (counts_of cs)) (length counts) (rw (length_counts cs) e.counts_fit_rule),
      le-leb (length (closed_of cs)) (length closed) (rw (length_closed cs) e.closed_fit),
      le-leb _ _ e.sizes_fit_rule,
    ),
  )

  pub outcome_told : Told levels f v edges counts closed sizes (outcome levels f v edges counts closed sizes)
  outcome_told = go (eqb why 0) fitting refl refl
    where
      r : RoomRefused levels f v Suffices (first why (refuse 14 fitting 0))
      r = room_refused levels f v Suffices fitting suffices

      never : (k : ℕ) → (k ≡ 0 → ⊥) → RoomRefused levels f v Suffices k
          → Told levels f v edges counts closed sizes (left_with k (answer_of cs) lent)
      never k n r = record {
        refusal = r;
        refused = λ _. (
          left_alone k (edges_of cs) edges n,
          (
            left_alone k (counts_of cs) counts n,
            (
              left_alone k (closed_of cs) closed n,
              left_alone k (length (edges_of cs) ∷ length (counts_of cs) ∷ []) sizes n,
            ),
          ),
        );
        tells = λ z. absurd (n z);
        edges_kept = λ z. absurd (n z);
        counts_kept = λ z. absurd (n z);
        closed_kept = λ z. absurd (n z);
        sizes_kept = λ z. absurd (n z);
      }

      same : length (counts_of cs) ≡ length (closed_of cs)
      same = length_counts cs ∙ sym (length_closed cs)

      go : (a b : Bool) → eqb why 0 ≡ a → fitting ≡ b
          → Told levels f v edges counts closed sizes (left_with (cond a (refuse 14 b 0) why) (answer_of cs) lent)
      go true true p q = record {
        refusal = subst (RoomRefused levels f v Suffices) (ap (λ (a : Bool). cond a (refuse 14 fitting 0) why) p
            ∙ ap (λ (b : Bool). refuse 14 b 0) q) r;
        refused = λ n. absurd (n refl);
        tells = λ _. rw (
          front_is (edges_of cs) edges (length (edges_of cs)) refl,
          front_is (counts_of cs) counts (length (counts_of cs)) refl,
          front_is (closed_of cs) closed (length (counts_of cs)) (sym same),
        ) (told_back cs);
        edges_kept = λ _ i h. front_past (edges_of cs) edges i 0 h;
        counts_kept = λ _ i h. front_past (counts_of cs) counts i 0 h;
        closed_kept = λ _ i h. front_past (closed_of cs) closed i 0 (omega (arith, same));
        sizes_kept = λ _ i h. front_past (length (edges_of cs) ∷ length (counts_of cs) ∷ []) sizes i 0 h;
      }
      go true false p q = never 14 (λ h. omega arith)
          (subst (RoomRefused levels f v Suffices) (ap (λ (a : Bool). cond a (refuse 14 fitting 0) why) p
          ∙ ap (λ (b : Bool). refuse 14 b 0) q) r)
      go false b p q = never why (eqb-false _ _ p)
          (subst (RoomRefused levels f v Suffices) (ap (λ (a : Bool). cond a (refuse 14 fitting 0) why) p) r)
