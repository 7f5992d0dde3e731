-- The order of the contours: open ones before closed ones, and each kind by its first edges. Assumes nothing.
use mathlib.Core.{Path.◌≡◌, Path.refl, Path.ap, Bool.Bool, Bool.true, Bool.false, Bool.◌&&◌, Bool.◌||◌, Bool.cond}
use mathlib.Core.{Logic.◌⊎◌, Logic.inl, Logic.inr, Logic.⊎_elim, List.List, List.[], List.◌∷◌, List.◌++◌}
use Prim.Native.Nat.{ℕ, zero, suc, ◌<◌}
use native.Mathlib.Omega.{arith}
use lib.ListN.{get_or}
use Rattle.contour_rules.specs.{Picture.Picture, Crossings.edges_in, Crossings.enters_at}
use Rattle.contour_rules.specs.Contours.{Contour, waits, contour_from, Listing, add, try, swept, none_listed}
use Rattle.contour_rules.specs.Contours.{open_listed, contours_of}
use Rattle.contour_rules.specs.Once.{first_edge, Before, All, Ordered}
use Rattle.contour_rules.proofs.Waiting.{clash, follow_on}

all_map : {P Q : Contour → Type 0} (cs : List Contour) → ((c : Contour) → P c → Q c) → All P cs → All Q cs
all_map [] f a = tt
all_map (c ∷ cs) f a = (f c a.0, all_map cs f a.1)

all_more : (P : Contour → Type 0) (cs : List Contour) (d : Contour) → All P cs → P d → All P (cs ++ (d ∷ []))
all_more P [] d a p = (p, tt)
all_more P (c ∷ cs) d a p = (a.0, all_more P cs d a.1 p)

ordered_more : (cs : List Contour) (d : Contour) → Ordered cs → All (λ c. Before c d) cs
    → Ordered (cs ++ (d ∷ []))
ordered_more [] d o a = (tt, tt)
ordered_more (c ∷ cs) d o a = (all_more (Before c) cs d o.0 a.0, ordered_more cs d o.1 a.1)

-- what is found when a sweep has tried the edges below k: in the sweep for open contours only these, and what this
-- sweep found starts below k
abbrev Tried : Bool → ℕ → Contour → Type 0
Tried closes k c = ((c.closes ≡ false) × (closes ≡ true)) ⊎ ((c.closes ≡ closes) × (first_edge c < k))

later : (closes : Bool) (k : ℕ) (c : Contour) → Tried closes k c → Tried closes (suc k) c
later closes k c t = ⊎_elim (λ h. inl h) (λ h. inr (h.0, omega (arith, h.1))) t

module _ (g : Picture) where
  record Listed (closes : Bool) (l : Listing) (k : ℕ) : Type 0 where
    tried : All (Tried closes k) l.found
    order : Ordered l.found

  step : (closes : Bool) (l : Listing) (k : ℕ) → Listed closes l k → Listed closes (try g closes l k) (suc k)
  step closes l k i = go (closes || enters_at g k) (waits l.list k) refl
    where
      go : (a b : Bool) → waits l.list k ≡ b
          → Listed closes (cond (a && b) (add closes l (contour_from g l.list k)) l) (suc k)
      go true true w =
          let c : Contour = record { edges = contour_from g l.list k; closes = closes } in
          let first : first_edge c ≡ k = ap (λ (ns : List ℕ). get_or ns 0 0) (follow_on g l.list k w) in
          record {
            tried = all_more (Tried closes (suc k)) l.found c (all_map l.found (later closes k) i.tried)
                (inr (refl, omega (arith, first)));
            order = ordered_more l.found c i.order
                (all_map l.found (λ d t. ⊎_elim (λ h. inl h) (λ h. inr (h.0, omega (arith, h.1, first)))
                t) i.tried);
          }
      go true false w = record { tried = all_map l.found (later closes k) i.tried; order = i.order }
      go false b w = record { tried = all_map l.found (later closes k) i.tried; order = i.order }

  swept_order : (closes : Bool) (l : Listing) (k : ℕ) → Listed closes l 0 → Listed closes (swept g closes l k) k
  unfolding swept
  swept_order closes l zero i = i
  swept_order closes l (suc k) i = step closes (swept g closes l k) k (swept_order closes l k i)

  opened : Listed false (open_listed g) (edges_in g)
  opened = swept_order false (none_listed g) (edges_in g) (record { tried = tt; order = tt })

  pub in_order : Ordered (contours_of g)
  in_order =
      (swept_order true (open_listed g) (edges_in g)
      (record {
        tried = all_map (open_listed g).found
            (λ c t. ⊎_elim (λ h. clash h.1 refl) (λ h. inl (h.0, refl)) t) opened.tried;
        order = opened.order;
      })
      ).order
