-- What a network that is not refused is. Assumes nothing.
use mathlib.Core.{Path.◌≡◌, Path.refl, Path.sym, Path.◌∙◌, Bool.Bool, Bool.true, Bool.false, Bool.◌&&◌, Bool.cond}
use mathlib.Core.List.{List}
use Rattle.std.specs.Prelude.{ℕ, ◌≤◌, leb}
use native.Mathlib.Omega.{arith}
use borrow.Author.Tests.{leb-true, eqb-true}
use Rattle.refusal.specs.{Range.all_within, Refuse.first, Refusal.number_of, declared.Refusal.Refusal}
use Rattle.refusal.proofs.{Laws.and_left, Laws.and_right, Laws.numbered, Ranges.within_at}
use Rattle.network.specs.declared.Frame.{Frame}
use Rattle.network.specs.Limits.{least_side, max_side, least_spacing, max_spacing, max_origin}
use Rattle.network.specs.Limits.{max_network_level, least_contour, max_contour}
use Rattle.network.specs.Edges.{Sides, Checked}
use Rattle.network.specs.Refusals.{between, sided, placed, filled, checked, network_refusal}
use Rattle.network.specs.Refusals.{contour_checked, contour_refusal}

pub both : (a b : Bool) → (a && b) ≡ true → (a ≡ true) × (b ≡ true)
both a b h = (and_left a b h, and_right a b h)

pub in_between : (low x high : ℕ) → between low x high ≡ true → (low ≤ x) × (x ≤ high)
in_between low x high h = let p = both (leb low x) (leb x high) h in (leb-true _ _ p.0, leb-true _ _ p.1)

-- ---- a network that is not refused

sides_of : (f : Frame) → sided f ≡ true → Sides f.columns f.rows
sides_of f h =
    let p = both (between least_side f.columns max_side) (between least_side f.rows max_side) h in
    let x = in_between least_side f.columns max_side p.0 in
    let y = in_between least_side f.rows max_side p.1 in
    record { wide = x.0; narrow = x.1; tall = y.0; low = y.1 }

pub is_checked : (levels : List ℕ) (f : Frame) → (sided f && placed f && filled levels f) ≡ true
    → all_within max_network_level levels ≡ true → Checked levels f
is_checked levels f h q =
    let p = both (sided f && placed f) (filled levels f) h in
    let s = both (sided f) (placed f) p.0 in
    let o = both (between least_spacing f.spacing max_spacing)
    (leb f.west max_origin && leb f.south max_origin) s.1 in
    let w = both (leb f.west max_origin) (leb f.south max_origin) o.1 in
    record {
      sized = record { sides = sides_of f s.0; full = eqb-true _ _ p.1 };
      near = (in_between least_spacing f.spacing max_spacing o.0).1;
      west = leb-true _ _ w.0;
      south = leb-true _ _ w.1;
      quiet = λ i. within_at max_network_level levels i q;
    }

-- a call whose refusal is 0 has a checked network, and a contour level in its range
pub not_refused_lem : (levels : List ℕ) (f : Frame) → network_refusal levels f ≡ 0 → Checked levels f
not_refused_lem levels f h = go (sided f && placed f && filled levels f) (all_within max_network_level levels) refl
    refl h
  where
    go : (a b : Bool) → (sided f && placed f && filled levels f) ≡ a → all_within max_network_level levels ≡ b
        → ◌≡◌ {A = ℕ} (cond a (cond b 0 13) 12) 0 → Checked levels f
    go true true p q e = is_checked levels f p q
    go true false p q e = absurd (omega arith)
    go false b p q e = absurd (omega arith)

pub contour_not_refused : (levels : List ℕ) (f : Frame) (v : ℕ) → contour_refusal levels f v ≡ 0
    → Checked levels f × ((least_contour ≤ v) × (v ≤ max_contour))
contour_not_refused levels f v h =
    go (sided f && placed f && filled levels f) (all_within max_network_level levels)
    (between least_contour v max_contour)
    refl refl refl h
  where
    go : (a b c : Bool) → (sided f && placed f && filled levels f) ≡ a → all_within max_network_level levels ≡ b
        → between least_contour v max_contour ≡ c → ◌≡◌ {A = ℕ} (cond a (cond b (cond c 0 15) 13) 12) 0
        → Checked levels f × ((least_contour ≤ v) × (v ≤ max_contour))
    go true true true p q r e = (is_checked levels f p q, in_between least_contour v max_contour r)
    go true true false p q r e = absurd (omega arith)
    go true false c p q r e = absurd (omega arith)
    go false b c p q r e = absurd (omega arith)

-- ---- what comes after the check

module _ (max : ℕ) (levels : List ℕ) (f : Frame) where
  abbrev framed : Bool
  framed = sided f && placed f && filled levels f

  -- where the network is not refused the rest decides, and else its refusal stands
  pub checked_on : (rest : ℕ) → checked max levels f 0 ≡ 0 → checked max levels f rest ≡ rest
  checked_on rest h = go framed (all_within max levels) h
    where
      go : (a b : Bool) → ◌≡◌ {A = ℕ} (cond a (cond b 0 13) 12) 0 → cond a (cond b rest 13) 12 ≡ rest
      go true true e = refl
      go true false e = absurd (omega arith)
      go false b e = absurd (omega arith)

  pub checked_off : (rest : ℕ) → (checked max levels f 0 ≡ 0 → ⊥)
      → checked max levels f rest ≡ checked max levels f 0
  checked_off rest h = go framed (all_within max levels) h
    where
      go : (a b : Bool) → (◌≡◌ {A = ℕ} (cond a (cond b 0 13) 12) 0 → ⊥)
          → ◌≡◌ {A = ℕ} (cond a (cond b rest 13) 12) (cond a (cond b 0 13) 12)
      go true true e = absurd (e refl)
      go true false e = refl
      go false b e = refl

  -- so a call that hands a network's refusal on answers as the check of the call does
  pub checked_err : (rest : ℕ) (why : Refusal) → number_of why ≡ checked max levels f 0
      → number_of why ≡ checked max levels f rest
  checked_err rest why e =
      e ∙ sym (checked_off rest (λ h. let low = numbered why in omega arith))

  -- the same with a contour level: its refusal, and then the rest
  pub contour_then : (v rest : ℕ)
      → contour_checked max levels f v rest ≡ first (contour_checked max levels f v 0) rest
  contour_then v rest = go framed (all_within max levels) (between least_contour v max_contour)
    where
      go : (a b c : Bool)
          → ◌≡◌ {A = ℕ} (cond a (cond b (cond c rest 15) 13) 12)
          (first (cond a (cond b (cond c 0 15) 13) 12) rest)
      go true true true = refl
      go true true false = refl
      go true false c = refl
      go false b c = refl
