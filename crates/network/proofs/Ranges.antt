-- Refusals 12, 13 and 15 are given exactly where the rules say. Assumes nothing.
use Rattle.std.specs.Prelude.{◌≡◌, ℕ, ◌≤◌, Bool, true, false, cond, ◌&&◌, leb}
use mathlib.Core.Path.{refl, sym, ◌∙◌, subst}
use mathlib.Core.Bool.{true≢false}
use mathlib.Core.{Logic.◌⊎◌, Logic.inl, Logic.inr, Logic.⊎_elim, Logic.◌↔◌, List.List}
use native.Mathlib.Omega.{arith}
use borrow.Author.Tests.{le-leb, eq-eqb, leb-true, eqb-true}
use Rattle.refusal.specs.{Range.all_within, Refuse.refuse, Refuse.first}
use Rattle.refusal.proofs.Ranges.{within_at, within_each}
use Rattle.network.specs.declared.Frame.{Frame}
use Rattle.network.specs.Limits.{max_network_level}
use Rattle.network.specs.Refusals.{between, sided, placed, filled, network_refusal}
use Rattle.network.specs.Refusals.{contour_checked, contour_refusal}
use Rattle.network.specs.Ranges.{RightFrame, RightLevels, RightContour}
use Rattle.network.specs.Ranges.{NetworkRefused, ContourRefused, RoomRefused}
use Rattle.network.proofs.Refusals.{both, in_between, contour_then}

-- ---- each test passes exactly if what it stands for holds

levels_right : (levels : List ℕ) → (all_within 150000 levels ≡ true) ↔ RightLevels levels
levels_right levels = (λ h i l. within_at 150000 levels i h, within_each 150000 levels)

contour_right : (v : ℕ) → (between 1 v 150000 ≡ true) ↔ RightContour v
contour_right v = (λ h. in_between 1 v 150000 h, λ h. rw (le-leb 1 v h.0, le-leb v 150000 h.1))

-- a frame by itself: its sides, its spacing and its place
abbrev pub FrameRange : Frame → Type 0
FrameRange f =
    ((2 ≤ f.columns) × (f.columns ≤ 256)) × ((2 ≤ f.rows) × (f.rows ≤ 256))
    × ((1 ≤ f.spacing) × (f.spacing ≤ 500)) × (f.west ≤ 900000) × (f.south ≤ 900000)

pub frame_alone : (f : Frame) → ((sided f && placed f) ≡ true) ↔ FrameRange f
frame_alone f = (right, passes)
  where
    right : (sided f && placed f) ≡ true → FrameRange f
    right h =
        let s = both (sided f) (placed f) h in
        let d = both (between 2 f.columns 256) (between 2 f.rows 256) s.0 in
        let o = both (between 1 f.spacing 500) (leb f.west 900000 && leb f.south 900000) s.1 in
        let w = both (leb f.west 900000) (leb f.south 900000) o.1 in (
          in_between 2 f.columns 256 d.0,
          in_between 2 f.rows 256 d.1,
          in_between 1 f.spacing 500 o.0,
          leb-true _ _ w.0,
          leb-true _ _ w.1,
        )

    passes : FrameRange f → (sided f && placed f) ≡ true
    passes r =
        rw (
          le-leb 2 f.columns r.0.0,
          le-leb f.columns 256 r.0.1,
          le-leb 2 f.rows r.1.0,
          le-leb f.rows 256 r.1.1,
          le-leb 1 f.spacing r.2.0,
          le-leb f.spacing 500 r.2.1,
          le-leb f.west 900000 r.3,
          le-leb f.south 900000 r.4,
        )

frame_right : (levels : List ℕ) (f : Frame)
    → ((sided f && placed f && filled levels f) ≡ true) ↔ RightFrame levels f
frame_right levels f = (
  λ h.
      let p = both (sided f && placed f) (filled levels f) h in
      let r = (frame_alone f).0 p.0 in
      record { wide = r.0; tall = r.1; spaced = r.2; west = r.3; south = r.4; values = eqb-true _ _ p.1 },
  λ r.
      both_pass ((frame_alone f).1 (r.wide, r.tall, r.spaced, r.west, r.south)) (eq-eqb _ _ r.values),
)
  where
    both_pass : {a b : Bool} → a ≡ true → b ≡ true → (a && b) ≡ true
    both_pass p q = rw (p, q)

-- ---- so each number is given exactly when it is due

-- a test that fails rules out what it stands for
fails : {A : Type 0} {a : Bool} → (a ≡ true) ↔ A → a ≡ false → A → ⊥
fails p f x = true≢false (sym (p.1 x) ∙ f)

-- tests of A, B and C in the order 12, 13, 15, and `rest` after them
module _ (A B C : Type 0) (rest : ℕ) (no12 : rest ≡ 12 → ⊥) (no13 : rest ≡ 13 → ⊥) (no15 : rest ≡ 15
    → ⊥) where
  abbrev answer : Bool → Bool → Bool → ℕ
  answer a b c = cond a (cond b (cond c rest 15) 13) 12

  abbrev Given : ℕ → Type 0
  Given n =
      (((n ≡ 12) ↔ (A → ⊥)) × ((n ≡ 13) ↔ (A × (B → ⊥))))
      × (((n ≡ 15) ↔ (A × (B × (C → ⊥)))) × ((n ≡ rest) ↔ (A × (B × C))))

  in_order : (a b c : Bool) → (a ≡ true) ↔ A → (b ≡ true) ↔ B → (c ≡ true) ↔ C
      → Given (answer a b c)
  in_order true true true p q r = (
    ((λ h. absurd (no12 h), λ n. absurd (n (p.0 refl))), (λ h. absurd (no13 h), λ n. absurd (n.1 (q.0 refl)))),
    (
      (λ h. absurd (no15 h), λ n. absurd (n.1.1 (r.0 refl))),
      (λ h. (p.0 refl, (q.0 refl, r.0 refl)), λ n. refl),
    ),
  )
  in_order true true false p q r = (
    (
      (λ h. absurd (omega arith), λ n. absurd (n (p.0 refl))),
      (λ h. absurd (omega arith), λ n. absurd (n.1 (q.0 refl))),
    ),
    (
      (λ h. (p.0 refl, (q.0 refl, fails r refl)), λ n. refl),
      (λ h. absurd (no15 (sym h)), λ n. absurd (fails r refl n.1.1)),
    ),
  )
  in_order true false c p q r = (
    ((λ h. absurd (omega arith), λ n. absurd (n (p.0 refl))), (λ h. (p.0 refl, fails q refl), λ n. refl)),
    (
      (λ h. absurd (omega arith), λ n. absurd (fails q refl n.1.0)),
      (λ h. absurd (no13 (sym h)), λ n. absurd (fails q refl n.1.0)),
    ),
  )
  in_order false b c p q r = (
    ((λ h. fails p refl, λ n. refl), (λ h. absurd (omega arith), λ n. absurd (fails p refl n.0))),
    (
      (λ h. absurd (omega arith), λ n. absurd (fails p refl n.0)),
      (λ h. absurd (no12 (sym h)), λ n. absurd (fails p refl n.0)),
    ),
  )

pub contour_refused : (levels : List ℕ) (f : Frame) (v rest : ℕ) → (rest ≡ 0) ⊎ (rest ≡ 14)
    → ContourRefused levels f v rest (contour_checked max_network_level levels f v rest)
contour_refused levels f v rest e =
    let i = in_order (RightFrame levels f) (RightLevels levels) (RightContour v) rest
    (other 12 (λ h. omega arith) (λ h. omega arith))
    (other 13 (λ h. omega arith) (λ h. omega arith)) (other 15 (λ h. omega arith) (λ h. omega arith))
    (sided f && placed f && filled levels f) (all_within 150000 levels) (between 1 v 150000)
    (frame_right levels f) (levels_right levels) (contour_right v) in
    record { twelve = i.0.0; thirteen = i.0.1; fifteen = i.1.0; others = i.1.1 }
  where
    other : (n : ℕ) → (0 ≡ n → ⊥) → (14 ≡ n → ⊥) → rest ≡ n → ⊥
    other n a b h = ⊎_elim (λ k. a (sym k ∙ h)) (λ k. b (sym k ∙ h)) e

pub room_refused : (levels : List ℕ) (f : Frame) (v : ℕ) (Enough : Type 0) (b : Bool) → (b ≡ true) ↔ Enough
    → RoomRefused levels f v Enough (first (contour_refusal levels f v) (refuse 14 b 0))
room_refused levels f v Enough b i =
    subst (RoomRefused levels f v Enough) (contour_then max_network_level levels f v (refuse 14 b 0)) (go b i)
  where
    go : (b : Bool) → (b ≡ true) ↔ Enough
        → RoomRefused levels f v Enough (contour_checked max_network_level levels f v (refuse 14 b 0))
    go true i = record { enough = λ _. contour_refused levels f v 0 (inl refl); short = λ n. absurd (n (i.0 refl)) }
    go false i = record {
      enough = λ e. absurd (fails i refl e);
      short =
          λ _. contour_refused levels f v 14 (inr refl);
    }

-- without a contour level, the same with a third test that always passes
pub network_refused : (levels : List ℕ) (f : Frame) → NetworkRefused levels f (network_refusal levels f)
network_refused levels f =
    let i = in_order (RightFrame levels f) (RightLevels levels) (Unit {0}) 0
    (λ h. omega arith) (λ h. omega arith) (λ h. omega arith)
    (sided f && placed f && filled levels f) (all_within 150000 levels) true
    (frame_right levels f) (levels_right levels) (λ _. tt, λ _. refl) in
    record {
      twelve = i.0.0;
      thirteen = i.0.1;
      none = (λ h. ((i.1.1.0 h).0, (i.1.1.0 h).1.0), λ h. i.1.1.1 (h.0, (h.1, tt)));
    }
