-- How a line passes a square whose corners are in or out. Assumes nothing.
use mathlib.Core.Path.{◌≡◌, refl, ap, ◌∙◌}
use mathlib.Core.{Bool.Bool, Bool.true, Bool.false, Logic.◌⊎◌, Logic.inl, Logic.inr, Logic.⊎_elim}
use Rattle.contour_rules.specs.declared.Side.{Side}
use Rattle.contour_rules.specs.declared.Side.TheVariants.{South, East, North, West}
use Rattle.contour_rules.specs.Squares.{turn, exit_side}
use Rattle.contour_rules.proofs.{Back.four_turns, Waiting.clash}

-- what holds of a side and the three after it holds of each side
sides : (P : Side → Type 0) → P South → P East → P North → P West → (t : Side) → P t
sides P a b c d South = a
sides P a b c d East = b
sides P a b c d North = c
sides P a b c d West = d

pub around : (P : Side → Type 0) (s : Side) → P s → P (turn s) → P (turn (turn s)) → P (turn (turn (turn s)))
    → (t : Side) → P t
around P South a b c d = sides P a b c d
around P East a b c d = sides P d a b c
around P North a b c d = sides P c d a b
around P West a b c d = sides P b c d a

-- one end of a side is in and the other is not, where `k` says which corners are in
abbrev pub Unlike : (Side → Bool) → Side → Type 0
Unlike k t = ((k t ≡ true) × (k (turn t) ≡ false)) ⊎ ((k t ≡ false) × (k (turn t) ≡ true))

like : {A : Type 0} (k : Side → Bool) (b : Bool) (t : Side) → k t ≡ b → k (turn t) ≡ b → Unlike k t → A
like k true t p q u = ⊎_elim (λ h. clash q h.1) (λ h. clash p h.0) u
like k false t p q u = ⊎_elim (λ h. clash h.0 p) (λ h. clash h.1 q) u

-- in a square whose corners are `k`, with the corner on the left of the side entered in and that on its right out
module _ (k : Side → Bool) (s : Side) (left : k s ≡ true) (right : k (turn s) ≡ false) where
  abbrev exit : Bool → Side
  exit cut = exit_side (k (turn (turn s))) (k (turn (turn (turn s)))) cut s

  -- the line leaves over a side with the out corner on the left and the in corner on the right, seen from inside; and
  -- no side but these two is crossed, or all four are
  pub record Passes (s' : Side) : Type 0 where
    pub out_left : k s' ≡ false
    pub in_right : k (turn s') ≡ true
    pub two_or_four : ((t : Side) → Unlike k t → (t ≡ s) ⊎ (t ≡ s')) ⊎ ((t : Side) → Unlike k t)

  third : k (turn (turn (turn (turn s)))) ≡ true
  third = ap k (four_turns s) ∙ left

  pub passes : (cut : Bool) → Passes (exit cut)
  passes cut = go (k (turn (turn s))) (k (turn (turn (turn s)))) cut refl refl
    where
      all : k (turn (turn s)) ≡ true → k (turn (turn (turn s))) ≡ false → (t : Side) → Unlike k t
      all p q = around (Unlike k) s (inl (left, right)) (inr (right, p)) (inl (p, q)) (inr (q, third))

      go : (a b t : Bool) → k (turn (turn s)) ≡ a → k (turn (turn (turn s))) ≡ b → Passes (exit_side a b t s)
      go true true t p q = record {
        out_left = right;
        in_right = p;
        two_or_four = inl (around (λ t. Unlike k t → (t ≡ s) ⊎ (t ≡ turn s)) s (λ _. inl refl) (λ _. inr refl)
            (like k true (turn (turn s)) p q) (like k true (turn (turn (turn s))) q third));
      }
      go false true t p q = record {
        out_left = p;
        in_right = q;
        two_or_four = inl (around (λ t. Unlike k t → (t ≡ s) ⊎ (t ≡ turn (turn s))) s (λ _. inl refl)
            (like k false (turn s) right p) (λ _. inr refl) (like k true (turn (turn (turn s))) q third));
      }
      go false false t p q = record {
        out_left = q;
        in_right = third;
        two_or_four = inl (around (λ t. Unlike k t → (t ≡ s) ⊎ (t ≡ turn (turn (turn s)))) s (λ _. inl refl)
            (like k false (turn s) right p) (like k false (turn (turn s)) p q) (λ _. inr refl));
      }
      go true false true p q = record { out_left = right; in_right = p; two_or_four = inr (all p q) }
      go true false false p q = record { out_left = q; in_right = third; two_or_four = inr (all p q) }
