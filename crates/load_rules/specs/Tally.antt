-- V, U and S of each group.
-- Assumes nothing.
use Rattle.std.specs.Prelude.{ℕ, zero, suc, ◌+◌, cond, List, [], ◌∷◌, eqb}
use Rattle.load_rules.specs.declared.Group.{Group}
use Rattle.load_rules.specs.Shares.{Share}
use Rattle.load_rules.specs.Shares.Share.{has, lacks}

abbrev pub group_with : (computed missing energy : ℕ) → Group
group_with v u s = record { computed = v; missing = u; energy = s }

-- what one share adds to V, U and S of group g
unfoldable pub adds_computed : ℕ → Share → ℕ
adds_computed g (has h e) = cond (eqb h g) 1 0
adds_computed g (lacks h) = 0

unfoldable pub adds_missing : ℕ → Share → ℕ
adds_missing g (has h e) = 0
adds_missing g (lacks h) = cond (eqb h g) 1 0

unfoldable pub adds_energy : ℕ → Share → ℕ
adds_energy g (has h e) = cond (eqb h g) e 0
adds_energy g (lacks h) = 0

unfoldable pub sum_of : (Share → ℕ) → List Share → ℕ
sum_of w [] = 0
sum_of w (s ∷ ss) = w s + sum_of w ss

-- V, U and S of group g
unfoldable pub tally : List Share → ℕ → Group
tally ss g = group_with (sum_of (adds_computed g) ss) (sum_of (adds_missing g) ss) (sum_of (adds_energy g) ss)

-- f at i and the n - 1 numbers after it
abbrev pub list_from : {A : Type 0} (f : ℕ → A) (i n : ℕ) → List A
list_from f i zero = []
list_from f i (suc n) = f i ∷ list_from f (suc i) n
