-- The order of refusals: RULES, "Refusal numbers".
-- Assumes nothing.
use Rattle.std.specs.Prelude.{ℕ, Bool, cond, eqb}

-- `refuse n ok rest`: refusal n where `ok` fails, else what the rest says; 0 is no refusal
abbrev pub refuse : ℕ → Bool → ℕ → ℕ
refuse n ok rest = cond ok rest n

-- a refusal, or what follows where there is none
abbrev pub first : (refusal next : ℕ) → ℕ
first refusal next = cond (eqb refusal 0) next refusal
