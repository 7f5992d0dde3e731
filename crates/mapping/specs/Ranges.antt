-- What is answered for the edge of a number: RULES, "Network and contours", with its formulas written out.
-- Assumes nothing.
use Rattle.std.specs.Prelude.{◌≡◌, ℕ, ◌+◌, ◌-◌, ◌*◌, ◌<◌, ◌≤◌, false, T, List, Float, Option, Some, Result, Ok}
use Rattle.std.specs.Float.{binary64}
use Rattle.std.specs.Float.Ieee.{round, le}
use Rattle.std.specs.Float.Ieee.Exact.{HasValue}
use Rattle.refusal.specs.declared.Refusal.{Refusal}
use Rattle.refusal.specs.Refusal.{told}
use Rattle.network.specs.declared.Frame.{Frame}
use Rattle.network.specs.Numbering.{point_level, Parts, OneIn}
use Rattle.network.specs.Ranges.{ContourRefused}
use Rattle.mapping.specs.declared.Crossing.{Crossing}
use Rattle.mapping.specs.declared.Crossing.TheVariants.{AlongHorizontal, AlongVertical}
use Rattle.mapping.specs.declared.Located.{Located}
use Rattle.mapping.specs.declared.Located.TheVariants.{OnHorizontal, OnVertical}
use Rattle.mapping.specs.Fractions.{whole, asked_which, asked_fraction}
use Rattle.mapping.specs.Places.{mapped_shown}

-- x lies from the whole number `low` to the whole number `high`
abbrev pub Within : ℕ → Float → ℕ → Type 0
Within low x high = T (le (whole low) x) × T (le x (whole high))

-- x is the whole number n, exactly
abbrev pub Exactly : Float → ℕ → Type 0
Exactly x n = HasValue x false n 1

-- x is over / under, exactly
pub record Value (x : Float) : Type 0 where
  pub over : ℕ
  pub under : ℕ
  pub above_zero : 0 < under
  pub exact : HasValue x false over under

-- x is the binary64 nearest to the exact over / under: what a step rounded once gives
abbrev pub Nearest : Float → ℕ → ℕ → Type 0
Nearest x over under = x ≡ round binary64 false over under

-- on an edge from a (west or south end) to b: num = |v−a| and den = |b−a|; the one division num/den,
-- never under 0 or over 1
pub record Divided (v a b : ℕ) (fraction : Float) : Type 0 where
  pub num : ℕ
  pub den : ℕ
  pub parts : Parts v a b num den
  pub quotient : Nearest fraction num den
  pub within : Within 0 fraction 1

-- the moving coordinate: ((index + fraction) × spacing) + origin in that order, each step rounded once;
-- it lies on its edge
pub record Moves (index : ℕ) (fraction : Float) (spacing origin : ℕ) (x : Float) : Type 0 where
  pub fraction_value_rule : Value fraction
  pub sum : Float
  pub sum_is : Nearest sum (index * fraction_value_rule.under + fraction_value_rule.over) fraction_value_rule.under
  pub sum_value_rule : Value sum
  pub product : Float
  pub product_is : Nearest product (sum_value_rule.over * spacing) sum_value_rule.under
  pub product_value : Value product
  pub last : Nearest x (product_value.over + origin * product_value.under) product_value.under
  pub on_edge : Within (index * spacing + origin) x ((index + 1) * spacing + origin)

-- what the two calls answer
abbrev pub Asked : Type 0
Asked = Result Crossing Refusal

abbrev pub Mapped : Type 0
Mapped = Result (Option Located) Refusal

module _ (levels : List ℕ) (f : Frame) (v : ℕ) where
  abbrev pub level : ℕ → ℕ → ℕ
  level row col = point_level levels f.columns row col

  -- along the horizontal edge at a row and column: its number is 1, and x moves
  pub record AlongRow (row col : ℕ) (asked : Asked) (mapped : Mapped) : Type 0 where
    pub which : (asked_which asked ≡ 1) × ((mapped_shown mapped).which ≡ 1)
    pub crossing : asked ≡ Ok (AlongHorizontal (asked_fraction asked))
    pub located : mapped ≡
        Ok (Some (OnHorizontal (record { x = (mapped_shown mapped).x; y = (mapped_shown mapped).y })))
    pub fraction : Divided v (level row col) (level row (col + 1)) (asked_fraction asked)
    pub x_moves : Moves col (asked_fraction asked) f.spacing f.west (mapped_shown mapped).x
    pub y_exact : Exactly (mapped_shown mapped).y (row * f.spacing + f.south)

  -- along the vertical edge at a row and column: its number is 2, and y moves
  pub record AlongColumn (row col : ℕ) (asked : Asked) (mapped : Mapped) : Type 0 where
    pub which : (asked_which asked ≡ 2) × ((mapped_shown mapped).which ≡ 2)
    pub crossing : asked ≡ Ok (AlongVertical (asked_fraction asked))
    pub located : mapped ≡
        Ok (Some (OnVertical (record { x = (mapped_shown mapped).x; y = (mapped_shown mapped).y })))
    pub fraction : Divided v (level row col) (level (row + 1) col) (asked_fraction asked)
    pub x_exact : Exactly (mapped_shown mapped).x (col * f.spacing + f.west)
    pub y_moves : Moves row (asked_fraction asked) f.spacing f.south (mapped_shown mapped).y

  -- none: its number is 0
  abbrev pub None : Asked → Mapped → Type 0
  None asked mapped = (asked_which asked ≡ 0) × ((mapped_shown mapped).which ≡ 0)

  -- asked by edge number n, crossing and map point are none exactly where that edge isn't in the network
  -- or isn't crossed
  pub record ByNumber (n : ℕ) (asked : Asked) (mapped : Mapped) : Type 0 where
    pub row_crossed : (row col : ℕ) → row < f.rows → col + 1 < f.columns → n ≡ row * (f.columns - 1) + col
        → OneIn levels f.columns v row col row (col + 1) → AlongRow row col asked mapped
    pub row_not : (row col : ℕ) → row < f.rows → col + 1 < f.columns → n ≡ row * (f.columns - 1) + col
        → (OneIn levels f.columns v row col row (col + 1) → ⊥) → None asked mapped
    pub column_crossed : (row col : ℕ) → row + 1 < f.rows → col < f.columns
        → n ≡ f.rows * (f.columns - 1) + row * f.columns + col
        → OneIn levels f.columns v row col (row + 1) col → AlongColumn row col asked mapped
    pub column_not : (row col : ℕ) → row + 1 < f.rows → col < f.columns
        → n ≡ f.rows * (f.columns - 1) + row * f.columns + col
        → (OneIn levels f.columns v row col (row + 1) col → ⊥) → None asked mapped
    pub past : f.rows * (f.columns - 1) + (f.rows - 1) * f.columns ≤ n → None asked mapped

  -- the two calls: 12, 13, 15, and then the answer for that number; the fraction is in its range in any case
  pub record Answered (n : ℕ) (asked : Asked) (mapped : Mapped) : Type 0 where
    pub asked_refusal_rule : ContourRefused levels f v 0 (told asked)
    pub mapped_refusal_rule : ContourRefused levels f v 0 (told mapped)
    pub fraction_range : Within 0 (asked_fraction asked) 1
    pub by_number : told asked ≡ 0 → ByNumber n asked mapped
