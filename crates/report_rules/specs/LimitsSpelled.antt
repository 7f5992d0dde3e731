-- limits.csv: how its two lines spell points, days and limits, and what refuses it: RULES, "Files and the report
-- program". Assumes nothing.
use Rattle.std.specs.Prelude.{ℕ, ◌+◌, ◌*◌, ◌≤◌, ◌<◌, ◌≡◌, ◌⊎◌, List, [], length, get_or, take}
use Prim.Native.Char.{code}
use Rattle.text.specs.Line.{lines_of}
use Rattle.text.specs.Field.{count_of, field_of}
use Rattle.text.specs.Number.{show_whole, show_level}
use Rattle.text.specs.Spelled.{bytes}
use Rattle.register.specs.LimitsFile.{LimitsFile}
use Rattle.register.specs.LimitsFile.{limits_of}

-- line 1 is the header of n points, 1 to 8
pub record Headed (n : ℕ) (line : List ℕ) : Type 0 where
  pub some : 1 ≤ n
  pub few : n ≤ 8
  pub spelled : line ≡ take (4 + 3 * n) (bytes "days,p1,p2,p3,p4,p5,p6,p7,p8")

-- line 2 has the days and a limit for each of n points, each on its layout, and no field more
pub record Valued (n days : ℕ) (limits line : List ℕ) : Type 0 where
  pub fields : count_of (code ",") line ≡ n
  pub days= : field_of (code ",") 0 line ≡ show_whole days
  pub seven : days < 10000000
  pub limit : (i : ℕ) → i < n → field_of (code ",") (1 + i) line ≡ show_level (get_or limits i 0)
  pub three : (i : ℕ) → i < n → get_or limits i 0 < 100000

-- limits.csv refused with this number at this line
abbrev pub RefusedAt : LimitsFile → (number line : ℕ) → Type 0
RefusedAt l number line = (l.refusal ≡ number) × (l.line ≡ line)

-- limits.csv accepted, with these points, days and limits
pub record Accepted (l : LimitsFile) (n days : ℕ) (limits : List ℕ) : Type 0 where
  pub refusal : l.refusal ≡ 0
  pub points : l.points ≡ n
  pub days= : l.days ≡ days
  pub limits= : (i : ℕ) → i < n → get_or l.limits i 0 ≡ get_or limits i 0

-- What limits.csv gets, by its lines; one that is missing counts as empty
pub record LimitsExactly (text : List ℕ) : Type 0 where
  -- no header of 1 to 8 points: 16 at line 1
  pub headless : ((n : ℕ) → Headed n (get_or (lines_of text) 0 []) → ⊥) → RefusedAt (limits_of text) 16 1
  -- a header, and a second line off its layout: 16 at line 2
  pub second : (n : ℕ) → Headed n (get_or (lines_of text) 0 [])
      → ((d : ℕ) (ls : List ℕ) → Valued n d ls (get_or (lines_of text) 1 []) → ⊥)
      → RefusedAt (limits_of text) 16 2
  -- both on their layout: 16 at line 3 for a third line, then 11 and then 15 at line 2, or accepted
  pub third : (n d : ℕ) (ls : List ℕ) → Headed n (get_or (lines_of text) 0 [])
      → Valued n d ls (get_or (lines_of text) 1 [])
      → 2 < length (lines_of text) → RefusedAt (limits_of text) 16 3
  pub eleven : (n d : ℕ) (ls : List ℕ) → Headed n (get_or (lines_of text) 0 [])
      → Valued n d ls (get_or (lines_of text) 1 [])
      → length (lines_of text) ≤ 2 → (d ≡ 0) ⊎ (366 < d) → RefusedAt (limits_of text) 11 2
  pub fifteen : (n d : ℕ) (ls : List ℕ) → Headed n (get_or (lines_of text) 0 [])
      → Valued n d ls (get_or (lines_of text) 1 [])
      → length (lines_of text) ≤ 2 → (1 ≤ d) × (d ≤ 366)
      → (i : ℕ) → i < n → 12000 < get_or ls i 0
      → RefusedAt (limits_of text) 15 2
  pub accepted : (n d : ℕ) (ls : List ℕ) → Headed n (get_or (lines_of text) 0 [])
      → Valued n d ls (get_or (lines_of text) 1 [])
      → length (lines_of text) ≤ 2 → (1 ≤ d) × (d ≤ 366)
      → ((i : ℕ) → i < n → get_or ls i 0 ≤ 12000)
      → Accepted (limits_of text) n d ls
