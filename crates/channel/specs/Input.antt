-- Bytes as they come: from standard input, or from a file. Assumes nothing.
use Rattle.std.specs.Prelude.{◌≡◌, ℕ, ◌+◌, ◌-◌, ◌^◌, ◌<◌, ◌≤◌, Bool, true, false, List, ◌++◌, length, take, ◌≢◌}
use Rattle.channel.specs.declared.input.Arrived.{Arrived}
use Rattle.channel.specs.declared.input.Arrived.TheVariants.{Bytes, End, Failed}
use Rattle.channel.specs.declared.whole.Filled.{Filled}
use Rattle.channel.specs.declared.whole.Filled.TheVariants.{Complete, FailedAfter, Full}
use Rattle.channel.specs.System.{Origin, First, Whole, Broken}
use Rattle.channel.specs.System.Origin.{input, file}

-- what a source gives: the file that was opened under a name, or else standard input
abbrev pub origin_of : (opened : Bool) (name : List ℕ) → Origin
origin_of true name = file name
origin_of false name = input

-- `taken` bytes came, and they are these
pub record Came (origin : Origin) (taken : ℕ) (bytes : List ℕ) : Type 0 where
  pub first : First origin bytes
  pub long : length bytes ≡ taken

-- the count behind an end or a failure: no bytes are so many, so nothing is known of a read behind it
abbrev pub used_up : ℕ
used_up = 2 ^ 64 - 1

-- One read: bytes came behind those before, and stand at the front of the room; there are no more; or it failed, which
-- says nothing where no room was lent
abbrev pub Gave : (origin : Origin) (taken : ℕ) (r : Arrived) (taken' : ℕ) (room : List ℕ) → Type 0
Gave origin taken (Bytes n) taken' room =
    (1 ≤ n) × (n ≤ length room) × (taken' ≡ taken + n) × (taken' + 1 < 2 ^ 64)
    × ((old : List ℕ) → Came origin taken old → Came origin taken' (old ++ take n room))
Gave origin taken End taken' room =
    (taken' ≡ used_up) × ((old : List ℕ) → Came origin taken old → Whole origin old)
Gave origin taken Failed taken' room =
    (taken' ≡ used_up) × (1 ≤ length room → (old : List ℕ) → Came origin taken old → Broken origin old)

pub record Reads (origin : Origin) (taken : ℕ) (r : Arrived) (taken' : ℕ) (room : List ℕ) : Type 0 where
  pub gave : Gave origin taken r taken' room

-- Behind an end or a failure the count fits no bytes but more than can be counted: nothing is known of what a further
-- read answers
pub record Final (origin : Origin) (r : Arrived) (taken' : ℕ) : Type 0 where
  pub no_more : ((n : ℕ) → r ≢ Bytes n)
      → (old : List ℕ) → Came origin taken' old → 2 ^ 64 ≤ length old + 1

-- All reads into a buffer: to the end, up to a read that failed, or until the buffer is full
abbrev pub Filling : (origin : Origin) (r : Filled) (text : List ℕ) → Type 0
Filling origin (Complete n) text = (n ≤ length text) × First origin (take n text) × Whole origin (take n text)
Filling origin (FailedAfter n) text = (n ≤ length text) × First origin (take n text) × Broken origin (take n text)
Filling origin Full text = First origin text

pub record Fills (origin : Origin) (r : Filled) (text : List ℕ) : Type 0 where
  pub filling : Filling origin r text
