-- What only the operating system can say: which bytes came and went. No contract of std's reading and writing says
-- it. So nothing proves one of these statements but its own `system_..`, which takes what a call answered and says what
-- that means. No file outside this crate may name a `system_..`: tools/check-channel, run by the gate, refuses it.
-- Assumes nothing.
use Rattle.std.specs.Prelude.{◌≡◌, ℕ, ◌+◌, ◌^◌, ◌≤◌, Bool, true, false, List, [], ◌++◌, length, take, ◌≢◌}
use Rattle.std.specs.Prelude.{Result, Ok, Err}
use Rattle.channel.specs.declared.file.Source.{Source}
use Rattle.channel.specs.declared.file.Source.TheVariants.{Input, Absent}

-- where bytes come from: standard input, or the file of a name
pub data Origin : Type 0 where
  input : Origin
  file : (name : List ℕ) → Origin

-- a source gives what comes from an origin
pub Descriptor : (source : Source) (origin : Origin) → Type 0
Descriptor source origin = Unit

-- the first bytes that came from an origin are these
pub First : (origin : Origin) (bytes : List ℕ) → Type 0
First origin bytes = Unit

-- these are all
pub Whole : (origin : Origin) (bytes : List ℕ) → Type 0
Whole origin bytes = Unit

-- behind these the next read failed
pub Broken : (origin : Origin) (bytes : List ℕ) → Type 0
Broken origin bytes = Unit

-- the first bytes that went to standard output are these
pub Sent : (bytes : List ℕ) → Type 0
Sent bytes = Unit

-- a part that was handed to standard output was not taken whole
pub Lost : Type 0
Lost = Unit

-- the program has so many arguments, and this is one of them, counted from 1, as it is handed over into so much room
pub Arguments : (count : ℕ) → Type 0
Arguments count = Unit

pub Argument : (number size : ℕ) (bytes : List ℕ) → Type 0
Argument number size bytes = Unit

-- the source that is standard input's, before any call
pub standard_input : Descriptor Input input
unfolding Descriptor
standard_input = tt

-- before any call nothing came and nothing went
pub none_came : (origin : Origin) → First origin []
unfolding First
none_came origin = tt

pub none_went : Sent []
unfolding Sent
none_went = tt

-- Opening a name for reading answered a source, or one that no read takes, and never standard input
pub system_opened : (answer : Source) (name : List ℕ) → answer ≢ Input → Descriptor answer (file name)
unfolding Descriptor
system_opened answer name other = tt

-- A read of a source that is there, into some room, answered n: the first n bytes of the room came behind those before
pub system_gave : {E : Type 0} (source : Source) (origin : Origin) (n : ℕ) (answer : Result ℕ E) (room old : List ℕ)
    → Descriptor source origin → source ≢ Absent → answer ≡ Ok n → n ≤ length room
    → First origin old → First origin (old ++ take n room)
unfolding First
system_gave source origin n answer room old d there e h f = tt

-- It answered 0, though there was room: there are no more
pub system_ended : {E : Type 0} (source : Source) (origin : Origin) (answer : Result ℕ E) (room old : List ℕ)
    → Descriptor source origin → source ≢ Absent → answer ≡ Ok 0 → 1 ≤ length room
    → First origin old → Whole origin old
unfolding Whole
system_ended source origin answer room old d there e h f = tt

-- It failed
pub system_failed : {E : Type 0} (source : Source) (origin : Origin) (why : E) (answer : Result ℕ E) (old : List ℕ)
    → Descriptor source origin → answer ≡ Err why
    → First origin old → Broken origin old
unfolding Broken
system_failed source origin why answer old d e f = tt

-- It was not made: what it gave could no longer be counted
pub system_uncounted : (origin : Origin) (room old : List ℕ) → 2 ^ 64 ≤ length old + length room + 1
    → First origin old → Broken origin old
unfolding Broken
system_uncounted origin room old h f = tt

-- All of a part was taken by writes
pub system_took : (answer : Bool) (part old : List ℕ) → answer ≡ true → Sent old → Sent (old ++ part)
unfolding Sent
system_took answer part old e f = tt

-- Not all of a part was taken
pub system_lost : (answer : Bool) → answer ≡ false → Lost
unfolding Lost
system_lost answer e = tt

-- The arguments behind the program's own name
pub system_counted : (count : ℕ) → Arguments count
unfolding Arguments
system_counted count = tt

pub system_named : (number n : ℕ) (room : List ℕ) → n ≤ length room
    → Argument number (length room) (take n room)
unfolding Argument
system_named number n room h = tt
