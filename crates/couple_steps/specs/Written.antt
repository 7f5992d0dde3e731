-- What the program couple may write on standard output, by what came of its two files. Assumes nothing.
use Rattle.std.specs.Prelude.{◌≡◌, ℕ, List}
use Rattle.channel.specs.System.{Origin, Whole}
use Rattle.channel.specs.System.Origin.{input, file}
use Rattle.text.specs.Spelled.{bytes}
use Rattle.stream.specs.Coming.{Coming, Heard, Of}
use Rattle.couple_steps.specs.Table.{table_of, longest_text}
use Rattle.couple_steps.specs.Sheet.{coupled_text}

-- the file of that name in the current folder
abbrev pub tracks_origin : Origin
tracks_origin = file (bytes "tracks.csv")

-- the text of tracks.csv, whatever the movements are; or of tracks.csv to its end, which is not refused, and the
-- movements
pub data MayWrite (text : List ℕ) : Type 0 where
  tracks : (came : Coming) → Heard tracks_origin came
      → Of longest_text came (λ t. (m : List ℕ) → text ≡ coupled_text t m) → MayWrite text
  both : (all : List ℕ) → Whole tracks_origin all → (table_of 8 all).refusal ≡ 0 → (came : Coming) → Heard input came
      → Of longest_text came (λ m. text ≡ coupled_text all m) → MayWrite text
