-- What is told of the text that a run of the program contours writes, said of the bytes that came and of its arguments,
-- and of nothing between them. Assumes nothing.
use Rattle.std.specs.Prelude.{◌≡◌, ℕ, ◌+◌, ◌<◌, List, [], length, slice_index_or}
use Rattle.channel.specs.System.{First, Whole, Broken, Arguments, Argument}
use Rattle.channel.specs.System.Origin.{input}
use Rattle.contours_steps.specs.Sheet.{refused_line, written_of, overlong_of}
use Rattle.contours_steps.specs.Told.{line_ends}

-- The text by how the network came: standard input ended, and all of it and the words are answered; a read failed, and
-- 17 is told at the line past the last line end; or its first 590,176 bytes came. There is no fourth way
pub data TextTold (words : List (List ℕ)) (text : List ℕ) : Type 0 where
  ended : (network : List ℕ) → Whole input network → text ≡ written_of network words → TextTold words text
  broken : (network : List ℕ) → Broken input network → text ≡ refused_line 17 (1 + line_ends network)
      → TextTold words text
  begun : (network : List ℕ) → First input network → length network ≡ 590176 → text ≡ overlong_of network
      → TextTold words text

-- the words are the program's arguments, all of them and in their order; one over 16 bytes is handed over empty
pub record WordsTold (words : List (List ℕ)) : Type 0 where
  pub many : Arguments (length words)
  pub each : (i : ℕ) → i < length words → Argument (i + 1) 16 (slice_index_or words i [])

-- both, of a text that may be written. A run writes such a text, one time, and no other byte, or loses it: `RunTold`
-- of crate channel
pub record SheetTold (text : List ℕ) : Type 0 where
  pub words : List (List ℕ)
  pub given : WordsTold words
  pub told : TextTold words text
