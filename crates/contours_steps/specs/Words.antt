-- The arguments of the program contours: one contour level or more, each with two or three decimals.
-- Assumes nothing.
use Rattle.std.specs.Prelude.{◌≡◌, ℕ, ◌+◌, ◌<◌, ◌≤◌, Bool, true, ◌&&◌, List, [], map, length, take, nat_le}
use Rattle.std.specs.Prelude.{slice_index_or, slice_set}
use Rattle.refusal.specs.Refuse.{refuse}
use Rattle.text.specs.Number.{thousandths_of, is_got, value_of}
use Rattle.network.specs.Limits.{least_contour, max_contour}
use Rattle.network.specs.Refusals.{between}
use Rattle.grid.specs.Row.{all}
use Rattle.channel.specs.System.{Arguments, Argument}
use Rattle.contours_steps.specs.declared.words.Given.{Given}

-- the level that a word spells, in thousandths, and whether it is a contour's: from 0.001 to 150.000
abbrev pub word_level : List ℕ → ℕ
word_level w = value_of (thousandths_of w)

unfoldable pub is_contour : List ℕ → Bool
is_contour w = is_got (thousandths_of w) && between least_contour (word_level w) max_contour

-- the program has room for so many levels
abbrev pub max_contour_levels : ℕ
max_contour_levels = 15000

-- 15 where there is no level, or a word is none; 14 for more words than there is room for
unfoldable pub words_refusal : List (List ℕ) → ℕ
words_refusal words =
    refuse 15 (nat_le 1 (length words) && all is_contour words) (refuse 14 (nat_le (length words) max_contour_levels) 0)

unfoldable pub given_refusal : Given → ℕ
given_refusal g = refuse 15 (nat_le 1 g.count && g.fit) (refuse 14 (nat_le g.count max_contour_levels) 0)

-- the levels in the order of the words
abbrev pub levels_in : List (List ℕ) → List ℕ
levels_in words = map word_level words

-- What the steps promise

-- one word more: its level stands at its place, where there is room
pub record WordTaken (asked : List ℕ) (place : ℕ) (word : List ℕ) (r : Bool) (asked' : List ℕ) : Type 0 where
  pub fit : r ≡ is_contour word
  pub stored : r ≡ true → place < length asked → asked' ≡ slice_set asked place (word_level word)
  pub long : length asked' ≡ length asked

-- room for any word that spells a level, and more
abbrev pub max_word : ℕ
max_word = 16

-- all words, which are the program's arguments as they are handed over: one longer than the room as an empty one
pub record Gathered (g : Given) (asked : List ℕ) : Type 0 where
  pub words : List (List ℕ)
  pub told : Arguments (length words)
  pub each : (i : ℕ) → i < length words → Argument (i + 1) max_word (slice_index_or words i [])
  pub count : g.count ≡ length words
  pub fit : g.fit ≡ all is_contour words
  pub stored : g.fit ≡ true → length words ≤ length asked → take (length words) asked ≡ levels_in words
