-- What a person may count on in the sentences of refusals. Assumes nothing.
use Rattle.std.specs.Prelude.{◌≡◌, ℕ, ◌<◌, ◌≤◌, Bool, true, false, cond, List, [], ◌∷◌, ◌++◌, length, take, ◌==◌}
use Rattle.std.specs.Prelude.{slice_index, slice_index_or}
use Rattle.text.specs.Same.{same_text}
use Rattle.text.specs.Spelled.{bytes}
use Rattle.sentence.specs.Sentence.{sentence_of, max_sentence}

-- the largest refusal number in use
abbrev pub max_refusal : ℕ
max_refusal = 19

-- what each refusal is about, from 0, which is none
unfoldable pub subjects : List (List ℕ)
subjects =
    []
    ∷ bytes "type, kind, time or mass"
    ∷ bytes "150 kg"
    ∷ bytes "1 to 99,999"
    ∷ bytes "already stands"
    ∷ bytes "does not stand"
    ∷ bytes "no unused row"
    ∷ bytes "number of levels"
    ∷ bytes "taken back"
    ∷ bytes "not sound"
    ∷ bytes "none of them has levels"
    ∷ bytes "1 to 366"
    ∷ bytes "spacing"
    ∷ bytes "no-data value"
    ∷ bytes "room lent"
    ∷ bytes "a limit is over"
    ∷ bytes "register"
    ∷ bytes "CRLF"
    ∷ bytes "movements or tracks"
    ∷ bytes "does not count"
    ∷ []

-- a text between two spaces, 32
abbrev pub framed : List ℕ → List ℕ
framed s = 32 ∷ (s ++ (32 ∷ []))

-- The bounds that each sentence has to tell, and which side of them is wrong; with what stands before and behind, so
-- that 1 to 366 is not 1 to 3,660
unfoldable pub bounds : List (List (List ℕ))
bounds =
    []
    ∷ (bytes " is out of range," ∷ bytes " a small aircraft has 6,000 kg or more " ∷ [])
    ∷ (bytes " the mass is 150 kg or less," ∷ [])
    ∷ (bytes " is not from 1 to 99,999 " ∷ [])
    ∷ []
    ∷ []
    ∷ []
    ∷ (bytes " is not the number of points," ∷ bytes " a level is over 120.00 " ∷ [])
    ∷ (bytes " has no levels " ∷ [])
    ∷ (bytes " points are not 1 to 8," ∷ bytes " or not one yes or no a point " ∷ [])
    ∷ (bytes " movements count at the point," ∷ [])
    ∷ (bytes " have to be from 1 to 366 " ∷ [])
    ∷ (bytes "(2 to 256 a side)" ∷ bytes "(1 to 500 m)" ∷ bytes "(0 to 900,000 m)" ∷ [])
    ∷ (bytes " a level is over 150.000," ∷ bytes " or is the no-data value " ∷ [])
    ∷ (bytes " is too small " ∷ [])
    ∷ (bytes " a limit is over 120.00," ∷ bytes " or a contour level is not from 0.001 to 150.000 " ∷ [])
    ∷ (bytes " is off its layout " ∷ [])
    ∷ (bytes " is off its layout," ∷ [])
    ∷ (bytes " over 50,000,"
    ∷ bytes " columns of unequal length,"
    ∷ bytes " class or kind over 1,"
    ∷ bytes " second over 86,399,"
    ∷ bytes " or no such date "
    ∷ [])
    ∷ (bytes " a level is not zero " ∷ bytes " where the movement does not count " ∷ [])
    ∷ []

-- whether a word stands somewhere in a text
unfoldable pub says : (text word : List ℕ) → Bool
says [] word = false
says (c ∷ s) word = cond (same_text (take (length word) (c ∷ s)) word) true (says s word)

-- Each sentence says what its number is about, and no other number's sentence says that; so none can stand for another.
-- It is plain: characters from the space to the tilde, no line end. Other numbers have none
pub record EachSays : Type 0 where
  pub subject : (number other : ℕ) → 1 ≤ number → number ≤ max_refusal → other ≤ max_refusal
      → says (sentence_of other) (slice_index_or subjects number []) ≡ (number == other)
  pub bound : (number i : ℕ) → number ≤ max_refusal → i < length (slice_index_or bounds number [])
      → says (framed (sentence_of number)) (slice_index_or (slice_index_or bounds number []) i []) ≡ true
  pub plain : (number i : ℕ) → i < length (sentence_of number)
      → (32 ≤ slice_index (sentence_of number) i) × (slice_index (sentence_of number) i ≤ 126)
  pub short : (number : ℕ) → length (sentence_of number) ≤ max_sentence
  pub none : sentence_of 0 ≡ []
  pub past : (number : ℕ) → max_refusal < number → sentence_of number ≡ []
