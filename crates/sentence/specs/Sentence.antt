-- The sentence for each refusal number: RULES, "Refusal numbers". Assumes nothing.
use Rattle.std.specs.Prelude.{ℕ, List, [], ◌∷◌, ◌++◌, slice_index_or}
use Rattle.text.specs.Spelled.{bytes}

-- a network, and what is wrong with it
abbrev pub of_network : List ℕ → List ℕ
of_network what = bytes "network: " ++ what

-- flights to be coupled, and what is wrong with them
abbrev pub of_flights : List ℕ → List ℕ
of_flights what = bytes "movements or tracks: " ++ what

-- from 0, which is no refusal, to 19
unfoldable pub sentences : List (List ℕ)
sentences =
    []
    ∷ bytes "type, kind, time or mass is out of range, or a small aircraft has 6,000 kg or more"
    ∷ bytes "the mass is 150 kg or less, and only heavier aircraft are entered"
    ∷ bytes "the identity is not from 1 to 99,999"
    ∷ bytes "the identity already stands"
    ∷ bytes "the identity does not stand in the book"
    ∷ bytes "the book has no unused row left"
    ∷ bytes "the number of levels is not the number of points, or a level is over 120.00"
    ∷ bytes "the movement has no levels that could be taken back"
    ∷ bytes "the book is not sound, its points are not 1 to 8, there is no such point, or not one yes or no a point"
    ∷ bytes "movements count at the point, and none of them has levels, so no load can be worked out"
    ∷ bytes "the days have to be from 1 to 366"
    ∷ of_network
    (bytes "size (2 to 256 a side), spacing (1 to 500 m), origin (0 to 900,000 m) or the count of values is wrong")
    ∷ of_network (bytes "a level is over 150.000, or is the no-data value")
    ∷ bytes "the room lent for the answer is too small"
    ∷ bytes "a limit is over 120.00, or a contour level is not from 0.001 to 150.000"
    ∷ bytes "the register, limits.csv, movements, tracks.csv or the journal is off its layout"
    ∷ of_network (bytes "a line is off its layout, or its line end is LF where CRLF is expected")
    ∷ of_flights
    (bytes "over 50,000, columns of unequal length, class or kind over 1, second over 86,399, or no such date")
    ∷ bytes "a level is not zero at a point where the movement does not count"
    ∷ []

-- a number that is no refusal has no sentence
unfoldable pub sentence_of : ℕ → List ℕ
sentence_of number = slice_index_or sentences number []

-- no sentence has more bytes
abbrev pub max_sentence : ℕ
max_sentence = 120
