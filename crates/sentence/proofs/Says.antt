-- The sentences, tested one by one: each says what its number is about, is plain and is short. Assumes nothing.
use Rattle.std.specs.Prelude.{ℕ, zero, suc, ◌+◌, ◌<◌, ◌≤◌, []}
use mathlib.Core.{Path.◌≡◌, Path.refl, Path.sym, Path.ap, Bool.Bool, Bool.true, Bool.false, Bool.not, Bool.◌&&◌}
use native.Mathlib.Omega.{arith}
use borrow.Author.Tests.{not-true, ltb-true, ltb-false, leb-true}
use lib.{Dec.eqb, Dec.leb, Dec.ltb, ListN.length, ListN.get_or, ListN.get_or-eq_default}
use Rattle.refusal.proofs.Laws.{and_left, and_right}
use Rattle.text.specs.{Index.every, Same.same_text}
use Rattle.text.proofs.{Digits.either, Indices.every_each}
use Rattle.sentence.specs.Sentence.{sentences, sentence_of, max_sentence}
use Rattle.sentence.specs.Told.{max_refusal, subjects, framed, bounds, says, EachSays}

-- the numbers that are tested, from 0
abbrev all_numbers : ℕ
all_numbers = max_refusal + 1

agree : Bool → Bool → Bool
agree true b = b
agree false b = not b

agreed : (a b : Bool) → agree a b ≡ true → a ≡ b
unfolding agree
agreed true b e = sym e
agreed false b e = sym (not-true b e)

-- What each number is about

said : (other number : ℕ) → Bool
said other number = says (sentence_of other) (get_or subjects number [])

subject_test : (other k : ℕ) → Bool
subject_test other k = agree (said other (suc k)) (eqb (suc k) other)

subjects_test : ℕ → Bool
subjects_test other = every (subject_test other) max_refusal

all_subjects : every subjects_test all_numbers ≡ true
unfolding every subjects_test subject_test said agree says same_text sentence_of sentences subjects
all_subjects = refl

each_subject : (number other : ℕ) → 1 ≤ number → number ≤ max_refusal → other ≤ max_refusal
    → says (sentence_of other) (get_or subjects number []) ≡ eqb number other
unfolding subjects_test subject_test said
each_subject zero other low high o = absurd (omega arith)
each_subject (suc k) other low high o =
    let tests = every_each subjects_test other all_numbers (omega arith) all_subjects in
    agreed (said other (suc k)) (eqb (suc k) other) (every_each (subject_test other) k max_refusal (omega arith) tests)

-- The bounds of each

bound_test_lem : (number i : ℕ) → Bool
bound_test_lem number i = says (framed (sentence_of number)) (get_or (get_or bounds number []) i [])

bounds_test : ℕ → Bool
bounds_test number = every (bound_test_lem number) (length (get_or bounds number []))

all_bounds : every bounds_test all_numbers ≡ true
unfolding every bounds_test bound_test_lem says same_text sentence_of sentences bounds
all_bounds = refl

each_bound : (number i : ℕ) → number ≤ max_refusal → i < length (get_or bounds number [])
    → says (framed (sentence_of number)) (get_or (get_or bounds number []) i []) ≡ true
unfolding bounds_test bound_test_lem
each_bound number i high h =
    every_each (bound_test_lem number) i (length (get_or bounds number []))
    h (every_each bounds_test number all_numbers (omega arith) all_bounds)

-- Plain and short

plain_byte : ℕ → Bool
plain_byte b = leb 32 b && leb b 126

plain_test : ℕ → Bool
plain_test number = every (λ i. plain_byte (get_or (sentence_of number) i 0)) (length (sentence_of number))

all_plain : every plain_test all_numbers ≡ true
unfolding every plain_test plain_byte sentence_of sentences
all_plain = refl

short_test : ℕ → Bool
short_test number = leb (length (sentence_of number)) max_sentence

all_short : every short_test all_numbers ≡ true
unfolding every short_test sentence_of sentences
all_short = refl

pub past_all : (number : ℕ) → max_refusal < number → sentence_of number ≡ []
unfolding sentence_of sentences
past_all number h = let beyond : length sentences ≤ number = omega arith in get_or-eq_default sentences [] beyond

pub each_short : (number : ℕ) → length (sentence_of number) ≤ max_sentence
unfolding short_test
each_short number =
    either (ltb number all_numbers)
    (λ h. leb-true (length (sentence_of number)) max_sentence
    (every_each short_test number all_numbers (ltb-true number all_numbers h) all_short))
    (λ h. let none = past_all number (omega (arith, ltb-false number all_numbers h)) in rw none (omega arith))

each_plain : (number i : ℕ) → i < length (sentence_of number)
    → (32 ≤ get_or (sentence_of number) i 0) × (get_or (sentence_of number) i 0 ≤ 126)
unfolding plain_test plain_byte
each_plain number i h =
    either (ltb number all_numbers)
    (λ low.
    let b = get_or (sentence_of number) i 0 in
    let tests = every_each plain_test number all_numbers (ltb-true number all_numbers low) all_plain in
    let plain = every_each (λ j. plain_byte (get_or (sentence_of number) j 0)) i (length (sentence_of number)) h
    tests in
    (leb-true 32 b (and_left (leb 32 b) (leb b 126) plain), leb-true b 126 (and_right (leb 32 b) (leb b 126) plain)))
    (λ high.
    let none = ap length (past_all number (omega (arith, ltb-false number all_numbers high))) in
    absurd (omega arith))

pub each_says : EachSays
unfolding sentence_of sentences
each_says =
    record {
      subject = each_subject;
      bound = each_bound;
      plain = each_plain;
      short = each_short;
      none = refl;
      past = past_all;
    }
