-- Words, one more. Assumes nothing.
use Rattle.std.specs.Prelude.{◌≡◌, ℕ, suc, ◌+◌, ◌<◌, ◌≤◌, Bool, true, false, cond, ◌&&◌, List, [], ◌∷◌, ◌++◌}
use Rattle.std.specs.Prelude.{length, get_or, take, set, Some, None}
use mathlib.Core.Path.{refl, sym, ap, ◌∙◌}
use mathlib.Core.Bool.{and-true}
use native.Mathlib.Omega.{arith}
use lib.ListN.{length-append, length-set, get_or-append}
use lib.{Seq.take-suc-set, Seq.get_or_at, Dec.ltb}
use borrow.Author.Tests.{ltb-true, ltb-false}
use Rattle.text.proofs.Digits.{either}
use Rattle.refusal.proofs.Laws.{and_left}
use Rattle.grid.specs.Row.{all}
use Rattle.channel.specs.System.{Arguments, Argument}
use Rattle.contours_steps.specs.declared.words.Given.{Given}
use Rattle.contours_steps.specs.Words.{word_level, is_contour, levels_in, words_refusal}
use Rattle.contours_steps.specs.Words.{given_refusal, max_word, WordTaken, Gathered}
use Rattle.contours_steps.specs.InnerIntake.{ArgumentTaken}

-- ---- a word's step

module _ (asked : List ℕ) (place : ℕ) (word : List ℕ) where
  pub word_none : None ≡ cond (is_contour word) (Some (word_level word)) None → WordTaken asked place word false asked
  word_none is =
      record {
        fit = either (is_contour word) (λ yes. let e = rw yes at is in cc) (λ no. sym no);
        stored = λ t. cc;
        long = refl;
      }

  module _ (v : ℕ) (is : Some v ≡ cond (is_contour word) (Some (word_level word)) None) where
    some : (is_contour word ≡ true) × (v ≡ word_level word)
    some = either (is_contour word)
        (λ yes. let e = rw yes at is in (yes, cc))
        (λ no. let e = rw no at is in cc)

    pub word_stored : WordTaken asked place word true (set asked place v)
    word_stored =
        record { fit = sym some.0; stored = λ _ _. ap (set asked place) some.1; long = length-set asked place v }

    pub word_passed : length asked ≤ place → WordTaken asked place word true asked
    word_passed l = record { fit = sym some.0; stored = λ _ h. absurd (omega arith); long = refl }

-- ---- refusals

pub words_given : {g : Given} {asked : List ℕ} (k : Gathered g asked) → words_refusal k.words ≡ given_refusal g
unfolding words_refusal given_refusal
words_given {g} {asked} k = rw (k.count, k.fit) refl

-- ---- words in their order

all_snoc : (p : List ℕ → Bool) (ws : List (List ℕ)) (w : List ℕ)
    → all p (ws ++ (w ∷ [])) ≡ (all p ws && p w)
unfolding all
all_snoc p [] w = and-true (p w)
all_snoc p (x ∷ ws) w = first (p x) (all_snoc p ws w)
  where
    first : (b : Bool) → all p (ws ++ (w ∷ [])) ≡ (all p ws && p w)
        → (b && all p (ws ++ (w ∷ []))) ≡ ((b && all p ws) && p w)
    first true e = e
    first false e = refl

levels_snoc : (ws : List (List ℕ)) (w : List ℕ)
    → levels_in (ws ++ (w ∷ [])) ≡ levels_in ws ++ (word_level w ∷ [])
levels_snoc [] w = refl
levels_snoc (x ∷ ws) w = ap (λ (l : List ℕ). word_level x ∷ l) (levels_snoc ws w)

-- each word is an argument, and one more
named_snoc : (ws : List (List ℕ)) (w : List ℕ)
    → ((i : ℕ) → i < length ws → Argument (i + 1) max_word (get_or ws i []))
    → Argument (length ws + 1) max_word w
    → (i : ℕ) → i < length (ws ++ (w ∷ [])) → Argument (i + 1) max_word (get_or (ws ++ (w ∷ [])) i [])
named_snoc ws w each last i h =
    either (ltb i (length ws))
    (λ yes. let l = ltb-true i (length ws) yes in rw (get_or-append ws (w ∷ []) [] i l) (each i l))
    (λ no. let e : length ws ≡ i = omega (arith, ltb-false i (length ws) no, length-append ws (w ∷ [])) in
    rw (get_or_at ws w [] [] i e) (rw e at last))

-- the words before place i
pub record Gathering (asked : List ℕ) (fit : Bool) (i : ℕ) : Type 0 where
  pub words : List (List ℕ)
  pub each : (i : ℕ) → i < length words → Argument (i + 1) max_word (get_or words i [])
  pub count : length words ≡ i
  pub fits : fit ≡ all is_contour words
  pub stored : fit ≡ true → length words ≤ length asked → take (length words) asked ≡ levels_in words

pub gathering_none : (asked : List ℕ) → Gathering asked true 0
unfolding all
gathering_none asked =
    record { words = []; each = λ i h. absurd (omega arith); count = refl; fits = refl; stored = λ _ _. refl }

pub gathering_next : {asked asked' : List ℕ} {fit r both : Bool} {i : ℕ} → Gathering asked fit i
    → ArgumentTaken asked i r asked' → both ≡ (fit && r)
    → Gathering asked' both (i + 1)
gathering_next {asked} {asked'} {fit} {r} {both} {i} k t e =
    let n = length-append k.words (t.word ∷ []) in
    record {
      words = k.words ++ (t.word ∷ []);
      each = named_snoc k.words t.word k.each (rw k.count t.named);
      count = omega (arith, k.count);
      fits = e ∙ rw (k.fits, t.taken.fit) (sym (all_snoc is_contour k.words t.word));
      stored = λ b l. there (and_left fit r (sym e ∙ b)) (right fit r (sym e ∙ b)) (omega (arith, n));
    }
  where
    right : (a b : Bool) → (a && b) ≡ true → b ≡ true
    right true b t = t
    right false b t = let n : ◌≡◌ {A = ℕ} 0 1 = cc in absurd (omega arith)

    there : fit ≡ true → r ≡ true → length k.words < length asked'
        → take (length (k.words ++ (t.word ∷ []))) asked' ≡ levels_in (k.words ++ (t.word ∷ []))
    there f b l =
        let w = t.taken in
        let m : length (k.words ++ (t.word ∷ [])) ≡ suc (length k.words) =
        omega (arith, length-append k.words (t.word ∷ [])) in
        let s : asked' ≡ set asked (length k.words) (word_level t.word) =
        rw k.count (w.stored b (omega (arith, k.count, w.long))) in
        rw (
          m,
          s,
          take-suc-set asked (length k.words) (word_level t.word) (omega (arith, w.long)),
          k.stored f (omega (arith, w.long)),
          levels_snoc k.words t.word,
        ) refl

-- all words are gathered
pub gathered : {asked : List ℕ} {fit : Bool} {i count : ℕ} → Gathering asked fit i
    → Arguments count → i ≡ count
    → Gathered (record { count = count; fit = fit }) asked
gathered {asked} {fit} {i} {count} k told e =
    record {
      words = k.words;
      told = rw (k.count, e) told;
      each = k.each;
      count = omega (arith, k.count);
      fit = k.fits;
      stored = k.stored;
    }
