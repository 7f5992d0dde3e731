-- What is written line by line comes apart again, and so does the one line of a refusal. Assumes nothing.
use Rattle.std.specs.Prelude.{ℕ, zero, suc, ◌<◌, ◌≤◌, List, [], ◌∷◌, ◌++◌}
use mathlib.Core.{Path.◌≡◌, Path.refl, Path.ap, Path.◌∙◌, Bool.Bool, Bool.true, Bool.◌&&◌}
use mathlib.Core.List.{append_assoc}
use native.Mathlib.Omega.{arith}
use lib.{ListN.length, ListN.get_or, ListN.length-append, Seq.drop-append-add, Dec.eqb, Dec.leb}
use borrow.Author.Tests.{ne_eqb, leb-true}
use Rattle.refusal.proofs.Laws.{and_left, and_right}
use Rattle.text.specs.{Line.first_line, Line.lines_of, Field.count_of, Field.field_of, Field.joined_by}
use Rattle.text.specs.{Number.show_number, Spelled.bytes, Spelled.crlf}
use Rattle.text.specs.Sheet.{ended, comma, line, refused_text, Refuses}
use Rattle.text.proofs.{Digits.either, Fields.Free, Fields.count_append, Fields.join_field, Free.shown_free}
use Rattle.text.proofs.Lines.{lines_step, lines_none}

-- one text behind another
pub ended_append : (ls ms : List (List ℕ)) → ended (ls ++ ms) ≡ ended ls ++ ended ms
unfolding ended
ended_append [] ms = refl
ended_append (l ∷ ls) ms =
    ap (λ (t : List ℕ). l ++ (crlf ++ t)) (ended_append ls ms)
    ∙ simp append_assoc

-- Lines

line_free : (l r : List ℕ) → count_of 13 l ≡ 0 → first_line (l ++ (13 ∷ 10 ∷ r)) ≡ l
unfolding first_line count_of
line_free [] r e = refl
line_free (c ∷ l) r e =
    either (eqb c 13)
    (λ yes. absurd (omega (arith, rw yes at e)))
    (λ no. rw no (ap (λ (t : List ℕ). c ∷ t) (line_free l r (rw no at e))))

-- lines with no CR come apart again
pub lines_ended : (ls : List (List ℕ)) → Free 13 ls → lines_of (ended ls) ≡ ls
unfolding ended
lines_ended [] free = lines_none
lines_ended (l ∷ ls) free =
    let text = l ++ (13 ∷ 10 ∷ ended ls) in
    let first = line_free l (ended ls) (free 0 (omega arith)) in
    let some : 1 ≤ length text = omega (arith, length-append l (13 ∷ 10 ∷ ended ls)) in
    lines_step text some
    ∙ rw (first, drop-append-add l (13 ∷ 10 ∷ ended ls) 2)
    (ap (λ (ks : List (List ℕ)). l ∷ ks) (lines_ended ls (λ i h. free (suc i) (omega arith))))

-- Fields

-- every byte is at least m
unfoldable pub at_least : ℕ → List ℕ → Bool
at_least m [] = true
at_least m (c ∷ s) = leb m c && at_least m s

pub least_free : (m d : ℕ) → d < m → (s : List ℕ) → at_least m s ≡ true → count_of d s ≡ 0
unfolding count_of at_least
least_free m d low [] h = refl
least_free m d low (c ∷ s) h =
    let c≥ = leb-true m c (and_left (leb m c) (at_least m s) h) in
    rw (ne_eqb c d (λ e. omega arith)) (least_free m d low s (and_right (leb m c) (at_least m s) h))

none_in : (d : ℕ) → count_of d [] ≡ 0
unfolding count_of
none_in d = refl

comma_past : (d : ℕ) (r : List ℕ) → (44 ≡ d → ⊥) → count_of d (44 ∷ r) ≡ count_of d r
unfolding count_of
comma_past d r ne = rw (ne_eqb 44 d ne) refl

-- joined fields have no other byte than theirs and the comma
pub joined_free : (d : ℕ) (fs : List (List ℕ)) → (44 ≡ d → ⊥) → Free d fs
    → count_of d (joined_by 44 fs) ≡ 0
unfolding joined_by
joined_free d [] ne free = none_in d
joined_free d (f ∷ []) ne free = free 0 (omega arith)
joined_free d (f ∷ (g ∷ fs)) ne free =
    count_append d f (44 ∷ joined_by 44 (g ∷ fs))
    ∙ rw (
      free 0 (omega arith),
      comma_past d (joined_by 44 (g ∷ fs)) ne,
      joined_free d (g ∷ fs) ne (λ i h. free (suc i) (omega arith)),
    ) (omega arith)

-- The one line of a refusal

-- as it is put
pub refused_is : (number n : ℕ)
    → bytes "refused" ++ ((comma ∷ show_number number) ++ ((comma ∷ show_number n) ++ crlf))
    ≡ refused_text number n
unfolding refused_text ended joined_by
refused_is number n = simp append_assoc

spelled_free : (d : ℕ) → d < 46 → count_of d (bytes "refused") ≡ 0
unfolding at_least
spelled_free d low = least_free 46 d low (bytes "refused") refl

refused_free : (d : ℕ) → d < 46 → (number n : ℕ)
    → Free d (bytes "refused" ∷ show_number number ∷ show_number n ∷ [])
refused_free d low number n zero h = spelled_free d low
refused_free d low number n (suc zero) h = shown_free d low 20 number
refused_free d low number n (suc (suc zero)) h = shown_free d low 20 n
refused_free d low number n (suc (suc (suc i))) h = absurd (omega arith)

refused_lines : (number n : ℕ)
    → lines_of (refused_text number n) ≡ line (bytes "refused" ∷ show_number number ∷ show_number n ∷ []) ∷ []
unfolding refused_text
refused_lines number n = lines_ended (line (bytes "refused" ∷ show_number number ∷ show_number n ∷ []) ∷ []) free
  where
    free : Free 13 (line (bytes "refused" ∷ show_number number ∷ show_number n ∷ []) ∷ [])
    free zero h =
        joined_free 13 (bytes "refused" ∷ show_number number ∷ show_number n ∷ []) (λ e. absurd (omega arith))
        (refused_free 13 (omega arith) number n)
    free (suc i) h = absurd (omega arith)

pub refuses : (text : List ℕ) (number n : ℕ) → text ≡ refused_text number n → Refuses text number n
refuses text number n e =
    record {
      one = ap length lines;
      word = field 0 (omega arith);
      number= = field 1 (omega arith);
      line= = field 2 (omega arith);
    }
  where
    lines : lines_of text ≡ line (bytes "refused" ∷ show_number number ∷ show_number n ∷ []) ∷ []
    lines = ap lines_of e ∙ refused_lines number n

    field : (k : ℕ) → k < 3
        → field_of 44 k (get_or (lines_of text) 0 [])
        ≡ get_or (bytes "refused" ∷ show_number number ∷ show_number n ∷ []) k []
    field k h =
        ap (λ (ls : List (List ℕ)). field_of 44 k (get_or ls 0 [])) lines
        ∙ join_field 44 (bytes "refused" ∷ show_number number ∷ show_number n ∷ [])
        (refused_free 44 (omega arith) number n) k h
