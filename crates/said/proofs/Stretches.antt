-- Parts of a text, also where an iterator hands them out one by one. Assumes nothing.
use Rattle.std.specs.Prelude.{ℕ, ◌+◌, ◌-◌, ◌≤◌, Bool, true, false, cond, Option, Some, None, List, length, take, drop}
use mathlib.Core.{Path.◌≡◌, Path.sym, Path.subst, Path.ap, Path.◌∙◌, List.[], List.◌∷◌, List.◌++◌}
use mathlib.Core.List.{append_assoc}
use native.Mathlib.Omega.{arith}
use lib.ListN.{length-append, length-drop}
use lib.Seq.{take-length, take-append_seam, drop-append_seam, drop-drop}
use denote.Ref.{Bor}
use denote.Param.Members.{Mut}
use Rattle.std.specs.Bool.{MatchBool}
use Rattle.std.specs.Slice.Iter.{split_steps, split_rest, split_done}
use Rattle.std.specs.declared.slice.Split.{Split}
use Rattle.std.proofs.lemmas.List.{append-nil, take-append-drop}
use Rattle.std.specs.Iterator.{Yields, SkipsThenYields}
use Rattle.std.specs.List.{slice_range}
use Rattle.std.specs.Option.{unwrap_or, MatchOption}
use Rattle.std.specs.Slice.{IsGetRangeResult}
use Rattle.std.proofs.lemmas.Option.{none-some}
use Rattle.said.specs.Stretch.{IsFront, IsStretch}

-- what stands between two other texts
pub stretched : (text before part behind : List ℕ) → text ≡ before ++ (part ++ behind) → IsStretch text part
stretched text before part behind e =
    let size : length text ≡ length before + (length part + length behind) =
    ap length e ∙ length-append before (part ++ behind) ∙ ap (λ n. length before + n) (length-append part behind) in
    let only : length before + length part - length before ≡ length part = omega arith in
    record {
      start = length before;
      end = length before + length part;
      forward = omega arith;
      within = omega (arith, size);
      bytes = rw (only, e, drop-append_seam before (part ++ behind), take-append_seam part behind);
    }

stretch_sides : (text part : List ℕ) (p : IsStretch text part) → text ≡ take p.start text ++ (part ++ drop p.end text)
stretch_sides text part p =
    let rest = drop p.start text in
    let n : p.start + (p.end - p.start) ≡ p.end = omega (arith, p.forward) in
    let end : drop (p.end - p.start) rest ≡ drop p.end text = drop-drop (p.end - p.start) p.start text ∙ rw n in
    let both : part ++ drop p.end text ≡ rest =
    ap (λ l. l ++ drop p.end text) p.bytes ∙ ap (λ l. slice_range text p.start p.end ++ l) (sym end)
    ∙ take-append-drop (p.end - p.start) rest in
    sym (ap (λ l. take p.start text ++ l) both ∙ take-append-drop p.start text)

-- a part of a part
pub stretch_within : (text part inner : List ℕ) → IsStretch text part → IsStretch part inner → IsStretch text inner
stretch_within text part inner p q =
    let a = take p.start text in
    let b = take q.start part in
    let y = drop q.end part in
    let z = drop p.end text in
    let e : text ≡ a ++ ((b ++ (inner ++ y)) ++ z) =
    stretch_sides text part p ∙ ap (λ l. a ++ (l ++ z)) (stretch_sides part inner q) in
    let f : (b ++ (inner ++ y)) ++ z ≡ b ++ (inner ++ (y ++ z)) =
    append_assoc b (inner ++ y) z ∙ ap (λ l. b ++ l) (append_assoc inner y z) in
    let g : a ++ (b ++ (inner ++ (y ++ z))) ≡ (a ++ b) ++ (inner ++ (y ++ z)) =
    sym (append_assoc a b (inner ++ (y ++ z))) in
    stretched text (a ++ b) inner (y ++ z) (e ∙ ap (λ l. a ++ l) f ∙ g)

-- a front of a part
pub front_within : (text part : List ℕ) (n : ℕ) → IsStretch text part → IsStretch text (take n part)
front_within text part n p =
    stretch_within text part (take n part) p
    (stretched part [] (take n part) (drop n part) (sym (take-append-drop n part)))

get_stretch : (text : List ℕ) (i j : ℕ) (part : Bor (List ℕ)) → IsGetRangeResult text i j (Some part)
    → IsStretch text part.now
get_stretch text i j part got =
    record { start = i; end = j; forward = got.0.0; within = got.0.1; bytes = got.0.2 }

-- what `get` answers of what `get` answers
pub get_of_get : (text : List ℕ) (i j k : ℕ) (E : Bor (List ℕ) → Type 0) (first r : Option (Bor (List ℕ)))
    (part : Bor (List ℕ)) → IsGetRangeResult text i j first → MatchOption first (r ≡ None) E → r ≡ Some part
    → ((x : Bor (List ℕ)) → E x → IsGetRangeResult x.now 0 k r) → IsStretch text part.now
get_of_get text i j k E None r part got then is second = absurd (none-some part (sym then ∙ is))
get_of_get text i j k E (Some x) r part got then is second =
    stretch_within text x.now part.now (get_stretch text i j x got)
    (get_stretch x.now 0 k part (subst (λ o. IsGetRangeResult x.now 0 k o) is (second x then)))

-- the bytes up to one place and those from another on, which isn't before it
pub front_and_end : (text : List ℕ) (i j : ℕ) → i ≤ j → IsFront text (take i text) (slice_range text j (length text))
front_and_end text i j h =
    let rest = drop i text in
    let n : i + (j - i) ≡ j = omega arith in
    let end : slice_range text j (length text) ≡ drop (j - i) rest =
    ap (λ k. take k (drop j text)) (sym (length-drop j text)) ∙ take-length (drop j text)
    ∙ sym (drop-drop (j - i) i text ∙ rw n) in
    let middle : take (j - i) rest ++ slice_range text j (length text) ≡ rest =
    ap (λ l. take (j - i) rest ++ l) end ∙ take-append-drop (j - i) rest in
    (take (j - i) rest, sym (ap (λ l. take i text ++ l) middle ∙ take-append-drop i text))

pub front_alone : (text : List ℕ) (i : ℕ) → IsFront text (take i text) []
front_alone text i =
    let rest = drop i text in
    (rest, sym (ap (λ l. take i text ++ l) (append-nil rest) ∙ take-append-drop i text))

-- each item is a front of what is left, and what is left then is an end of it
module _ {S : Type 0} (steps : S → Option (Bor (List ℕ)) → S → Type 0) (rest : S → List ℕ)
    (goes : (s : S) (x : Bor (List ℕ)) (t : S) → steps s (Some x) t → IsFront (rest s) x.now (rest t)) where
  left_end : (xs : List (Bor (List ℕ))) (s t : S) → Yields steps s xs t
      → (before : List ℕ) × (rest s ≡ before ++ rest t)
  left_end [] s t e = ([], ap rest e)
  left_end (x ∷ xs) s t run =
      let now = goes s x run.0 run.1 in
      let later = left_end xs run.0 t run.2 in
      let end = rest t in (
        x.now ++ (now.0 ++ later.0),
        now.1 ∙ ap (λ l. x.now ++ (now.0 ++ l)) later.1
            ∙ ap (λ l. x.now ++ l) (sym (append_assoc now.0 later.0 end))
            ∙ sym (append_assoc x.now (now.0 ++ later.0) end),
      )

  -- the item that `nth` answers, or no bytes where there is none
  pub nth_stretch : (s u : S) (n : ℕ) (r : Option (Bor (List ℕ))) (none answer : Bor (List ℕ)) → none.now ≡ []
      → SkipsThenYields steps s n r u → answer ≡ unwrap_or r none → IsStretch (rest s) answer.now
  nth_stretch s u n None none answer e ran is = stretched (rest s) [] answer.now (rest s) (rw (is, e))
  nth_stretch s u n (Some x) none answer e ran is =
      let gone = left_end ran.0 s ran.1.0 ran.1.1 in
      let now = goes ran.1.0 x u ran.1.2 in
      rw is (stretched (rest s) gone.0 x.now (now.0 ++ rest u) (gone.1 ∙ ap (λ l. gone.0 ++ l) now.1))

-- what a split has yet to hand out
abbrev pub split_left : {F : Type 0} → Split ℕ F → List ℕ
split_left s = cond (split_done s) [] (split_rest s)

split_front : (done : Bool) (rest front behind : List ℕ)
    → MatchBool done (rest ≡ front) ((y : ℕ) × (rest ≡ front ++ (y ∷ behind)))
    → IsFront rest front (cond done [] behind)
split_front true rest front behind e = ([], e ∙ sym (append-nil front))
split_front false rest front behind e = (e.0 ∷ [], e.1)

pub split_goes : {F : Type 0} (g : Mut F (Bor ℕ × Unit {0}) Bool) (s : Split ℕ F) (x : Bor (List ℕ)) (t : Split ℕ F)
    → split_steps g s (Some x) t → IsFront (split_left s) x.now (split_left t)
split_goes g s x t step = rw step.0 (split_front (split_done t) (split_rest s) x.now (split_rest t) step.1)
