-- The values of a row, one after the other. Assumes nothing.
use Rattle.std.specs.Prelude.{ℕ, suc, ◌+◌, ◌-◌, ◌<◌, ◌≤◌, Bool, true, false, cond, ◌&&◌}
use mathlib.Core.{Path.◌≡◌, Path.refl, Path.sym, Path.ap, Path.◌∙◌, List.List, List.[], List.◌∷◌}
use mathlib.Core.Bool.{and-true}
use native.Mathlib.Omega.{arith}
use borrow.Author.Tests.{ltb-true, ltb-false}
use lib.{Dec.eqb, Dec.ltb, ListN.length, ListN.take, ListN.drop, ListN.length-drop, Seq.drop-drop}
use Rattle.text.specs.{Field.up_to, Field.after, Line.onto, Number.thousandths_of, Number.is_got, Same.same_text}
use Rattle.std.specs.Prelude.{Some, None, leb}
use Rattle.network.specs.Limits.{max_network_level}
use Rattle.text.proofs.{Digits.either, Fields.up_take, Fields.up_length, Fields.after-drop}
use Rattle.grid.specs.Row.{all, values_of, is_value, is_row}
use Rattle.grid.specs.InnerSteps.{is_sound, row_sound, value_read, row_of}

values_last : (s : List ℕ) → length s ≤ length (up_to 32 s) → values_of s ≡ up_to 32 s ∷ []
unfolding values_of up_to
values_last [] h = refl
values_last (c ∷ s) h =
    either (eqb c 32)
    (λ yes. let l : suc (length s) ≤ 0 = rw yes at h in absurd (omega arith))
    (λ no. let l : suc (length s) ≤ suc (length (up_to 32 s)) = rw no at h in
    rw no (ap (onto c) (values_last s (omega arith))))

values_next : (s : List ℕ) → length (up_to 32 s) < length s → values_of s ≡ up_to 32 s ∷ values_of (after 32 s)
unfolding values_of up_to after
values_next [] h = absurd (omega arith)
values_next (c ∷ s) h =
    either (eqb c 32)
    (λ yes. rw yes)
    (λ no. let l : suc (length (up_to 32 s)) < suc (length s) = rw no at h in
    rw no (ap (onto c) (values_next s (omega arith))))

-- the value between two places of a line
abbrev pub between : List ℕ → ℕ → ℕ → List ℕ
between s at end = take (end - at) (drop at s)

-- a list that starts so
first_and : {l : List (List ℕ)} {x : List ℕ} {xs : List (List ℕ)} → l ≡ x ∷ xs → l ≡ x ∷ drop 1 l
first_and {l} {x} {xs} e = e ∙ ap (λ t. x ∷ t) (sym (ap (λ t. drop 1 t) e))

module _ (s : List ℕ) (at end : ℕ) (h : at ≤ length s) (e : end ≡ at + length (up_to 32 (drop at s))) where
  cut : between s at end ≡ up_to 32 (drop at s)
  cut =
      let n : end - at ≡ length (up_to 32 (drop at s)) = omega arith in
      rw n (up_take 32 (drop at s))

  pub end_within : end ≤ length s
  end_within = omega (arith, up_length 32 (drop at s), length-drop at s)

  pub last_at : length s ≤ end → values_of (drop at s) ≡ between s at end ∷ []
  last_at b = rw cut (values_last (drop at s) (omega (arith, length-drop at s)))

  pub next_at_rule : end < length s → values_of (drop at s) ≡ between s at end ∷ values_of (drop (end + 1) s)
  next_at_rule b =
      let n = length (up_to 32 (drop at s)) in
      let p : at + suc n ≡ end + 1 = omega arith in
      let q : after 32 (drop at s) ≡ drop (end + 1) s = after-drop 32 (drop at s) ∙ drop-drop (suc n) at s
      ∙ ap (λ k. drop k s) p in
      rw (cut, ← q) (values_next (drop at s) (omega (arith, length-drop at s)))

  -- the first value of the rest
  pub some_at : values_of (drop at s) ≡ between s at end ∷ drop 1 (values_of (drop at s))
  some_at =
      either (ltb end (length s))
      (λ yes. first_and (next_at_rule (ltb-true end (length s) yes)))
      (λ no. first_and (last_at (ltb-false end (length s) no)))

-- one value judged
module _ (nodata t : List ℕ) where
  pub value_off_rule : value_read nodata t ≡ None → is_value nodata t ≡ false
  unfolding value_read
  value_off_rule e = go (is_value nodata t) (is_sound nodata t) e
    where
      go : (a b : Bool) → cond a (Some b) None ≡ None → a ≡ false
      go true b e = cc
      go false b e = refl

  pub value_on : (fine : Bool) → value_read nodata t ≡ Some fine
      → (is_value nodata t ≡ true) × (is_sound nodata t ≡ fine)
  unfolding value_read
  value_on fine e = go (is_value nodata t) (is_sound nodata t) e
    where
      go : (a b : Bool) → cond a (Some b) None ≡ Some fine → (a ≡ true) × (b ≡ fine)
      go true b e = (refl, cc)
      go false b e = cc

  -- no data, a level, neither
  pub none_here : same_text t nodata ≡ true → value_read nodata t ≡ Some false
  unfolding value_read
  none_here e = rw e (either (is_got (thousandths_of t)) (λ y. rw y) (λ n. rw n))

  pub level_here : (v : ℕ) → same_text t nodata ≡ false → thousandths_of t ≡ Some v
      → value_read nodata t ≡ Some (leb v max_network_level)
  unfolding value_read
  level_here v e l = rw (e, l)

  pub neither_here : same_text t nodata ≡ false → thousandths_of t ≡ None → value_read nodata t ≡ None
  unfolding value_read
  neither_here e l = rw (e, l)

-- a test of all, by the first
pub all_cons : {A : Type 0} (p : A → Bool) (x : A) (xs : List A) → all p (x ∷ xs) ≡ (p x && all p xs)
unfolding all
all_cons p x xs = refl

pub all_none : {A : Type 0} (p : A → Bool) → all p [] ≡ true
unfolding all
all_none p = refl

pub and_assoc : (a b c : Bool) → (a && (b && c)) ≡ (a && b && c)
and_assoc true b c = refl
and_assoc false b c = refl

-- a walk along a row: `count` values passed, all of them values, and `sound` where all were sound; the next one
-- starts at `at`
pub record RowAt (nodata s : List ℕ) (at count : ℕ) (sound : Bool) : Type 0 where
  pub within : at ≤ length s
  pub few : count ≤ at
  pub on : is_row nodata s ≡ all (is_value nodata) (values_of (drop at s))
  pub number : count + length (values_of (drop at s)) ≡ length (values_of s)
  pub levels : row_sound nodata s ≡ (sound && all (is_sound nodata) (values_of (drop at s)))

pub row_start : (nodata s : List ℕ) → RowAt nodata s 0 0 true
row_start nodata s = record { within = omega arith; few = omega arith; on = refl; number = omega arith; levels = refl }

module _ {nodata s : List ℕ} {at count : ℕ} {sound : Bool} (w : RowAt nodata s at count sound) (end : ℕ)
    (e : end ≡ at + length (up_to 32 (drop at s))) where
  pub row_off : is_value nodata (between s at end) ≡ false → row_of nodata s ≡ None
  unfolding row_of
  row_off f =
      let v = some_at s at end w.within e in
      let no : is_row nodata s ≡ false = w.on ∙ ap (all (is_value nodata)) v
      ∙ all_cons (is_value nodata) (between s at end) (drop 1 (values_of (drop at s))) ∙ rw f in
      rw no

  pub row_last : length s ≤ end → is_value nodata (between s at end) ≡ true
      → row_of nodata s ≡ Some (record { values = count + 1; sound = sound && is_sound nodata (between s at end) })
  unfolding row_of
  row_last b f =
      let v = last_at s at end w.within e b in
      let yes : is_row nodata s ≡ true = w.on ∙ ap (all (is_value nodata)) v
      ∙ all_cons (is_value nodata) (between s at end) [] ∙ rw (f, all_none (is_value nodata)) in
      let n : length (values_of s) ≡ count + 1 = sym w.number ∙ ap (λ l. count + length l) v in
      let k : row_sound nodata s ≡ (sound && is_sound nodata (between s at end)) =
      w.levels ∙ ap (λ l. sound && all (is_sound nodata) l) v
      ∙ ap (λ x. sound && x) (all_cons (is_sound nodata) (between s at end) []
      ∙ rw (all_none (is_sound nodata)) (and-true (is_sound nodata (between s at end)))) in
      rw (yes, n, k)

  pub row_next : end < length s → is_value nodata (between s at end) ≡ true
      → RowAt nodata s (end + 1) (count + 1) (sound && is_sound nodata (between s at end))
  row_next b f =
      let v = next_at_rule s at end w.within e b in
      let rest = values_of (drop (end + 1) s) in
      let l : count + suc (length rest) ≡ length (values_of s) = sym (ap (λ l. count + length l) v) ∙ w.number in
      record {
        within = omega arith;
        few = omega (arith, w.few);
        on = w.on ∙ ap (all (is_value nodata)) v ∙ all_cons (is_value nodata) (between s at end) rest ∙ rw f;
        number = omega arith;
        levels = w.levels ∙ ap (λ l. sound && all (is_sound nodata) l) v
            ∙ ap (λ x. sound && x) (all_cons (is_sound nodata) (between s at end) rest)
            ∙ and_assoc sound (is_sound nodata (between s at end)) (all (is_sound nodata) rest);
      }
