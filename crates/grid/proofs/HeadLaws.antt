-- Laws of the lines before the rows. Assumes nothing.
use Rattle.std.specs.Prelude.{ℕ, zero, suc, ◌+◌, ◌-◌, ◌<◌, ◌≤◌, true, false}
use mathlib.Core.{Path.◌≡◌, Path.refl, Path.sym, Path.ap, Path.◌∙◌, List.List, List.[], List.◌∷◌}
use mathlib.Core.Bool.{true≢false}
use native.Mathlib.Omega.{arith}
use borrow.Author.Tests.{ltb-true, ltb-false, eqb-true, eq-eqb, ne_eqb}
use lib.{Dec.eqb, Dec.ltb}
use lib.ListN.{length, get_or, take, drop, length-drop, get_or-eq_default}
use lib.Seq.{take-nil, length-take-le, get_or-drop, drop-drop}
use Rattle.std.specs.Cmp.Lexicographic.{pointwise}
use Rattle.text.specs.{Line.lines_of, Number.is_got, Same.same_text}
use Rattle.std.specs.Prelude.{Some, None, Ok, Err}
use Rattle.text.proofs.{Digits.either}
use Rattle.grid.specs.File.{begins, number_after, number_at, head_on, first_off, names_well, spelled_in}
use Rattle.grid.specs.InnerSteps.{lines_at, line_from, LineAt, key_read}
use Rattle.grid.specs.declared.head.{Line.Line, Fault.Fault, Keyed.Keyed}
use Rattle.grid.proofs.LineLaws.{passed_at}

-- what std says of a prefix is what the rules say
pub same_pointwise : (a b : List ℕ) → pointwise eqb a b ≡ same_text a b
unfolding same_text
same_pointwise [] [] = refl
same_pointwise [] (y ∷ b) = refl
same_pointwise (x ∷ a) [] = refl
same_pointwise (x ∷ a) (y ∷ b) = rw (same_pointwise a b)

eqb_swap : (x y : ℕ) → eqb x y ≡ eqb y x
eqb_swap x y =
    either (eqb x y)
    (λ yes. yes ∙ sym (eq-eqb y x (sym (eqb-true x y yes))))
    (λ no. no ∙ sym (ne_eqb y x (λ e. true≢false (sym (eq-eqb x y (sym e)) ∙ no))))

pointwise_swap : (a b : List ℕ) → pointwise eqb a b ≡ pointwise eqb b a
pointwise_swap [] [] = refl
pointwise_swap [] (y ∷ b) = refl
pointwise_swap (x ∷ a) [] = refl
pointwise_swap (x ∷ a) (y ∷ b) = rw (eqb_swap x y, pointwise_swap a b)

pub begins_pointwise : (word line : List ℕ) → pointwise eqb word (take (length word) line) ≡ begins word line
unfolding begins
begins_pointwise word line = pointwise_swap word _ ∙ same_pointwise _ word

-- line k of a text, where it starts at `at`
pub line_of : (s : List ℕ) (at k : ℕ) → lines_at s at ≡ drop k (lines_of s)
    → line_from s at ≡ get_or (lines_of s) k []
line_of s at k e = ap (λ l. get_or l 0 []) e ∙ get_or-drop k (lines_of s) 0 []
    ∙ (let z : k + 0 ≡ k = omega arith in rw z)

-- the first k header lines are on their layout, and the others start at `next`
pub record Seen (s : List ℕ) (k next : ℕ) : Type 0 where
  pub on : first_off 1 (head_on (lines_of s)) ≡ first_off (k + 1) (drop k (head_on (lines_of s)))
  pub inside : next ≤ length s
  pub rest : lines_at s next ≡ drop k (lines_of s)

pub seen_none : (s : List ℕ) → Seen s 0 0
seen_none s = record { on = refl; inside = omega arith; rest = refl }

-- header line k read: its number, and the lines seen with it
pub record KeyStep (s key : List ℕ) (k n next : ℕ) : Type 0 where
  pub number : number_at key k (lines_of s) ≡ Some n
  pub seen : Seen s (k + 1) next

module _ (s : List ℕ) (at : ℕ) (key : List ℕ) (k : ℕ) (seen : Seen s k at)
    (here : drop k (head_on (lines_of s)) ≡ is_got (number_at key k (lines_of s)) ∷ drop (k + 1) (head_on (lines_of s)))
  where
    pub key_step : (read : Keyed) → key_read s at (k + 1) key (Ok read) → KeyStep s key k read.number read.next
    unfolding first_off
    key_step read got =
        let number : number_at key k (lines_of s) ≡ Some read.number =
        ap (number_after key) (sym (line_of s at k seen.rest)) ∙ got.0 in
        record {
          number = number;
          seen = record {
            on = seen.on ∙ ap (first_off (k + 1)) here ∙ rw number;
            inside = got.1.inside;
            rest = passed_at k seen.rest got.1;
          };
        }

    -- where it is off its layout, it is the first
    pub key_stop : (fault : Fault) → key_read s at (k + 1) key (Err fault)
        → (first_off 1 (head_on (lines_of s)) ≡ fault.line) × (1 ≤ fault.line)
    unfolding first_off
    key_stop fault got =
        let number : number_at key k (lines_of s) ≡ None =
        ap (number_after key) (sym (line_of s at k seen.rest)) ∙ got.0 in
        (seen.on ∙ ap (first_off (k + 1)) here ∙ rw number (sym got.1), omega (arith, got.1))

-- a line that names no-data well has its spelling past the word and a space
pub names_short : (line : List ℕ) → length line < 13 → names_well line ≡ false
unfolding names_well
names_short line h = rw (ne_eqb (get_or line 12 0) 32
    (λ e. omega (arith, get_or-eq_default line 0 {n = 12} (omega arith))))

drop-take : (k n : ℕ) (l : List ℕ) → drop k (take n l) ≡ take (n - k) (drop k l)
drop-take zero n l = let z : n - 0 ≡ n = omega arith in rw z
drop-take (suc k) n [] = ap (drop (suc k)) (take-nil n) ∙ sym (take-nil (n - suc k))
drop-take (suc k) zero (x ∷ l) = let z : zero - suc k ≡ 0 = omega arith in rw z
drop-take (suc k) (suc n) (x ∷ l) = let z : suc n - suc k ≡ n - k = omega arith in rw z (drop-take k n l)

pub spelled_at : (s : List ℕ) (at : ℕ) (l : Line) → LineAt s at l → names_well (line_from s at) ≡ true
    → (at + 13 ≤ l.end) × (take (l.end - (at + 13)) (drop (at + 13) s) ≡ spelled_in (line_from s at))
spelled_at s at l h well =
    let line = line_from s at in
    let end = l.end in
    let start = h.start in
    let within = h.within in
    let d = length-drop at s in
    let n : length line ≡ end - at = sym (ap length h.line)
    ∙ length-take-le (end - at) (drop at s) (omega arith) in
    let long : 13 ≤ length line =
    either (ltb (length line) 13)
    (λ short. absurd (true≢false (sym well ∙ names_short line (ltb-true _ _ short))))
    (λ long. ltb-false _ _ long) in
    let k : end - at - 13 ≡ end - (at + 13) = omega arith in (
      omega arith,
      sym (ap (drop 13) (sym h.line) ∙ drop-take 13 (end - at) (drop at s) ∙ rw (k, drop-drop 13 at s)),
    )
