-- Laws of a reading: bytes that come piece by piece are read as the whole is, and no line is left out. Assumes nothing.
use Rattle.std.specs.Prelude.{◌≡◌, ℕ, suc, ◌+◌, ◌<◌, ◌≤◌, Bool, true, false, cond, ◌&&◌, List, [], ◌∷◌, ◌++◌}
use mathlib.Core.Path.{refl, sym, ap, ◌∙◌}
use mathlib.Core.Bool.{and-false}
use mathlib.Core.List.{append-nil, append_assoc}
use native.Mathlib.Omega.{arith}
use lib.{Dec.eqb, ListN.length, ListN.drop, ListN.drop_of_length-le}
use borrow.Author.Tests.{eq-eqb, ne_eqb, eqb-true, eqb-false}
use Rattle.text.specs.Line.{first_line, lines_of}
use Rattle.text.proofs.{Digits.either, Lines.lines_step, Lines.lines_none, Streams.stream_line}
use Rattle.stream.specs.Reading.{Step, Reading, line_read, lines_read, read_on, opening, closing, whole_read}
use Rattle.stream.specs.Reading.{Onward, Unended}

-- a text with no CRLF is its own first line
pub whole_line_lem : (xs : List ℕ) → Unended xs → first_line xs ≡ xs
unfolding first_line
whole_line_lem [] h = refl
whole_line_lem (c ∷ []) h = rw (and-false (eqb c 13)) refl
whole_line_lem (c ∷ (d ∷ xs)) h = go (eqb c 13 && eqb d 10) h (whole_line_lem (d ∷ xs))
  where
    go : (b : Bool) → suc (suc (length xs)) < length (cond b [] (c ∷ first_line (d ∷ xs))) + 2
        → (suc (length xs) < length (first_line (d ∷ xs)) + 2 → first_line (d ∷ xs) ≡ d ∷ xs)
        → cond b [] (c ∷ first_line (d ∷ xs)) ≡ c ∷ (d ∷ xs)
    go true h r = absurd (omega arith)
    go false h r = ap (λ (l : List ℕ). c ∷ l) (r (omega arith))

pub last_line : (xs : List ℕ) → Unended xs → 1 ≤ length xs → lines_of xs ≡ xs ∷ []
last_line xs h some =
    let most : length xs ≤ length xs + 2 = omega arith in
    lines_step xs some ∙ rw (whole_line_lem xs h, drop_of_length-le xs most, lines_none) refl

module _ {A : Type 0} where
  -- a reading that is refused has a line
  pub closing_refused : (s : Reading A) → (s.refusal ≡ 0 → ⊥) → closing s ≡ s
  unfolding closing
  closing_refused s ne = rw (ne_eqb s.refusal 0 ne) refl

  module _ (step : Step A) where
    -- Bytes that come piece by piece

    pub onward_none : (s : Reading A) (all : List ℕ) → Onward step s all s all
    onward_none s all = record { same = λ t. refl }

    -- a reading that is refused goes no further
    pub stuck : (s : Reading A) (ls : List (List ℕ)) → (s.refusal ≡ 0 → ⊥) → lines_read step s ls ≡ s
    unfolding lines_read
    stuck s [] ne = refl
    stuck s (l ∷ ls) ne = rw (ne_eqb s.refusal 0 ne) refl

    -- a line that is ended
    pub onward_line : (s : Reading A) (xs : List ℕ) → s.refusal ≡ 0
        → length (first_line xs) + 2 ≤ length xs
        → Onward step s xs (line_read step s (first_line xs)) (drop (length (first_line xs) + 2) xs)
    unfolding lines_read
    onward_line s xs z h = record { same = λ t. rw (stream_line xs t h, eq-eqb s.refusal 0 z) refl }

    -- the last bytes, where none follow: a line that no CRLF ends, or nothing
    pub read-last : (s : Reading A) (xs : List ℕ) → s.refusal ≡ 0 → Unended xs → 1 ≤ length xs
        → read_on step s xs ≡ line_read step s xs
    unfolding lines_read
    read-last s xs z h some = rw (last_line xs h some, eq-eqb s.refusal 0 z) refl

    pub read_none : (s : Reading A) (xs : List ℕ) → length xs ≡ 0 → read_on step s xs ≡ s
    unfolding lines_read
    read_none s [] z = rw lines_none refl
    read_none s (c ∷ xs) z = absurd (omega arith)

    -- No line is left out: where nothing is refused, as many lines are read as the text has

    -- one line, before others that are read without a refusal
    pub line_fine : (s : Reading A) (l : List ℕ) (ls : List (List ℕ))
        → (lines_read step (line_read step s l) ls).refusal ≡ 0
        → (step.refusal s.line s.held l ≡ 0) × ((line_read step s l).line ≡ s.line + 1)
    unfolding line_read
    line_fine s l ls z =
        either (eqb (step.refusal s.line s.held l) 0)
        (λ yes. (eqb-true (step.refusal s.line s.held l) 0 yes, rw yes refl))
        (λ no. let ne = eqb-false (step.refusal s.line s.held l) 0 no in
        absurd (ne (ap (λ (r : Reading A). r.refusal) (sym (stuck (line_read step s l) ls ne)) ∙ z)))

    pub all_lines : (s : Reading A) (ls : List (List ℕ)) → (lines_read step s ls).refusal ≡ 0
        → (lines_read step s ls).line ≡ s.line + length ls
    unfolding lines_read
    all_lines s [] z = omega arith
    all_lines s (l ∷ ls) z =
        either (eqb s.refusal 0)
        (λ yes. let z' : (lines_read step (line_read step s l) ls).refusal ≡ 0 = rw yes at z in
        rw yes (omega (arith, all_lines (line_read step s l) ls z', (line_fine s l ls z').1)))
        (λ no. absurd (eqb-false s.refusal 0 no (rw no at z)))

    -- a whole text that is not refused was read to its end, from a first line on
    pub whole_fine : (a : A) (bytes : List ℕ) → (whole_read step a bytes).refusal ≡ 0
        → whole_read step a bytes ≡ read_on step (opening a) bytes
    unfolding whole_read closing
    whole_fine a bytes z =
        let s = read_on step (opening a) bytes in
        either (eqb s.refusal 0 && eqb s.line 1)
        (λ yes. let never : ◌≡◌ {A = ℕ} 16 0 = rw yes at z in absurd (omega arith))
        (λ no. rw no refl)

    pub whole_lines : (a : A) (bytes : List ℕ) → (whole_read step a bytes).refusal ≡ 0
        → (whole_read step a bytes).line ≡ 1 + length (lines_of bytes)
    whole_lines a bytes z =
        let e = whole_fine a bytes z in
        let line = all_lines (opening a) (lines_of bytes) (ap (λ (s : Reading A). s.refusal) (sym e) ∙ z) in
        ap (λ (s : Reading A). s.line) e ∙ line

  module _ {step : Step A} where
    pub onward_then : {s s' s'' : Reading A} {all rest rest' : List ℕ} → Onward step s all s' rest
        → Onward step s' rest s'' rest' → Onward step s all s'' rest'
    onward_then f g = record { same = λ t. f.same t ∙ g.same t }

    -- more bytes come: they stand behind all that came, and behind what is left of it
    pub onward_more : {s s' : Reading A} {all rest : List ℕ} (got : List ℕ) → Onward step s all s' rest
        → Onward step s (all ++ got) s' (rest ++ got)
    onward_more {s} {s'} {all} {rest} got f =
        record { same = λ t. rw (append_assoc all got t, append_assoc rest got t) (f.same (got ++ t)) }

    -- where a reading is refused, no byte that follows counts
    pub onward_refused : {s s' : Reading A} {xs ys : List ℕ} (rest : List ℕ) → Onward step s xs s' ys
        → (s'.refusal ≡ 0 → ⊥) → Onward step s xs s' rest
    onward_refused {s} {s'} {xs} {ys} rest f ne =
        record {
          same = λ t. f.same t ∙ stuck step s' (lines_of (ys ++ t)) ne
              ∙ sym (stuck step s' (lines_of (rest ++ t)) ne);
        }

    -- at the end of the bytes: nothing follows
    pub onward_end : {s s' : Reading A} {all rest : List ℕ} → Onward step s all s' rest
        → read_on step s all ≡ read_on step s' rest
    onward_end {s} {s'} {all} {rest} f = rw (append-nil all, append-nil rest) at (f.same [])
