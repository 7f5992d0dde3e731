-- The first refusal of a text counts; and a text that is not refused has no line that is. Assumes nothing.
use mathlib.Core.{Path.◌≡◌, Path.refl, Path.sym, Path.ap, Path.◌∙◌, Bool.true, Bool.and-false}
use Rattle.std.specs.Prelude.{ℕ, zero, suc, ◌+◌, ◌<◌, ◌≤◌, List, [], ◌∷◌}
use native.Mathlib.Omega.{arith}
use lib.{ListN.length, ListN.get_or, ListN.take, Dec.eqb, Dec.leb}
use borrow.Author.Tests.{eq-eqb, ne_eqb, eqb-true, eqb-false, leb-true, leb-false}
use Rattle.refusal.proofs.Laws.{nil_of_lem}
use Rattle.text.specs.Line.{lines_of}
use Rattle.text.proofs.Digits.{either}
use Rattle.stream.specs.Reading.{Step, Reading, opening, line_read, lines_read, closing, whole_read}
use Rattle.stream.specs.Refused.{held_after, FirstRefused, TextRefused, TextAccepted}
use Rattle.stream.proofs.Readings.{closing_refused, stuck, line_fine, all_lines, whole_fine}

-- the first refusal of some lines
record FirstAt {A : Type 0} (step : Step A) (s : Reading A) (ls : List (List ℕ)) : Type 0 where
  before : ℕ
  reached : before < length ls
  fine : (lines_read step s (take before ls)).refusal ≡ 0
  line : (lines_read step s ls).line ≡ s.line + before
  number : (lines_read step s ls).refusal
      ≡ step.refusal (s.line + before) (lines_read step s (take before ls)).held (get_or ls before [])

module _ {A : Type 0} (step : Step A) where
  line_stops : (s : Reading A) (l : List ℕ) → ((line_read step s l).refusal ≡ 0 → ⊥)
      → (line_read step s l).line ≡ s.line
  unfolding line_read
  line_stops s l ne = rw (ne_eqb (step.refusal s.line s.held l) 0 ne) refl

  line_goes : (s : Reading A) (l : List ℕ) → (line_read step s l).refusal ≡ 0
      → (line_read step s l).line ≡ s.line + 1
  unfolding line_read
  line_goes s l z = rw z refl

  read_number : (s : Reading A) (l : List ℕ)
      → (line_read step s l).refusal ≡ step.refusal (s.line + 0) s.held l
  unfolding line_read
  read_number s l = let q : s.line + 0 ≡ s.line = omega arith in rw q refl

  first_at_rule : (s : Reading A) (ls : List (List ℕ)) → s.refusal ≡ 0
      → ((lines_read step s ls).refusal ≡ 0 → ⊥)
      → FirstAt step s ls
  unfolding lines_read
  first_at_rule s [] z ne = absurd (ne z)
  first_at_rule s (l ∷ ls) z ne =
      let go = eq-eqb s.refusal 0 z in
      let s₁ = line_read step s l in
      either (eqb s₁.refusal 0)
      (λ yes. let none = eqb-true s₁.refusal 0 yes in
      let k = first_at_rule s₁ ls none (rw go at ne) in
      let on : s₁.line + k.before ≡ s.line + suc k.before = omega (arith, line_goes s l none) in
      record {
        before = suc k.before;
        reached = omega (arith, k.reached);
        fine = rw go k.fine;
        line = rw go (k.line ∙ on);
        number = rw (go, ← on) k.number;
      })
      (λ no. let some = eqb-false s₁.refusal 0 no in
      let stays = stuck step s₁ ls some in
      record {
        before = 0;
        reached = omega arith;
        fine = z;
        line = rw (go, stays) (line_stops s l some ∙ omega arith);
        number = rw (go, stays) (read_number s l);
      })

  closing_read : (s : Reading A) → 2 ≤ s.line → closing s ≡ s
  unfolding closing
  closing_read s two = rw (ne_eqb s.line 1 (λ e. absurd (omega arith)), and-false (eqb s.refusal 0)) refl

  empty_text_rule : (a : A) (bytes : List ℕ) → lines_of bytes ≡ []
      → whole_read step a bytes ≡ record { refusal = 16; line = 1; held = a }
  unfolding whole_read lines_read closing
  empty_text_rule a bytes e = rw e refl

  first_of : (a : A) (bytes : List ℕ) → 1 ≤ length (lines_of bytes) → ((whole_read step a bytes).refusal ≡ 0 → ⊥)
      → FirstRefused step a bytes (whole_read step a bytes).refusal (whole_read step a bytes).line
  unfolding whole_read
  first_of a bytes some ne =
      let ls = lines_of bytes in
      let s = lines_read step (opening a) ls in
      let not : s.refusal ≡ 0 → ⊥ =
      λ z. ne (ap (λ (q : Reading A). q.refusal)
      (closing_read s (omega (arith, all_lines step (opening a) ls z))) ∙ z) in
      let k = first_at_rule (opening a) ls refl not in
      let e = closing_refused s not in
      let line : (closing s).line ≡ 1 + k.before = ap (λ (q : Reading A). q.line) e ∙ k.line in
      let on : (closing s).line ≡ k.before + 1 = omega (arith, line) in
      record {
        before = k.before;
        reached = k.reached;
        fine = k.fine;
        line= = on;
        number= = ap (λ (q : Reading A). q.refusal) e ∙ k.number
            ∙ ap (λ (n : ℕ). step.refusal n (held_after step a bytes k.before) (get_or ls k.before [])) (sym line);
      }

  pub text_refused : (a : A) (bytes : List ℕ) → TextRefused step a bytes
  text_refused a bytes =
      record {
        empty = λ z. let e = empty_text_rule a bytes (nil_of_lem (lines_of bytes) z) in
            (ap (λ (s : Reading A). s.refusal) e, ap (λ (s : Reading A). s.line) e);
        first = first_of a bytes;
      }

  -- A text that is not refused

  -- no line of some is refused that are read without a refusal
  pub lines_fine : (s : Reading A) (ls : List (List ℕ)) → (lines_read step s ls).refusal ≡ 0
      → (i : ℕ) → i < length ls
      → step.refusal (s.line + i) (lines_read step s (take i ls)).held (get_or ls i []) ≡ 0
  unfolding lines_read
  lines_fine s [] z i h = absurd (omega arith)
  lines_fine s (l ∷ ls) z i h =
      either (eqb s.refusal 0)
      (λ go. let on : (lines_read step (line_read step s l) ls).refusal ≡ 0 = rw go at z in
      each go (line_fine step s l ls on) (lines_fine (line_read step s l) ls on) i h)
      (λ no. absurd (eqb-false s.refusal 0 no (rw no at z)))
    where
      each : eqb s.refusal 0 ≡ true
          → (step.refusal s.line s.held l ≡ 0) × ((line_read step s l).line ≡ s.line + 1)
          → ((j : ℕ) → j < length ls → step.refusal ((line_read step s l).line + j)
          (lines_read step (line_read step s l) (take j ls)).held (get_or ls j [])
          ≡ 0)
          → (j : ℕ) → j < suc (length ls)
          → step.refusal (s.line + j) (lines_read step s (take j (l ∷ ls))).held (get_or (l ∷ ls) j []) ≡ 0
      each go f more zero k = let e : s.line + 0 ≡ s.line = omega arith in rw e f.0
      each go f more (suc j) k =
          let e : s.line + suc j ≡ (line_read step s l).line + j = omega (arith, f.1) in
          rw (e, go) (more j (omega arith))

  some_line : (a : A) (bytes : List ℕ) → (whole_read step a bytes).refusal ≡ 0 → 1 ≤ length (lines_of bytes)
  some_line a bytes z =
      either (leb 1 (length (lines_of bytes)))
      (λ yes. leb-true 1 (length (lines_of bytes)) yes)
      (λ no. let none : length (lines_of bytes) ≡ 0 = omega (arith, leb-false 1 (length (lines_of bytes)) no) in
      absurd (omega (arith, z, ((text_refused a bytes).empty none).0)))

  pub text_accepted : (a : A) (bytes : List ℕ) → (whole_read step a bytes).refusal ≡ 0 → TextAccepted step a bytes
  text_accepted a bytes z =
      let read = ap (λ (s : Reading A). s.refusal) (sym (whole_fine step a bytes z)) ∙ z in
      record {
        some = some_line a bytes z;
        each = λ i h.
            let e : 1 + i ≡ i + 1 = omega arith in
            rw (← e) (lines_fine (opening a) (lines_of bytes) read i h);
      }

  -- and the other way: where some line stands and none is refused, the text is not
  pub fine_accepted : (a : A) (bytes : List ℕ) → TextAccepted step a bytes → (whole_read step a bytes).refusal ≡ 0
  fine_accepted a bytes k =
      let s = whole_read step a bytes in
      either (eqb s.refusal 0)
      (λ yes. eqb-true s.refusal 0 yes)
      (λ no. let ne = eqb-false s.refusal 0 no in
      let f = (text_refused a bytes).first k.some ne in
      let z : s.refusal ≡ 0 = f.number= ∙ rw f.line= (k.each f.before f.reached) in
      absurd (ne z))

  -- The other way too: a line that is refused on what the lines before it leave, none of which is refused, is told

  told_from : (s : Reading A) (ls : List (List ℕ)) (n : ℕ) → s.refusal ≡ 0 → n < length ls
      → (lines_read step s (take n ls)).refusal ≡ 0
      → (step.refusal (s.line + n) (lines_read step s (take n ls)).held (get_or ls n []) ≡ 0 → ⊥)
      → ((lines_read step s ls).refusal
      ≡ step.refusal (s.line + n) (lines_read step s (take n ls)).held (get_or ls n []))
      × ((lines_read step s ls).line ≡ s.line + n)
  unfolding lines_read
  told_from s [] n z h fine ne = absurd (omega arith)
  told_from s (l ∷ ls) zero z h fine ne =
      let stays = stuck step (line_read step s l) ls (λ q. ne (sym (read_number s l) ∙ q)) in
      let stop = line_stops s l (λ q. ne (sym (read_number s l) ∙ q)) in
      rw (eq-eqb s.refusal 0 z, stays) (read_number s l, omega (arith, stop))
  told_from s (l ∷ ls) (suc m) z h fine ne =
      let go = eq-eqb s.refusal 0 z in
      let on : (lines_read step (line_read step s l) (take m ls)).refusal ≡ 0 = rw go at fine in
      let f = line_fine step s l (take m ls) on in
      let e : s.line + suc m ≡ (line_read step s l).line + m = omega (arith, f.1) in
      let none : (line_read step s l).refusal ≡ 0 = read_number s l ∙ zeroth f.0 in
      rw (go, e) (told_from (line_read step s l) ls m none (omega arith) on (rw (go, e) at ne))
    where
      zeroth : step.refusal s.line s.held l ≡ 0 → step.refusal (s.line + 0) s.held l ≡ 0
      zeroth q = let e : s.line + 0 ≡ s.line = omega arith in rw e q

  pub first_told : (a : A) (bytes : List ℕ) (number line : ℕ) → FirstRefused step a bytes number line
      → (number ≡ 0 → ⊥)
      → ((whole_read step a bytes).refusal ≡ number) × ((whole_read step a bytes).line ≡ line)
  unfolding whole_read
  first_told a bytes number line f ne =
      let ls = lines_of bytes in
      let s = lines_read step (opening a) ls in
      let e : line ≡ 1 + f.before = omega (arith, f.line=) in
      let same : number ≡ step.refusal (1 + f.before) (held_after step a bytes f.before) (get_or ls f.before []) =
      f.number= ∙ ap (λ (n : ℕ). step.refusal n (held_after step a bytes f.before) (get_or ls f.before [])) e in
      let k = told_from (opening a) ls f.before refl f.reached f.fine (λ q. ne (same ∙ q)) in
      let is : s.refusal ≡ number = k.0 ∙ sym same in
      let c = closing_refused s (λ q. ne (sym is ∙ q)) in (
        ap (λ (q : Reading A). q.refusal) c ∙ is,
        ap (λ (q : Reading A). q.line) c ∙ k.1 ∙ sym e,
      )
