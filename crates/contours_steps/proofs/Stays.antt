-- A line that is told of a text that fills the room is the first at fault, whatever follows. Assumes nothing.
use Rattle.grid.proofs.LineLaws.{line_room}
use Rattle.std.specs.Prelude.{ℕ, zero, suc, ◌+◌, ◌<◌, ◌≤◌, List, [], ◌∷◌, ◌++◌, map}
use mathlib.Core.{Path.◌≡◌, Path.refl, Path.sym, Path.ap, Path.◌∙◌, Bool.Bool, Bool.true, Bool.false, Bool.cond}
use native.Mathlib.Omega.{arith}
use borrow.Author.Tests.{lt-leb, ltb-true, ltb-false}
use lib.{Dec.ltb, Dec.leb, ListN.length, ListN.get_or, ListN.drop, ListN.length-append, ListN.length-drop}
use lib.{Seq.get_or-drop}
use Rattle.text.specs.{Number.is_got, Line.first_line, Line.lines_of}
use Rattle.text.proofs.{Digits.either, Lines.lines_step, Streams.stream_line}
use Rattle.grid.specs.Row.{is_row}
use Rattle.grid.specs.File.{ncols, nrows, xllcenter, yllcenter, cellsize, unnamed, number_after, names, names_well}
use Rattle.grid.specs.File.{sixth, spelled_in, head_on, named_on, no_data_of, rows_of, first_off, fault_line}
use Rattle.contours_steps.specs.{Sheet.line_begun, Sheet.max_text, Sheet.overlong_line, Told.FillsRoom}
use Rattle.contours_steps.proofs.{Overlong.overlong_twelve, Begun.unended}

-- ---- a line that is ended stays, whatever follows

ended_first : (s : List ℕ) → 1 < line_begun s → length (first_line s) + 2 ≤ length s
unfolding line_begun
ended_first s h =
    either (ltb (length (first_line s)) (length s))
    (λ yes. line_room s (ltb-true (length (first_line s)) (length s) yes))
    (λ no. absurd (omega (arith, ap length (unended s (ltb-false (length (first_line s)) (length s) no)))))

pub line_stays : (i : ℕ) (s u : List ℕ) → i + 1 < line_begun s
    → (get_or (lines_of (s ++ u)) i [] ≡ get_or (lines_of s) i []) × (i < length (lines_of s))
    × (i < length (lines_of (s ++ u)))
unfolding line_begun
line_stays zero s u h =
    let r = ended_first s (omega arith) in
    let a = stream_line s u r in
    let b = lines_step s (omega arith) in (
      ap (λ (ls : List (List ℕ)). get_or ls 0 []) a
          ∙ sym (ap (λ (ls : List (List ℕ)). get_or ls 0 []) b),
      omega (arith, ap length b),
      omega (arith, ap length a),
    )
line_stays (suc i) s u h =
    let r = ended_first s (omega arith) in
    let a = stream_line s u r in
    let b = lines_step s (omega arith) in
    let k =
    line_stays i (drop (length (first_line s) + 2) s) u (omega (arith, ap length (stream_line s (0 ∷ []) r))) in (
      ap (λ (ls : List (List ℕ)). get_or ls (suc i) []) a ∙ k.0
          ∙ sym (ap (λ (ls : List (List ℕ)). get_or ls (suc i) []) b),
      omega (arith, ap length b, k.1),
      omega (arith, ap length a, k.2),
    )

-- ---- the test of each line

abbrev tests_of : List (List ℕ) → List Bool
tests_of ls = head_on ls ++ (named_on ls ++ map (is_row (no_data_of ls)) (rows_of ls))

map_get : (f : List ℕ → Bool) (xs : List (List ℕ)) (j : ℕ) → j < length xs
    → get_or (map f xs) j true ≡ f (get_or xs j [])
map_get f [] j h = absurd (omega arith)
map_get f (x ∷ xs) zero h = refl
map_get f (x ∷ xs) (suc j) h = map_get f xs j (omega arith)

row_at : (f : List ℕ → Bool) (ls : List (List ℕ)) (n j : ℕ) → n + j < length ls
    → get_or (map f (drop n ls)) j true ≡ f (get_or ls (n + j) [])
row_at f ls n j h = map_get f (drop n ls) j (omega (arith, length-drop n ls)) ∙ ap f (get_or-drop n ls j [])

-- the tests from the sixth line on, by that line
body_of : List ℕ → List (List ℕ) → List Bool
body_of six ls =
    cond (names six) (names_well six ∷ map (is_row (spelled_in six)) (drop 6 ls)) (map (is_row unnamed) (drop 5 ls))

body_is : (ls : List (List ℕ)) → named_on ls ++ map (is_row (no_data_of ls)) (rows_of ls) ≡ body_of (sixth ls) ls
unfolding body_of no_data_of rows_of
body_is ls = either (names (sixth ls)) (λ yes. rw yes refl) (λ no. rw no refl)

body_at : (six : List ℕ) (b : Bool) → names six ≡ b → (ls : List (List ℕ)) (j : ℕ) → 5 + j < length ls
    → get_or (body_of six ls) j true ≡ cond b
    (cond (leb j 0) (names_well six) (is_row (spelled_in six) (get_or ls (5 + j) [])))
    (is_row unnamed (get_or ls (5 + j) []))
unfolding body_of
body_at six true e ls zero h = rw e refl
body_at six true e ls (suc j) h =
    let n : 5 + suc j ≡ 6 + j = omega arith in
    rw (e, n, lt-leb (suc j) 0 (omega arith)) (row_at (is_row (spelled_in six)) ls 6 j (omega arith))
body_at six false e ls j h = rw e (row_at (is_row unnamed) ls 5 j h)

module _ (ls ls' : List (List ℕ)) (most : ℕ)
    (same : (k : ℕ) → k < most → (get_or ls' k [] ≡ get_or ls k []) × (k < length ls) × (k < length ls'))
  where
    key_same : (key : List ℕ) (k : ℕ) → k < most
        → is_got (number_after key (get_or ls' k [])) ≡ is_got (number_after key (get_or ls k []))
    key_same key k h = ap (λ (l : List ℕ). is_got (number_after key l)) (same k h).0

    test_same : (i : ℕ) → i < most → get_or (tests_of ls') i true ≡ get_or (tests_of ls) i true
    test_same zero h = key_same ncols 0 h
    test_same (suc zero) h = key_same nrows 1 h
    test_same (suc (suc zero)) h = key_same xllcenter 2 h
    test_same (suc (suc (suc zero))) h = key_same yllcenter 3 h
    test_same (suc (suc (suc (suc zero)))) h = key_same cellsize 4 h
    test_same (suc (suc (suc (suc (suc j))))) h =
        let six : sixth ls' ≡ sixth ls = (same 5 (omega arith)).0 in
        let at : 5 + j < most = omega arith in
        let s = same (5 + j) at in
        ap (λ (bs : List Bool). get_or bs j true) (body_is ls')
        ∙ body_at (sixth ls') (names (sixth ls')) refl ls' j s.2
        ∙ rw (six, s.0) refl
        ∙ sym (body_at (sixth ls) (names (sixth ls)) refl ls j s.1)
        ∙ sym (ap (λ (bs : List Bool). get_or bs j true) (body_is ls))

-- the first that fails, where the tests up to it are the same
first_same : (n f : ℕ) (bs bs' : List Bool) → 1 ≤ n → 1 ≤ f → first_off n bs ≡ f
    → ((i : ℕ) → n + i ≤ f → get_or bs' i true ≡ get_or bs i true) → first_off n bs' ≡ f
unfolding first_off
first_same n f [] bs' one some e same = absurd (omega arith)
first_same n f (false ∷ bs) [] one some e same =
    let t : true ≡ false = same 0 (omega arith) in let z : ◌≡◌ {A = ℕ} 0 1 = cc in absurd (omega arith)
first_same n f (false ∷ bs) (b ∷ bs') one some e same = let t : b ≡ false = same 0 (omega arith) in rw t e
first_same n f (true ∷ bs) [] one some e same =
    first_same (n + 1) f bs [] (omega arith) some e (λ i h. same (suc i) (omega arith))
first_same n f (true ∷ bs) (b ∷ bs') one some e same =
    let later : n + 1 ≤ f = off_later (n + 1) f bs (omega arith) some e in
    let t : b ≡ true = same 0 (omega arith) in
    rw t (first_same (n + 1) f bs bs' (omega arith) some e (λ i h. same (suc i) (omega arith)))
  where
    off_later : (n f : ℕ) (bs : List Bool) → 1 ≤ n → 1 ≤ f → first_off n bs ≡ f → n ≤ f
    off_later n f [] one some e = absurd (omega arith)
    off_later n f (false ∷ bs) one some e = omega arith
    off_later n f (true ∷ bs) one some e = omega (arith, off_later (n + 1) f bs (omega arith) some e)

fault_stays : (s u : List ℕ) → 1 ≤ fault_line (lines_of s) → fault_line (lines_of s) < line_begun s
    → fault_line (lines_of (s ++ u)) ≡ fault_line (lines_of s)
unfolding fault_line
fault_stays s u some ended =
    let f = fault_line (lines_of s) in
    first_same 1 f (tests_of (lines_of s)) (tests_of (lines_of (s ++ u))) (omega arith) some refl
    (λ i h. test_same (lines_of s) (lines_of (s ++ u)) f (λ k l. line_stays k s u (omega arith)) i (omega arith))

-- and back: the first at fault of the longer text is that of its front, where the front ends it
pub fault_back : (s u : List ℕ) → 1 ≤ fault_line (lines_of (s ++ u))
    → fault_line (lines_of (s ++ u)) < line_begun s → fault_line (lines_of s) ≡ fault_line (lines_of (s ++ u))
unfolding fault_line
fault_back s u some ended =
    let f = fault_line (lines_of (s ++ u)) in
    first_same 1 f (tests_of (lines_of (s ++ u))) (tests_of (lines_of s)) (omega arith) some refl
    (λ i h. test_same (lines_of (s ++ u)) (lines_of s) f (λ k l. let x = line_stays k s u (omega arith) in
    (sym x.0, x.2, x.1)) i (omega arith))

-- a line that is told, and that the text ends
overlong_stays : (text u : List ℕ) → 1 ≤ overlong_line text → overlong_line text < line_begun text
    → fault_line (lines_of (text ++ u)) ≡ overlong_line text
unfolding overlong_line
overlong_stays text u some ended =
    let f = fault_line (lines_of text) in
    either (leb f 5)
    (λ head. let o : 1 ≤ f = rw head at some in let e : f < line_begun text = rw head at ended in
    rw head (fault_stays text u o e))
    (λ row. either (ltb f (line_begun text))
    (λ yes. let o : 1 ≤ f = rw (row, yes) at some in
    rw (row, yes) (fault_stays text u o (ltb-true f (line_begun text) yes)))
    (λ no. let z : 1 ≤ 0 = rw (row, no) at some in absurd (omega arith)))

pub fills_room : (front : List ℕ) → max_text ≤ length front → FillsRoom front
fills_room front long =
    record {
      line = overlong_stays front;
      twelve = λ u on. overlong_twelve (front ++ u) (omega (arith, length-append front u)) on;
    }
