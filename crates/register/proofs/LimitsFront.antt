-- limits.csv needs only its first 128 bytes: what follows them changes no answer. Assumes nothing.
use Rattle.std.specs.Prelude.{ℕ, zero, suc, ◌+◌, ◌-◌, ◌*◌, ◌<◌, ◌≤◌, true, false, ◌&&◌, length, get_or, take, drop}
use mathlib.Core.{Path.◌≡◌, Path.refl, Path.sym, Path.ap, Path.◌∙◌, List.List, List.[], List.◌∷◌}
use native.Mathlib.Omega.{arith}
use borrow.Author.Tests.{lt-ltb, lt-leb, leb-true, leb-false, eqb-true}
use lib.ListN.{length-drop}
use lib.{Seq.get_or-take, Seq.take-add, Seq.drop_at, Seq.length-take-le, Dec.leb, Dec.eqb}
use Rattle.refusal.proofs.Laws.{and_left, and_right}
use Rattle.text.specs.{Field.count_of, Field.field_of, Index.every, Line.first_line, Line.lines_of}
use Rattle.std.specs.Prelude.{Option, Some, None}
use Rattle.text.proofs.Digits.{either, whole_small, got_value}
use Rattle.text.proofs.{Exact.whole_exact, Exact.level_exact, Exact.level_small, Fields.widest, Fields.line_within}
use Rattle.text.proofs.{Indices.every_each, Lines.lines_first_lem, Lines.lines_next, Lines.lines_rest, Lines.lines-one}
use Rattle.text.proofs.Shown.{shown_width, level_most}
use Rattle.register.specs.Cell.{limits_cell, cell_at, got_at, value_at, cells_of}
use Rattle.register.specs.Header.{header_of, limits_header}
use Rattle.register.specs.LimitsFile.{second_limits, headed_limits, limits_of}
use Rattle.register.specs.declared.cell.Table.TheVariants as table
use Rattle.register.proofs.Rows.{header_range}

-- the first line of a front of the text: the same where its CRLF is in the front, and else as long as the front
front_line : (m : ℕ) (s : List ℕ) → length (first_line s) + 2 ≤ m → first_line (take m s) ≡ first_line s
unfolding first_line
front_line zero s h = absurd (omega arith)
front_line (suc k) [] h = refl
front_line (suc k) (c ∷ t) h =
    let some : 0 < k = omega arith in
    rw (get_or-take k t 0 0 some)
    (either (eqb c 13 && eqb (get_or t 0 0) 10)
    (λ yes. rw yes)
    (λ no. let l : suc (length (first_line t)) + 2 ≤ suc k = rw no at h in
    rw no (ap (λ x. c ∷ x) (front_line k t (omega arith)))))

front_long : (m : ℕ) (s : List ℕ) → m < length (first_line s) + 2 → m ≤ length s
    → m ≤ length (first_line (take m s))
unfolding first_line
front_long zero s h l = omega arith
front_long (suc k) [] h l = absurd (omega arith)
front_long (suc zero) (c ∷ t) h l = either (eqb c 13) (λ yes. rw yes (omega arith)) (λ no. rw no (omega arith))
front_long (suc (suc k)) (c ∷ t) h l =
    let some : 0 < suc k = omega arith in
    rw (get_or-take (suc k) t 0 0 some)
    (either (eqb c 13 && eqb (get_or t 0 0) 10)
    (λ yes. let z : suc (suc k) < 0 + 2 = rw yes at h in absurd (omega arith))
    (λ no. let z : suc (suc k) < suc (length (first_line t)) + 2 = rw no at h in
    rw no (omega (arith, front_long (suc k) t (omega arith) (omega arith)))))

-- a line of days and limits has at most 63 bytes
width : ℕ → ℕ
width zero = 7
width (suc k) = 6

cell_within : (k : ℕ) (t : List ℕ) (v : ℕ) → limits_cell k t ≡ Some v → length t ≤ width k
unfolding limits_cell width
cell_within zero t v e = omega (arith, ap length (whole_exact t v e), shown_width 7 6 v (whole_small t v e))
cell_within (suc k) t v e = omega (arith, ap length (level_exact t v e), level_most v (level_small t v e))

widest_most : (n : ℕ) → widest width n ≤ 7 + 7 * n
unfolding widest width
widest_most zero = omega arith
widest_most (suc n) = omega (arith, widest_most n)

pub limits_short : (n : ℕ) (s : List ℕ) → n ≤ 8 → (cells_of table.LimitsFile (1 + n) s).read ≡ true
    → length s ≤ 63
unfolding cells_of
limits_short n s few e =
    let a = eqb (count_of 44 s + 1) (1 + n) in
    let b = every (got_at table.LimitsFile s) (1 + n) in
    either (a && b)
    (λ fine. let count : count_of 44 s ≡ n = omega (arith, eqb-true (count_of 44 s + 1) (1 + n) (and_left a b fine)) in
    let all = line_within 44 n s width count (λ i h.
    let l : i < 1 + n = omega arith in
    cell_within i (field_of 44 i s) (value_at table.LimitsFile s i)
    (got_value (cell_at table.LimitsFile s i)
    (every_each (got_at table.LimitsFile s) i (1 + n) l (and_right a b fine)))) in
    omega (arith, all, widest_most n))
    (λ bad. let z : false ≡ true = rw bad at e in let y : ◌≡◌ {A = ℕ} 0 1 = cc in absurd (omega arith))

long_off : (n : ℕ) (s : List ℕ) → n ≤ 8 → 63 < length s → (cells_of table.LimitsFile (1 + n) s).read ≡ false
long_off n s few h =
    either (cells_of table.LimitsFile (1 + n) s).read
    (λ yes. absurd (omega (arith, limits_short n s few yes)))
    (λ no. no)

-- the second line of a front
second_front : (n : ℕ) (t : List ℕ) (m : ℕ) → n ≤ 8 → 98 ≤ m → m ≤ length t
    → second_limits n (first_line t) (1 + length (lines_of t)) ≡ second_limits n (first_line (take m t))
    (1 + length (lines_of (take m t)))
unfolding second_limits
second_front n t m few wide fits =
    let l = length (first_line t) in
    let size : length (take m t) ≡ m = length-take-le m t fits in
    either (leb (l + 2) m)
    (λ yes. let same = front_line m t (leb-true (l + 2) m yes) in
    either (cells_of table.LimitsFile (1 + n) (first_line t)).read
    (λ read. let short = limits_short n (first_line t) few read in
    rw (
      same,
      read,
      lines-one t,
      lines-one (take m t),
      same,
      size,
      lt-leb (length t) (l + 2) (omega arith),
      lt-leb m (l + 2) (omega arith),
    ))
    (λ off. rw (same, off)))
    (λ no. let long = leb-false (l + 2) m no in
    rw (
      long_off n (first_line t) few (omega arith),
      long_off n (first_line (take m t)) few
          (omega (arith, front_long m t long fits)),
    ))

-- a header has at most 28 bytes
header_off_lem : (s : List ℕ) → 28 < length s → header_of limits_header 4 s ≡ None
unfolding header_of
header_off_lem s h = rw (lt-ltb 4 (length s) (omega arith), lt-leb (length s) 28 h)

header_most_lem : (s : List ℕ) (n : ℕ) → header_of limits_header 4 s ≡ Some n → length s ≤ 28
header_most_lem s n e =
    either (leb (length s) 28)
    (λ yes. leb-true (length s) 28 yes)
    (λ no. let x : None ≡ Some n = sym (header_off_lem s (leb-false (length s) 28 no)) ∙ e in
    let z : ◌≡◌ {A = ℕ} 0 1 = cc in absurd (omega arith))

-- limits.csv by its first line and what follows
opened : (s : List ℕ) → 1 ≤ length s → let t = drop (length (first_line s) + 2) s in
    limits_of s ≡ headed_limits (header_of limits_header 4 (first_line s)) (first_line t) (1 + length (lines_of t))
unfolding limits_of
opened s h =
    let t = drop (length (first_line s) + 2) s in
    rw (lines_first_lem s, lines_next s 0 h ∙ lines_first_lem t, lines_rest s h)

headed_same : (r : Option ℕ) (a b : List ℕ) (j k : ℕ)
    → ((n : ℕ) → r ≡ Some n → second_limits n a j ≡ second_limits n b k)
    → headed_limits r a j ≡ headed_limits r b k
headed_same None a b j k h = refl
headed_same (Some n) a b j k h = h n refl

drop-take : (a b : ℕ) (s : List ℕ) → a ≤ length s → drop a (take (a + b) s) ≡ take b (drop a s)
drop-take a b s h = ap (drop a) (take-add a b s) ∙ drop_at (take a s) (take b (drop a s)) a (length-take-le a s h)

pub limits_front : (s : List ℕ) → 128 ≤ length s → limits_of s ≡ limits_of (take 128 s)
limits_front s h =
    let p = take 128 s in
    let size : length p ≡ 128 = length-take-le 128 s h in
    let l = length (first_line s) in
    either (leb (l + 2) 128)
    (λ yes. let near = leb-true (l + 2) 128 yes in
    let same = front_line 128 s near in
    let rest : drop (l + 2) p ≡ take (128 - (l + 2)) (drop (l + 2) s) =
    ap (λ k. drop (l + 2) (take k s)) (let w : 128 ≡ l + 2 + (128 - (l + 2)) = omega arith in w)
    ∙ drop-take (l + 2) (128 - (l + 2)) s (omega arith) in
    opened s (omega arith)
    ∙ headed_same (header_of limits_header 4 (first_line s)) _ _ _ _ (λ n e.
    second_front n (drop (l + 2) s) (128 - (l + 2)) (header_range limits_header 4 (first_line s) n e).1
    (omega (arith, header_most_lem (first_line s) n e)) (rw (length-drop (l + 2) s) (omega arith)))
    ∙ sym (opened p (omega arith) ∙ rw (same, rest)))
    (λ no. let far = leb-false (l + 2) 128 no in
    opened s (omega arith)
    ∙ rw (header_off_lem (first_line s) (omega arith))
    (sym (opened p (omega arith) ∙ rw (header_off_lem (first_line p) (omega (arith, front_long 128 s far h))))))
