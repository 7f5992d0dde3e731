-- A file is accepted exactly if it is right, and is refused at its first line at fault. Assumes nothing.
use Rattle.std.specs.Prelude.{ℕ, zero, suc, ◌+◌, ◌-◌, ◌<◌, ◌≤◌, Bool, true, false, cond, List, [], ◌∷◌, ◌++◌, map}
use mathlib.Core.{Path.◌≡◌, Path.refl, Path.sym, Path.ap, Path.◌∙◌, Logic.◌↔◌, Logic.⊎_elim}
use mathlib.Core.List.{append-nil, append_assoc}
use native.Mathlib.Omega.{arith}
use lib.{ListN.length, ListN.get_or, ListN.take, ListN.drop, ListN.length-drop, Seq.get_or-drop, Seq.get_or-take}
use lib.{Seq.length-take-le, Dec.eqb, Dec.leb}
use borrow.Author.Tests.{eq-eqb, ne_eqb, eqb-true, eqb-false, le-leb, lt-leb, leb-true, leb-false}
use Rattle.refusal.specs.Refuse.{refuse}
use Rattle.refusal.proofs.Laws.{refuse_none}
use Rattle.room.proofs.Answers.{first_none_lem}
use Rattle.date.specs.Calendar.{date_exists}
use Rattle.text.specs.Line.{lines_of, bare_line}
use Rattle.text.proofs.Digits.{either}
use Rattle.flights.specs.{Row.flight_of, Row.judged_flight, Row.values_of, Header.header_refusal, Spelled.Spells}
use Rattle.flights.specs.Row.{Flight}
use Rattle.flights.proofs.{Exact.row_laid, Exact.laid_spells, Exact.row_exactly, Headers.headers_are}
use Rattle.coupling_rules.specs.Limits.{max_flights}
use Rattle.stream.specs.Reading.{Reading, opening, lines_read, line_read}
use Rattle.stream.specs.Refused.{FirstRefused}
use Rattle.stream.proofs.Readings.{line_fine, whole_fine}
use Rattle.stream.proofs.Firsts.{lines_fine, text_refused, text_accepted, fine_accepted}
use Rattle.couple_steps.specs.Table.{Rows, numbers_of, line_refusal, line_after, table_step, table_of}
use Rattle.couple_steps.specs.Right.{track_heading, movement_heading, rows_of, Reads, Right, Passes, Fault, Refused}

-- a row on its layout is judged by its date
dated : (values : List ℕ) (b : Bool) → date_exists (get_or values 1 0) ≡ b → (judged_flight values).refusal
    ≡ cond b 0 18
unfolding judged_flight
dated values true e = rw e refl
dated values false e = rw e refl

-- One row

module _ (columns : ℕ) (row : List ℕ) where
  row_reads : (flight_of columns row).refusal ≡ 0 → Reads columns row
  row_reads z =
      let on = (row_exactly columns row).on z in
      record { values = (flight_of columns row).values; spelled = on.0; exists = on.1 }

  pub reads_row : Reads columns row → (flight_of columns row).refusal ≡ 0
  reads_row r = ap (λ (f : Flight). f.refusal) ((row_exactly columns row).only r.values r.spelled r.exists)

  -- off its layout it spells nothing
  off_layout_rule : (flight_of columns row).refusal ≡ 16 → (values : List ℕ) → Spells columns row values → ⊥
  off_layout_rule sixteen values spelled =
      either (date_exists (get_or values 1 0))
      (λ yes. let z = ap (λ (f : Flight). f.refusal) ((row_exactly columns row).only values spelled yes) in
      omega (arith, z, sixteen))
      (λ no. let e = ap (λ (f : Flight). f.refusal) ((row_exactly columns row).undated values spelled no) in
      omega (arith, e, sixteen))

-- One line, of a file whose header is accepted exactly

module _ (columns : ℕ) (heading : List ℕ) (headed : (line : List ℕ) → header_refusal columns line ≡ 0 ↔ line ≡ heading)
    (n : ℕ) (line : List ℕ) where
  later_row : (n ≡ 1 → ⊥) → line_refusal columns n line ≡ 0
      → ((flight_of columns line).refusal ≡ 0) × (n ≤ max_flights + 1)
  unfolding line_refusal
  later_row more z =
      let e = rw (ne_eqb n 1 more) at z in
      let both = first_none_lem (flight_of columns line).refusal (refuse 18 (leb n (max_flights + 1)) 0) e in
      (both.0, leb-true n (max_flights + 1) (refuse_none 18 (leb n (max_flights + 1)) 0 (omega arith) both.1).0)

  pub first_header : n ≡ 1 → line_refusal columns n line ≡ header_refusal columns line
  unfolding line_refusal
  first_header one = rw (eq-eqb n 1 one) refl

  pub line_passes : 1 ≤ n → line_refusal columns n line ≡ 0 → Passes columns heading n line
  line_passes some z =
      either (eqb n 1)
      (λ yes. let one = eqb-true n 1 yes in Passes.header one ((headed line).0 (sym (first_header one) ∙ z)))
      (λ no. let more = eqb-false n 1 no in
      let row = later_row more z in
      Passes.row (omega (arith, more)) row.1 (row_reads columns line row.0))

  pub passes_line : Passes columns heading n line → line_refusal columns n line ≡ 0
  unfolding line_refusal
  passes_line (Passes.header one is) = rw (eq-eqb n 1 one) ((headed line).1 is)
  passes_line (Passes.row two few reads) =
      let more : n ≡ 1 → ⊥ = λ e. absurd (omega arith) in
      rw (ne_eqb n 1 more, reads_row columns line reads, le-leb n (max_flights + 1) few) refl

  -- a row that is refused by itself, and one past 50,000
  pub refused_row : (n ≡ 1 → ⊥) → ((flight_of columns line).refusal ≡ 0 → ⊥)
      → line_refusal columns n line ≡ (flight_of columns line).refusal
  unfolding line_refusal
  refused_row more ne = rw (ne_eqb n 1 more, ne_eqb (flight_of columns line).refusal 0 ne) refl

  pub over_row : (n ≡ 1 → ⊥) → (flight_of columns line).refusal ≡ 0 → max_flights + 1 < n → line_refusal columns n line
      ≡ 18
  unfolding line_refusal
  over_row more z over = rw (ne_eqb n 1 more, z, lt-leb n (max_flights + 1) over) refl

  row_fault_rule : (n ≡ 1 → ⊥) → 2 ≤ n → ((flight_of columns line).refusal ≡ 0 → ⊥)
      → Fault columns heading n line (line_refusal columns n line)
  row_fault_rule more two ne =
      let is = refused_row more ne in
      let values = values_of columns (bare_line line) in
      ⊎_elim
      (λ off. let sixteen = ap (λ (f : Flight). f.refusal) off in
      Fault.off two (off_layout_rule columns line sixteen) (is ∙ sixteen))
      (λ on. let judged = ap (λ (f : Flight). f.refusal) on.1 in
      either (date_exists (get_or values 1 0))
      (λ yes. absurd (ne (judged ∙ dated values true yes)))
      (λ no. Fault.undated two values (laid_spells columns line on.0) no (is ∙ judged ∙ dated values false no)))
      (row_laid columns line)

  pub line_fault : 1 ≤ n → (line_refusal columns n line ≡ 0 → ⊥)
      → Fault columns heading n line (line_refusal columns n line)
  line_fault some ne =
      either (eqb n 1)
      (λ yes. let one = eqb-true n 1 yes in
      let is = first_header one in
      let no_header : header_refusal columns line ≡ 0 → ⊥ = λ z. ne (is ∙ z) in
      Fault.header one (λ e. no_header ((headed line).1 e)) (is ∙ headers_are.other columns line no_header))
      (λ no. let more = eqb-false n 1 no in
      let two : 2 ≤ n = omega (arith, more) in
      either (eqb (flight_of columns line).refusal 0)
      (λ fine. let z = eqb-true (flight_of columns line).refusal 0 fine in
      either (leb n (max_flights + 1))
      (λ few. absurd (ne (passes_line (Passes.row two (leb-true n (max_flights + 1) few) (row_reads columns line z)))))
      (λ over. let past = leb-false n (max_flights + 1) over in
      Fault.past past (row_reads columns line z) (over_row more z past)))
      (λ refused. row_fault_rule more two (eqb-false (flight_of columns line).refusal 0 refused)))

-- A whole file

module _ (columns : ℕ) (heading : List ℕ) (headed : (line : List ℕ) → header_refusal columns line ≡ 0 ↔ line ≡ heading)
    (file : List ℕ) where
  -- row i is line i + 2
  row_line : (i : ℕ) → get_or (rows_of file) i [] ≡ get_or (lines_of file) (suc i) []
  row_line i =
      let e : 1 + i ≡ suc i = omega arith in
      get_or-drop 1 (lines_of file) i [] ∙ ap (λ (k : ℕ). get_or (lines_of file) k []) e

  pub accepted_right : (table_of columns file).refusal ≡ 0 → Right columns heading file
  accepted_right z =
      let k = text_accepted (table_step columns) [] file z in
      let lines = lines_of file in
      let pass : (i : ℕ) → i < length lines → Passes columns heading (i + 1) (get_or lines i []) =
      λ i h. line_passes columns heading headed (i + 1) (get_or lines i []) (omega arith) (k.each i h) in
      record {
        some = k.some;
        first = as_header (pass 0 k.some) refl;
        each = λ i h.
            let low : suc i < length lines = omega (arith, length-drop 1 lines) in
            rw (row_line i) (as_row (pass (suc i) low) (omega arith)).0;
        few = few (λ i h. (as_row (pass (suc i) h) (omega arith)).1);
      }
    where
      as_header : {n : ℕ} {line : List ℕ} → Passes columns heading n line → n ≡ 1 → line ≡ heading
      as_header (Passes.header one is) e = is
      as_header (Passes.row two most reads) e = absurd (omega arith)

      as_row : {n : ℕ} {line : List ℕ} → Passes columns heading n line → 2 ≤ n → Reads columns line × (n ≤ 50001)
      as_row (Passes.header one is) two = absurd (omega arith)
      as_row (Passes.row least most reads) two = (reads, most)

      few : ((i : ℕ) → suc i < length (lines_of file) → suc i + 1 ≤ 50001) → length (rows_of file) ≤ 50000
      few most =
          let n = length (lines_of file) in
          either (leb 2 n)
          (λ yes. let two = leb-true 2 n yes in
          omega (arith, length-drop 1 (lines_of file), most (n - 2) (omega arith)))
          (λ no. omega (arith, length-drop 1 (lines_of file), leb-false 2 n no))

  pub right_accepted : Right columns heading file → (table_of columns file).refusal ≡ 0
  right_accepted r = fine_accepted (table_step columns) [] file (record { some = r.some; each = each })
    where
      each : (i : ℕ) → i < length (lines_of file) → line_refusal columns (i + 1) (get_or (lines_of file) i []) ≡ 0
      each zero h = passes_line columns heading headed 1 (get_or (lines_of file) 0 []) (Passes.header refl r.first)
      each (suc i) h =
          let line = get_or (lines_of file) (suc i) [] in
          let low : i < length (rows_of file) = omega (arith, length-drop 1 (lines_of file)) in
          passes_line columns heading headed (suc i + 1) line
          (Passes.row (omega arith) (omega (arith, length-drop 1 (lines_of file), r.few))
          (rw (row_line i) at (r.each i low)))

  -- the first line at fault
  pub first_fault : {number line : ℕ} → FirstRefused (table_step columns) [] file number line → (number ≡ 0 → ⊥)
      → Refused columns heading file number line
  first_fault {number} {line} k ne =
      let lines = lines_of file in
      let is : Fault columns heading line (get_or lines k.before []) number =
      rw k.number= (line_fault columns heading headed line (get_or lines k.before []) (omega (arith, k.line=))
      (λ z. ne (k.number= ∙ z))) in
      Refused.first k.before k.reached k.line=
      (λ i h.
      let cut = take k.before lines in
      let long = length-take-le k.before lines (omega (arith, k.reached)) in
      let e : 1 + i ≡ i + 1 = omega arith in
      let fine : line_refusal columns (i + 1) (get_or lines i []) ≡ 0 =
      rw (e, get_or-take k.before lines i [] h)
      at (lines_fine (table_step columns) (opening []) cut k.fine i (omega (arith, long))) in
      line_passes columns heading headed (i + 1) (get_or lines i []) (omega arith) fine)
      is

  pub file_refused : ((table_of columns file).refusal ≡ 0 → ⊥)
      → Refused columns heading file (table_of columns file).refusal (table_of columns file).line
  file_refused ne =
      let k = text_refused (table_step columns) [] file in
      either (eqb (length (lines_of file)) 0)
      (λ yes. let none = eqb-true (length (lines_of file)) 0 yes in
      Refused.empty none (k.empty none).0 (k.empty none).1)
      (λ no. first_fault (k.first (omega (arith, eqb-false (length (lines_of file)) 0 no)) ne) ne)

-- What is held of a file that is accepted

module _ (columns : ℕ) where
  one_more : (s : Reading Rows) (l : List ℕ) → 2 ≤ s.line → line_refusal columns s.line l ≡ 0
      → (line_read (table_step columns) s l).held ≡ s.held ++ (numbers_of columns l ∷ [])
  unfolding line_read line_after
  one_more s l two z = rw (ne_eqb s.line 1 (λ e. absurd (omega arith)), z) refl

  rows_held : (s : Reading Rows) (ls : List (List ℕ)) → 2 ≤ s.line → (lines_read (table_step columns) s ls).refusal ≡ 0
      → (lines_read (table_step columns) s ls).held ≡ s.held ++ map (numbers_of columns) ls
  unfolding lines_read
  rows_held s [] two z = sym (append-nil s.held)
  rows_held s (l ∷ ls) two z =
      either (eqb s.refusal 0)
      (λ go. let next = line_read (table_step columns) s l in
      let on : (lines_read (table_step columns) next ls).refusal ≡ 0 = rw go at z in
      let fine = line_fine (table_step columns) s l ls on in
      rw go (rows_held (line_read (table_step columns) s l) ls (omega (arith, fine.1)) on
      ∙ ap (λ (rows : Rows). rows ++ map (numbers_of columns) ls) (one_more s l two fine.0)
      ∙ append_assoc s.held (numbers_of columns l ∷ []) (map (numbers_of columns) ls)))
      (λ no. absurd (eqb-false s.refusal 0 no (rw no at z)))

  header_held : (l : List ℕ) → (line_read (table_step columns) (opening []) l).held ≡ []
  unfolding line_read line_after
  header_held l = refl

  lines_held : (ls : List (List ℕ)) → 1 ≤ length ls → (lines_read (table_step columns) (opening []) ls).refusal ≡ 0
      → (lines_read (table_step columns) (opening []) ls).held ≡ map (numbers_of columns) (drop 1 ls)
  unfolding lines_read
  lines_held [] h z = absurd (omega arith)
  lines_held (l ∷ ls) h z =
      let fine = line_fine (table_step columns) (opening []) l ls z in
      rows_held (line_read (table_step columns) (opening []) l) ls (omega (arith, fine.1)) z
      ∙ ap (λ (rows : Rows). rows ++ map (numbers_of columns) ls) (header_held l)

  pub file_held : (file : List ℕ) → (table_of columns file).refusal ≡ 0
      → (table_of columns file).held ≡ map (numbers_of columns) (rows_of file)
  file_held file z =
      let e = whole_fine (table_step columns) [] file z in
      let some = (text_accepted (table_step columns) [] file z).some in
      let fine = ap (λ (s : Reading Rows). s.refusal) (sym e) ∙ z in
      ap (λ (s : Reading Rows). s.held) e ∙ lines_held (lines_of file) some fine

-- The two headers

pub track_headed : (line : List ℕ) → header_refusal 8 line ≡ 0 ↔ line ≡ track_heading
track_headed = headers_are.tracks

pub movement_headed : (line : List ℕ) → header_refusal 9 line ≡ 0 ↔ line ≡ movement_heading
movement_headed = headers_are.movements
