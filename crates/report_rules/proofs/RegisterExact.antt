-- A register is accepted, or told with a number and a line, exactly by its lines. Assumes nothing.
use mathlib.Core.{Path.◌≡◌, Path.refl, Path.sym, Path.ap, Path.◌∙◌, List.List, List.[], List.◌∷◌}
use Prim.Native.Nat.{ℕ, suc, ◌+◌, ◌≤◌, ◌<◌}
use native.Mathlib.Omega.{arith}
use lib.{Dec.leb, ListN.length, ListN.get_or, ListN.take}
use lib.Seq.{take-take, get_or-take}
use borrow.Author.Tests.{leb-true, leb-false}
use Rattle.book_rules.specs.{Columns.Book, History.empty_book}
use Rattle.text.specs.Line.{lines_of}
use Rattle.text.proofs.Digits.{either}
use Rattle.stream.specs.Reading.{Reading, opening, lines_read}
use Rattle.stream.specs.Refused.{held_after, FirstRefused}
use Rattle.stream.proofs.Readings.{whole_fine}
use Rattle.stream.proofs.Firsts.{text_refused, text_accepted, fine_accepted, first_told}
use Rattle.report_steps.specs.Reading.{line_refusal, register_step}
use Rattle.report_rules.specs.Report.{book_rows}
use Rattle.report_rules.specs.RegisterExact.{header_line, read_of, ToldAt, Begins, next_refusal, RegisterExactly}
use Rattle.report_rules.proofs.Refusing.{header_exactly}

module _ (p : ℕ) (register : List ℕ) where
  abbrev b : Book
  b = empty_book p book_rows

  none_refused : (lines_read (register_step p) (opening b) (take 0 (lines_of register))).refusal ≡ 0
  unfolding lines_read
  none_refused = refl

  -- Behind lines that are accepted

  module _ (front : List ℕ) (k : Begins p front register) where
    abbrev n : ℕ
    n = length (lines_of front)

    front_read : lines_read (register_step p) (opening b) (take n (lines_of register)) ≡ read_of p front
    front_read =
        ap (lines_read (register_step p) (opening b)) (sym k.lines)
        ∙ sym (whole_fine (register_step p) b front k.accepted)

    judged_so : next_refusal p front register
        ≡ line_refusal p (n + 1) (held_after (register_step p) b register n) (get_or (lines_of register) n [])
    judged_so =
        ap (λ (s : Reading Book). line_refusal p (n + 1) s.held (get_or (lines_of register) n [])) (sym front_read)

    first : FirstRefused (register_step p) b register (next_refusal p front register) (n + 1)
    first =
        record {
          before = n;
          reached = k.more;
          fine = ap (λ (s : Reading Book). s.refusal) front_read ∙ k.accepted;
          line= = refl;
          number= = judged_so;
        }

    next_told : (next_refusal p front register ≡ 0 → ⊥)
        → ToldAt (read_of p register) (next_refusal p front register) (n + 1)
    next_told ne = first_told (register_step p) b register _ _ first ne

    -- the lines in front are read in the register as they are alone
    each_front : (i : ℕ) → i < n
        → line_refusal p (i + 1) (held_after (register_step p) b register i) (get_or (lines_of register) i []) ≡ 0
    each_front i h =
        let lines : take i (lines_of front) ≡ take i (lines_of register) =
        ap (take i) k.lines ∙ take-take i n (lines_of register) (omega arith) in
        let line : get_or (lines_of front) i [] ≡ get_or (lines_of register) i [] =
        ap (λ (ls : List (List ℕ)). get_or ls i []) k.lines ∙ get_or-take n (lines_of register) i [] h in
        let judged : List (List ℕ) → List ℕ → ℕ =
        λ ls l. line_refusal p (i + 1) (lines_read (register_step p) (opening b) ls).held l in
        ap (λ (ls : List (List ℕ)). judged ls (get_or (lines_of register) i [])) (sym lines)
        ∙ ap (judged (take i (lines_of front))) (sym line)
        ∙ (text_accepted (register_step p) b front k.accepted).each i h

    last_told_rule : next_refusal p front register ≡ 0 → length (lines_of register) ≡ n + 1
        → (read_of p register).refusal ≡ 0
    last_told_rule z all =
        fine_accepted (register_step p) b register
        (record {
          some = omega (arith, all);
          each = λ i h. either (leb (suc i) n)
              (λ yes. each_front i (leb-true (suc i) n yes))
              (λ no. let here : i ≡ n = omega (arith, h, all, leb-false (suc i) n no) in
              rw here (sym judged_so ∙ z));
        })

  -- The first line

  first_off : 1 ≤ length (lines_of register) → (get_or (lines_of register) 0 [] ≡ header_line p → ⊥)
      → ToldAt (read_of p register) 16 1
  first_off some ne =
      let h = header_exactly p (held_after (register_step p) b register 0) (get_or (lines_of register) 0 []) in
      let off = h.otherwise (λ z. ne (h.passes.0 z).1) in
      first_told (register_step p) b register 16 1
      (record { before = 0; reached = some; fine = none_refused; line= = refl; number= = sym off })
      (λ e. absurd (omega arith))

  header_alone : 1 ≤ p → p ≤ 8 → lines_of register ≡ header_line p ∷ [] → (read_of p register).refusal ≡ 0
  header_alone least most e =
      let one : length (lines_of register) ≡ 1 = ap length e in
      let line : get_or (lines_of register) 0 [] ≡ header_line p = ap (λ (ls : List (List ℕ)). get_or ls 0 []) e in
      let h = header_exactly p (held_after (register_step p) b register 0) (get_or (lines_of register) 0 []) in
      fine_accepted (register_step p) b register
      (record {
        some = omega (arith, one);
        each = λ i l.
            let first : i ≡ 0 = omega (arith, l, one) in
            rw first (h.passes.1 ((least, most), line));
      })

  pub register_exactly : RegisterExactly p register
  register_exactly =
      record {
        empty = (text_refused (register_step p) b register).empty;
        headless = λ ne. either (leb 1 (length (lines_of register)))
            (λ yes. first_off (leb-true 1 (length (lines_of register)) yes) ne)
            (λ no. (text_refused (register_step p) b register).empty
            (omega (arith, leb-false 1 (length (lines_of register)) no)));
        header = header_alone;
        next = next_told;
        last = last_told_rule;
      }
