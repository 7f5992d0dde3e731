-- What a row of a register gets on a sound book, in the rules' order. Assumes nothing.
use mathlib.Core.{Path.◌≡◌, Path.refl, Path.sym, Path.ap, Path.◌∙◌, Bool.true, List.List}
use Prim.Native.Nat.{ℕ, ◌+◌, ◌≤◌, ◌<◌}
use native.Mathlib.Omega.{arith}
use lib.{Dec.eqb, Dec.ltb, ListN.length, ListN.get_or, ListN.take, ListN.replicate, ListN.length-replicate}
use lib.ListN.{get_or-replicate}
use lib.Seq.{length-take-le, get_or-take}
use borrow.Author.Tests.{eqb-true, eqb-false, ltb-true, ltb-false}
use Rattle.text.specs.Line.{bare_line}
use Rattle.text.proofs.{Digits.either, Indices.length_listing}
use Rattle.book_rules.specs.{Columns.Book, Columns.sound, Calls.refusal, Calls.after}
use Rattle.movement.specs.Ranges.{ZeroElsewhere}
use Rattle.movement.proofs.Ranges.{ranges_hold}
use Rattle.book_rules.specs.{SoundBook.SoundBook, Order.Given, Order.InOrder, Lookup.found, Lookup.counts_found}
use Rattle.book_rules.specs.{Lookup.Row, Lookup.Enters}
use Rattle.book_rules.specs.Lookup.Row.{nowhere, row}
use Rattle.book_rules.specs.Reasons.{Fields, Levels, NoIdentity, Full}
use Rattle.book_rules.proofs.{Kept.after-sound, Order.refusal_order, Outcome.call_holds, SoundBook.sound_exactly}
use Rattle.register.specs.Row.{Layout}
use Rattle.register.specs.Cell.{cells_of}
use Rattle.register.specs.declared.cell.Table.TheVariants.{Register}
use Rattle.register.specs.Row.{points_fit, eight_from, row_layout, cells_layout, layout_of}
use Rattle.report_steps.specs.{Intake.entering, Intake.supplying, Reading.line_refusal}
use Rattle.report_rules.specs.{RowExact.Spells, RowJudged.LevelOver, RowJudged.InRowOrder}
use Rattle.report_rules.proofs.{Refusing.row_refused, RowExact.row_exactly, Entering.all_fit}

-- what was entered is found, counting as it was given
abbrev row_or : Row → ℕ
row_or nowhere = 0
row_or (row g m cs ls) = 1

record FoundThere (x p : ℕ) (b : Book) (cs : List ℕ) : Type 0 where
  somewhere : found x p b ≡ nowhere → ⊥
  counts= : counts_found (found x p b) ≡ cs

found_entered : {p x t k s : ℕ} {cs : List ℕ} {b b' : Book} → Enters p x t k s cs b b' → FoundThere x p b' cs
found_entered {p} {x} {t} {k} {s} {cs} {b} {b'} e =
    either (ltb s 25200)
    (λ early. there (e.early (ltb-true s 25200 early)))
    (λ later. either (ltb s 68400)
    (λ day. there (e.day (ltb-false s 25200 later) (ltb-true s 68400 day)))
    (λ over. either (ltb s 82800)
    (λ evening. there (e.evening (ltb-false s 68400 over) (ltb-true s 82800 evening)))
    (λ late. there (e.late (ltb-false s 82800 late)))))
  where
    there : {g m : ℕ} {ls : List ℕ} → found x p b' ≡ row g m cs ls → FoundThere x p b' cs
    there q =
        record {
          somewhere = λ gone. let z : ◌≡◌ {A = ℕ} 1 0 = ap row_or (sym q ∙ gone) in absurd (omega (arith, z));
          counts= = ap counts_found q;
        }

-- a row has eight levels, zero past the points
eight_of : (values : List ℕ) (mark : ℕ) → length (row_layout values mark).levels ≡ 8
unfolding row_layout eight_from
eight_of values mark = length_listing (λ i. get_or values (5 + i) 0) 8

eight_levels : (p : ℕ) (line : List ℕ) → length (layout_of p line).levels ≡ 8
unfolding layout_of cells_layout
eight_levels p line =
    let c = cells_of Register (5 + p) (bare_line line) in
    either (points_fit p)
    (λ fits. either c.read
    (λ read. either (eqb c.blanks 0)
    (λ all. rw (fits, read, all) (eight_of c.values 1))
    (λ some. either (eqb c.blanks p)
    (λ none. rw (fits, read, some, none) (eight_of c.values 0))
    (λ part. rw (fits, read, some, part) (length-replicate {A = ℕ} 8 0))))
    (λ off. rw (fits, off) (length-replicate {A = ℕ} 8 0)))
    (λ no. rw no (length-replicate {A = ℕ} 8 0))

module _ (p n : ℕ) (b : Book) (line : List ℕ) (more : n ≡ 1 → ⊥) (s : sound p b ≡ true)
    (on : (layout_of p line).refusal ≡ 0) where
  abbrev l : Layout
  l = layout_of p line

  abbrev r : ℕ
  r = line_refusal p n b line

  abbrev entered : ℕ
  entered = refusal p b (entering p l)

  -- *enter*'s number is the row's, but for 2 and 0
  as_entered : (m : ℕ) → (m ≡ 0 → ⊥) → (m ≡ 2 → ⊥) → entered ≡ m → r ≡ m
  as_entered m some other e =
      (row_refused p n b line more).entered on (λ z. some (sym e ∙ z)) (λ z. other (sym e ∙ z)) ∙ e

  -- behind an *enter* that is accepted only a level can be over
  module _ (named : NoIdentity l.fields.identity → ⊥) (e : entered ≡ 0) where
    abbrev b₁ : Book
    b₁ = after p b (entering p l)

    stands : FoundThere l.fields.identity p b₁ (replicate p 1)
    stands = found_entered ((call_holds {c = entering p l} (record { answer = refl; book = refl })).accepted e)

    -- it counts at every point, so any level may stand there
    anywhere : ZeroElsewhere p (counts_found (found l.fields.identity p b₁)) (take p l.levels)
    anywhere j h z =
        let one : get_or (counts_found (found l.fields.identity p b₁)) j 0 ≡ 1 =
        ap (λ cs. get_or cs j 0) stands.counts= ∙ get_or-replicate {A = ℕ} p j 1 0 h in
        absurd (omega (arith, z, one))

    sound₁ : SoundBook p b₁
    sound₁ = (sound_exactly p b₁).only (after-sound p p b (entering p l) s (λ _. refl))

    fits : Spells p line l.fields l.levels
    fits = (row_exactly p line).on on

    levels_fit_rule : ((i : ℕ) → i < p → get_or l.levels i 0 ≤ 12000) → Levels p (take p l.levels)
    levels_fit_rule within =
        record {
          number = length-take-le p l.levels (omega (arith, eight_levels p line, fits.points.1));
          range = λ j h. omega (arith, within j h, get_or-take p l.levels j 0 h);
        }

    fit_levels : Levels p (take p l.levels) → (i : ℕ) → i < p → get_or l.levels i 0 ≤ 12000
    fit_levels k i h = omega (arith, k.range i h, get_or-take p l.levels i 0 h)

    seven : Given r 7 (LevelOver p l) (r ≡ 0)
    seven =
        let k = row_refused p n b line more in
        let o₉ = refusal_order p b₁ (supplying p l) in
        let o₃ = o₉.otherwise (λ bad. bad sound₁) in
        let o₇ = o₃.otherwise named in
        record {
          given = λ over.
              k.supplied on e (λ z. absurd (omega (arith, z, over.with_levels_rule)))
              ∙ o₇.given (λ fit. over.over (fit_levels fit));
          otherwise = λ none. either (eqb l.fields.computed 0)
              (λ blank. k.blank on e (eqb-true l.fields.computed 0 blank))
              (λ given. let some = eqb-false l.fields.computed 0 given in
              let one : l.fields.computed ≡ 1 = omega (arith, fits.mark, some) in
              k.supplied on e some
              ∙ ((o₇.otherwise (λ bad. none
              (record { with_levels_rule = one; over = λ all. bad (levels_fit_rule all) }))
              ).otherwise stands.somewhere).otherwise (λ bad. bad anywhere));
        }

  judged : InOrder p b (entering p l) entered
      → Given r 1 (Fields l.fields.ty l.fields.kind l.fields.time l.fields.mass → ⊥)
      (Given r 0 (l.fields.mass ≤ 150)
      (Given r 3 (NoIdentity l.fields.identity)
      (Given r 4 (found l.fields.identity p b ≡ nowhere → ⊥)
      (Given r 6 (Full b) (Given r 7 (LevelOver p l) (r ≡ 0))))))
  judged o =
      let o₉ = o.otherwise (λ bad. bad ((sound_exactly p b).only s)) in
      let o₁ = o₉.otherwise (λ bad. bad ((ranges_hold.counts= p (replicate p 1)).0 (all_fit p))) in
      record {
        given = λ bad. as_entered 1 (λ z. absurd (omega arith)) (λ z. absurd (omega arith)) (o₁.given bad);
        otherwise = λ fine. let o₂ = o₁.otherwise fine in
            record {
              given = λ light. (row_refused p n b line more).passed on (o₂.given light);
              otherwise = λ heavy. let o₃ = o₂.otherwise heavy in
                  record {
                    given = λ bad.
                        as_entered 3 (λ z. absurd (omega arith)) (λ z. absurd (omega arith)) (o₃.given bad);
                    otherwise = λ named. let o₄ = o₃.otherwise named in
                        record {
                          given = λ old.
                              as_entered 4 (λ z. absurd (omega arith)) (λ z. absurd (omega arith)) (o₄.given old);
                          otherwise = λ new. let o₆ = o₄.otherwise new in
                              record {
                                given = λ full. as_entered 6 (λ z. absurd (omega arith)) (λ z. absurd (omega arith))
                                    (o₆.given full);
                                otherwise = λ room. seven named (o₆.otherwise room);
                              };
                        };
                  };
            };
      }

-- a row, on a sound book
pub row_judged : (p n : ℕ) (b : Book) (line : List ℕ) → (n ≡ 1 → ⊥) → SoundBook p b
    → InRowOrder p b line (line_refusal p n b line)
row_judged p n b line more s =
    let l = layout_of p line in
    record {
      given = (row_refused p n b line more).off;
      otherwise = λ right.
          let on : l.refusal ≡ 0 = either (eqb l.refusal 0) (λ yes. eqb-true l.refusal 0 yes)
          (λ no. absurd (right (eqb-false l.refusal 0 no))) in
          judged p n b line more ((sound_exactly p b).passes s) on (refusal_order p b (entering p l));
    }
