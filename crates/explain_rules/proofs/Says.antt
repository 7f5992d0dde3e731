-- The text of explain, read back from its own bytes, says V, U, S, both factors, P and the total of the movements that
-- stand. Assumes nothing.
use mathlib.Core.Path.{◌≡◌, refl, sym, ap, subst, fun_ext, ◌∙◌}
use mathlib.Core.{Bool.Bool, Bool.true, Bool.cond, List.List, List.[], List.◌∷◌}
use Prim.Native.Nat.{ℕ, zero, suc, ◌+◌, ◌*◌, ◌/◌, ◌%◌, ◌<◌}
use native.Mathlib.Omega.{arith}
use lib.{ListN.length, ListN.get_or, Dec.ltb}
use borrow.Author.Tests.{eq-eqb, ne_eqb, lt-ltb}
use Rattle.movement.specs.{Period.period_numbered, Group.group_period}
use Rattle.book_rules.specs.Columns.{Book}
use Rattle.book_rules.specs.History.{Movement, Made, empty_book, booked, movements}
use Rattle.load_rules.specs.declared.Group.{Group}
use Rattle.load_rules.specs.{Shares.Share, Shares.shares_of, Tally.tally, Factors.sum_to, Load.answer}
use Rattle.load_rules.specs.Afresh.{computed_in, missing_in, energy_of_group, load_after, standing_at}
use Rattle.load_rules.specs.Account.{groups_of, account_of, account_after, AccountsEach}
use Rattle.load_rules.proofs.{SumLaws.sum_ext, ListLaws.list_computed, ListLaws.list_missing, ListLaws.list_energy}
use Rattle.load_rules.proofs.HistoryLaws.{history_shares}
use Rattle.load_rules.proofs.Accounts.{account_group, account_whole, accounts_each}
use Rattle.text.specs.Sheet.{ended, line}
use Rattle.text.specs.{Line.lines_of, Field.field_of, Index.many, Number.show_number, Letter.show_letter}
use Rattle.text.proofs.Fields.{Free}
use Rattle.register.specs.LimitsFile.{LimitsFile}
use Rattle.register.specs.Letter.{type_letters, kind_letters}
use Rattle.report_text.specs.Text.{book_refusal, book_text}
use Rattle.text.proofs.Sheets.{at_least, least_free, lines_ended}
use Rattle.report_rules.proofs.WholeText.{last_ended}
use Rattle.explain_text.specs.declared.amounts.Amounts.{Amounts}
use Rattle.explain_text.specs.Text.{group_amounts, all_amounts, period_text, factor_text, group_fields, all_fields}
use Rattle.explain_text.specs.Text.{stands}
use Rattle.explain_text.specs.Text.{lines_at, lines_to, header_line, points_text, explain_text}
use Rattle.report_text.proofs.Judging.{point_answered}
use Rattle.explain_rules.specs.Says.{has_movement, lines_of_point, lines_before, place_of, NineFields, FactorSays}
use Rattle.explain_rules.specs.Says.{NamesSay, GroupSays, AllSay, PointSays, text_after, ExplainSays, ExplainText}
use Rattle.explain_rules.proofs.Fields.{group_commas, group_field, all_commas, all_field}
use Rattle.explain_rules.proofs.Places.{point_length, point_group, point_all, points_unbroken, points_length}
use Rattle.explain_rules.proofs.Places.{points_at_rule, many_grows}

-- A line by itself

factor_says : {x : List ℕ} (u l : ℕ) {u' l' : ℕ} → x ≡ factor_text u l → u ≡ u' → l ≡ l'
    → FactorSays u' l' x
unfolding factor_text
factor_says {x} u l {u'} {l'} e p q =
    let f : x ≡ factor_text u' l' = rw (← p, ← q) e in
    record {
      given = λ h. f ∙ rw (ne_eqb l' 0 (λ z. omega arith)) refl;
      blank = λ z. f ∙ rw (eq-eqb l' 0 z) refl;
    }

module _ (pt g : ℕ) (h : g < 18) (a : Amounts) where
  abbrev written : List ℕ
  written = line (group_fields pt g a)

  type_is_rule : (t : ℕ) → g / 6 ≡ t → field_of 44 1 written ≡ show_letter type_letters t
  type_is_rule t e = group_field pt g h a 1 (omega arith) ∙ ap (show_letter type_letters) e

  kind_is : (k : ℕ) → g % 6 / 3 ≡ k → field_of 44 2 written ≡ show_letter kind_letters k
  kind_is k e = group_field pt g h a 2 (omega arith) ∙ ap (show_letter kind_letters) e

  period_is : (d : ℕ) → g % 3 ≡ d → field_of 44 3 written ≡ period_text (period_numbered d)
  unfolding group_period
  period_is d e = group_field pt g h a 3 (omega arith) ∙ ap (λ (n : ℕ). period_text (period_numbered n)) e

  names_say : (t k d : ℕ) → t < 3 → k < 2 → d < 3 → g ≡ 6 * t + 3 * k + d → NamesSay t k d written
  names_say t k d lt lk ld e =
      record {
        large = λ z. type_is_rule 0 (omega arith);
        small = λ z. type_is_rule 1 (omega arith);
        helicopter = λ z. type_is_rule 2 (omega arith);
        start = λ z. kind_is 0 (omega arith);
        landing = λ z. kind_is 1 (omega arith);
        day = λ z. period_is 0 (omega arith);
        evening = λ z. period_is 1 (omega arith);
        night = λ z. period_is 2 (omega arith);
      }

  group_nine : NineFields pt written
  group_nine = record { commas = group_commas pt g h a; number = group_field pt g h a 0 (omega arith) }

-- The whole text

module _ (l : LimitsFile) (n : ℕ) (cs : List Made)
    (reported : book_refusal l (booked (empty_book l.points n) cs) ≡ 0) where
  abbrev p : ℕ
  p = l.points

  abbrev b : Book
  b = booked (empty_book l.points n) cs

  abbrev ms : List Movement
  ms = movements l.points n cs

  -- those of them that count at a point
  abbrev there : ℕ → List Movement
  there pt = standing_at l.points n pt cs

  -- each point is answered, and accounts for all that count there
  each : (pt : ℕ) → pt < p → AccountsEach p n pt cs l.days
  each pt h = accounts_each p n pt cs l.days (point_answered p l.days b p pt reported h)

  -- V, U and S of a group
  group_is : (pt g : ℕ) → pt < p → groups_of p pt b g ≡ tally (shares_of pt (there pt)) g
  group_is pt g h = ap (λ (ss : List Share). tally ss g) (history_shares p pt n cs h)

  v_is : (pt g : ℕ) → pt < p → (groups_of p pt b g).computed ≡ computed_in g (there pt)
  v_is pt g h = ap (λ (c : Group). c.computed) (group_is pt g h) ∙ list_computed pt g (there pt)

  u_is : (pt g : ℕ) → pt < p → (groups_of p pt b g).missing ≡ missing_in g (there pt)
  u_is pt g h = ap (λ (c : Group). c.missing) (group_is pt g h) ∙ list_missing pt g (there pt)

  s_is : (pt g : ℕ) → pt < p → (groups_of p pt b g).energy ≡ energy_of_group pt g (there pt)
  s_is pt g h = ap (λ (c : Group). c.energy) (group_is pt g h) ∙ list_energy pt g (there pt)

  -- the lines
  abbrev amounts_of : ℕ → ℕ → Amounts
  amounts_of pt g = group_amounts (groups_of p pt b g)

  some_is : (pt : ℕ) → pt < p → (λ g. stands (amounts_of pt g)) ≡ has_movement (there pt)
  unfolding group_amounts
  some_is pt h = fun_ext (λ g. rw (v_is pt g h, u_is pt g h) refl)

  each_length : (pt : ℕ) → pt < p → length (lines_at p pt b) ≡ lines_of_point ms pt
  unfolding lines_at
  each_length pt h =
      point_length pt (amounts_of pt) (all_amounts (groups_of p pt b))
      ∙ ap (λ (q : ℕ → Bool). many q 18 + 1) (some_is pt h)

  lines_free : Free 13 (header_line ∷ lines_to p b p)
  unfolding at_least
  lines_free zero h = least_free 14 13 (omega arith) header_line refl
  lines_free (suc i) h = points_unbroken p b p i (omega arith)

  text_is_rule : text_after l n cs ≡ ended (header_line ∷ lines_to p b p)
  unfolding explain_text points_text
  text_is_rule = rw reported refl

  lines_are : lines_of (text_after l n cs) ≡ header_line ∷ lines_to p b p
  lines_are = ap lines_of text_is_rule ∙ lines_ended (header_line ∷ lines_to p b p) lines_free

  at_place : (pt j : ℕ) → pt < p → j < lines_of_point ms pt
      → get_or (lines_of (text_after l n cs)) (1 + (lines_before ms pt + j)) [] ≡ get_or (lines_at p pt b) j []
  at_place pt j h k =
      let place = lines_before ms pt + j in
      let e : 1 + place ≡ suc place = omega arith in
      ap (λ (ls : List (List ℕ)). get_or ls (1 + place) []) lines_are
      ∙ ap (λ (i : ℕ). get_or (header_line ∷ lines_to p b p) i []) e
      ∙ points_at_rule p b (lines_of_point ms) p pt j h k each_length

  group_line_rule : (pt g : ℕ) → pt < p → g < 18 → 0 < computed_in g (there pt) + missing_in g (there pt)
      → get_or (lines_of (text_after l n cs)) (place_of ms pt g) [] ≡ line (group_fields pt g (amounts_of pt g))
  unfolding lines_at
  group_line_rule pt g h k some =
      let has = has_movement (there pt) in
      let yes : has g ≡ true = lt-ltb 0 (computed_in g (there pt) + missing_in g (there pt)) some in
      at_place pt (many has g) h (omega (arith, many_grows has g 18 (omega arith)))
      ∙ subst (λ (q : ℕ → Bool). q g ≡ true → get_or (lines_at p pt b) (many q g) [] ≡ line
      (group_fields pt g (amounts_of pt g))) (some_is pt h)
      (point_group pt (amounts_of pt) (all_amounts (groups_of p pt b)) g k) yes

  all_line : (pt : ℕ) → pt < p
      → get_or (lines_of (text_after l n cs)) (place_of ms pt 18) []
      ≡ line (all_fields pt (all_amounts (groups_of p pt b)))
  unfolding lines_at
  all_line pt h =
      at_place pt (many (has_movement (there pt)) 18) h (omega arith)
      ∙ subst (λ (q : ℕ → Bool). get_or (lines_at p pt b) (many q 18) [] ≡ line
      (all_fields pt (all_amounts (groups_of p pt b)))) (some_is pt h)
      (point_all pt (amounts_of pt) (all_amounts (groups_of p pt b)))

  -- what they say
  abbrev numbers : ℕ → List ℕ
  numbers pt = account_after l.points n pt cs l.days

  group_says : (pt g : ℕ) → pt < p → g < 18
      → GroupSays pt g (computed_in g (there pt)) (missing_in g (there pt)) (energy_of_group pt g (there pt))
      (get_or (numbers pt) (4 * g + 3) 0) (line (group_fields pt g (amounts_of pt g)))
  unfolding group_amounts account_of
  group_says pt g h k =
      let a = amounts_of pt g in
      record {
        nine = group_nine pt g k a;
        names = names_say pt g k a;
        computed = group_field pt g k a 4 (omega arith) ∙ ap show_number (v_is pt g h);
        missing = group_field pt g k a 5 (omega arith) ∙ ap show_number (u_is pt g h);
        factor =
            factor_says a.upper a.lower (group_field pt g k a 6 (omega arith))
            (rw (v_is pt g h, u_is pt g h) refl) (v_is pt g h);
        energy = group_field pt g k a 7 (omega arith) ∙ ap show_number (s_is pt g h);
        counted =
            group_field pt g k a 8 (omega arith)
            ∙ ap show_number (sym (account_group (groups_of p pt b) l.days g 3 k (omega arith)));
      }

  all_say : (pt : ℕ) → pt < p
      → AllSay pt (sum_to (λ g. computed_in g (there pt)) 18) (sum_to (λ g. missing_in g (there pt)) 18)
      (length (there pt))
      (sum_to (λ g. cond (ltb 0 (computed_in g (there pt))) (computed_in g (there pt) + missing_in g (there pt)) 0) 18)
      (sum_to (λ g. get_or (numbers pt) (4 * g + 3) 0) 18) (load_after p n pt cs l.days).total
      (line (all_fields pt (all_amounts (groups_of p pt b))))
  unfolding all_amounts account_of answer
  all_say pt h =
      let f = groups_of p pt b in
      let a = all_amounts f in
      let whole = account_whole f l.days in
      record {
        nine = record { commas = all_commas pt a; number = all_field pt a 0 (omega arith) };
        word = all_field pt a 1 (omega arith);
        no_kind = all_field pt a 2 (omega arith);
        no_period = all_field pt a 3 (omega arith);
        computed = all_field pt a 4 (omega arith) ∙ ap show_number (sum_ext _ _ 18 (λ g k. v_is pt g h));
        missing = all_field pt a 5 (omega arith) ∙ ap show_number (sum_ext _ _ 18 (λ g k. u_is pt g h));
        factor =
            factor_says a.upper a.lower (all_field pt a 6 (omega arith))
            (sym (whole 0) ∙ (each pt h).standing) (sym (whole 1) ∙ (each pt h).tells.lower);
        energy = all_field pt a 7 (omega arith) ∙ ap show_number (sym (whole 2) ∙ (each pt h).tells.summed);
        counted = all_field pt a 8 (omega arith) ∙ ap show_number (sym (whole 3) ∙ (each pt h).tells.total);
      }

  point_says : (pt : ℕ) → pt < p
      → PointSays pt (there pt) (place_of ms pt) (load_after p n pt cs l.days).total (lines_of (text_after l n cs))
  point_says pt h =
      record {
        gives = λ g. get_or (numbers pt) (4 * g + 3) 0;
        scaled = (each pt h).tells.scaled;
        nothing = (each pt h).tells.nothing;
        groups = λ g k some. rw (group_line_rule pt g h k some) (group_says pt g h k);
        all = rw (all_line pt h) (all_say pt h);
      }

  says : ExplainSays l n cs
  says =
      let last = last_ended header_line (lines_to p b p) in
      record {
        header = ap (λ (ls : List (List ℕ)). get_or ls 0 []) lines_are;
        lines =
            ap length lines_are ∙ omega (arith, points_length p b (lines_of_point ms) p each_length);
        points = point_says;
        before = last.before;
        ended = text_is_rule ∙ last.is;
      }

pub refused_is : (l : LimitsFile) (b : Book) → (book_refusal l b ≡ 0 → ⊥) → explain_text l b ≡ book_text l b
unfolding explain_text book_text
refused_is l b ne = rw (ne_eqb (book_refusal l b) 0 ne) refl

pub explain_text_lem : (l : LimitsFile) (n : ℕ) (cs : List Made) → ExplainText l n cs
explain_text_lem l n cs = record { refused = refused_is l (booked (empty_book l.points n) cs); says = says l n cs }
