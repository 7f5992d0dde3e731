-- A step of printing: the text left is the piece and then the text left at the next cursor, which printing comes by
-- and which is nearer to the end. Assumes nothing.
use mathlib.Core.{Path.◌≡◌, Path.refl, Path.sym, Path.ap, Path.◌∙◌, Bool.Bool, Bool.true, Bool.false, Bool.cond}
use Rattle.std.specs.Prelude.{ℕ, suc, ◌+◌, ◌-◌, ◌*◌, ◌<◌, ◌≤◌, eqb, ltb, List, [], ◌∷◌, ◌++◌, length, get_or, take}
use Rattle.std.specs.Prelude.{drop}
use mathlib.Core.List.{append_assoc, append-nil}
use native.Mathlib.{Nat.add-zero, Numerals.add-one, Omega.arith}
use borrow.Author.Tests.{lt-ltb, le-ltb, ltb-true, ltb-false, ne_eqb, eqb-true, eqb-false}
use lib.ListN.{length-append, length-drop, drop_of_length-le, get_or-eq_default}
use lib.ListN.{get_or-append}
use lib.Seq.{drop-cons, drop-drop, get_or-drop, get_or-take, get_or-append-add, length-take-le}
use Rattle.network.specs.declared.Frame.{Frame}
use Rattle.network.proofs.Numbers.{by_cond}
use Rattle.wkt.specs.declared.Cursor.{Cursor}
use Rattle.wkt.specs.Text.{place_text, bracket, comma, points_text, lines_text, multilinestring, text_of}
use Rattle.wkt.specs.InnerParts.{lines_from, total, Printable, line_at, lines_after, points_at}
use Rattle.wkt.specs.InnerParts.{Reached, left_of, end_text, before_text, piece_of, next_of}

-- ---- counts

total_more : (ms : List ℕ) (k : ℕ) → k < length ms → total (drop k ms) ≡ get_or ms k 0 + total (drop (k + 1) ms)
unfolding total
total_more ms k h = rw (add-one k, drop-cons ms k 0 h)

pub count_total : (ms : List ℕ) → ((k : ℕ) → k < length ms → 0 < get_or ms k 0) → length ms ≤ total ms
unfolding total
count_total [] h = omega arith
count_total (m ∷ ms) h =
    let a : 0 < m = h 0 (omega arith) in
    let b = count_total ms (λ k l. h (suc k) (omega arith)) in
    omega arith

-- ---- how far it is to the end

abbrev pub ahead : List ℕ → List ℕ → Cursor → ℕ
ahead listed counts c = (length listed - c.start) + 2 * (length counts + 1 - c.line) + 1 - c.point

module _ (levels : List ℕ) (f : Frame) (v : ℕ) (listed counts closed : List ℕ) where
  abbrev left : Cursor → List ℕ
  left c = left_of levels f v listed counts closed c

  -- the first point of a line, and one more point
  open_lines_rule : (before : List ℕ) (n : ℕ) (ns : List ℕ) (ls : List (List ℕ))
      → lines_text levels f v before ((n ∷ ns) ∷ ls) ≡ before
      ++ ((40 ∷ place_text levels f v n) ++ (points_text levels f v comma ns ++ lines_text levels f v comma ls))
  unfolding lines_text points_text
  open_lines_rule before n ns ls = simp append_assoc

  more_points : (n : ℕ) (ns t : List ℕ)
      → points_text levels f v comma (n ∷ ns) ++ t ≡ comma ++ place_text levels f v n
      ++ (points_text levels f v comma ns ++ t)
  unfolding points_text
  more_points n ns t = append_assoc (comma ++ place_text levels f v n) (points_text levels f v comma ns) t

  -- what is known of a step
  pub record Goes (c next : Cursor) (piece : List ℕ) : Type 0 where
    pub text : left_of levels f v listed counts closed c ≡ piece ++ left_of levels f v listed counts closed next
    pub reached : Reached listed counts closed next
    pub nearer : ahead listed counts next < ahead listed counts c

  -- ---- past the end nothing is left, and at the start the whole text

  pub left_end : (c : Cursor) → length counts < c.line → left_of levels f v listed counts closed c ≡ []
  unfolding left_of
  left_end c h = rw (lt-ltb _ _ h)

  pub left_first : (c : Cursor) → (c.line ≡ 0) × ((c.start ≡ 0) × (c.point ≡ 0))
      → left_of levels f v listed counts closed c ≡ text_of levels f v (lines_from listed counts closed)
  unfolding left_of
  left_first c h = rw (h.0, h.1.0, h.1.1, le-ltb (length counts) 0 (omega arith))

  pub reached_first : total counts ≡ length listed → (c : Cursor)
      → (c.line ≡ 0) × ((c.start ≡ 0) × (c.point ≡ 0)) → Reached listed counts closed c
  reached_first s c h = record {
    line = omega (arith, h.0);
    start = rw (h.0, h.1.0) (omega arith);
    point =
        omega (arith, h.1.1);
  }

  module _ (k : Printable levels f v listed counts closed) (c : Cursor) (r : Reached listed counts closed c) where
    -- ---- past the last line

    module _ (e : c.line ≡ length counts) where
      none_counted_rule : total (drop c.line counts) ≡ 0
      unfolding total
      none_counted_rule = ap total (drop_of_length-le counts {i = c.line} (omega arith))

      at_start_rule : c.point ≡ 0
      at_start_rule = omega (
        arith,
        r.point,
        get_or-eq_default counts 0 {n = c.line} (omega arith),
        get_or-eq_default closed 0 {n = c.line} (omega (arith, k.marked)),
      )

      pub goes_end : Goes c (record { line = c.line + 1; start = c.start; point = 0 }) (end_text c.line)
      unfolding left_of lines_from text_of lines_text total
      goes_end = record { text = here; reached = there; nearer = omega (arith, at_start_rule, e) }
        where
          here : left c ≡ end_text c.line ++ left (record { line = c.line + 1; start = c.start; point = 0 })
          here = rw (
            le-ltb (length counts) c.line (omega arith),
            at_start_rule,
            drop_of_length-le counts {i = c.line} (omega arith),
            lt-ltb (length counts) (c.line + 1)
                (omega arith),
            append-nil (end_text c.line),
          )

          there : Reached listed counts closed (record { line = c.line + 1; start = c.start; point = 0 })
          there = record {
            line = omega arith;
            start =
                rw (drop_of_length-le counts {i = c.line + 1} (omega arith))
                (omega (arith, r.start, none_counted_rule));
            point = omega arith;
          }

    -- ---- in a line

    module _ (h : c.line < length counts) where
      abbrev m : ℕ
      m = get_or counts c.line 0

      abbrev z : ℕ
      z = get_or closed c.line 0

      abbrev line : List ℕ
      line = line_at listed counts closed c

      -- its edges are listed
      pub room : c.start + m + total (drop (c.line + 1) counts) ≡ length listed
      room = omega (arith, r.start, total_more counts c.line h)

      edges_long : length (take m (drop c.start listed)) ≡ m
      edges_long = length-take-le m (drop c.start listed) (omega (arith, length-drop c.start listed, room))

      line_long : length line ≡ m + z
      line_long =
          length-append (take m (drop c.start listed)) (take z (take m (drop c.start listed)))
          ∙ omega (
            arith,
            edges_long,
            length-take-le z (take m (drop c.start listed))
                (omega (arith, edges_long, k.marks c.line, k.some c.line h)),
          )

      lines_here : lines_from (drop c.start listed) (drop c.line counts) (drop c.line closed)
          ≡ line ∷ lines_after listed counts closed c
      unfolding lines_from
      lines_here = rw (
        drop-cons counts c.line 0 h,
        get_or-drop c.line closed 0 0,
        add-zero c.line,
        drop-drop m c.start listed,
        drop-drop 1 c.line closed,
        add-one c.line,
      )

      -- at its end
      pub goes_line : c.point ≡ points_at counts closed c
          → Goes c (record { line = c.line + 1; start = c.start + m; point = 0 }) (41 ∷ [])
      unfolding left_of points_text
      goes_line e = record {
        text = here;
        reached =
            record { line = omega arith; start = room; point = omega arith };
        nearer =
            omega (arith, room, k.marks c.line);
      }
        where
          here : left c ≡ (41 ∷ []) ++ left (record { line = c.line + 1; start = c.start + m; point = 0 })
          here =
              rw (
                le-ltb (length counts) c.line (omega arith),
                ne_eqb c.point 0 (λ q. omega (arith, k.some c.line h)),
                drop_of_length-le line {i = c.point} (omega (arith, line_long)),
                le-ltb (length counts) (c.line + 1) (omega arith),
                ne_eqb (c.line + 1) 0 (λ q. omega arith),
              )

      -- at a point
      module _ (p : c.point < points_at counts closed c) where
        abbrev n : ℕ
        n = get_or line c.point 0

        abbrev rest : List ℕ
        rest = points_text levels f v comma (drop (c.point + 1) line) ++ lines_text levels f v comma
            (lines_after listed counts closed c)

        here_point : drop c.point line ≡ n ∷ drop (c.point + 1) line
        here_point = drop-cons line c.point 0 (omega (arith, line_long)) ∙ rw (add-one c.point)

        line_open : c.point ≡ 0 → line ≡ n ∷ drop (c.point + 1) line
        line_open e = ap (λ (i : ℕ). drop i line) (sym e) ∙ here_point

        split : (b a : Bool) → eqb c.point 0 ≡ b
            → cond b (cond a (text_of levels f v (line ∷ lines_after listed counts closed c))
            (lines_text levels f v comma (line ∷ lines_after listed counts closed c)))
            (points_text levels f v comma (drop c.point line) ++ lines_text levels f v comma
            (lines_after listed counts closed c))
            ≡ cond b (cond a (multilinestring ++ (40 ∷ 40 ∷ [])) (44 ∷ 32 ∷ 40 ∷ [])) comma
            ++ place_text levels f v n ++ rest
        unfolding text_of
        split true true q =
            ap (λ (l : List ℕ). multilinestring ++ lines_text levels f v bracket
            (l ∷ lines_after listed counts closed c)) (line_open (eqb-true _ _ q))
            ∙ ap (λ (t : List ℕ). multilinestring ++ t)
            (open_lines_rule bracket n (drop (c.point + 1) line) (lines_after listed counts closed c))
        split true false q =
            ap (λ (l : List ℕ). lines_text levels f v comma (l ∷ lines_after listed counts closed c))
            (line_open (eqb-true _ _ q))
            ∙ open_lines_rule comma n (drop (c.point + 1) line) (lines_after listed counts closed c)
        split false a q =
            ap (λ (l : List ℕ). points_text levels f v comma l ++ lines_text levels f v comma
            (lines_after listed counts closed c)) here_point
            ∙ more_points n (drop (c.point + 1) line)
            (lines_text levels f v comma (lines_after listed counts closed c))

        pub goes_point : Goes c (record { line = c.line; start = c.start; point = c.point + 1 })
            (before_text c.line c.point ++ place_text levels f v n)
        unfolding left_of
        goes_point = record {
          text = here;
          reached =
              record { line = r.line; start = r.start; point = omega arith };
          nearer =
              omega (arith, room, k.marks c.line);
        }
          where
            here : left c ≡ before_text c.line c.point ++ place_text levels f v n
                ++ left (record { line = c.line; start = c.start; point = c.point + 1 })
            here = rw (
              le-ltb (length counts) c.line (omega arith),
              ne_eqb (c.point + 1) 0 (λ q. omega arith),
              lines_here,
            ) (split (eqb c.point 0) (eqb c.line 0) refl)

        -- the point's edge among the listed ones
        abbrev place : ℕ
        place = cond (ltb c.point m) c.point (c.point - m)

        pub place-within : c.start + place < length listed
        place-within =
            by_cond (λ (i : ℕ). c.start + i < length listed) (ltb c.point m) c.point (c.point - m)
            (λ t. omega (arith, ltb-true c.point m t, room))
            (λ t. omega (arith, ltb-false c.point m t, room, k.marks c.line, k.some c.line h))

        edge_of : (i : ℕ) → i < m → get_or (take m (drop c.start listed)) i 0 ≡ get_or listed (c.start + i) 0
        edge_of i l = get_or-take m (drop c.start listed) i 0 l ∙ get_or-drop c.start listed i 0

        pub point_edge : n ≡ get_or listed (c.start + place) 0
        point_edge =
            let es = take m (drop c.start listed) in
            by_cond (λ (i : ℕ). n ≡ get_or listed (c.start + i) 0) (ltb c.point m) c.point (c.point - m)
            (λ t. get_or-append es (take z es) 0 c.point
            (omega (arith, ltb-true c.point m t, edges_long)) ∙ edge_of c.point (ltb-true c.point m t))
            (λ t. let e : c.point ≡ length es + (c.point - m) =
            omega (arith, ltb-false c.point m t, edges_long) in
            ap (λ (i : ℕ). get_or (es ++ take z es) i 0) e
            ∙ get_or-append-add es (take z es) (c.point - m) 0
            ∙ get_or-take z es (c.point - m) 0 (omega (arith, ltb-false c.point m t))
            ∙ edge_of (c.point - m) (omega (
              arith,
              ltb-false c.point m t,
              k.marks c.line,
              k.some c.line h,
            )))

    -- ---- any step

    pub goes : c.line ≤ length counts → Goes c (next_of counts closed c) (piece_of levels f v listed counts closed c)
    unfolding piece_of
    goes h = go (eqb c.line (length counts)) (eqb c.point (points_at counts closed c)) refl refl
      where
        go : (a b : Bool) → eqb c.line (length counts) ≡ a → eqb c.point (points_at counts closed c) ≡ b
            → Goes c
            (cond a (record { line = c.line + 1; start = c.start; point = 0 })
            (cond b (record { line = c.line + 1; start = c.start + get_or counts c.line 0; point = 0 })
            (record { line = c.line; start = c.start; point = c.point + 1 })))
            (cond a (end_text c.line)
            (cond b (41 ∷ []) (before_text c.line c.point
            ++ place_text levels f v (get_or (line_at listed counts closed c) c.point 0))))
        go true b p q = goes_end (eqb-true _ _ p)
        go false true p q = goes_line (omega (arith, eqb-false c.line (length counts) p)) (eqb-true _ _ q)
        go false false p q = goes_point (omega (arith, eqb-false c.line (length counts) p))
            (omega (arith, r.point, eqb-false c.point (points_at counts closed c) q))
