-- Printed contours follow the rules' layout. Assumes nothing.
use Rattle.std.specs.Prelude.{◌≡◌, ℕ, ◌+◌, ◌-◌, ◌*◌, ◌/◌, ◌%◌, ◌<◌, ◌≤◌, List, [], ◌∷◌, ◌++◌, map}
use mathlib.Core.Path.{refl, sym, ap, ◌∙◌, subst}
use mathlib.Core.{Bool.Bool, Bool.true, Bool.false, Bool.◌&&◌, Bool.cond, Logic.◌⊎◌, Logic.⊎_elim}
use mathlib.Core.List.{append_assoc}
use native.Mathlib.{Nat.mod-lt, Nat.div-add-mod', Nat.mul_comm, Nat.add_comm, Nat.add-zero, Omega.arith}
use borrow.Author.Tests.{leb-true, le-leb}
use lib.{Dec.leb, ListN.length, ListN.get_or}
use Rattle.text.specs.Number.{show_whole}
use Rattle.text.proofs.Shown.{whole_back}
use Rattle.network.specs.declared.{Edge.Edge, Frame.Frame}
use Rattle.network.specs.declared.Edge.TheVariants.{Horizontal, Vertical}
use Rattle.network.specs.{Limits.max_side, Limits.max_origin, Edges.level_at, Edges.edge_at, Edges.Checked}
use Rattle.network.specs.{Crossed.distance, Numbering.OneIn, Ranges.RoomRefused}
use Rattle.network.proofs.{Refusals.both, Ranges.room_refused, Numbering.parts, Numbering.edges_numbered}
use Rattle.contour_rules.specs.{Picture.Picture, Picture.picture, Contours.Contour, Contours.bit}
use Rattle.contour_rules.specs.Once.{Sound, AllSound}
use Rattle.contour_rules.proofs.Every.{every_crossing}
use Rattle.wkt.specs.declared.Spot.{Spot}
use Rattle.wkt.specs.Places.{offset_of, slide_of, stand_of, spot_of}
use Rattle.wkt.specs.Text.{show_metres, show_spot, place_text, bracket, comma, closing, points_text, lines_text}
use Rattle.wkt.specs.Text.{multilinestring, text_of, points_of, contours_text}
use Rattle.wkt.specs.Calls.{network_text, print_refusal}
use Rattle.wkt.specs.Printout.{Rounds, Offset, Metres, Pair, RowPlace, ColumnPlace, PlacesPrinted}
use Rattle.wkt.specs.Printout.{parted, line_text, found, TextPrinted}
use Rattle.wkt.proofs.Nearest.{nearest_is_lem, offset_small, metres_small}

-- ---- numbers

rounds : (spacing num den : ℕ) → 0 < den → Rounds spacing num den (offset_of spacing num den)
rounds spacing num den z =
    let i = nearest_is_lem (1000 * spacing * num) den z in
    let e : 2 * den * offset_of spacing num den ≡ offset_of spacing num den * (2 * den) = mul_comm (2 * den)
    (offset_of spacing num den) in
    record { down_to = omega (arith, i.0); up_to = omega (arith, i.1) }

between : (v a b : ℕ) → ((v ≤ a) × (b < v)) ⊎ ((a < v) × (v ≤ b))
    → (0 < distance b a) × (distance v a ≤ distance b a)
between v a b h = ⊎_elim (λ w. (omega arith, omega arith)) (λ w. (omega arith, omega arith)) h

offset_is_lem : (v a b spacing : ℕ) → ((v ≤ a) × (b < v)) ⊎ ((a < v) × (v ≤ b))
    → Offset v a b spacing (slide_of v a b spacing)
offset_is_lem v a b spacing h =
    let d = between v a b h in
    record {
      num = distance v a;
      den = distance b a;
      above_zero = d.0;
      parts = parts v a b;
      rounds =
          rounds spacing (distance v a) (distance b a) d.0;
    }

metres : (mm : ℕ) → mm < 10000000000 → Metres mm (show_metres mm)
metres mm h =
    let n = mm % 1000 in
    let l : mm % 1000 < 1000 = mod-lt mm (omega arith) in
    let e = div-add-mod' mm 1000 in
    let e' = div-add-mod' n 100 in
    let e'' = div-add-mod' (n % 100) 10 in
    let l' : n % 100 < 100 = mod-lt n (omega arith) in
    let l'' : n % 100 % 10 < 10 = mod-lt (n % 100) (omega arith) in
    record {
      whole = mm / 1000;
      digits = show_whole (mm / 1000);
      first = n / 100;
      second = n % 100 / 10;
      third = n % 100 % 10;
      small = (omega arith, (omega arith, l''));
      worth = omega arith;
      spells = whole_back (mm / 1000) (omega arith);
      bytes = refl;
    }

pair : (s : Spot) → s.x < 10000000000 → s.y < 10000000000 → Pair s.x s.y (show_spot s)
pair s h k = record {
  x_text = show_metres s.x;
  y_text = show_metres s.y;
  x_metres = metres s.x h;
  y_metres =
      metres s.y k;
  bytes = refl;
}

-- ---- a printed place

module _ (levels : List ℕ) (f : Frame) (v : ℕ) (k : Checked levels f) where
  -- the numbers are small, and the origin may be added first
  stand : (index origin offset : ℕ) → index < max_side → origin ≤ max_origin → offset ≤ 1000 * f.spacing
      → (stand_of index f.spacing origin + offset < 10000000000)
      × (stand_of index f.spacing origin ≡ 1000 * (origin + index * f.spacing))
  stand index origin offset i o h =
      let s = metres_small index f.spacing i k.near in
      let n = k.near in
      (omega arith, ap (λ (m : ℕ). 1000 * m) (add_comm (index * f.spacing) origin))

  wide : 2 ≤ f.columns
  wide = k.sized.sides.wide

  place_of : (e : Edge) (n : ℕ) → edge_at f.columns f.rows n ≡ e → place_text levels f v n
      ≡ show_spot (spot_of levels f v e)
  unfolding place_text
  place_of e n h = ap (λ (e : Edge). show_spot (spot_of levels f v e)) h

  -- the two coordinates, with an offset on one of them
  pair_at_rule : (row col dx dy : ℕ) (text : List ℕ) → row < max_side → col < max_side → dx ≤ 1000 * f.spacing
      → dy ≤ 1000 * f.spacing
      → text ≡ show_spot (record {
        x = stand_of col f.spacing f.west + dx;
        y = stand_of row f.spacing
            f.south + dy;
      })
      → Pair (1000 * (f.west + col * f.spacing) + dx) (1000 * (f.south + row * f.spacing) + dy) text
  pair_at_rule row col dx dy text i j p q e =
      let x = stand col f.west dx j k.west p in
      let y = stand row f.south dy i k.south q in
      let spot : Spot = record {
        x = stand_of col f.spacing f.west + dx;
        y = stand_of row f.spacing
            f.south + dy;
      } in
      subst (λ (t : List ℕ). Pair (1000 * (f.west + col * f.spacing) + dx)
      (1000 * (f.south + row * f.spacing) + dy) t) (sym e)
      (subst (λ (m : ℕ). Pair (m + dx) (1000 * (f.south + row * f.spacing) + dy) (show_spot spot)) x.1
      (subst (λ (m : ℕ). Pair (stand_of col f.spacing f.west + dx) (m + dy) (show_spot spot)) y.1
      (pair spot x.0 y.0)))

  pub places_printed : PlacesPrinted levels f v
  places_printed = record { on_row = on_row; on_column = on_column }
    where
      on_row : (row col : ℕ) → row < f.rows → col + 1 < f.columns
          → OneIn levels f.columns v row col row (col + 1)
          → RowPlace levels f v row col (place_text levels f v (row * (f.columns - 1) + col))
      on_row row col h l o =
          let n = row * (f.columns - 1) + col in
          let a = level_at levels f.columns row col in
          let b = level_at levels f.columns row (col + 1) in
          let d = between v a b o in
          let e = ((edges_numbered f.columns f.rows wide).lying row col h l).1 in
          let w = k.sized.sides in
          let p = pair_at_rule row col (slide_of v a b f.spacing) 0 (place_text levels f v n) (omega (arith, w.low))
          (omega (arith, w.narrow)) (offset_small f.spacing (distance v a) (distance b a) d.0 d.1)
          (omega arith)
          (place_of (Horizontal row col) n e ∙ ap (λ (y : ℕ). show_spot (record {
            x = stand_of col f.spacing
                f.west + slide_of v a b f.spacing;
            y = y;
          })) (sym (add-zero (stand_of row f.spacing f.south)))) in
          record {
            offset = slide_of v a b f.spacing;
            place = offset_is_lem v a b f.spacing o;
            pair = subst (λ (y : ℕ). Pair (1000 * (f.west + col * f.spacing) + slide_of v a b f.spacing) y
                (place_text levels f v n)) (add-zero (1000 * (f.south + row * f.spacing))) p;
          }

      on_column : (row col : ℕ) → row + 1 < f.rows → col < f.columns
          → OneIn levels f.columns v row col (row + 1) col
          → ColumnPlace levels f v row col
          (place_text levels f v (f.rows * (f.columns - 1) + row * f.columns + col))
      on_column row col h l o =
          let n = f.rows * (f.columns - 1) + row * f.columns + col in
          let a = level_at levels f.columns row col in
          let b = level_at levels f.columns (row + 1) col in
          let d = between v a b o in
          let e = ((edges_numbered f.columns f.rows wide).standing row col h l).1 in
          let w = k.sized.sides in
          let p = pair_at_rule row col 0 (slide_of v a b f.spacing) (place_text levels f v n) (omega (arith, w.low))
          (omega (arith, w.narrow)) (omega arith)
          (offset_small f.spacing (distance v a) (distance b a) d.0 d.1)
          (place_of (Vertical row col) n e ∙ ap (λ (x : ℕ). show_spot (record {
            x = x;
            y = stand_of row f.spacing
                f.south + slide_of v a b f.spacing;
          })) (sym (add-zero (stand_of col f.spacing f.west)))) in
          record {
            offset = slide_of v a b f.spacing;
            place = offset_is_lem v a b f.spacing o;
            pair = subst (λ (x : ℕ). Pair x (1000 * (f.south + row * f.spacing) + slide_of v a b f.spacing)
                (place_text levels f v n)) (add-zero (1000 * (f.west + col * f.spacing))) p;
          }

-- ---- the text around the places

module _ (levels : List ℕ) (f : Frame) (v : ℕ) where
  points_text_rule : (before : List ℕ) (n : ℕ) (ns : List ℕ) → points_text levels f v before (n ∷ ns)
      ≡ before ++ parted levels f v (map (place_text levels f v) (n ∷ ns)) ++ closing
  unfolding points_text
  points_text_rule before n [] = refl
  points_text_rule before n (m ∷ ns) =
      ap (λ (t : List ℕ). before ++ place_text levels f v n ++ t) (points_text_rule comma m ns)
      ∙ simp append_assoc

  closed_points : (closes : Bool) (es : List ℕ) → 0 < length es → points_of es (bit closes)
      ≡ es ++ cond closes (get_or es 0 0 ∷ []) []
  closed_points closes [] h = absurd (omega arith)
  closed_points true (e ∷ es) h = refl
  closed_points false (e ∷ es) h = refl

  line_text_rule : (c : Contour) → 0 < length c.edges
      → points_text levels f v bracket (points_of c.edges (bit c.closes)) ≡ line_text levels f v c
  line_text_rule c h = ap (points_text levels f v bracket) (closed_points c.closes c.edges h) ∙ go c.edges h
    where
      go : (es : List ℕ) → 0 < length es
          → points_text levels f v bracket (es ++ cond c.closes (get_or es 0 0 ∷ []) [])
          ≡ bracket ++ parted levels f v (map (place_text levels f v)
          (es ++ cond c.closes (get_or es 0 0 ∷ []) [])) ++ closing
      go [] h = absurd (omega arith)
      go (e ∷ es) h = points_text_rule bracket e (es ++ cond c.closes (e ∷ []) [])

  abbrev Some : List Contour → Type 0
  Some [] = Unit {0}
  Some (c ∷ cs) = (0 < length c.edges) × Some cs

  abbrev points : Contour → List ℕ
  points c = points_of c.edges (bit c.closes)

  lines_text_rule : (before : List ℕ) (c : Contour) (cs : List Contour) → Some (c ∷ cs)
      → lines_text levels f v before (map points (c ∷ cs))
      ≡ before ++ parted levels f v (map (line_text levels f v) (c ∷ cs)) ++ closing
  unfolding lines_text
  lines_text_rule before c [] s = ap (λ (t : List ℕ). before ++ t ++ closing) (line_text_rule c s.0)
  lines_text_rule before c (d ∷ cs) s =
      let line = line_text levels f v c in
      let others = comma ++ parted levels f v (map (line_text levels f v) (d ∷ cs)) in
      rw (line_text_rule c s.0, lines_text_rule comma d cs s.1)
      (sym (append_assoc (before ++ line) others closing) ∙ ap (λ (t : List ℕ). t ++ closing)
      (append_assoc before line others))

  some_edges : (g : Picture) (cs : List Contour) → AllSound g cs → Some cs
  some_edges g [] a = tt
  some_edges g (c ∷ cs) a = (go c.closes c.edges a.0, some_edges g cs a.1)
    where
      go : (closes : Bool) (es : List ℕ) → Sound g closes es → 0 < length es
      go closes [] s = absurd s
      go closes (e ∷ es) s = omega arith

  pub text_printed : 2 ≤ f.columns → TextPrinted levels f v
  unfolding text_of
  text_printed wide = record {
    none = λ e. ap (contours_text levels f v) e;
    some = λ c cs e.
        ap (contours_text levels f v) e
        ∙ ap (λ (t : List ℕ). multilinestring ++ t)
        (lines_text_rule bracket c cs (subst Some e (some_edges (picture levels f.columns f.rows v) (found levels f v)
        (every_crossing (picture levels f.columns f.rows v) wide).sound)));
  }

  -- the call is refused by 12, 13, 15, and by 14 last, exactly where the text or its size has no room
  pub print_refused : (room size : List ℕ)
      → RoomRefused levels f v ((length (network_text levels f v) ≤ length room) × (1 ≤ length size))
      (print_refusal levels f v room size)
  print_refused room size =
      let text-fits = leb (length (network_text levels f v)) (length room) in
      let size_fits = leb 1 (length size) in
      room_refused levels f v ((length (network_text levels f v) ≤ length room) × (1 ≤ length size))
      (text-fits && size_fits) (
        λ h. let p = both text-fits size_fits h in (leb-true _ _ p.0, leb-true _ _ p.1),
        λ h. rw (le-leb _ _ h.0, le-leb _ _ h.1),
      )
