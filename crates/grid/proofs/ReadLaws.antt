-- What a text is refused with, from how it was judged. Assumes nothing.
use Rattle.std.specs.Prelude.{◌≡◌, ℕ, ◌*◌, ◌<◌, ◌≤◌, Bool, true, false, cond, ◌&&◌, List, [], ◌∷◌, ◌++◌, map}
use mathlib.Core.Path.{refl, sym, ap, ◌∙◌}
use native.Mathlib.{Nat.mul-le-mul, Omega.arith}
use borrow.Author.Tests.{eqb-true, eq-eqb, ne_eqb, leb-true, le-leb, lt-leb}
use lib.{Dec.eqb, Dec.leb, ListN.length}
use Rattle.refusal.specs.{Refuse.refuse, Range.all_within}
use Rattle.network.specs.Limits.{max_network_level, max_side, least_side}
use Rattle.network.specs.Refusals.{between, sided, placed, filled, checked}
use Rattle.network.specs.declared.Frame.{Frame}
use Rattle.room.specs.Room.{front}
use Rattle.text.specs.Line.{lines_of}
use Rattle.refusal.proofs.Laws.{and_left, and_right, refuse_none}
use Rattle.grid.specs.Row.{all, values_of, given, has_values, row_given, level_in, row_levels, levels_of}
use Rattle.grid.specs.File.{frame_of, no_data_of, rows_of, fault_line, rows_fit}
use Rattle.grid.specs.Read.{numbers_of, header_size, text_frame, text_levels, lines_refusal, read_refusal}
use Rattle.grid.specs.Read.{header_after, levels_after}
use Rattle.grid.specs.declared.judge.File.{File}
use Rattle.grid.specs.InnerSteps.{is_sound, row_sound, Judged, Rows, shape_refusal}
use mathlib.Core.Bool.{and_comm}
use Rattle.grid.proofs.StoreLaws.{levels_length}

-- ---- sound values: given, and no level too high

mid : (a b c d : Bool) → ((a && b) && (c && d)) ≡ ((a && c) && (b && d))
mid true true c d = refl
mid true false true d = refl
mid true false false d = refl
mid false b c d = refl

pub up_append : (most : ℕ) (a b : List ℕ) → all_within most (a ++ b) ≡ (all_within most a && all_within most b)
unfolding all_within
up_append most [] b = refl
up_append most (x ∷ a) b = rw (up_append most a b) (both (leb x most) (all_within most a) (all_within most b))
  where
    both : (p q r : Bool) → (p && (q && r)) ≡ ((p && q) && r)
    both true q r = refl
    both false q r = refl

values_sound : (nodata : List ℕ) (vs : List (List ℕ))
    → all (is_sound nodata) vs ≡ (all (given nodata) vs && all_within max_network_level (map level_in vs))
unfolding all all_within
values_sound nodata [] = refl
values_sound nodata (t ∷ vs) =
    rw (values_sound nodata vs)
    (mid (given nodata t) (leb (level_in t) max_network_level) (all (given nodata) vs)
    (all_within max_network_level (map level_in vs)))

rows_sound_rule : (nodata : List ℕ) (rows : List (List ℕ))
    → all (row_sound nodata) rows ≡ (all (row_given nodata) rows && all_within max_network_level (levels_of rows))
unfolding all all_within levels_of row_levels
rows_sound_rule nodata [] = refl
rows_sound_rule nodata (row ∷ rows) =
    let g = row_given nodata row in
    let u = all_within max_network_level (row_levels row) in
    let gs = all (row_given nodata) rows in
    let us = all_within max_network_level (levels_of rows) in
    rw (
      values_sound nodata (values_of row),
      rows_sound_rule nodata rows,
      up_append max_network_level (levels_of rows)
          (row_levels row),
      and_comm us u,
    ) (mid g u gs us)

-- ---- the tests in the order of a call

inner : (s p u g : Bool) (last : ℕ)
    → cond (s && p && true) (cond u (cond g last 13) 13) 12 ≡ cond (s && p) (cond (g && u) last 13) 12
inner true true true true last = refl
inner true true true false last = refl
inner true true false true last = refl
inner true true false false last = refl
inner true false u g last = refl
inner false p u g last = refl

decide : (f s p c u g : Bool) (last : ℕ) → (f ≡ true → c ≡ true)
    → cond f (cond (s && p && c) (cond u (cond g last 13) 13) 12) 12 ≡ cond (f && s && p) (cond (g && u) last 13) 12
decide true s p c u g last h = rw (h refl) (inner s p u g last)
decide false s p c u g last h = refl

fine : (a b : Bool) → ◌≡◌ {A = ℕ} (cond a (cond b 0 13) 12) 0 → (a ≡ true) × (b ≡ true)
fine true true e = (refl, refl)
fine true false e = absurd (omega arith)
fine false b e = absurd (omega arith)

-- as many levels as points, where the rows fit
pub fit_both : (f : Frame) (rows : List (List ℕ)) → rows_fit f rows ≡ true
    → (length rows ≡ f.rows) × (all (has_values f.columns) rows ≡ true)
unfolding rows_fit
fit_both f rows e = (
  eqb-true (length rows) f.rows
      (and_left (eqb (length rows) f.rows) (all (has_values f.columns) rows) e),
  and_right (eqb (length rows) f.rows) (all (has_values f.columns) rows) e,
)

pub fit_length : (f : Frame) (rows : List (List ℕ)) → rows_fit f rows ≡ true
    → length (levels_of rows) ≡ f.rows * f.columns
fit_length f rows e = let b = fit_both f rows e in levels_length f.columns rows b.1
    ∙ ap (λ n. n * f.columns) b.0

-- what lines that are not refused have passed
pub record Passed (lines : List (List ℕ)) : Type 0 where
  pub fault : fault_line lines ≡ 0
  pub fits : rows_fit (frame_of lines) (rows_of lines) ≡ true
  pub given : all (row_given (no_data_of lines)) (rows_of lines) ≡ true

pub passed : (lines : List (List ℕ)) (headers room : ℕ) → lines_refusal lines headers room ≡ 0 → Passed lines
unfolding lines_refusal
passed lines headers room read =
    let levels = levels_of (rows_of lines) in
    let f = frame_of lines in
    let last = refuse 14 (leb header_size headers && leb (length levels) room) 0 in
    let g = refuse 13 (all (row_given (no_data_of lines)) (rows_of lines)) last in
    let a = refuse_none 17 (eqb (fault_line lines) 0)
    (refuse 12 (rows_fit f (rows_of lines)) (checked max_network_level levels f g)) (omega arith) read in
    let b = refuse_none 12 (rows_fit f (rows_of lines)) (checked max_network_level levels f g) (omega arith) a.1 in
    let c = refuse_none 12 (sided f && placed f && filled levels f) (refuse 13 (all_within max_network_level levels) g)
    (omega arith) b.1 in
    let d = refuse_none 13 (all_within max_network_level levels) g (omega arith) c.1 in
    let e = refuse_none 13 (all (row_given (no_data_of lines)) (rows_of lines)) last (omega arith) d.1 in
    record { fault = eqb-true (fault_line lines) 0 a.0; fits = b.0; given = e.0 }

-- the room for an answer
abbrev roomy : List ℕ → ℕ → ℕ → Bool
roomy s headers room = leb header_size headers && leb (length (text_levels s)) room

-- a text off its layout
pub off_layout_rule : (s : List ℕ) (n headers room : ℕ) → fault_line (lines_of s) ≡ n → 1 ≤ n
    → read_refusal s headers room ≡ 17
unfolding lines_refusal
off_layout_rule s n headers room e h = rw (ne_eqb (fault_line (lines_of s)) 0 (λ z. omega arith))

module _ (s : List ℕ) (file : File) (on : fault_line (lines_of s) ≡ 0) (j : Judged s file) where
  abbrev f : Frame
  f = file.frame

  abbrev fits : Bool
  fits = file.fits

  abbrev sound : Bool
  sound = file.sound

  judged : (headers room : ℕ)
      → read_refusal s headers room ≡ refuse 12 (fits && sided f && placed f)
      (refuse 13 sound (refuse 14 (roomy s headers room) 0))
  unfolding lines_refusal
  judged headers room =
      let lines = lines_of s in
      let rows = rows_of lines in
      let ready = j.levels ∙ rows_sound_rule (no_data_of lines) rows in
      rw (eq-eqb (fault_line lines) 0 on, ← j.frame, ← j.fitted, ready)
      (decide fits (sided f) (placed f) (filled (levels_of rows) f) (all_within max_network_level (levels_of rows))
      (all (row_given (no_data_of lines)) rows)
      (refuse 14 (roomy s headers room) 0)
      (λ yes. eq-eqb _ _ (fit_length f rows (sym j.fitted ∙ yes))))

  -- refused for its shape, or for its room alone
  pub shape_refused : (headers room n : ℕ) → n ≡ shape_refusal f fits sound → (n ≡ 0 → ⊥)
      → read_refusal s headers room ≡ n
  shape_refused headers room n e h = judged headers room
      ∙ keep (fits && sided f && placed f) sound (refuse 14 (roomy s headers room) 0) n e h
    where
      keep : (a b : Bool) (k n : ℕ) → n ≡ cond a (cond b 0 13) 12 → (n ≡ 0 → ⊥)
          → cond a (cond b k 13) 12 ≡ n
      keep true true k n e h = absurd (h e)
      keep true false k n e h = sym e
      keep false b k n e h = sym e

  module _ (none : shape_refusal f fits sound ≡ 0) where
    tests : (fits && sided f && placed f ≡ true) × (sound ≡ true)
    tests = fine (fits && sided f && placed f) sound none

    room_alone : (headers room : ℕ) → read_refusal s headers room ≡ refuse 14 (roomy s headers room) 0
    room_alone headers room = judged headers room ∙ rw (tests.0, tests.1)

    fitted : rows_fit f (rows_of (lines_of s)) ≡ true
    fitted = sym j.fitted ∙ and_left fits (sided f) (and_left (fits && sided f) (placed f) tests.0)

    levels_number : length (text_levels s) ≡ f.rows * f.columns
    levels_number = fit_length f (rows_of (lines_of s)) fitted

    pub rows_ready : Rows s file.rows f.columns f.rows
    rows_ready =
        let b = fit_both f (rows_of (lines_of s)) fitted in
        record {
          inside = j.inside;
          number = ap length j.rows ∙ b.0;
          each =
              ap (all (has_values f.columns)) j.rows ∙ b.1;
        }

    small : (f.columns ≤ max_side) × (f.rows ≤ max_side)
    small =
        let s = and_right fits (sided f) (and_left (fits && sided f) (placed f) tests.0) in
        let c = and_left (between least_side f.columns max_side) (between least_side f.rows max_side) s in
        let r = and_right (between least_side f.columns max_side) (between least_side f.rows max_side) s in (
          leb-true _ _ (and_right (leb least_side f.columns) (leb f.columns max_side) c),
          leb-true _ _ (and_right (leb least_side f.rows) (leb f.rows max_side) r),
        )

    pub product_small : f.rows * f.columns ≤ 65536
    product_small = mul-le-mul small.1 small.0

    pub no_header : (headers room : ℕ) → headers < header_size → read_refusal s headers room ≡ 14
    no_header headers room h = room_alone headers room ∙ rw (lt-leb header_size headers h)

    pub no_levels : (headers room : ℕ) → header_size ≤ headers → room < f.rows * f.columns
        → read_refusal s headers room ≡ 14
    no_levels headers room h l = room_alone headers room
        ∙ rw (le-leb header_size headers h, levels_number, lt-leb (f.rows * f.columns) room l)

    pub roomy_both : (headers room : ℕ) → header_size ≤ headers → f.rows * f.columns ≤ room
        → read_refusal s headers room ≡ 0
    roomy_both headers room h l = room_alone headers room
        ∙ rw (le-leb header_size headers h, levels_number, le-leb (f.rows * f.columns) room l)

-- ---- what a call leaves

module _ (s headers levels : List ℕ) where
  abbrev pub Outcome : ℕ → List ℕ → List ℕ → Type 0
  Outcome n h l = (n ≡ read_refusal s (length headers) (length levels)) × (h ≡ header_after s headers levels)
      × (l ≡ levels_after s headers levels)

  pub refused_outcome : (n : ℕ) → read_refusal s (length headers) (length levels) ≡ n → (n ≡ 0 → ⊥)
      → Outcome n headers levels
  refused_outcome n e h =
      let no_zero = ne_eqb (read_refusal s (length headers) (length levels)) 0 (λ z. h (sym e ∙ z)) in
      (sym e, rw no_zero, rw no_zero)

  pub read_outcome : read_refusal s (length headers) (length levels) ≡ 0
      → Outcome 0 (front (numbers_of (text_frame s)) headers) (front (text_levels s) levels)
  read_outcome e =
      let zero-now = eq-eqb (read_refusal s (length headers) (length levels)) 0 e in
      (sym e, rw zero-now, rw zero-now)
