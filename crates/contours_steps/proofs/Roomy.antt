-- The program has room for every network that is right otherwise. Assumes nothing.
use mathlib.Core.{Path.◌≡◌, Path.refl, Path.ap, Bool.Bool, Bool.true, Bool.false, Bool.cond, Bool.◌&&◌, List.List}
use Rattle.std.specs.Prelude.{ℕ, ◌≤◌}
use native.Mathlib.Omega.{arith}
use lib.{ListN.length, Dec.eqb, Dec.leb}
use borrow.Author.Tests.{le-leb}
use Rattle.refusal.specs.Range.{all_within}
use Rattle.text.specs.Line.{lines_of}
use Rattle.text.proofs.Thousandths.{spelled_most}
use Rattle.network.specs.declared.Frame.{Frame}
use Rattle.network.specs.{Limits.max_network_level, Refusals.sided, Refusals.placed, Refusals.filled}
use Rattle.network.proofs.Refusals.{is_checked}
use Rattle.grid.specs.Row.{all, row_given, levels_of}
use Rattle.grid.specs.File.{frame_of, no_data_of, rows_of, fault_line, rows_fit}
use Rattle.grid.specs.Read.{header_size, lines_refusal, read_refusal}
use Rattle.grid.proofs.WriteLaws.{points_most}
use Rattle.contours_steps.specs.{Sheet.max_points_drawn, Sheet.text_refusal, Told.NeverShort, Told.WordsFit}

-- a network that is right has at most 256 times 256 points
enough : (levels : List ℕ) (f : Frame) → (sided f && placed f && filled levels f) ≡ true
    → all_within max_network_level levels ≡ true
    → (leb header_size header_size && leb (length levels) max_points_drawn) ≡ true
enough levels f right low =
    rw (le-leb (length levels) 65536 (points_most levels f.columns f.rows (is_checked levels f right low).sized))
    refl

not_short : (text : List ℕ) → text_refusal text ≡ 14 → ⊥
unfolding lines_refusal
not_short text e =
    let ls = lines_of text in
    none (eqb (fault_line ls) 0) (rows_fit (frame_of ls) (rows_of ls))
    (sided (frame_of ls) && placed (frame_of ls) && filled (levels_of (rows_of ls)) (frame_of ls))
    (all_within max_network_level (levels_of (rows_of ls)))
    (all (row_given (no_data_of ls)) (rows_of ls))
    (leb header_size header_size && leb (length (levels_of (rows_of ls))) max_points_drawn)
    (enough (levels_of (rows_of ls)) (frame_of ls)) e
  where
    none : (a b c d g r : Bool) → (c ≡ true → d ≡ true → r ≡ true)
        → ◌≡◌ {A = ℕ} (cond a (cond b (cond c (cond d (cond g (cond r 0 14) 13) 13) 12) 12) 17) 14
        → ⊥
    none true true true true true true fit h = omega arith
    none true true true true true false fit h =
        let never : ◌≡◌ {A = ℕ} 14 0 = ap (λ (b : Bool). cond b 0 14) (fit refl refl) in omega arith
    none true true true true false r fit h = omega arith
    none true true true false g r fit h = omega arith
    none true true false d g r fit h = omega arith
    none true false c d g r fit h = omega arith
    none false b c d g r fit h = omega arith

-- and more room changes nothing
same_in : (text : List ℕ) (headers room : ℕ) → 5 ≤ headers → 65536 ≤ room
    → text_refusal text ≡ read_refusal text headers room
unfolding lines_refusal
same_in text headers room five many =
    let ls = lines_of text in
    let levels = levels_of (rows_of ls) in
    alike (eqb (fault_line ls) 0) (rows_fit (frame_of ls) (rows_of ls))
    (sided (frame_of ls) && placed (frame_of ls) && filled levels (frame_of ls))
    (all_within max_network_level levels)
    (all (row_given (no_data_of ls)) (rows_of ls))
    (leb header_size header_size && leb (length levels) max_points_drawn)
    (leb header_size headers && leb (length levels) room)
    (λ right low. (
      enough levels (frame_of ls) right low,
      rw (
        le-leb 5 headers five,
        le-leb (length levels) room (omega (
          arith,
          points_most levels (frame_of ls).columns (frame_of ls).rows (is_checked levels (frame_of ls) right low).sized,
        )),
      ) refl,
    ))
  where
    alike : (a b c d g r r' : Bool) → (c ≡ true → d ≡ true → (r ≡ true) × (r' ≡ true))
        → ◌≡◌ {A = ℕ} (cond a (cond b (cond c (cond d (cond g (cond r 0 14) 13) 13) 12) 12) 17)
        (cond a (cond b (cond c (cond d (cond g (cond r' 0 14) 13) 13) 12) 12) 17)
    alike true true true true true r r' fit = rw ((fit refl refl).0, (fit refl refl).1) refl
    alike true true true true false r r' fit = refl
    alike true true true false g r r' fit = refl
    alike true true false d g r r' fit = refl
    alike true false c d g r r' fit = refl
    alike false b c d g r r' fit = refl

-- a level has at most seven bytes
pub words_fit : WordsFit
words_fit = record { word = λ w s. omega (arith, spelled_most w s.level (omega (arith, s.most)) s.spelled) }

pub never_short : (text : List ℕ) → NeverShort text
never_short text = record { network = not_short text; as_read = same_in text }
