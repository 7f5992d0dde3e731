-- The lines of the points, one after another, behind the header. Assumes nothing.
use mathlib.Core.{Path.◌≡◌, Bool.cond, List.List, List.◌++◌}
use Rattle.std.specs.Prelude.{ℕ, ◌+◌, ◌≤◌}
use native.Mathlib.Omega.{arith}
use lib.{Dec.eqb, ListN.length, ListN.get_or, ListN.length-append}
use borrow.Author.Tests.{ne_eqb}
use Rattle.book_rules.specs.Columns.{Book}
use Rattle.load_rules.specs.Told.{LoadTold}
use Rattle.load_rules.specs.Load.{book_load}
use Rattle.text.specs.Sheet.{ended, line, refused_text}
use Rattle.text.specs.Spelled.{crlf}
use Rattle.text.specs.Index.{listing}
use Rattle.room.specs.Room.{Wrote}
use Rattle.room.proofs.Laws.{wrote_then, wrote_none}
use Rattle.register.specs.LimitsFile.{LimitsFile}
use Rattle.report_text.specs.Text.{header_line, point_fields, point_line}
use Rattle.report_text.specs.Text.{points_text, book_refusal}
use Rattle.report_text.specs.InnerRoom.{longest_point}
use Rattle.text.specs.InnerWithin.{WroteWithin}
use Rattle.report_text.proofs.Lines.{ended_none, ended_more, wrote_header}

-- the limits, by what a line looks at
abbrev pub limits_with : ℕ → ℕ → List ℕ → LimitsFile
limits_with points days limits = record { refusal = 0; line = 0; points = points; days = days; limits = limits }

-- the lines of the first n points are written at `at`
pub record Passed (points days : ℕ) (limits : List ℕ) (b : Book) (n : ℕ) (s : List ℕ) (at : ℕ) (e : List ℕ)
    (next : ℕ) : Type 0 where
  pub wrote : Wrote s at (ended (listing (point_line (limits_with points days limits) b) n)) e next

pub points_none : {points days : ℕ} {limits : List ℕ} {b : Book} {s : List ℕ} {at : ℕ}
    → Passed points days limits b 0 s at s at
points_none {points} {days} {limits} {b} {s} {at} =
    record { wrote = rw (ended_none (point_line (limits_with points days limits) b)) (wrote_none s at) }

-- one point more
pub points_more : {points days n i j at : ℕ} {limits s mid e : List ℕ} {b : Book} {load : LoadTold}
    → Passed points days limits b n s at mid i
    → WroteWithin longest_point mid i (line (point_fields n (get_or limits n 0) load) ++ crlf) e j
    → load ≡ book_load points n b days → i + longest_point ≤ length s
    → Passed points days limits b (n + 1) s at e j
unfolding point_line
points_more {points} {days} {n} {i} {j} {at} {limits} {s} {mid} {e} {b} {load} w v q room =
    let f = point_line (limits_with points days limits) b in
    let u : WroteWithin longest_point mid i (f n ++ crlf) e j = rw q at v in
    let lines = ended (listing f n) in
    record {
      wrote = rw (ended_more f n)
          at (wrote_then
          (omega (arith, length-append lines (f n ++ crlf), w.wrote.place, u.wrote.place, u.within))
          w.wrote u.wrote);
    }

-- the header and all points
pub points_all : (l : LimitsFile) (b : Book) {s mid e : List ℕ} {i j n : ℕ}
    → Wrote s 0 (header_line ++ crlf) mid i
    → Passed l.points l.days l.limits b n mid i e j → n ≡ l.points → j ≤ length s
    → Wrote s 0 (points_text l b) e j
unfolding points_text point_line
points_all l b {s} {mid} {e} {i} {j} {n} w v q room =
    let ls = listing (point_line l b) l.points in
    wrote_header header_line ls w (rw q at v.wrote) room

-- a text by the refusal of its book: the one line, or what it says of the points
abbrev by_refusal : LimitsFile → Book → List ℕ → List ℕ
by_refusal l b told = cond (eqb (book_refusal l b) 0) told (refused_text (book_refusal l b) 0)

pub text_refused : (l : LimitsFile) (b : Book) (told : List ℕ) {s e : List ℕ} {r n : ℕ} → n ≡ book_refusal l b
    → (n ≡ 0 → ⊥) → Wrote s 0 (refused_text n 0) e r → Wrote s 0 (by_refusal l b told) e r
text_refused l b told {s} {e} {r} {n} q ne w = rw (← q, ne_eqb n 0 ne) w

pub text_points : (l : LimitsFile) (b : Book) {told s e : List ℕ} {r n : ℕ} → n ≡ book_refusal l b → n ≡ 0
    → Wrote s 0 told e r → Wrote s 0 (by_refusal l b told) e r
text_points l b q z w = rw (← q, z) w
