-- Which number of a table says what of a flight. Assumes nothing.
use mathlib.Core.{Path.◌≡◌, Path.refl, Path.◌∙◌, List.List}
use Prim.Native.Nat.{ℕ, ◌+◌, ◌*◌, ◌<◌}
use lib.ListN.{get_or, drop}
use lib.Seq.{get_or-take, get_or-drop}
use Rattle.coupling_rules.specs.Tables.{column_in, InTable}

at : (k n i : ℕ) (table : List ℕ) → i < n → get_or (column_in k n table) i 0 ≡ get_or table (k * 50000 + i) 0
at k n i table h = get_or-take n (drop (k * 50000) table) i 0 h ∙ get_or-drop (k * 50000) table i 0

pub in_table : (table : List ℕ) (n i : ℕ) → i < n → InTable table n i
in_table table n i h = record {
  date = at 1 n i table h;
  time = at 2 n i table h;
  class = at 3 n i table h;
  kind = at 4 n i table h;
  runway = at 5 n i table h;
  airport = at 6 n i table h;
  type = at 7 n i table h;
  circuit = at 8 n i table h;
  track = refl;
}
