-- `couple::coupled`: what was read may be coupled, and what went is the sheet. Assumes nothing.
use mathlib.Core.Path.{refl}
use Rattle.std.specs.Prelude.{ℕ, ◌-◌, ◌≤◌, List, length, replicate}
use native.Mathlib.Omega.{arith}
use lib.ListN.{length-replicate}
use Rattle.channel.specs.System.Origin.{input}
use Rattle.channel.proofs.Running.{ran}
use Rattle.stream.specs.declared.Turn.{Turn}
use Rattle.couple_steps.specs.InnerTable.{TableRead}
use Rattle.couple_steps.proofs.Ready.{table_roomy, table_line, tracks_most, tracks_fitted, moves_most, moves_fitted}
use Rattle.couple_steps.proofs.Ready.{sheet_may}
use Rattle.couple.proofs.coupled.Goals as goal

-- there is an answer for each movement
room : {ids : List ℕ} {u : Turn} → TableRead input 9 ids u → u.line - 2 ≤ length {A = ℕ} (replicate 50000 0)
room l = omega (arith, moves_most l, length-replicate {A = ℕ} 50000 0)

pub couple_tables-requires : goal.couple_tables-requires
couple_tables-requires c =
    let k = c.requires.table_read in
    let l = c.requires.table_read_2 in
    record {
      m_le_max_flights = moves_most l;
      n_le_max_flights = tracks_most k;
      movements_len = l.long;
      tracks_len = k.long;
      m_in_bounds = room l;
      m_value = moves_fitted l;
      n_value = tracks_fitted k;
    }

pub sheet-went-requires : goal.sheet-went-requires
sheet-went-requires c =
    record {
      many_le_max_flights = (moves_most c.requires.table_read_2, omega (arith, c.requires.longest_text_in_bounds));
      sent_value = c.requires.sent_value;
    }

pub counted-requires : goal.counted-requires
counted-requires c =
    let l = c.requires.table_read_2 in
    record {
      roomy = table_roomy l (omega arith);
      m_le_max_flights = (moves_most l, omega (arith, room l, c.couple_tables.auto.answers));
    }

pub returns-then-went : goal.returns-then-went
returns-then-went c =
    ran (sheet_may _ _ _ _ c.requires.table_read c.requires.table_read_2 c.couple_tables.ensures) refl
    c.sheet-went.ensures

pub returns-else-went : goal.returns-else-went
returns-else-went c =
    ran (sheet_may _ _ _ _ c.requires.table_read c.requires.table_read_2 c.couple_tables.ensures) refl
    c.sheet-went.ensures

pub overflow_sub-n : goal.overflow_sub-n
overflow_sub-n c = table_line c.requires.table_read

pub overflow_sub-m : goal.overflow_sub-m
overflow_sub-m c = table_line c.requires.table_read_2
