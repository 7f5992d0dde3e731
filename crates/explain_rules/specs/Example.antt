-- The three lines of RULES, "The program explain": two starts of large aircraft by day computed and one missing, and a
-- helicopter's landing at night that is missing. Assumes nothing.
use Rattle.std.specs.Prelude.{ℕ, ◌≡◌, cond, List, ◌++◌, eqb}
use Rattle.load_rules.specs.declared.Group.{Group}
use Rattle.load_rules.specs.Tally.{group_with}
use Rattle.text.specs.Sheet.{ended}
use Rattle.text.specs.Spelled.{bytes}
use Rattle.explain_text.specs.Text.{group_amounts, all_amounts, point_lines}

-- V, U and S: group 0 is G, S, day, and group 17 is H, L, night
abbrev pub example_groups : ℕ → Group
example_groups g = cond (eqb g 0) (group_with 2 1 20000000000) (cond (eqb g 17) (group_with 0 1 0) (group_with 0 0 0))

abbrev pub example_lines : List ℕ
example_lines =
    bytes "1,G,S,day,2,1,3/2,20000000000,30000000000\r\n"
    ++ (bytes "1,H,L,night,0,1,,0,0\r\n" ++ bytes "1,all,,,2,2,4/3,30000000000,40000000000\r\n")

pub record ExampleHolds : Type 0 where
  pub lines : ended (point_lines 0 (λ g. group_amounts (example_groups g)) (all_amounts example_groups)) ≡ example_lines
