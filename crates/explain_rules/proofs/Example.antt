-- The example of the rules, computed from V, U and S to its bytes. Assumes nothing.
use mathlib.Core.Path.{refl}
use Rattle.load_rules.specs.Factors.{scaled_by, sum_to, known, unknown, known_sum, unknown_sum, general_factor}
use Rattle.load_rules.specs.Load.{scaled_energy, scaled_sum, total_of}
use Rattle.movement.specs.Group.{group_period}
use Rattle.text.specs.Sheet.{ended}
use Rattle.text.specs.{Number.shown, Field.joined_by}
use Rattle.explain_text.specs.Text.{group_amounts, all_amounts, factor_text, group_line, group_lines, point_lines}
use Rattle.explain_rules.specs.Example.{ExampleHolds}

pub example_holds : ExampleHolds
unfolding scaled_by sum_to known unknown known_sum unknown_sum general_factor scaled_energy scaled_sum total_of
    group_period
    shown joined_by ended group_amounts all_amounts factor_text group_line group_lines point_lines
example_holds = record { lines = refl }
