-- `book::place::standing_rows` meets its contract. Assumes nothing.
use mathlib.Core.Path.{◌∙◌}
use Rattle.movement.specs.Limits.{max_identity}
use Rattle.book_rules.proofs.Search.{place_last}
use Rattle.book.proofs.place.standing_rows.Goals as goal

pub returns : goal.returns
returns c =
    c.place_of.ensures ∙ place_last max_identity c.args.ids.now c.requires.ids_value_2
