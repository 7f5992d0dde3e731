-- `book::place::place_of` meets its contract. Assumes nothing.
use Rattle.std.proofs.Common.{rules}
use mathlib.Core.Bool.{not}
use Rattle.std.proofs.lemmas.List.Sorted.{IsPartitionPoint-from_clause}
use Rattle.book_rules.proofs.Search.{reached, place_parts, place_parted}
use Rattle.book.proofs.place.place_of.Goals as goal

pub returns : goal.returns
returns c =
    let a = c.args in
    place_parted a.x a.ids.now _ c.partition_point.ensures.bound
    (IsPartitionPoint-from_clause (λ y. not (reached a.x y)) a.ids.now _ c.partition_point.ensures.partitioned
    (place_parts a.x a.ids.now c.requires) (λ b r f k. search rules))
