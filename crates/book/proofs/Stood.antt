-- The row of an identity that stands is at its place. Assumes nothing.
use Rattle.std.specs.Prelude.{◌≡◌, ℕ, ◌<◌, List, length}
use mathlib.Core.Path.{sym, ◌∙◌}
use native.Mathlib.Omega.{arith}
use Rattle.book_rules.specs.{Columns.index_of, InnerRows.Placed}
use Rattle.book_rules.proofs.{Search.place_index, Search.stands_index, Accepted.Stood, Accepted.identity_in}

pub stood_index : {ids : List ℕ} {at x : ℕ} → Placed ids at x → Stood ids x → index_of x ids ≡ at
stood_index {ids} {at} {x} p w =
    place_index x ids (identity_in x w.identity=).0 p.rising= (stands_index x ids w.stands=)
    ∙ sym p.place

pub stood_below : {ids : List ℕ} {at x : ℕ} → Placed ids at x → Stood ids x → at < length ids
stood_below {ids} {at} {x} p w = omega (arith, stood_index p w, stands_index x ids w.stands=)
