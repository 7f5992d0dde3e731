-- Calls that are really made keep what the theorem on histories says. Assumes nothing.
use mathlib.Core.{Path.◌≡◌, Path.refl, Path.ap, Path.◌∙◌, List.List, List.◌∷◌}
use Prim.Native.Nat.{ℕ}
use Rattle.book_rules.specs.{Columns.Book, History.Made, History.booked, History.answered, History.empty_book}
use Rattle.book_rules.specs.Chain.{Chain, ChainHolds}
use Rattle.book_rules.specs.Chain.Chain.{done, called}
use Rattle.book_rules.proofs.History.{history}

-- from any book
pub chain_booked : {b b' : Book} {cs : List Made} {rs : List ℕ} → Chain b cs rs b'
    → (b' ≡ booked b cs) × (rs ≡ answered b cs)
unfolding booked answered
chain_booked done = (refl, refl)
chain_booked (called {b} {b₁} {b'} {c} {cs} {r} {rs} k rest) =
    let ih = chain_booked rest in
    let next = ih.1 ∙ ap (λ (a : Book). answered a cs) k.book in
    (ih.0 ∙ ap (λ (a : Book). booked a cs) k.book, λ i. k.answer i ∷ next i)

pub chain : {p n : ℕ} {cs : List Made} {rs : List ℕ} {b' : Book} → Chain (empty_book p n) cs rs b'
    → ChainHolds p n cs rs b'
chain {p} {n} {cs} k = let e = chain_booked k in record { book = e.0; answers = e.1; history = history p n cs }
