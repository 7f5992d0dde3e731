-- What the call answers: its refusal, 14 after it, and the answer where neither holds. Assumes nothing.
use mathlib.Core.{Path.◌≡◌, Path.sym, Path.ap, Path.◌∙◌, Bool.true, List.List}
use Rattle.std.specs.Prelude.{ℕ, ◌≤◌}
use native.Mathlib.Omega.{arith}
use lib.{Dec.leb, ListN.length}
use borrow.Author.Tests.{leb-true, ne_eqb}
use Rattle.refusal.proofs.Laws.{refuse_none}
use Rattle.room.specs.Room.{front, then_room, Writes}
use Rattle.room.proofs.Answers.{first_none_lem}
use Rattle.coupling_rules.specs.{Flights.Flights, Flights.Movements, Refusals.movements_fit, Refusals.flights_fit}
use Rattle.coupling_rules.specs.Refusals.{couple_refusal}
use Rattle.coupling_rules.proofs.Refusing.{not_refused_lem}

-- What is known where nothing is refused

pub all_fits : (m : Movements) (t : Flights) (n room : ℕ) {r : ℕ}
    → r ≡ then_room (couple_refusal m t) (leb n room)
    → r ≡ 0 → (movements_fit m ≡ true) × ((flights_fit t ≡ true) × (n ≤ room))
all_fits m t n room e z =
    let f = first_none_lem (couple_refusal m t) _ (sym e ∙ z) in
    let g = not_refused_lem m t f.0 in
    (g.0, (g.1, leb-true n room (refuse_none 14 (leb n room) 0 (omega arith) f.1).0))

-- The answer

module _ (why n : ℕ) (answer room : List ℕ) {r : ℕ} (long : length answer ≡ n)
    (e : r ≡ then_room why (leb n (length room))) where
  due : r ≡ then_room why (leb (length answer) (length room))
  due = e ∙ ap (λ (k : ℕ). then_room why (leb k (length room))) (sym long)

  pub answered : {room' : List ℕ} → r ≡ 0 → room' ≡ front answer room → Writes why answer room r room'
  answered z f = record { number = due; left = rw (sym due ∙ z) f }

  pub refused : (r ≡ 0 → ⊥) → Writes why answer room r room
  refused z = record { number = due; left = rw (sym due, ne_eqb r 0 z) }

-- Columns that are equal one by one

abbrev pub seven : (dates times classes kinds runways airports types : List ℕ) → Flights
seven ds ts cs ks rs ps ys = record {
  dates = ds;
  times = ts;
  classes = cs;
  kinds = ks;
  runways = rs;
  airports = ps;
  types = ys;
}

pub same_flights : {ds ts cs ks rs ps ys ds' ts' cs' ks' rs' ps' ys' : List ℕ} → ds ≡ ds'
    → ts ≡ ts' → cs ≡ cs'
    → ks ≡ ks' → rs ≡ rs' → ps ≡ ps' → ys ≡ ys'
    → seven ds ts cs ks rs ps ys ≡ seven ds' ts' cs' ks' rs' ps' ys'
same_flights a b c d e f g = cc

pub same_movements : {f f' : Flights} {os os' : List ℕ} → f ≡ f' → os ≡ os'
    → ◌≡◌ {A = Movements} (record { flights = f; circuits = os }) (record { flights = f'; circuits = os' })
same_movements a b = cc
