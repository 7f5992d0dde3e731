-- What the contract of `couple` comes to in the caller's own columns. Assumes nothing.
use mathlib.Core.{Path.◌≡◌, Path.sym, Path.ap, Path.subst, Path.◌∙◌, List.List, Logic.◌⊎◌, Logic.inl}
use mathlib.Core.Logic.{inr, ⊎_elim}
use Prim.Native.Nat.{ℕ, ◌≤◌, ◌<◌}
use native.Mathlib.Omega.{arith}
use lib.ListN.{length, get_or, take}
use borrow.Author.Tests.{le-leb, lt-leb}
use Rattle.room.specs.{Lent.Lent, Lent.LentRoom, Room.front, Room.Writes}
use Rattle.room.proofs.Fronts.{length_front, front_is, front_past}
use Rattle.coupling_rules.specs.Flights.{Flights, Movements, flights_before, movements_before}
use Rattle.coupling_rules.specs.Rule.{tracks_for}
use Rattle.coupling_rules.specs.Refusals.{couple_refusal}
use Rattle.coupling_rules.specs.Promises.{Coupled}
use Rattle.coupling_rules.specs.Call.{Called}
use Rattle.coupling_rules.proofs.Members.{is_or_not, lt_or_not}
use Rattle.coupling_rules.proofs.{Packing.length_tracks, Promised.coupled, Reasons.refused_exactly}

module _ (m : Movements) (t : Flights) (room : List ℕ) (r : ℕ) (room' : List ℕ)
    (w : Writes (couple_refusal m t) (tracks_for m t) room r room') where
  eighteen : couple_refusal m t ≡ 18 → (r ≡ 18) × (room' ≡ room)
  eighteen e = (w.number ∙ (rw e), w.left ∙ (rw e))

  fourteen : couple_refusal m t ≡ 0 → length room < length m.flights.dates → (r ≡ 14) × (room' ≡ room)
  fourteen e h =
      let f = lt-leb (length (tracks_for m t)) (length room) (omega (arith, length_tracks m t)) in
      (w.number ∙ (rw (e, f)), w.left ∙ (rw (e, f)))

  nought : couple_refusal m t ≡ 0 → length m.flights.dates ≤ length room
      → (r ≡ 0) × (room' ≡ front (tracks_for m t) room)
  nought e h =
      let f = le-leb (length (tracks_for m t)) (length room) (omega (arith, length_tracks m t)) in
      (w.number ∙ (rw (e, f)), w.left ∙ (rw (e, f)))

  -- the room stays, or the answer stands at its front
  stays_or : (room' ≡ room)
      ⊎ ((length m.flights.dates ≤ length room) × (room' ≡ front (tracks_for m t) room))
  stays_or =
      ⊎_elim
      (λ z. ⊎_elim (λ h. inl (fourteen z h).1) (λ h. inr (h, (nought z h).1))
      (lt_or_not (length room) (length m.flights.dates)))
      (λ n. inl (eighteen ((refused_exactly m t).refused ((refused_exactly m t).only n))).1)
      (is_or_not (couple_refusal m t) 0)

  long_front : length m.flights.dates ≤ length room → length (front (tracks_for m t) room) ≡ length room
  long_front h = length_front (tracks_for m t) room (omega (arith, length_tracks m t))

  told : Called m t room r room'
  told = record {
    refused = λ w. eighteen ((refused_exactly m t).refused w);
    short = λ n h. fourteen ((refused_exactly m t).accepted n) h;
    done = λ n h.
        let z = (refused_exactly m t).accepted n in
        let e = nought z h in (
          e.0,
          subst (λ (l : List ℕ). Coupled m t l)
              (sym (ap (take (length m.flights.dates)) e.1
              ∙ front_is (tracks_for m t) room (length m.flights.dates) (length_tracks m t)))
              (coupled m t z),
        );
    long = ⊎_elim (λ e. ap length e) (λ e. ap length e.1 ∙ long_front e.0) stays_or;
    kept = λ i h.
        ⊎_elim (λ e. ap (λ (l : List ℕ). get_or l i 0) e)
        (λ e. ap (λ (l : List ℕ). get_or l i 0) e.1
        ∙ front_past (tracks_for m t) room i 0 (omega (arith, length_tracks m t)))
        stays_or;
  }

-- the call, by what its contract says: the columns as the caller lends them, each under its own name
pub call_told : (ds ts cs ks rs ps ys os ds' ts' cs' ks' rs' ps' ys' : Lent) (out : LentRoom) (r : ℕ)
    → Writes (couple_refusal (movements_before ds ts cs ks rs ps ys os) (flights_before ds' ts' cs' ks' rs' ps' ys'))
    (tracks_for (movements_before ds ts cs ks rs ps ys os) (flights_before ds' ts' cs' ks' rs' ps' ys'))
    out.entry.now r out.exit.now
    → Called
    (record {
      flights = record {
        dates = ds.entry.now;
        times = ts.entry.now;
        classes = cs.entry.now;
        kinds = ks.entry.now;
        runways = rs.entry.now;
        airports = ps.entry.now;
        types = ys.entry.now;
      };
      circuits = os.entry.now;
    })
    (record {
      dates = ds'.entry.now;
      times = ts'.entry.now;
      classes = cs'.entry.now;
      kinds = ks'.entry.now;
      runways = rs'.entry.now;
      airports = ps'.entry.now;
      types = ys'.entry.now;
    })
    out.entry.now r out.exit.now
call_told ds ts cs ks rs ps ys os ds' ts' cs' ks' rs' ps' ys' out r w =
    told (movements_before ds ts cs ks rs ps ys os) (flights_before ds' ts' cs' ks' rs' ps' ys') out.entry.now r
    out.exit.now w
