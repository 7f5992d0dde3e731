-- The turns go by date, then time, then place, as the order by moments does: day numbers rise with dates, and no second
-- is
-- outside its day. Assumes nothing.
use mathlib.Core.{Path.◌≡◌, Path.sym, Path.ap, Path.◌∙◌, Logic.◌⊎◌, Logic.inl, Logic.inr, Logic.⊎_elim}
use Prim.Native.Nat.{ℕ, ◌+◌, ◌*◌, ◌≤◌, ◌<◌}
use native.Mathlib.Omega.{arith}
use lib.ListN.{get_or}
use Rattle.refusal.proofs.Ranges.{within_at}
use Rattle.date.specs.Calendar.{day_number}
use Rattle.date.proofs.Rising.{rising}
use Rattle.coupling_rules.specs.Flights.{Flights, many}
use Rattle.coupling_rules.specs.Rule.{moment_of}
use Rattle.coupling_rules.specs.InnerSides.{Over}
use Rattle.coupling_rules.specs.Promises.{second_of, Sooner}
use Rattle.coupling_rules.specs.Promises.Sooner.{date, time, place}
use Rattle.coupling_rules.proofs.{Members.three_ways, Refusing.Values, Refusing.exist_at}

pub moment_is : (f : Flights) (i : ℕ) → moment_of f i ≡ second_of f i
unfolding moment_of
moment_is f i = omega arith

later_day : (d e s u : ℕ) → d < e → s ≤ 86399 → d * 86400 + s < e * 86400 + u
later_day d e s u h k = omega arith

module _ (f : Flights) (v : Values f) (h i : ℕ) (p : h < many f) (q : i < many f) where
  -- a later date is a later second
  day : (a b : ℕ) → a < many f → b < many f → get_or f.dates a 0 < get_or f.dates b 0
      → second_of f a < second_of f b
  day a b x y l =
      later_day (day_number (get_or f.dates a 0)) (day_number (get_or f.dates b 0)) (get_or f.times a 0)
      (get_or f.times b 0)
      (rising (get_or f.dates a 0) (get_or f.dates b 0) (exist_at f.dates a v.dates x)
      (exist_at f.dates b v.dates y) l)
      (within_at 86399 f.times a v.times)

  pub sooner_over : Sooner f h i → Over (moment_of f) h i
  sooner_over (date l) = inl (rw (moment_is f h, moment_is f i) (day h i p q l))
  sooner_over (time e l) =
      let d = ap day_number e in inl (rw (moment_is f h, moment_is f i) (omega arith))
  sooner_over (place e l k) =
      let d = ap day_number e in inr (rw (moment_is f h, moment_is f i) (omega arith), k)

  same_day_rule : get_or f.dates h 0 ≡ get_or f.dates i 0
      → (second_of f h < second_of f i) ⊎ ((second_of f h ≡ second_of f i) × (h < i)) → Sooner f h i
  same_day_rule e (inl l) = let d = ap day_number e in time e (omega arith)
  same_day_rule e (inr (l, k)) = let d = ap day_number e in place e (omega arith) k

  by_second : (second_of f h < second_of f i) ⊎ ((second_of f h ≡ second_of f i) × (h < i)) → Sooner f h i
  by_second o =
      ⊎_elim date
      (⊎_elim (λ e. same_day_rule e o)
      (λ l. let d = day i h q p l in absurd (⊎_elim (λ k. omega arith) (λ k. omega (arith, k.0)) o)))
      (three_ways (get_or f.dates h 0) (get_or f.dates i 0))

  pub over_sooner : Over (moment_of f) h i → Sooner f h i
  over_sooner o =
      by_second (⊎_elim (λ l. inl (omega (arith, moment_is f h, moment_is f i)))
      (λ l. inr (sym (moment_is f h) ∙ l.0 ∙ moment_is f i, l.1)) o)
