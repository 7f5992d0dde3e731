-- The cases marked P hold. Assumes nothing.
use mathlib.Core.Path.{◌≡◌, refl, sym, ap, ◌∙◌}
use mathlib.Core.{Logic.◌⊎◌, Logic.inl, Logic.inr, Logic.⊎_elim, List.List, List.[]}
use Prim.Native.Nat.{ℕ, zero, suc, ◌+◌, ◌*◌, ◌/◌, ◌%◌, ◌^◌, ◌≤◌, ◌<◌}
use native.Mathlib.Omega.{arith}
use lib.Dec.{lit<, lit≤}
use borrow.Author.Tests.{lt-ltb, le-leb, eq-eqb, ne_eqb}
use Rattle.movement.specs.Limits.{kind_count, seconds_a_day, max_identity, max_points, max_rows}
use Rattle.movement.specs.{Period.period_number, Period.period_numbered, Group.group_period}
use Rattle.movement.specs.Rules.{fields_fit, counts, movement_refusal, identity_fits}
use Rattle.movement.specs.Ranges.{CountsInRange}
use Rattle.movement.proofs.Ranges.{ranges_hold}
use Rattle.book_rules.specs.Calls.{refused_or, refusal}
use Rattle.book_rules.specs.Calls.Call.{enter}
use Rattle.book_rules.specs.History.{made, empty_book, booked, movements, accepted, list_of, list_refusal}
use Rattle.book_rules.specs.History.{standing_refusal, sizes_fit, standing}
use Rattle.book_rules.proofs.{History.history_refusal, Lookup.call_does}
use Rattle.level.specs.{Tables.table_a, Energy.energy_of}
use Rattle.level.proofs.RootLaws.{root_only_lem}
use Rattle.contour_rules.specs.Contours.{waiting, follow, without, swept, crossed_to}
use Rattle.text.specs.Number.{shown}
use Rattle.wkt.specs.Text.{place_text, points_text, lines_text, text_of}
use Rattle.worked.specs.Cases.{InPeriod, EnterAnswered, CaseHolds, AllHold, contour_cases, cases, hill, hill_frame}
use Rattle.worked.specs.Cases.{hill_contours, hill_text, inner_text}
use Rattle.worked.specs.Cases.Case.{contour}

-- a group's period is read from its number
loaded_as : (t k number : ℕ) → number < 3 → period_number (group_period (6 * t + 3 * k + number)) ≡ number
unfolding group_period
loaded_as t k number h =
    ap (λ n. period_number (period_numbered n)) {x = (6 * t + 3 * k + number) % 3} {y = number} (omega arith)
    ∙ numbered number h
  where
    numbered : (n : ℕ) → n < 3 → period_number (period_numbered n) ≡ n
    numbered zero h = refl
    numbered (suc zero) h = refl
    numbered (suc (suc zero)) h = refl
    numbered (suc (suc (suc n))) h = absurd (omega arith)

in_day : (s : ℕ) → 25200 ≤ s → s < 68400 → InPeriod s 0
in_day s h k = record {
  stored = λ p x t i m cs b b' q. (call_does (enter x t i s m cs) q).day h k;
  loaded =
      λ t i. loaded_as t i 0 (omega arith);
}

in_evening : (s : ℕ) → 68400 ≤ s → s < 82800 → InPeriod s 1
in_evening s h k = record {
  stored = λ p x t i m cs b b' q. (call_does (enter x t i s m cs) q).evening h k;
  loaded =
      λ t i. loaded_as t i 1 (omega arith);
}

in_night : (s : ℕ) → (82800 ≤ s) ⊎ (s < 25200) → InPeriod s 2
in_night s h =
    record {
      stored = λ p x t i m cs b b' q.
          let e = call_does (enter x t i s m cs) q in ⊎_elim e.late e.early h;
      loaded = λ t i. loaded_as t i 2 (omega arith);
    }

-- an *enter* on an empty book is refused as its movement is
enter_empty : (p n x t k s m : ℕ) (cs : List ℕ) → (1 ≤ p) × (p ≤ 8) → (1 ≤ n) × (n ≤ 50000)
    → (1 ≤ x) × (x ≤ 99999) → CountsInRange p cs
    → refusal p (empty_book p n) (enter x t k s m cs) ≡ movement_refusal t k s m
unfolding identity_fits booked movements accepted list_of list_refusal standing_refusal sizes_fit standing
enter_empty p n x t k s m cs hp hn hx hc =
    history_refusal p n [] (made p (enter x t k s m cs))
    ∙ rw (
      eq-eqb p p refl,
      le-leb 1 p hp.0,
      le-leb p max_points hp.1,
      le-leb 1 n hn.0,
      le-leb n max_rows hn.1,
      (ranges_hold.counts= p cs).1 hc,
      le-leb 1 x hx.0,
      le-leb x max_identity hx.1,
    )
    (itself (movement_refusal t k s m))
  where
    itself : (r : ℕ) → refused_or r 0 ≡ r
    itself zero = refl
    itself (suc r) = rw (ne_eqb (suc r) 0 (omega arith)) refl

-- a refusal of type and mass is the same for every kind and second in range
of_mass : (type kg answer : ℕ) → movement_refusal type 0 0 kg ≡ answer → EnterAnswered type kg answer
unfolding movement_refusal fields_fit
of_mass type kg answer e p n x k s cs hp hn hx hc hk hs =
    enter_empty p n x type k s kg cs hp hn hx hc
    ∙ rw (lt-ltb k kind_count (omega arith), lt-ltb s seconds_a_day (omega arith)) e

-- A(0) and A(500)
a_0 : table_a 0 ≡ 1000000
unfolding table_a
a_0 = sym (root_only_lem 1000 (lit< tt) (record { low = lit≤ tt; high = lit< tt }))

a_500 : table_a 500 ≡ 3162277
unfolding table_a
a_500 = sym (root_only_lem 1000 (lit< tt) (record { low = lit≤ tt; high = lit< tt }))

-- an energy from the number of table A that it takes
of_energy : (c a : ℕ) → table_a (c % 1000) ≡ a → energy_of c ≡ a * 10 ^ (c / 1000) / 10 ^ 6
unfolding energy_of
of_energy c a e = rw e

-- the hill, whose contours and text antt computes
of_hill : CaseHolds (contour hill hill_frame 45000 hill_contours hill_text)
unfolding waiting follow without swept crossed_to shown place_text points_text lines_text text_of
of_hill = (refl, refl)

of_inner : CaseHolds (contour hill hill_frame 45001 hill_contours inner_text)
unfolding waiting follow without swept crossed_to shown place_text points_text lines_text text_of
of_inner = (refl, refl)

-- one case more
also : {A B : Type 0} → A → B → A × B
also one rest = (one, rest)

pub all_hold : AllHold cases
unfolding movement_refusal fields_fit counts
all_hold =
    also (in_night 25199 (inr (omega arith)))
    (also (in_day 25200 (omega arith) (omega arith))
    (also (in_day 68399 (omega arith) (omega arith))
    (also (in_evening 68400 (omega arith) (omega arith))
    (also (in_evening 82799 (omega arith) (omega arith))
    (also (in_night 82800 (inl (omega arith)))
    (also (of_mass 0 150 2 refl)
    (also (of_mass 0 151 0 refl)
    (also (of_mass 1 5999 0 refl)
    (also (of_mass 1 6000 1 refl)
    (also (of_energy 0 _ a_0)
    (also (of_energy 500 _ a_500)
    (also (of_energy 3500 _ a_500)
    (also (of_energy 6500 _ a_500)
    (also (of_energy 7500 _ a_500)
    (also (of_energy 13000 _ a_0)
    (also of_hill
    (also of_inner tt)))))))))))))))))

-- further contours and their text, which antt computes
pub contours_hold : AllHold contour_cases
unfolding waiting follow without swept crossed_to shown place_text points_text lines_text text_of
contours_hold = ((refl, refl), ((refl, refl), ((refl, refl), ((refl, refl), tt))))
