-- Laws of an account: from the sums that the code makes, from the array of arrays, and four numbers in lent room.
-- Assumes nothing.
use mathlib.Core.{Path.◌≡◌, Path.refl, Path.sym, Path.ap, Path.◌∙◌, Bool.true, List.List, List.◌++◌, List.append_assoc}
use Rattle.std.specs.Prelude.{ℕ, ◌+◌, ◌-◌, ◌*◌, ◌<◌}
use native.Mathlib.{Numerals.add-one, Omega.arith}
use lib.ListN.{length, take, drop}
use borrow.Rule.Slice.PartMut.{put_mid, Post-is}
use Rattle.movement.specs.Limits.{group_count}
use Rattle.room.specs.Room.{front, put, Writes}
use Rattle.room.proofs.Fronts.{front_grows}
use Rattle.load_rules.specs.declared.Group.{Group}
use Rattle.load_rules.specs.{Shares.Share, Tally.tally}
use Rattle.load_rules.specs.Factors.{ratio, sum_to, known_sum, unknown_sum, general_factor}
use Rattle.load_rules.specs.Load.{scaled_sum, total_of, answer, days_fit, load_of}
use Rattle.load_rules.specs.Account.{group_numbers, groups_to, whole_numbers, account_from}
use Rattle.load_rules.proofs.{TallyLaws.AllGrouped, Accounts.length_groups}
use Rattle.load.specs.declared.sums.{Sums.Sums, Totals.Totals}
use Rattle.load.specs.InnerSteps.{table, group_at, Scalable, Bounded, sums_of, totals_of, load_from}
use Rattle.load.proofs.{BoundLaws.fits_next, SumsLaws.sums_totals, SumsLaws.from_table_rule, SumsLaws.from_shares}

-- numbers copied to their place
pub copied : (room : List ℕ) (at n : ℕ) {part numbers : List ℕ} → part ≡ numbers → length numbers ≡ n
    → put_mid at (at + n - at) room part ≡ put room at numbers
unfolding put
copied room at n {part} {numbers} e l =
    ap (λ (s : List ℕ). take at room ++ (part ++ s)) (Post-is at (at + n) room (omega arith))
    ∙ ap (λ (s : List ℕ). take at room ++ (s ++ drop (at + n) room)) e
    ∙ ap (λ k. take at room ++ (numbers ++ drop (at + k) room)) (sym l)
    ∙ sym (append_assoc (take at room) numbers (drop (at + length numbers) room))

-- a group that movements within the bounds give can be scaled
pub group_scalable : (cs : List (List (List Group))) → Bounded cs → (g : ℕ) → g < group_count
    → Scalable (group_at cs g).energy ((group_at cs g).computed + (group_at cs g).missing) (group_at cs g).computed
group_scalable cs b g h =
    let fit = fits_next cs b g h in
    record { movements = omega (arith, fit.movements); energy = fit.energy }

-- one group more at the front
pub groups_more : (f : ℕ → Group) (g : ℕ) (room : List ℕ)
    → put (front (groups_to f g) room) (4 * g) (group_numbers (f g)) ≡ front (groups_to f (g + 1)) room
unfolding groups_to
groups_more f g room =
    rw (add-one g) (front_grows (groups_to f g) room (4 * g) (group_numbers (f g)) (length_groups f g))

-- the numbers of the whole behind those of all groups
pub account_front : (cs : List (List (List Group))) (s : Sums) → s ≡ sums_of (group_at cs) group_count
    → (days : ℕ) (t : Totals) → t ≡ totals_of s days → (room : List ℕ)
    → put (front (groups_to (group_at cs) group_count) room) (4 * group_count)
    (whole_numbers (ratio (s.known + s.unknown) s.known) s.scaled t.total t.level)
    ≡ front (account_from (group_at cs) days) room
unfolding account_from sums_of general_factor scaled_sum known_sum unknown_sum
account_front cs s same days t e room =
    let f = group_at cs in
    let o = sums_totals cs s same days e in
    rw (o.0, o.1, same) (front_grows (groups_to f group_count) room (4 * group_count) _ (length_groups f group_count))

-- the array of arrays gives the account of what it holds
account_table : (f : ℕ → Group) (days : ℕ) → account_from (group_at (table f)) days ≡ account_from f days
unfolding account_from groups_to answer total_of general_factor scaled_sum known_sum unknown_sum sum_to group_at table
account_table f days = refl

-- so an account of the tally is that of the shares
pub account_shares : (ss : List Share) (days : ℕ) → days_fit days ≡ true → AllGrouped ss
    → {cs : List (List (List Group))} → cs ≡ table (tally ss) → {room room' : List ℕ} {r : ℕ}
    → Writes (load_from (group_at cs) days).refused (account_from (group_at cs) days) room r room'
    → Writes (load_of true ss days).refused (account_from (tally ss) days) room r room'
account_shares ss days fit grouped e w =
    rw (← from_shares ss days fit grouped, ← from_table_rule (tally ss) days, ← account_table (tally ss) days)
    (rw e at w)
