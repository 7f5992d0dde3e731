-- What a sound book says of its rows, one by one, and of the tally of its first rows. Assumes nothing.
use mathlib.Core.{Path.◌≡◌, Path.sym, Path.ap, Bool.Bool, Bool.true, Bool.false, Bool.cond}
use Rattle.std.specs.Prelude.{ℕ, zero, suc, ◌+◌, ◌*◌, ◌<◌, ◌≤◌, List, [], ◌∷◌, ◌++◌}
use native.Mathlib.{Nat.suc-mul, Nat.mul-le-mul_right, Nat.add-mul, Numerals.add-one, Omega.arith}
use lib.{ListN.length, ListN.get_or, ListN.set, ListN.length-append, Dec.eqb, Dec.lit≤}
use Rattle.level.specs.Limits.{max_weighted, max_movements, max_energy}
use Rattle.level.proofs.EnergyLaws.{energy_le}
use Rattle.movement.specs.{Limits.max_level, Limits.group_count, Period.weight_of, Group.group_period}
use Rattle.movement.specs.declared.period.Period.{Period}
use Rattle.movement.specs.declared.period.Period.TheVariants.{Day, Evening, Night}
use Rattle.book_rules.specs.Columns.{Book, sound}
use Rattle.book_rules.proofs.{Shapes.sound_fits, SoundBook.sound_exactly}
use Rattle.load_rules.specs.declared.Group.{Group}
use Rattle.load_rules.specs.Shares.{Share, energy_in, row_share, shares_to}
use Rattle.load_rules.specs.Shares.Share.{has, lacks}
use Rattle.load_rules.specs.Tally.{adds_computed, adds_missing, adds_energy, sum_of, tally}
use Rattle.load_rules.proofs.{SumLaws.sum_ext, TallyLaws.AllGrouped, TallyLaws.grouped_append, TallyLaws.counted_le_lem}
use Rattle.load.specs.InnerSteps.{table, group_at, flat, flat_at, RoomForOne, Bounded, with_row}
use Rattle.load.proofs.{CellLaws.at_table, CellLaws.at_flat, MoreRows.row_flat, MoreRows.row_left_out}

-- Bounds of V, U and S

one : (t : Bool) → cond t 1 0 ≤ 1
one true = lit≤ tt
one false = lit≤ tt

-- no count is over the number of shares
adds_le : (g : ℕ) (s : Share) → (adds_computed g s ≤ 1) × (adds_missing g s ≤ 1)
unfolding adds_computed adds_missing
adds_le g (has h e) = (one (eqb h g), lit≤ tt)
adds_le g (lacks h) = (lit≤ tt, one (eqb h g))

sum_le_length : (w : Share → ℕ) → ((s : Share) → w s ≤ 1) → (ss : List Share) → sum_of w ss ≤ length ss
unfolding sum_of
sum_le_length w b [] = lit≤ tt
sum_le_length w b (s ∷ ss) = omega (arith, b s, sum_le_length w b ss)

tally_le : (ss : List Share) (g : ℕ) → ((tally ss g).computed ≤ length ss) × ((tally ss g).missing ≤ length ss)
unfolding tally
tally_le ss g = (
  sum_le_length (adds_computed g) (λ s. (adds_le g s).0) ss,
  sum_le_length (adds_missing g) (λ s. (adds_le g s).1) ss,
)

abbrev Small : Share → Type 0
Small (has g e) = e ≤ max_energy
Small (lacks g) = Unit {0}

abbrev AllSmall : List Share → Type 0
AllSmall [] = Unit {0}
AllSmall (s ∷ ss) = Small s × AllSmall ss

adds_small : (g : ℕ) (s : Share) → Small s → adds_energy g s ≤ adds_computed g s * max_energy
unfolding adds_energy adds_computed
adds_small g (has h e) a = go (eqb h g)
  where
    go : (b : Bool) → cond b e 0 ≤ cond b 1 0 * max_energy
    go true = omega arith
    go false = omega arith
adds_small g (lacks h) a = omega arith

energy_small : (ss : List Share) (g : ℕ) → AllSmall ss → (tally ss g).energy ≤ (tally ss g).computed * max_energy
unfolding tally sum_of
energy_small [] g a = omega arith
energy_small (s ∷ ss) g a =
    rw (add-mul (adds_computed g s) (sum_of (adds_computed g) ss) max_energy)
    (omega (arith, adds_small g s a.0, energy_small ss g a.1))

small_append : (a b : List Share) → AllSmall a → AllSmall b → AllSmall (a ++ b)
small_append [] b h k = k
small_append (s ∷ a) b h k = (h.0, small_append a b h.1 k)

weight_le : (p : Period) → weight_of p ≤ 1000
weight_le Day = omega arith
weight_le Evening = omega arith
weight_le Night = omega arith

-- the highest level at night is 130.00
pub weighted_le : (g l : ℕ) → l ≤ max_level → l + weight_of (group_period g) ≤ max_weighted
weighted_le g l h = omega (arith, weight_le (group_period g))

pub energy_in_small : (g l : ℕ) → l ≤ max_level → energy_in g l ≤ max_energy
unfolding energy_in
energy_in_small g l h = energy_le (l + weight_of (group_period g)) (weighted_le g l h)

-- One row of a sound book

-- row i of a sound book: its place in each column, its values in range, and room for it in its group
pub record Row (p pt : ℕ) (b : Book) (i : ℕ) : Type 0 where
  pub in_groups : i < length b.groups
  pub in_marks : i < length b.marks
  pub in_counts : i * p + pt < length b.counts
  pub in_levels : i * p + pt < length b.levels
  pub group< : get_or b.groups i 0 < group_count
  pub level≤ : get_or b.levels (i * p + pt) 0 ≤ max_level
  pub room : RoomForOne (flat_at (flat (tally (shares_to p pt b i))) (get_or b.groups i 0))

module _ (p pt : ℕ) (b : Book) (ok : sound p b ≡ true) (there : pt < p) where
  row_group : (i : ℕ) → i < length b.identities → get_or b.groups i 0 < group_count
  row_group i h = (((sound_exactly p b).only ok).row i h).group

  row_level : (i : ℕ) → i < length b.identities → get_or b.levels (i * p + pt) 0 ≤ max_level
  row_level i h = (((sound_exactly p b).only ok).row i h).level pt there

  -- its place in a column of one a point
  row_place : (i : ℕ) → i < length b.identities → i * p + pt < length b.identities * p
  row_place i h = omega (arith, suc-mul i p, mul-le-mul_right p h)

  -- The first n rows

  pub shares_length : (n : ℕ) → length (shares_to p pt b n) ≤ n
  unfolding shares_to row_share
  shares_length zero = lit≤ tt
  shares_length (suc n) = rw length-append (go _ (eqb (get_or b.counts (n * p + pt) 0) 0) (shares_length n))
    where
      go : (s : Share) (t : Bool) → length (shares_to p pt b n) ≤ n
          → length (shares_to p pt b n) + length (cond t [] (s ∷ [])) ≤ suc n
      go s true l = omega arith
      go s false l = omega arith

  row_small : (g m c l : ℕ) → l ≤ max_level → AllSmall (row_share g m c l)
  unfolding row_share
  row_small g m c l h = go (eqb c 0) (eqb m 0)
    where
      go : (t u : Bool) → AllSmall (cond t [] (cond u (lacks g) (has g (energy_in g l)) ∷ []))
      go true u = tt
      go false true = (tt, tt)
      go false false = (energy_in_small g l h, tt)

  pub shares_small : (n : ℕ) → n ≤ length b.identities → AllSmall (shares_to p pt b n)
  unfolding shares_to
  shares_small zero h = tt
  shares_small (suc n) h =
      small_append (shares_to p pt b n) _ (shares_small n (omega arith))
      (row_small (get_or b.groups n 0) (get_or b.marks n 0) _ _ (row_level n h))

  rows_le : length b.identities ≤ max_movements
  rows_le = let f = sound_fits p b ok in omega (arith, f.rows≤)

  -- room for one row more
  row_room : (i : ℕ) → i < length b.identities
      → RoomForOne (flat_at (flat (tally (shares_to p pt b i))) (get_or b.groups i 0))
  row_room i h =
      let g = get_or b.groups i 0 in
      let ss = shares_to p pt b i in
      let t = tally_le ss g in
      let e = energy_small ss g (shares_small i (omega arith)) in
      rw (at_flat (tally ss) g (row_group i h))
      (record {
        computed = omega (arith, t.0, shares_length i, rows_le);
        missing = omega (arith, t.1, shares_length i, rows_le);
        energy = omega (arith, t.0, shares_length i, rows_le, e);
      })

  -- all that a turn of the loop wants of its row
  pub row_at : (i : ℕ) → i < length b.identities → Row p pt b i
  row_at i h =
      let f = sound_fits p b ok in
      record {
        in_groups = omega (arith, f.groups=);
        in_marks = omega (arith, f.marks=);
        in_counts = omega (arith, f.counts=, row_place i h);
        in_levels = omega (arith, f.levels=, row_place i h);
        group< = row_group i h;
        level≤ = row_level i h;
        room = row_room i h;
      }

  -- one row more is tallied where it counts
  pub row_next : (i : ℕ) → i < length b.identities → (cells : List Group) (next : Group)
      → cells ≡ flat (tally (shares_to p pt b i)) → (get_or b.counts (i * p + pt) 0 ≡ 0 → ⊥)
      → next ≡ with_row (flat_at cells (get_or b.groups i 0)) (get_or b.groups i 0) (get_or b.marks i 0)
      (get_or b.levels (i * p + pt) 0)
      → set cells (get_or b.groups i 0) next ≡ flat (tally (shares_to p pt b (i + 1)))
  unfolding shares_to
  row_next i h cells next e n w =
      rw (add-one, w, e)
      (row_flat (shares_to p pt b i) (get_or b.groups i 0) (get_or b.marks i 0) (get_or b.counts (i * p + pt) 0)
      (get_or b.levels (i * p + pt) 0) (row_group i h) n)

  -- and left out where it doesn't
  pub row_skipped : (i : ℕ) → get_or b.counts (i * p + pt) 0 ≡ 0
      → shares_to p pt b i ≡ shares_to p pt b (i + 1)
  unfolding shares_to
  row_skipped i z =
      rw add-one
      (sym (row_left_out (shares_to p pt b i) (get_or b.groups i 0) (get_or b.marks i 0)
      (get_or b.counts (i * p + pt) 0) (get_or b.levels (i * p + pt) 0) z))

  -- every row stands in a group
  row_grouped : (g m c l : ℕ) → g < group_count → AllGrouped (row_share g m c l)
  unfolding row_share
  row_grouped g m c l h = go (eqb c 0) (eqb m 0)
    where
      go : (t u : Bool) → AllGrouped (cond t [] (cond u (lacks g) (has g (energy_in g l)) ∷ []))
      go true u = tt
      go false true = (h, tt)
      go false false = (h, tt)

  pub rows_grouped : (n : ℕ) → n ≤ length b.identities → AllGrouped (shares_to p pt b n)
  unfolding shares_to
  rows_grouped zero h = tt
  rows_grouped (suc n) h =
      grouped_append (shares_to p pt b n) _ (rows_grouped n (omega arith))
      (row_grouped (get_or b.groups n 0) (get_or b.marks n 0) _ _ (row_group n h))

  -- all rows
  pub rows_bounded : Bounded (table (tally (shares_to p pt b (length b.identities))))
  rows_bounded =
      let n = length b.identities in
      let ss = shares_to p pt b n in
      let same = sum_ext (λ g. (group_at (table (tally ss)) g).computed + (group_at (table (tally ss)) g).missing)
      (λ g. (tally ss g).computed + (tally ss g).missing) group_count
      (λ g h. ap (λ c. c.computed + c.missing) (at_table (tally ss) g h)) in
      record {
        movements = omega (arith, same, counted_le_lem ss, shares_length n, rows_le);
        energies = λ g h. rw (at_table (tally ss) g h) (energy_small ss g (shares_small n (omega arith)));
      }
