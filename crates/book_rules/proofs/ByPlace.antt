-- Rows and list are looked up by their places. Assumes nothing.
use mathlib.Core.{Path.◌≡◌, Path.refl, Path.ap, Path.◌∙◌, Bool.Bool, Bool.true, Bool.false}
use mathlib.Core.List.{List}
use mathlib.Core.Logic.{⊎_elim}
use Prim.Native.Nat.{ℕ, suc, ◌≤◌, ◌<◌}
use native.Mathlib.{Nat.lt_of_not-le, Omega.arith}
use lib.{ListN.length, ListN.get_or}
use Rattle.book_rules.specs.Columns.{Book, book_lent, index_of, stands, cells_at}
use Rattle.book_rules.specs.{SoundBook.SoundBook, Lookup.found, Lookup.row_held}
use Rattle.book_rules.specs.Lookup.Row.{row}
use Rattle.book_rules.specs.ByPlace.{LentInOrder, RowAt, FoundByPlace, Reads}
use Rattle.book_rules.proofs.Search.{index_is, index_before_lem, stands_index}
use Rattle.book_rules.proofs.{Cells.cell_at, Cells.cells_length, Finding.row_found_lem, Order.not_standing}
use Rattle.book_rules.proofs.Listed.{listed_none, listed_this, listed_later}

-- before a call and after it, whatever the columns then hold
pub lent_in_order : (ids gs ms cs ls : List ℕ) → LentInOrder ids gs ms cs ls (book_lent ids gs ms cs ls)
lent_in_order ids gs ms cs ls =
    record { identities = refl; groups= = refl; marks= = refl; counts= = refl; levels= = refl }

module _ (p : ℕ) (b : Book) (s : SoundBook p b) where
  -- no two rows have one identity
  index_at : (i : ℕ) → i < length b.identities → 1 ≤ get_or b.identities i 0
      → index_of (get_or b.identities i 0) b.identities ≡ i
  index_at i h l =
      let x = get_or b.identities i 0 in
      let k = index_of x b.identities in
      let most : k ≤ i = index_before_lem x b.identities i h refl in
      let same : get_or b.identities k 0 ≡ x = index_is x b.identities (omega arith) in
      let least : i < suc k = lt_of_not-le (λ m. ⊎_elim (λ z. omega arith) (λ z. omega (arith, z.1))
      (s.rising k i m h)) in
      omega arith

  row_at : (i : ℕ) → i < length b.identities → index_of (get_or b.identities i 0) b.identities ≡ i
      → RowAt p b i (found (get_or b.identities i 0) p b)
  row_at i h e =
      let x = get_or b.identities i 0 in
      record {
        counts = cells_at p i b.counts;
        levels = cells_at p i b.levels;
        found= =
            row_found_lem x p b.identities b.groups b.marks b.counts b.levels (omega arith)
            ∙ ap (λ k. row (get_or b.groups k 0) (get_or b.marks k 0) (cells_at p k b.counts)
            (cells_at p k b.levels)) e;
        counts= = cells_length p i (length b.identities) b.counts h s.counts;
        levels= = cells_length p i (length b.identities) b.levels h s.levels;
        count = cell_at p i b.counts;
        level = cell_at p i b.levels;
      }

  pub found_by_place : FoundByPlace p b
  found_by_place =
      record {
        here = λ i h l. row_at i h (index_at i h l);
        nobody = λ x n. not_standing x p b (by x n (stands x b.identities) refl);
      }
    where
      by : (x : ℕ) → ((i : ℕ) → i < length b.identities → get_or b.identities i 0 ≡ x → ⊥) → (t : Bool)
          → stands x b.identities ≡ t
          → stands x b.identities ≡ false
      by x n false e = e
      by x n true e =
          let h = stands_index x b.identities e in
          absurd (n (index_of x b.identities) h (index_is x b.identities h))

pub reads : (p : ℕ) → Reads p
unfolding row_held
reads p =
    record {
      group = λ g m cs ls. refl;
      mark = λ g m cs ls. refl;
      counts = λ g m cs ls. refl;
      bare= = λ g cs. refl;
      nobody = λ x. listed_none x p;
      computed = λ a ms ls e.
          listed_this a.identity p a ms refl ∙ ap (row_held p a.group a.counts) e;
      missing = λ a ms e. listed_this a.identity p a ms refl ∙ ap (row_held p a.group a.counts) e;
      later = λ x a ms n. listed_later x p a ms n;
    }
