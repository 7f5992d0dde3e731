-- The numbers of an account are those of the text: V, U, S and what each group gives, both factors, P and the total.
-- Assumes nothing.
use mathlib.Core.{Path.◌≡◌, Path.refl, Path.ap, Path.◌∙◌, List.List, List.[], List.append-nil}
use Rattle.std.specs.Prelude.{ℕ, zero, suc, ◌+◌, ◌<◌, ◌≤◌, length, get_or, drop}
use native.Mathlib.Omega.{arith}
use lib.ListN.{drop_of_length-le}
use borrow.Author.Tests.{le-leb}
use Rattle.level.specs.Limits.{max_movements}
use Rattle.movement.specs.Limits.{group_count}
use Rattle.book_rules.specs.Columns.{Book}
use Rattle.room.specs.Room.{Writes}
use Rattle.load_rules.specs.declared.Group.{Group}
use Rattle.load_rules.specs.{Shares.book_shares, Factors.sum_to, Load.answer, Load.book_load}
use Rattle.load_rules.specs.Account.{group_numbers, groups_of, account_from, account_of}
use Rattle.load_rules.proofs.{SumLaws.sum_add, SumLaws.sum_ext, RowRefusals.book_refusals}
use Rattle.load_rules.proofs.Accounts.{length_account, account_group, account_whole}
use Rattle.load.specs.InnerSteps.{table, group_at}
use Rattle.load.proofs.{CellLaws.at_table, RowLaws.rows_bounded}
use Rattle.explain_text.specs.declared.amounts.Amounts.{Amounts}
use Rattle.explain_text.specs.Text.{group_amounts, all_amounts, group_lines, point_lines, lines_at}
use Rattle.explain_text.specs.InnerNumbers.{number_at, whole_at, sum_at, Addable, group_in, all_in}

-- the same amounts have the same lines
groups_same_lem : (point : ℕ) (a b : ℕ → Amounts) (n : ℕ) → ((g : ℕ) → g < n → a g ≡ b g)
    → group_lines point a n ≡ group_lines point b n
unfolding group_lines
groups_same_lem point a b zero e = refl
groups_same_lem point a b (suc n) e = rw (groups_same_lem point a b n (λ g h. e g (omega arith)), e n (omega arith))
    refl

point_same : (point : ℕ) (a b : ℕ → Amounts) {x y : Amounts}
    → ((g : ℕ) → g < group_count → a g ≡ b g) → x ≡ y
    → point_lines point a x ≡ point_lines point b y
unfolding point_lines
point_same point a b e q = rw (groups_same_lem point a b group_count e, q) refl

module _ (f : ℕ → Group) (days : ℕ) where
  abbrev n : List ℕ
  n = account_from f days

  number_is : (g k : ℕ) → g < group_count → k < 4 → number_at n g k ≡ get_or (group_numbers (f g)) k 0
  unfolding number_at
  number_is g k h l = account_group f days g k h l

  group_told : (g : ℕ) → g < group_count → group_in n g ≡ group_amounts (f g)
  unfolding group_in group_amounts
  group_told g h =
      rw (
        number_is g 0 h (omega arith),
        number_is g 1 h (omega arith),
        number_is g 2 h (omega arith),
        number_is g 3 h (omega arith),
      ) refl

  sum_told : (k : ℕ) → k < 4 → sum_at n k group_count ≡ sum_to (λ g. get_or (group_numbers (f g)) k 0) group_count
  unfolding sum_at
  sum_told k l = sum_ext _ _ group_count (λ g h. number_is g k h l)

  all_told : all_in n ≡ all_amounts f
  unfolding all_in all_amounts whole_at answer
  all_told =
      rw (
        sum_told 0 (omega arith),
        sum_told 1 (omega arith),
        account_whole f days 0,
        account_whole f days 1,
        account_whole f days 2,
        account_whole f days 3,
      ) refl

  lines_told : (point : ℕ) → point_lines point (group_in n) (all_in n)
      ≡ point_lines point (λ g. group_amounts (f g)) (all_amounts f)
  lines_told point = point_same point (group_in n) (λ g. group_amounts (f g)) group_told all_told

  adds_up : sum_to (λ g. (f g).computed + (f g).missing) group_count ≤ max_movements → Addable n
  adds_up h =
      record {
        most = omega (
          arith,
          sum_told 0 (omega arith),
          sum_told 1 (omega arith),
          sum_add (λ g. (f g).computed) (λ g. (f g).missing) group_count,
        );
      }

-- room of the answer's own length is the answer
pub answer_only : {A : Type 0} {why r : ℕ} {answer room left : List A} → Writes why answer room r left → why ≡ 0
    → length answer ≡ length room
    → left ≡ answer
answer_only {A} {why} {r} {answer} {room} {left} w z e =
    let no_more : drop (length answer) room ≡ [] = drop_of_length-le room {i = length answer} (omega arith) in
    w.left ∙ rw (z, le-leb (length answer) (length room) (omega arith), no_more) (append-nil answer)

-- and is no refusal
pub answer_told : {A : Type 0} {why r : ℕ} {answer room left : List A} → Writes why answer room r left → why ≡ 0
    → length answer ≡ length room → r ≡ 0
answer_told {A} {why} {r} {answer} {room} {left} w z e =
    w.number ∙ rw (z, le-leb (length answer) (length room) (omega arith)) refl

-- The account at a point of a book whose load is answered there
module _ (p pt : ℕ) (b : Book) (days : ℕ) (answered : (book_load p pt b days).refused ≡ 0) where
  pub book_lines : (n : List ℕ) → n ≡ account_of p pt b days
      → point_lines pt (group_in n) (all_in n) ≡ lines_at p pt b
  unfolding account_of lines_at
  book_lines n e = rw e (lines_told (groups_of p pt b) days pt)

  pub book_adds_up : (n : List ℕ) → n ≡ account_of p pt b days → Addable n
  unfolding account_of book_shares
  book_adds_up n e =
      let fits = ((book_refusals p pt b days).load.answered.0 answered).0 in
      let f = groups_of p pt b in
      let same = sum_ext (λ g. (group_at (table f) g).computed + (group_at (table f) g).missing)
      (λ g. (f g).computed + (f g).missing) group_count
      (λ g h. ap (λ (c : Group). c.computed + c.missing) (at_table f g h)) in
      rw e (adds_up f days (omega (arith, same, (rows_bounded p pt b fits.0 fits.1).movements)))

pub account_long : (p pt : ℕ) (b : Book) (days : ℕ) → length (account_of p pt b days) ≡ 78
unfolding account_of
account_long p pt b days = length_account (groups_of p pt b) days
