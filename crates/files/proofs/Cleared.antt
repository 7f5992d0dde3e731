-- Columns of zeros are an empty book. Assumes nothing.
use mathlib.Core.{Path.◌≡◌, Path.refl, Path.ap, Path.◌∙◌}
use Rattle.std.specs.Prelude.{ℕ, ◌*◌, ◌≤◌, length, take}
use lib.ListN.{length-replicate}
use Rattle.book_rules.specs.{Columns.Book, Columns.book_of, History.empty_book}
use Rattle.report_steps.proofs.Intakes.{take_same}

-- of an empty book with more points, what p points need is an empty book of p points
pub cleared_counts : (p n : ℕ) (b : Book) → b ≡ empty_book p n → length b.counts ≡ n * p
unfolding empty_book
cleared_counts p n b e = ap (λ (x : Book). length x.counts) e ∙ length-replicate {A = ℕ} (n * p) 0

pub cleared_levels : (p n : ℕ) (b : Book) → b ≡ empty_book p n → length b.levels ≡ n * p
unfolding empty_book
cleared_levels p n b e = ap (λ (x : Book). length x.levels) e ∙ length-replicate {A = ℕ} (n * p) 0

pub cleared : (p n m : ℕ) (b : Book) → b ≡ empty_book m n → n * p ≤ n * m
    → book_of b.identities b.groups b.marks (take (n * p) b.counts) (take (n * p) b.levels)
    ≡ empty_book p n
unfolding empty_book
cleared p n m b e h = rw (e, take_same 0 (n * p) (n * m) h) refl
