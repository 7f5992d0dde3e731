-- The points of a book, judged one after another: the first that is refused decides. Assumes nothing.
use Rattle.std.specs.Prelude.{◌≡◌, ℕ, zero, suc, ◌+◌, ◌<◌, eqb}
use mathlib.Core.Path.{refl}
use native.Mathlib.{Numerals.add-one, Omega.arith}
use borrow.Author.Tests.{ne_eqb, eqb-true, eqb-false}
use Rattle.text.proofs.Digits.{either}
use Rattle.book_rules.specs.Columns.{Book}
use Rattle.book_rules.proofs.Accepted.{neither_refused}
use Rattle.load_rules.specs.Load.{book_load}
use Rattle.report_text.specs.Text.{refused_to}

module _ (p days : ℕ) (b : Book) where
  abbrev refused : ℕ → ℕ
  refused pt = (book_load p pt b days).refused

  pub none_judged : refused_to p days b 0 ≡ 0
  unfolding refused_to
  none_judged = refl

  -- one point more that is answered
  pub one_answered : (n : ℕ) → refused_to p days b n ≡ 0 → refused n ≡ 0 → refused_to p days b (n + 1) ≡ 0
  unfolding refused_to
  one_answered n z e = rw (add-one n, z) e

  -- a point that is refused, behind points that are answered, whatever follows
  pub one_refused : (n k : ℕ) → refused_to p days b n ≡ 0 → (refused n ≡ 0 → ⊥) → n < k
      → refused_to p days b k ≡ refused n
  unfolding refused_to
  one_refused n zero z ne h = absurd (omega arith)
  one_refused n (suc k) z ne h =
      either (eqb n k)
      (λ same. rw (← eqb-true n k same, z) refl)
      (λ other. let r = one_refused n k z ne (omega (arith, eqb-false n k other)) in
      rw (r, ne_eqb (refused n) 0 ne) refl)

  -- where none is refused each is answered, and the other way round
  pub point_answered : (n pt : ℕ) → refused_to p days b n ≡ 0 → pt < n → refused pt ≡ 0
  unfolding refused_to
  point_answered zero pt z h = absurd (omega arith)
  point_answered (suc n) pt z h =
      let k = neither_refused (refused_to p days b n) (refused n) z in
      either (eqb pt n)
      (λ same. rw (eqb-true pt n same) k.1)
      (λ other. point_answered n pt k.0 (omega (arith, eqb-false pt n other)))

  pub all_answered : (n : ℕ) → ((pt : ℕ) → pt < n → refused pt ≡ 0) → refused_to p days b n ≡ 0
  unfolding refused_to
  all_answered zero e = refl
  all_answered (suc n) e = rw (all_answered n (λ pt h. e pt (omega arith))) (e n (omega arith))
