-- A level that a load answers has a text: it is at most 200.00. Assumes nothing.
use Rattle.std.specs.Prelude.{ℕ, zero, suc, ◌+◌, ◌<◌, ◌≤◌, Bool, ◌&&◌, eqb, ltb, leb}
use native.Mathlib.Omega.{arith}
use Rattle.level.specs.{Level.bound, Level.first_from, Level.level_of, Level.level_value, Energy.mean_of}
use Rattle.text.proofs.Digits.{either}
use Rattle.book_rules.specs.Columns.{Book, sound}
use Rattle.load_rules.specs.Load.{book_load, load_of, answer, refused_load, load_refusal, total_of}
use Rattle.load_rules.specs.{Shares.book_shares, Tally.tally}

first_most : (test : ℕ → Bool) (i f : ℕ) → first_from test i f ≤ i + f
unfolding first_from
first_most test i zero = omega arith
first_most test i (suc f) =
    either (test i) (λ yes. rw yes (omega arith)) (λ no. rw no (omega (arith, first_most test (suc i) f)))

level_most : (m : ℕ) → level_value (level_of m) ≤ 20000
unfolding level_of
level_most m =
    either (ltb m 1000)
    (λ yes. rw yes (omega arith))
    (λ no. rw no (first_most (λ n. leb m (bound n)) 0 20000))

pub load_level : (p pt : ℕ) (b : Book) (days : ℕ) → level_value (book_load p pt b days).level < 100000
unfolding book_load load_of answer refused_load
load_level p pt b days =
    let ok = sound p b && ltb pt p in
    let ss = book_shares p pt b in
    either (eqb (load_refusal ok ss days) 0)
    (λ yes. rw yes (omega (arith, level_most (mean_of (total_of (tally ss)) days))))
    (λ no. rw no (omega arith))
