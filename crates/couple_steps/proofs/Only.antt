-- A file is refused with one number at one line, and one that is right with none; one of which nothing came is refused
-- 16 at line 1. Assumes nothing.
use Rattle.std.specs.Prelude.{ℕ, ◌+◌, ◌<◌, ◌≤◌}
use mathlib.Core.{Path.◌≡◌, Path.refl, Path.sym, Path.ap, Path.◌∙◌, Logic.◌↔◌, List.List, List.[]}
use native.Mathlib.Omega.{arith}
use lib.{ListN.get_or, Dec.ltb}
use borrow.Author.Tests.{ltb-true, ltb-false}
use Rattle.text.specs.{Line.lines_of, Field.joined_by, Number.shown, Spelled.bytes, Sheet.ended, Sheet.refused_text}
use Rattle.text.proofs.Digits.{either}
use Rattle.flights.specs.{Row.flight_of, Header.header_refusal}
use Rattle.flights.specs.Row.{Flight}
use Rattle.flights.proofs.{Exact.row_exactly, Headers.headers_are}
use Rattle.stream.proofs.Firsts.{text_accepted}
use Rattle.couple_steps.specs.Table.{line_refusal, table_step}
use Rattle.couple_steps.specs.Right.{track_heading, movement_heading, Right, Passes, Fault, Refused, RefusedOnce}
use Rattle.couple_steps.specs.Told.{FailedTold}
use Rattle.couple_steps.proofs.Rights.{first_header, refused_row, over_row, passes_line, reads_row}
use Rattle.couple_steps.proofs.Rights.{right_accepted, track_headed, movement_headed}

module _ (columns : ℕ) (heading : List ℕ)
    (headed : (line : List ℕ) → header_refusal columns line ≡ 0 ↔ line ≡ heading) where
  -- a row that is refused by itself
  row_is : (n : ℕ) (line : List ℕ) (k number : ℕ) → 2 ≤ n → (flight_of columns line).refusal ≡ k → 1 ≤ k
      → number ≡ k → (line_refusal columns n line ≡ number) × (number ≡ 0 → ⊥)
  row_is n line k number two e some is =
      let later : n ≡ 1 → ⊥ = λ one. absurd (omega arith) in
      let by = refused_row columns heading headed n line later (λ z. absurd (omega (arith, e))) in
      (by ∙ e ∙ sym is, λ z. absurd (omega (arith, is)))

  -- the number of a fault is the line's own, and some number
  fault_is : (n : ℕ) (line : List ℕ) (number : ℕ) → Fault columns heading n line number
      → (line_refusal columns n line ≡ number) × (number ≡ 0 → ⊥)
  fault_is n line number (Fault.header one other is) =
      let sixteen = headers_are.other columns line (λ z. other ((headed line).0 z)) in
      (first_header columns heading headed n line one ∙ sixteen ∙ sym is, λ z. absurd (omega (arith, is)))
  fault_is n line number (Fault.off two never is) =
      let e = (row_exactly columns line).off never in
      row_is n line 16 number two (ap (λ (f : Flight). f.refusal) e) (omega arith) is
  fault_is n line number (Fault.undated two values spelled gone is) =
      let e = (row_exactly columns line).undated values spelled gone in
      row_is n line 18 number two (ap (λ (f : Flight). f.refusal) e) (omega arith) is
  fault_is n line number (Fault.past over reads is) = (
    over_row columns heading headed n line (λ one. absurd (omega arith)) (reads_row columns line reads) over ∙ sym is,
    λ z. absurd (omega (arith, is)),
  )

  -- a line that passes is at no fault
  never_both : (n k : ℕ) (line : List ℕ) (number : ℕ) → n ≡ k → Passes columns heading n line
      → Fault columns heading k line number → ⊥
  never_both n k line number e p f =
      let z = passes_line columns heading headed n line p in
      let is = fault_is n line number (rw e f) in
      is.1 (sym is.0 ∙ z)

  module _ (file : List ℕ) where
    abbrev line_at : ℕ → List ℕ
    line_at i = get_or (lines_of file) i []

    -- of two lines at fault with none before it that is, neither is the earlier
    no_earlier : (i k a : ℕ) {m : ℕ} → i < k → m ≡ i + 1
        → ((h : ℕ) → h < k → Passes columns heading (h + 1) (line_at h))
        → Fault columns heading m (line_at i) a → ⊥
    no_earlier i k a low e pass f = never_both (i + 1) _ (line_at i) a (sym e) (pass i low) f

    same_line : (a b m n : ℕ) → Refused columns heading file a m → Refused columns heading file b n → m ≡ n
    same_line a b m n (Refused.empty none is one) (Refused.empty none' is' one') = one ∙ sym one'
    same_line a b m n (Refused.empty none is one) (Refused.first k low e pass f) = absurd (omega arith)
    same_line a b m n (Refused.first k low e pass f) (Refused.empty none is one) = absurd (omega arith)
    same_line a b m n (Refused.first i low e pass f) (Refused.first k low' e' pass' f') =
        either (ltb i k)
        (λ yes. absurd (no_earlier i k a (ltb-true i k yes) e pass' f))
        (λ no. either (ltb k i)
        (λ yes. absurd (no_earlier k i b (ltb-true k i yes) e' pass f'))
        (λ not. omega (arith, ltb-false i k no, ltb-false k i not)))

    same_number : (a b m n : ℕ) → Refused columns heading file a m → Refused columns heading file b n → a ≡ b
    same_number a b m n (Refused.empty none is one) (Refused.empty none' is' one') = is ∙ sym is'
    same_number a b m n (Refused.empty none is one) (Refused.first k low e pass f) = absurd (omega arith)
    same_number a b m n (Refused.first k low e pass f) (Refused.empty none is one) = absurd (omega arith)
    same_number a b m n (Refused.first i low e pass f) (Refused.first k low' e' pass' f') =
        let line : m ≡ n = same_line a b m n (Refused.first i low e pass f) (Refused.first k low' e' pass' f') in
        let place : i ≡ k = omega (arith, line) in
        let one = fault_is m (line_at i) a f in
        let other = fault_is n (line_at k) b f' in
        sym one.0 ∙ ap (λ (h : ℕ). line_refusal columns m (line_at h)) place
        ∙ ap (λ (h : ℕ). line_refusal columns h (line_at k)) line ∙ other.0

    pub once : RefusedOnce columns heading file
    once =
        record {
          number= = same_number;
          line= = same_line;
          right = never;
        }
      where
        never : Right columns heading file → (number line : ℕ) → Refused columns heading file number line → ⊥
        never r number line (Refused.empty none is one) = absurd (omega (arith, r.some))
        never r number line (Refused.first k low e pass f) =
            let all = text_accepted (table_step columns) [] file (right_accepted columns heading headed file r) in
            let is = fault_is line (line_at k) number f in
            is.1 (sym is.0 ∙ ap (λ (h : ℕ). line_refusal columns h (line_at k)) e ∙ all.each k low)

pub tracks_once : (file : List ℕ) → RefusedOnce 8 track_heading file
tracks_once = once 8 track_heading track_headed

pub movements_once : (file : List ℕ) → RefusedOnce 9 movement_heading file
movements_once = once 9 movement_heading movement_headed

-- Of a file that can't be opened nothing comes

line_least : (columns : ℕ) (heading file : List ℕ) (number line : ℕ) → Refused columns heading file number line
    → 1 ≤ line
line_least columns heading file number line (Refused.empty none is one) = omega arith
line_least columns heading file number line (Refused.first k low e pass f) = omega arith

spelled : refused_text 16 1 ≡ bytes "refused,16,1\r\n"
unfolding refused_text ended joined_by shown
spelled = refl

pub unopened : (columns : ℕ) (heading text : List ℕ) → FailedTold columns heading [] text
    → text ≡ bytes "refused,16,1\r\n"
unfolding lines_of
unopened columns heading text k =
    let least = line_least columns heading _ _ _ k.refused in
    let one : k.line ≡ 1 = omega (arith, k.up_to) in
    let sixteen : k.number ≡ 16 = k.sixteen one in
    k.told ∙ ap (λ (n : ℕ). refused_text n k.line) sixteen ∙ ap (refused_text 16) one ∙ spelled
