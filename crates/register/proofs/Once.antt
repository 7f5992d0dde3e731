-- Two outcomes of one call are equal: an answer's number and values are the answer. Assumes nothing.
use Rattle.std.specs.Prelude.{ℕ, ◌<◌}
use native.Mathlib.Omega.{arith}
use mathlib.Core.{Path.◌≡◌, Path.sym, Path.ap, Path.◌∙◌, List.List}
use Rattle.std.specs.Prelude.{Result, Ok, Err}
use Rattle.refusal.specs.declared.Refusal.{Refusal}
use Rattle.refusal.specs.Refusal.{told}
use Rattle.refusal.proofs.Laws.{numbered, same_number}
use Rattle.register.specs.Row.{answer_values, field_list, RowRead}
use Rattle.register.specs.Write.{written_values, RowWritten}
use Rattle.register.specs.Row.{Layout, layout_told}
use Rattle.register.specs.LimitsFile.{LimitsFile, limits_told}
use Rattle.register.specs.declared.row.{Fields.Fields, Row.Row}
use Rattle.register.specs.declared.limits_csv.{Limits.Limits, LimitsRefused.LimitsRefused}

six : {a b c d e m a' b' c' d' e' m' : ℕ} → a ≡ a' → b ≡ b' → c ≡ c' → d ≡ d'
    → e ≡ e' → m ≡ m'
    → ◌≡◌ {A = Fields} (record { identity = a; ty = b; mass = c; kind = d; time = e; computed = m })
    (record { identity = a'; ty = b'; mass = c'; kind = d'; time = e'; computed = m' })
six p q r s t u = rw (p, q, r, s, t, u)

fields_same : (f g : Fields) → field_list f ≡ field_list g → f ≡ g
fields_same f g e =
    let a : f.identity ≡ g.identity = cc in
    let b : f.ty ≡ g.ty = cc in
    let c : f.mass ≡ g.mass = cc in
    let d : f.kind ≡ g.kind = cc in
    let t : f.time ≡ g.time = cc in
    let m : f.computed ≡ g.computed = cc in
    six a b c d t m

pub answer_same : (a b : Result Fields Refusal) → told a ≡ told b → answer_values a ≡ answer_values b → a ≡ b
answer_same (Ok f) (Ok g) n v = ap Ok (fields_same f g v)
answer_same (Ok f) (Err why) n v = cc
answer_same (Err why) (Ok g) n v = cc
answer_same (Err why) (Err more) n v = ap Err (same_number why more n)

pub written_same : (a b : Result ℕ Refusal) → told a ≡ told b → written_values a ≡ written_values b → a ≡ b
written_same (Ok j) (Ok k) n v = cc
written_same (Ok j) (Err why) n v = cc
written_same (Err why) (Ok k) n v = cc
written_same (Err why) (Err more) n v = ap Err (same_number why more n)

pub read_once_lem : {n : ℕ} {line old new new' : List ℕ} {a b : Result Fields Refusal} → RowRead n line old a new
    → RowRead n line old b new' → (a ≡ b) × (new ≡ new')
read_once_lem {a = a} {b = b} r s =
    (answer_same a b (r.number ∙ sym s.number) (r.values ∙ sym s.values), r.levels ∙ sym s.levels)

pub write_once : {n : ℕ} {f : Fields} {levels old new new' : List ℕ} {a b : Result ℕ Refusal}
    → RowWritten n f levels old a new → RowWritten n f levels old b new' → (a ≡ b) × (new ≡ new')
write_once {a = a} {b = b} r s =
    (written_same a b (r.number ∙ sym s.number) (r.values ∙ sym s.values), r.bytes ∙ sym s.bytes)

-- a layout, and limits.csv: what they tell is the answer
pub same_layout : (r s : Result Row Refusal) → layout_told r ≡ layout_told s → r ≡ s
same_layout (Ok a) (Ok b) e = ap (λ (l : Layout). Ok (record { fields = l.fields; levels = l.levels })) e
same_layout (Ok a) (Err why) e = absurd (let low = numbered why in omega (arith, ap (λ (l : Layout). l.refusal) e))
same_layout (Err why) (Ok b) e = absurd (let low = numbered why in omega (arith, ap (λ (l : Layout). l.refusal) e))
same_layout (Err why) (Err more) e = ap Err (same_number why more (ap (λ (l : Layout). l.refusal) e))

same_fault : {a b : Refusal} {m n : ℕ} → a ≡ b → m ≡ n
    → ◌≡◌ {A = LimitsRefused} (record { why = a; line = m }) (record { why = b; line = n })
same_fault p q = rw (p, q)

pub same_limits : (r s : Result Limits LimitsRefused) → limits_told r ≡ limits_told s → r ≡ s
same_limits (Ok a) (Ok b) e =
    ap (λ (l : LimitsFile). Ok (record { points = l.points; days = l.days; limits = l.limits })) e
same_limits (Ok a) (Err r) e = absurd (let low = numbered r.why in omega (arith, ap (λ (l : LimitsFile). l.refusal) e))
same_limits (Err r) (Ok b) e = absurd (let low = numbered r.why in omega (arith, ap (λ (l : LimitsFile). l.refusal) e))
same_limits (Err r) (Err s) e =
    ap Err
    (same_fault (same_number r.why s.why (ap (λ (l : LimitsFile). l.refusal) e)) (ap (λ (l : LimitsFile). l.line) e))
