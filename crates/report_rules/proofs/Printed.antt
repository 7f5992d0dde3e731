-- What is printed, read back from the report's own bytes: a line for each point, and in it each field at its place.
-- Assumes nothing.
use mathlib.Core.{Path.◌≡◌, Path.refl, Path.sym, Path.ap, Path.◌∙◌, List.List, List.[], List.◌∷◌, List.◌++◌}
use Prim.Native.Nat.{ℕ, zero, suc, ◌+◌, ◌<◌}
use native.Mathlib.Omega.{arith}
use lib.{ListN.get_or, ListN.get_or-append, Seq.get_or-append_seam, Dec.eqb}
use borrow.Author.Tests.{eqb-true, eqb-false}
use Rattle.level.specs.declared.{Level.Level, Verdict.Verdict}
use Rattle.level.specs.declared.Level.TheVariants.{BelowZero, At}
use Rattle.level.specs.declared.Verdict.TheVariants.{Within, Over}
use Rattle.level.specs.Level.{verdict_of}
use Rattle.load_rules.specs.Told.{LoadTold}
use Rattle.text.specs.{Field.count_of, Field.field_of, Index.listing, Spelled.bytes, Sheet.line}
use Rattle.text.proofs.{Digits.either, Fields.Free, Fields.join_field, Free.shown_free, Free.level_free}
use Rattle.text.proofs.{Indices.length_listing, Sheets.at_least, Sheets.least_free, Sheets.joined_free}
use Rattle.report_text.specs.Text.{header_line, level_text, verdict_text, point_fields}

pub header_unbroken : count_of 13 header_line ≡ 0
unfolding at_least
header_unbroken = least_free 14 13 (omega arith) header_line refl

level_text_free : (d : ℕ) → d < 46 → (x : Level) → count_of d (level_text x) ≡ 0
unfolding at_least
level_text_free d low BelowZero = least_free 46 d low (bytes "below") refl
level_text_free d low (At n) = level_free d low n

verdict_text_free : (d : ℕ) → d < 46 → (v : Verdict) → count_of d (verdict_text v) ≡ 0
unfolding at_least
verdict_text_free d low Within = least_free 46 d low (bytes "within") refl
verdict_text_free d low Over = least_free 46 d low (bytes "over") refl

pub fields_free : (d : ℕ) → d < 46 → (point limit : ℕ) (load : LoadTold) → Free d (point_fields point limit load)
fields_free d low point limit load zero h = shown_free d low 20 (point + 1)
fields_free d low point limit load (suc zero) h = level_text_free d low load.level
fields_free d low point limit load (suc (suc zero)) h = level_free d low limit
fields_free d low point limit load (suc (suc (suc zero))) h = verdict_text_free d low (verdict_of load.level limit)
fields_free d low point limit load (suc (suc (suc (suc zero)))) h = shown_free d low 20 _
fields_free d low point limit load (suc (suc (suc (suc (suc zero))))) h = shown_free d low 20 _
fields_free d low point limit load (suc (suc (suc (suc (suc (suc i)))))) h = absurd (omega arith)

-- a field of the line of a point
pub field_at : (point limit : ℕ) (load : LoadTold) (k : ℕ) → k < 6
    → field_of 44 k (line (point_fields point limit load)) ≡ get_or (point_fields point limit load) k []
field_at point limit load k h =
    join_field 44 (point_fields point limit load) (fields_free 44 (omega arith) point limit load) k h

pub line_unbroken : (point limit : ℕ) (load : LoadTold) → count_of 13 (line (point_fields point limit load)) ≡ 0
line_unbroken point limit load =
    joined_free 13 (point_fields point limit load) (λ e. absurd (omega arith))
    (fields_free 13 (omega arith) point limit load)

-- the value at an index of a listing
pub listing_at : {A : Type 0} (f : ℕ → A) (d : A) (n i : ℕ) → i < n → get_or (listing f n) i d ≡ f i
unfolding listing
listing_at f d zero i h = absurd (omega arith)
listing_at f d (suc n) i h =
    either (eqb i n)
    (λ same. let e = eqb-true i n same in
    rw e (ap (λ (k : ℕ). get_or (listing f n ++ (f n ∷ [])) k d) (sym (length_listing f n))
    ∙ get_or-append_seam (listing f n) (f n) [] d))
    (λ other. let less : i < n = omega (arith, eqb-false i n other) in
    get_or-append (listing f n) (f n ∷ []) d i (rw (length_listing f n) less) ∙ listing_at f d n i less)

-- also where something stands behind it
pub value_at_rule : (f : ℕ → ℕ) (n : ℕ) (rest : List ℕ) (i : ℕ) → i < n
    → get_or (listing f n ++ rest) i 0 ≡ f i
value_at_rule f n rest i h = get_or-append (listing f n) rest 0 i (rw (length_listing f n) h) ∙ listing_at f 0 n i h
