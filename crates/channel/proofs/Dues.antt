-- A part that is due, in pieces, and what was sent of it. Assumes nothing.
use Rattle.std.specs.Prelude.{ℕ, ◌+◌, ◌≤◌, List, [], ◌++◌, length}
use mathlib.Core.{Path.◌≡◌, Path.refl, Path.sym, Path.ap, Path.subst, Path.◌∙◌, Bool.Bool, Bool.true, Bool.false}
use mathlib.Core.List.{append_assoc, append-nil}
use native.Mathlib.Omega.{arith}
use lib.ListN.{length-append}
use Rattle.channel.specs.{System.Lost, Output.Went, Output.Writes}
use Rattle.channel.specs.Due.{Due, Sends}

-- the whole is due from its start
pub due_whole : (whole : List ℕ) → Due whole 0 whole
due_whole whole = record { before = []; after = []; place = refl; is = sym (append-nil whole) }

-- a part lies within the whole
pub due_within : {whole part : List ℕ} {at : ℕ} → Due whole at part → at + length part ≤ length whole
due_within {whole} {part} {at} d =
    omega (
      arith,
      d.place,
      ap length d.is,
      length-append d.before (part ++ d.after),
      length-append part d.after,
    )

-- the front of a part is due, and then its rest
pub due_front : {whole : List ℕ} {at : ℕ} (a b : List ℕ) → Due whole at (a ++ b) → Due whole at a
due_front {whole} {at} a b d =
    record {
      before = d.before;
      after = b ++ d.after;
      place = d.place;
      is = d.is
          ∙ ap (λ (t : List ℕ). d.before ++ t) (append_assoc a b d.after);
    }

pub due_rest : {whole : List ℕ} {at : ℕ} (a b : List ℕ) → Due whole at (a ++ b) → Due whole (at + length a) b
due_rest {whole} {at} a b d =
    record {
      before = d.before ++ a;
      after = d.after;
      place = ap (λ (n : ℕ). n + length a) d.place ∙ sym (length-append d.before a);
      is = d.is ∙ ap (λ (t : List ℕ). d.before ++ t) (append_assoc a b d.after)
          ∙ sym (append_assoc d.before a (b ++ d.after));
    }

-- ---- what was sent

pub sends_one : {sent sent' : ℕ} {part : List ℕ} {r : Bool} → Writes sent part r sent'
    → Sends sent part r sent'
sends_one w = record { count = λ _. w.count; went = w.went; lost = w.lost }

pub sends_none : (sent : ℕ) → Sends sent [] true sent
sends_none sent =
    record {
      count = λ _. omega arith;
      went = λ _ old w. rw (append-nil old) w;
      lost = λ e. let n : ◌≡◌ {A = ℕ} 0 1 = cc in absurd (omega arith);
    }

-- after a write that was not taken
pub sends_lost : {sent sent' : ℕ} (text : List ℕ) → Lost → Sends sent text false sent'
sends_lost text l =
    record {
      count = λ e. let n : ◌≡◌ {A = ℕ} 0 1 = cc in absurd (omega arith);
      went = λ e. let n : ◌≡◌ {A = ℕ} 0 1 = cc in absurd (omega arith);
      lost = λ _. l;
    }

-- one text behind another
pub sends_then : {a b c : ℕ} {r r' : Bool} (s t : List ℕ) → r ≡ true → Sends a s r b → Sends b t r' c
    → Sends a (s ++ t) r' c
sends_then {a} {b} {c} s t all x y =
    record {
      count = λ e. omega (arith, x.count all, y.count e, length-append s t);
      went = λ e old w. subst (Went c) (append_assoc old s t) (y.went e (old ++ s) (x.went all old w));
      lost = y.lost;
    }

-- with what is left, all is sent
pub record Rest (sent₀ : ℕ) (whole : List ℕ) (sent : ℕ) (left : List ℕ) : Type 0 where
  pub with : (r : Bool) (end : ℕ) → Sends sent left r end → Sends sent₀ whole r end

pub rest_all : (sent : ℕ) (whole : List ℕ) → Rest sent whole sent whole
rest_all sent whole = record { with = λ r end s. s }

pub rest_next_lem : {sent₀ sent sent' : ℕ} {whole : List ℕ} {r : Bool} (part left : List ℕ)
    → Rest sent₀ whole sent (part ++ left) → r ≡ true → Sends sent part r sent'
    → Rest sent₀ whole sent' left
rest_next_lem part left k all s = record { with = λ r end t. k.with r end (sends_then part left all s t) }

pub rest_none : {sent₀ sent : ℕ} {whole left : List ℕ} → Rest sent₀ whole sent left → left ≡ []
    → Sends sent₀ whole true sent
rest_none {sent₀} {sent} k e = k.with true sent (rw e (sends_none sent))
