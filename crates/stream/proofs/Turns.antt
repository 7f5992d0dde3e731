-- The turns of a reading: what each promises, put together, is what the whole text gives. Assumes nothing.
use mathlib.Core.{Path.◌≡◌, Path.refl, Path.sym, Path.ap, Path.◌∙◌}
use Rattle.std.specs.Prelude.{ℕ, ◌+◌, ◌^◌, ◌<◌, ◌≤◌, List, [], ◌++◌, ◌≢◌, Result, Ok, Err}
use mathlib.Core.List.{append_assoc}
use native.Mathlib.Omega.{arith}
use lib.{ListN.length, ListN.take, ListN.length-take}
use Rattle.channel.specs.{System.Origin, System.Whole, System.Broken, System.none_came, Input.Came}
use Rattle.text.specs.Line.{lines_of}
use Rattle.refusal.specs.Refusal.{told}
use Rattle.refusal.specs.declared.Refusal.{Refusal}
use Rattle.refusal.proofs.Laws.{numbered}
use Rattle.stream.specs.declared.Feed.{Feed}
use Rattle.stream.specs.declared.Piece.{Piece}
use Rattle.stream.specs.declared.Turn.{Turn}
use Rattle.stream.specs.declared.State.{State}
use Rattle.stream.specs.declared.State.TheVariants.{Going, Ended, Stopped, Failed}
use Rattle.stream.specs.InnerTaken.{PieceTaken, LastTaken}
use Rattle.stream.specs.Coming.{Coming, endless, Of}
use Rattle.stream.specs.Coming.Coming.{whole, stopped, failed}
use Rattle.stream.specs.Reading.{Step, Reading, reading_at, off_at, closing, whole_read, Onward, Longest}
use Rattle.stream.specs.Feeding.{turned_to, state_of, turn_of, ended_at, failed_at}
use Rattle.stream.specs.{Feeding.Waiting, Feeding.Turned, Feeding.Done, InnerFeeding.Pieced}
use Rattle.stream.specs.InnerFeeding.{Lasted, Come}
use Rattle.stream.proofs.Readings.{closing_refused, stuck, onward_then, onward_more, onward_end}
use Rattle.stream.proofs.LongLines.{endless_off}

-- what is said of a text, in other words
pub of_as : {Says Tells : List ℕ → Type 0} (row : ℕ) (came : Coming) → ((bytes : List ℕ) → Says bytes → Tells bytes)
    → Of row came Says → Of row came Tells
of_as row (whole bytes) f is = f _ is
of_as row (stopped bytes) f is = λ rest. f _ (is rest)
of_as row (failed bytes) f is = f _ is

-- a piece is read on exactly where it isn't refused
going : (r : Result (Unit {0}) Refusal) → state_of r ≡ Going → told r ≡ 0
going (Ok fine) e = refl
going (Err why) e = absurd (cc)

stopping : (r : Result (Unit {0}) Refusal) → state_of r ≡ Stopped → told r ≡ 0 → ⊥
stopping (Ok fine) e z = absurd (cc)
stopping (Err why) e z = let low = numbered why in absurd (omega arith)

going_on : (r : Result (Unit {0}) Refusal) → (state_of r ≢ Ended) × (state_of r ≢ Failed)
going_on (Ok fine) = ((λ e. cc), (λ e. cc))
going_on (Err why) = ((λ e. cc), (λ e. cc))

-- what a piece and the last bytes came to, as turns
module _ {A : Type 0} {step : Step A} {s : Reading A} {bytes : List ℕ} {a' : A} where
  pub pieced : {row : ℕ} {bytes' : List ℕ} {t : Turn} (p : Piece) → t ≡ turn_of p
      → PieceTaken step row s bytes (reading_at (told p.refusal) p.line a') (take p.left bytes')
      → Pieced step row s bytes t a' bytes'
  pieced p e taken =
      rw e
      (record {
        taken = taken;
        more = going p.refusal;
        stops = stopping p.refusal;
        ends = (going_on p.refusal).0;
        fails = (going_on p.refusal).1;
      })

  pub lasted : {left : ℕ} {t : Turn} (f : Feed) → t ≡ ended_at f left
      → LastTaken step s bytes (reading_at (told f.refusal) f.line a') → Lasted step s bytes t a'
  lasted f e taken = rw e (record { taken = taken; ends = refl })

module _ {A : Type 0} {step : Step A} {row : ℕ} where
  -- a read that failed leaves what is held, and is refused at the line being read
  pub turn_failed : {origin : Origin} {line taken taken' : ℕ} {waited : List ℕ} {t : Turn} {a : A} {bytes : List ℕ}
      → t ≡ failed_at line → ((old : List ℕ) → Came origin taken old → Broken origin old)
      → Turned origin step row (reading_at 0 line a) waited taken t a bytes taken'
  turn_failed {origin} {line} {taken} {taken'} {waited} {t} {a} {bytes} e broken =
      let q : t.state ≡ Failed = ap (λ (x : Turn). x.state) e in
      record {
        got = [];
        more = λ z. absurd (cc);
        waits = λ z. absurd (cc);
        grows = λ z. absurd (cc);
        came = λ w f. absurd (f q);
        ends = λ z. absurd (cc);
        stops = λ z. absurd (cc);
        fails = λ z. (ap (λ (x : Turn). turned_to x a) e, broken);
        refused = λ z. absurd (cc);
      }

  -- a piece: `came` are its bytes behind those that waited
  module _ {s : Reading A} {bytes bytes' : List ℕ} {t : Turn} {a' : A} (waited came : List ℕ)
      (k : Pieced step row s bytes t a' bytes') (e : bytes ≡ waited ++ came) where
    onward : Onward step s (waited ++ came) (turned_to t a') (take t.left bytes')
    onward = rw e at k.taken.onward

    waits_on : {taken' : ℕ} → told t.refusal ≡ 0 → 1 ≤ s.line → row + 2 < length bytes'
        → s.line + length bytes ≤ taken' + 1
        → taken' + 1 < 2 ^ 64 → Waiting row bytes' t.left t.line taken'
    waits_on {taken'} z one room lines counts =
        let w = k.taken.waits z in
        record {
          unended = w.unended;
          short = omega (arith, w.short, length-take t.left bytes');
          room = room;
          first = omega (arith, w.least);
          lines = omega (arith, w.short, w.most, length-take t.left bytes');
          counts = counts;
        }

    pub turn_piece : {origin : Origin} {taken taken' : ℕ} → 1 ≤ s.line → row + 2 < length bytes'
        → s.line + length bytes ≤ taken' + 1
        → taken' + 1 < 2 ^ 64 → taken < taken'
        → ((old : List ℕ) → Came origin taken old → Came origin taken' (old ++ came))
        → Turned origin step row s waited taken t a' bytes' taken'
    turn_piece {origin} {taken} {taken'} one room lines counts grew all =
        record {
          got = came;
          more = λ q. rw (k.more q) at onward;
          waits = λ q. waits_on (k.more q) one room lines counts;
          grows = λ q. grew;
          came = λ q w. all;
          ends = λ q. absurd (k.ends q);
          stops = λ q u.
              let after = turned_to t a' in
              let none_left = stuck step after (lines_of (take t.left bytes' ++ u)) (k.stops q) in
              sym (closing_refused after (k.stops q)) ∙ ap closing (sym (onward.same u ∙ none_left));
          fails = λ q. absurd (k.fails q);
          refused = k.stops;
        }

  pub turn_last : {origin : Origin} {taken taken' : ℕ} {s : Reading A} {bytes waited bytes' : List ℕ} {t : Turn}
      {a' : A}
      → Lasted step s bytes t a' → bytes ≡ waited
      → ((old : List ℕ) → Came origin taken old → Whole origin old)
      → Turned origin step row s waited taken t a' bytes' taken'
  turn_last {origin} {taken} {taken'} {s} {bytes} {waited} {bytes'} {t} {a'} k e all =
      let q = k.ends in
      record {
        got = [];
        more = λ z. absurd (cc);
        waits = λ z. absurd (cc);
        grows = λ z. absurd (cc);
        came = λ w f. absurd (w q);
        ends = λ z. (rw e at k.taken.closed, all);
        stops = λ z. absurd (cc);
        fails = λ z. absurd (cc);
        refused = λ z. absurd (cc);
      }

module _ {A : Type 0} {origin : Origin} {step : Step A} {row : ℕ} where
  pub come_none : (a : A) (bytes : List ℕ) → row + 2 < length bytes → Come origin step row a bytes 0 1 0 a
  come_none a bytes room =
      record {
        all = [];
        came = record { first = none_came origin; long = refl };
        waits = record {
          unended = omega arith;
          short = omega arith;
          room = room;
          first = omega arith;
          lines = omega arith;
          counts = omega arith;
        };
        onward = record { same = λ t. refl };
      }

  -- where no byte comes any more, the line being read goes on without an end
  broken_off : Longest step row → {left line taken : ℕ} {a₀ a : A} {bytes : List ℕ}
      → (k : Come origin step row a₀ bytes left line taken a)
      → whole_read step a₀ (k.all ++ endless row) ≡ off_at (reading_at 0 line a)
  unfolding whole_read
  broken_off longest {left} {line} {taken} {a₀} {a} {bytes} k =
      ap closing (k.onward.same (endless row)
      ∙ endless_off step row longest (reading_at 0 line a) (take left bytes) refl k.waits.unended)
      ∙ closing_refused (off_at (reading_at 0 line a)) (λ e. absurd (omega arith))

  -- the text that was read, by the state that the last turn left
  module _ {left line taken taken' : ℕ} {a₀ a a' : A} {bytes bytes' : List ℕ} {t : Turn}
      (k : Come origin step row a₀ bytes left line taken a)
      (d : Turned origin step row (reading_at 0 line a) (take left bytes) taken t a' bytes' taken') where
    pub come_next : t.state ≡ Going → Come origin step row a₀ bytes' t.left t.line taken' a'
    come_next e =
        record {
          all = k.all ++ d.got;
          came = d.came (λ z. absurd (cc)) (λ z. absurd (cc)) k.all k.came;
          waits = d.waits e;
          onward = onward_then (onward_more d.got k.onward) (d.more e);
        }

    whole_done : t.state ≡ Ended → Done origin step row a₀ t a'
    unfolding whole_read
    whole_done e =
        let q = d.ends e in
        let is : turned_to t a' ≡ whole_read step a₀ k.all = q.0 ∙ ap closing (sym (onward_end k.onward)) in
        let all = q.1 k.all k.came in
        record {
          came = whole k.all;
          heard = all;
          is = is;
          ended = λ z. record { all = k.all; whole = all; is = is };
        }

    stopped_done : t.state ≡ Stopped → Done origin step row a₀ t a'
    unfolding whole_read
    stopped_done e =
        record {
          came = stopped (k.all ++ d.got);
          heard = (d.came (λ z. absurd (cc)) (λ z. absurd (cc)) k.all k.came).first;
          is = λ u. rw (append_assoc k.all d.got u)
              (rw (append_assoc (take left bytes) d.got u) at (d.stops e u)
              ∙ ap closing (sym (k.onward.same (d.got ++ u))));
          ended = λ z. absurd (d.refused e z);
        }

    failed_done : Longest step row → t.state ≡ Failed → Done origin step row a₀ t a'
    failed_done longest e =
        let q = d.fails e in
        record {
          came = failed k.all;
          heard = q.1 k.all k.came;
          is = q.0 ∙ sym (broken_off longest k);
          ended = λ z. absurd (omega (arith, z, ap (λ (x : Reading A). x.refusal) q.0));
        }

    pub come_done : Longest step row → (t.state ≡ Going → ⊥) → Done origin step row a₀ t a'
    come_done longest ne = by_state t.state refl
      where
        by_state : (state : State) → t.state ≡ state → Done origin step row a₀ t a'
        by_state Going e = absurd (ne e)
        by_state Ended e = whole_done e
        by_state Stopped e = stopped_done e
        by_state Failed e = failed_done longest e
