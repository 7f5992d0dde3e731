-- `channel::inner::read_from` meets its contract: the one place that says what a read gave. Assumes nothing.
use Rattle.std.proofs.Common.{◌≡◌, ◌≢◌, Bool, true, false, subst, IsErr, ℕ, Result, ◌≤◌, refl, sym, ap, ◌∙◌, arith, length, take, length-append, Ok}
use Rattle.std.proofs.Math.Seq.{length-take-le}
use Rattle.std.proofs.lemmas.List.{length-take}
use borrow.Author.Tests.{eqb-true, eqb-false}
use Rattle.channel.specs.System.{system_gave, system_ended, system_failed, system_uncounted}
use Rattle.std.specs.declared.io.Error.{Error}
use Rattle.channel.specs.declared.file.Source.{Source}
use Rattle.channel.specs.declared.file.Source.TheVariants.{Absent}
use Rattle.channel.proofs.inner.read_from.Goals as goal
use Rattle.channel.proofs.inner.read_from.Goals.{then-is_empty-via-then-is_empty, then-is_empty-via-else-is_empty+then-taken-room}

pub returns-then-is_empty : goal.returns-then-is_empty
returns-then-is_empty c =
    let room = c.args.room.now in
    record {
      gave = (
        refl,
        λ some old came.
            elim c.then-is_empty.branch [
              | then-is_empty-via-then-is_empty w ↦
                  let none = eqb-true _ _ (sym c.is_empty.ensures ∙ w.if-is_empty.true) in absurd (omega (arith, length-take {A = ℕ}, some, none))
              | then-is_empty-via-else-is_empty+then-taken-room w ↦
                  system_uncounted _ room old (omega (arith, came.long, w.if-taken-room.true)) came.first
            ],
      );
    }

pub returns-in-Err : goal.returns-in-Err
returns-in-Err c =
    record { gave = (refl, λ some old came. system_failed _ _ _ _ old c.requires c.in-Err.is came.first) }

-- what answered bytes is there
there : {source : Source} {r : Result ℕ Error} {n : ℕ} → r ≡ Ok n → (source ≡ Absent → IsErr r) → source ≢ Absent
there is none absent = let n : ◌≡◌ {A = Bool} false true = subst IsErr is (none absent) in cc

pub returns-in-Ok-eq0 : goal.returns-in-Ok-eq0
returns-in-Ok-eq0 c =
    let room = c.read_once.new.room in
    let no = eqb-false _ _ (sym c.is_empty.ensures ∙ c.if-is_empty.false) in
    let some : 1 ≤ length room = omega (arith, length-take {A = ℕ}, no, c.read_once.auto.room) in
    let zero = c.in-Ok-eq0.is ∙ ap Ok c.in-Ok-eq0.field-0-test in
    let here = there c.in-Ok-eq0.is (c.read_once.ensures.absent) in
    record { gave = (refl, λ old came. system_ended _ _ _ room old c.requires here zero some came.first) }

pub returns-in-Ok : goal.returns-in-Ok
returns-in-Ok c =
    let n = c.in-Ok.n in
    let room = c.read_once.new.room in
    let fits = c.in-Ok.ensures.within.0 in
    let some : 1 ≤ n = omega arith in
    let here = there c.in-Ok.is (c.read_once.ensures.absent) in
    record {
      gave = (
        some,
        fits,
        refl,
        omega arith,
        λ old came. record {
          first = system_gave _ _ n _ room old c.requires here c.in-Ok.is fits came.first;
          long = length-append old (take n room) ∙ omega (arith, came.long, length-take-le n room fits);
        },
      );
    }
