-- `channel::inner::write` meets its contract: where the write said that all was taken, it went. Assumes nothing.
use Rattle.std.proofs.Common.{ℕ, ◌+◌, length, refl, ap, ◌∙◌, length-append}
use Rattle.channel.specs.System.{system_took, system_lost}
use Rattle.channel.proofs.inner.write.Goals as goal

pub returns : goal.returns
returns c =
    record {
      count = refl;
      went = λ taken old came. record {
        first = system_took _ _ old taken came.first;
        long = length-append old c.args.part.now
            ∙ ap (λ (n : ℕ). n + length c.args.part.now) came.long;
      };
      lost = λ left. system_lost _ left;
    }
