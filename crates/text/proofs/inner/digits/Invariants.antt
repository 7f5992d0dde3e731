-- `text::inner::digits` meets its contract. The loop's invariant: what is left, read after the value so far, is what
-- the whole reads as; the value has as many digits as were passed. Assumes nothing.
use Rattle.std.specs.Prelude.{◌≡◌, ◌^◌, ◌<◌, drop}
use Rattle.text.specs.Number.{digits_of}
use Rattle.text.proofs.inner.digits.Given as goal

abbrev pub invariant-loop-c : goal.invariant-loop-c
invariant-loop-c l =
    record { read : digits_of 0 l.s ≡ digits_of l.value (drop l.c-index l.s); below : l.value < 10 ^ l.c-index }
