-- `flights::name::name` meets its contract. The invariant: what is left, read after the value so far, is what the whole
-- reads as; the value has as many bytes as were settled. Assumes nothing.
use Rattle.std.specs.Prelude.{◌≡◌, ◌^◌, ◌<◌, ◌≤◌, length, drop}
use Rattle.flights.specs.Name.{name_of, code_of}
use Rattle.flights.proofs.name.name.Given as goal

abbrev pub invariant-loop-c : goal.invariant-loop-c
invariant-loop-c l =
    (name_of l.s ≡ code_of l.value (drop l.c-index l.s)) × (length l.s ≤ 4) × (l.value < 256 ^ l.c-index)
