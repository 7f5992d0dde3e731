-- A register that is accepted has its header, and none of its lines is refused. Assumes nothing.
use mathlib.Core.{Path.◌≡◌, List.List, List.[]}
use Prim.Native.Nat.{ℕ}
use lib.ListN.{get_or}
use Rattle.book_rules.specs.Columns.{Book}
use Rattle.text.specs.Line.{lines_of}
use Rattle.stream.proofs.Firsts.{text_accepted}
use Rattle.report_steps.specs.Reading.{register_step, registered}
use Rattle.report_rules.specs.Accepted.{RegisterAccepted}
use Rattle.report_rules.proofs.Refusing.{header_exactly}

pub register_accepted : (p : ℕ) (b : Book) (register : List ℕ) → (registered p b register).refusal ≡ 0
    → RegisterAccepted p b register
register_accepted p b register z =
    let k = text_accepted (register_step p) b register z in
    let first = k.each 0 k.some in
    let head = (header_exactly p _ (get_or (lines_of register) 0 [])).passes.0 first in
    record { some = k.some; points = head.0; header = head.1; each = k.each }
