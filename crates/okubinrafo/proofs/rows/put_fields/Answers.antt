-- `okubinrafo::rows::put_fields` meets its contract: six stores. Assumes nothing.
use native.Mathlib.Omega.{arith}
use lib.ListN.{length-set}
use Rattle.register.specs.Row.{field_list}
use Rattle.room.proofs.Answers.{front-sets}
use Rattle.okubinrafo.proofs.rows.put_fields.Goals as goal

pub bounds-fields-1 : goal.bounds-fields-1
bounds-fields-1 c = simp length-set (omega arith)

pub bounds-fields-2 : goal.bounds-fields-2
bounds-fields-2 c = simp length-set (omega arith)

pub bounds-fields-3 : goal.bounds-fields-3
bounds-fields-3 c = simp length-set (omega arith)

pub bounds-fields-4 : goal.bounds-fields-4
bounds-fields-4 c = simp length-set (omega arith)

pub bounds-fields-5 : goal.bounds-fields-5
bounds-fields-5 c = simp length-set (omega arith)

pub shape_of-fields : goal.shape_of-fields
shape_of-fields c = simp length-set

pub returns : goal.returns
returns c = front-sets (field_list c.args.f) c.args.fields.now c.requires
