-- `grid::write::write_network` meets its contract: refused as a network, too little room, or written. Assumes nothing.
use mathlib.Core.{Path.◌≡◌, Path.sym, Path.ap, Path.◌∙◌, List.[], List.◌∷◌}
use native.Mathlib.Omega.{arith}
use Rattle.std.proofs.Common.{rules, ◌≤◌, length, Err}
use Rattle.std.proofs.lemmas.Bool.Decides.{nat_tests}
use Rattle.refusal.proofs.Laws.{numbered}
use Rattle.refusal.specs.Refusal.{told}
use Rattle.network.specs.Refusals.{network_refusal}
use Rattle.network.proofs.Refusals.{not_refused_lem}
use Rattle.room.specs.Room.{front}
use Rattle.room.proofs.{Fronts.front_one_lem, Writing.wrote_leaves}
use Rattle.grid.proofs.WriteLaws.{network_refused, written, network_most}
use Rattle.grid.proofs.write.write_network.Goals as goal
use Rattle.grid.proofs.write.write_network.Goals.{In_ok-refusal}

pub returns-in_err-refusal : goal.returns-in_err-refusal
returns-in_err-refusal c =
    let a = c.args in
    let e : c.from_residual.result ≡ Err c.in_err-refusal.field-0.0 = search rules in
    let low = numbered c.in_err-refusal.field-0.0 in
    let told-now = ap told e in
    network_refused a.levels.now a.frame a.text.now a.size.now _ (told-now ∙ c.in_err-refusal.ensures)
    (λ z. omega (arith, told-now))

-- past the first test the network can be written
none : (c : In_ok-refusal) → network_refusal c.args.levels.now c.args.frame ≡ 0
none c = sym c.in_ok-refusal.ensures

pub text_size-n-requires : goal.text_size-n-requires
text_size-n-requires c = not_refused_lem _ _ (none c)

pub put_network-requires : goal.put_network-requires
put_network-requires c = (
  not_refused_lem _ _ (none (goal.at.put_network-requires c).In_ok-refusal),
  omega (arith, c.if-text-n.false, c.text_size-n.ensures),
)

pub overflow_cast-size : goal.overflow_cast-size
overflow_cast-size c =
    let a = c.args in
    omega (
      arith,
      c.text_size-n.ensures,
      network_most a.levels.now a.frame
          (not_refused_lem a.levels.now a.frame (none (goal.at.overflow_cast-size c).In_ok-refusal)),
    )

pub returns : goal.returns
returns c =
    let a = c.args in
    let n = c.text_size-n in
    let room : 1 ≤ length a.size.now = grind (arith, nat_tests, c.if-is_empty.ensures) in
    let o = written a.levels.now a.frame a.text.now a.size.now (none (goal.at.returns c).In_ok-refusal)
    (omega (arith, c.if-text-n.false, n.ensures)) room in (
      o.0,
      wrote_leaves c.put_network.ensures
          ∙ o.1,
      front_one_lem a.size.now n.result room
          ∙ ap (λ x. front (x ∷ []) a.size.now) n.ensures ∙ o.2,
    )
