-- `soundness::identities_rise` meets its contract. Assumes nothing.
use Rattle.std.proofs.Common.{rules}
use Rattle.std.proofs.lemmas.List.Sorted.{answers_always}
use Rattle.book_rules.specs.Columns.{follows}
use Rattle.book_rules.proofs.Scans.{rising_answer}
use Rattle.soundness.proofs.identities_rise.Goals as goal

pub returns : goal.returns
returns c =
    rising_answer c.args.ids.now _
    (c.is_sorted_by.ensures.cases (λ x y. follows x y) (answers_always _ _ _ (λ f a r g h. search rules)))
