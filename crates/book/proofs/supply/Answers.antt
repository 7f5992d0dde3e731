-- `book::supply` meets its contract: 9 for a book that is not sound, and else as its core. Assumes nothing.
use Rattle.refusal.proofs.Laws.{settled}
use Rattle.book_rules.proofs.Accepted.{unsound}
use Rattle.book.proofs.supply.Goals as goal

pub returns-then-not-is_sound : goal.returns-then-not-is_sound
returns-then-not-is_sound c = unsound (settled c.is_sound.ensures c.if-not-is_sound.true)
