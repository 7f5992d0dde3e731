-- `report_text::inner::put_limit` meets its contract: a comma, and past it the level. Assumes nothing.
use Rattle.text.proofs.Within.{byte_then}
use Rattle.report_text.proofs.inner.put_limit.Goals as goal

pub returns : goal.returns
returns c =
    byte_then c.requires.1 c.put_byte-next.ensures c.put_any_level.ensures
