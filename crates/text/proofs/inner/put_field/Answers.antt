-- `text::inner::put_field` meets its contract: a comma, and past it the number. Assumes nothing.
use Rattle.text.proofs.Within.{byte_then}
use Rattle.text.proofs.inner.put_field.Goals as goal

pub returns : goal.returns
returns c =
    byte_then c.requires c.put_byte-next.ensures c.put_any_number.ensures
