-- `text::put_decimal` meets its contract: the digits that the kit wrote into the local buffer are those of `decimal`.
use Rattle.text.proofs.Decimals.{decimal_is}
use Rattle.text.proofs.put_decimal.Goals as goal

pub put_text-requires : goal.put_text-requires
put_text-requires c = rw (c.decimal-k.ensures.digits, decimal_is _ _ c.decimal-k.ensures.len) c.requires

pub returns : goal.returns
returns c = rw (c.decimal-k.ensures.digits, decimal_is _ _ c.decimal-k.ensures.len) at c.put_text.ensures
