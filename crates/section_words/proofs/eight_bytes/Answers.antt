-- `eight_bytes` meets its contract: a byte more is eight digits more.
use Rattle.section_words.proofs.Words.{eight_digits}
use Rattle.section_words.proofs.eight_bytes.Goals as goal

pub returns : goal.returns
returns c = eight_digits c.args.a.now c.args.i c.from_le_bytes.result c.type_inv.a c.from_le_bytes.ensures
