-- `walk_reason::digits_of` meets its contract.
use Rattle.walk_reason.proofs.Sentences.{decimal_long}
use borrow.Author.Rules.{rules}
use Rattle.walk_reason.proofs.digits_of.Goals as goal

pub returns : goal.returns
returns c = decimal_long _ _ c.decimal.ensures.len (search rules)
