-- `walk_reason::put_numbered` meets its contract.
use native.Mathlib.Omega.{arith}
use lib.ListN.{length-append}
use Rattle.text.specs.Text.{decimal}
use Rattle.text.proofs.Writing.{put_both}
use Rattle.walk_reason.proofs.put_numbered.Goals as goal

pub put_text-to-requires : goal.put_text-to-requires
put_text-to-requires c = omega (arith, c.requires, length-append c.args.words.now (decimal c.args.n))

pub put_decimal-requires : goal.put_decimal-requires
put_decimal-requires c =
    omega (arith, c.requires, length-append c.args.words.now (decimal c.args.n), c.put_text-to.ensures.end_is, c.put_text-to.auto.out)

pub returns : goal.returns
returns c =
    put_both (omega (arith, c.requires, length-append c.args.words.now (decimal c.args.n))) c.put_text-to.ensures c.put_decimal.ensures
