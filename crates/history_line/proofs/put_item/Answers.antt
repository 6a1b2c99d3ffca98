-- `history_line::put_item` meets its contract.
use native.Mathlib.Omega.{arith}
use Rattle.text.proofs.Decimals.{decimal_short}
use Rattle.text.proofs.Writing.{put_both}
use borrow.Author.Rules.{rules}
use Rattle.history_line.proofs.put_item.Goals as goal

pub put_decimal-to-requires : goal.put_decimal-to-requires
put_decimal-to-requires c = omega (arith, decimal_short c.args.n (search rules))

pub put_text-requires : goal.put_text-requires
put_text-requires c =
    omega (arith, decimal_short c.args.n (search rules), c.put_decimal-to.ensures.end_is)

pub returns : goal.returns
returns c =
    let short = decimal_short c.args.n (search rules) in (
      put_both (omega arith) c.put_decimal-to.ensures c.put_text.ensures,
      omega (arith, c.put_decimal-to.ensures.end_is, c.put_text.ensures.end_is),
    )
