-- `check_marks::is_missed_root` meets its contract.
use borrow.Author.Tests.{ne_eqb, lt-ltb}
use Rattle.check_marks.proofs.Tests.{past_missed}
use Rattle.check_marks.proofs.is_missed_root.Goals as goal

pub returns-then-blocks-v : goal.returns-then-blocks-v
returns-then-blocks-v c =
    rw (lt-ltb _ _ c.if-blocks-v.true, ne_eqb _ 0 c.if-v-ne0.true, past_missed _ _ _ c.requires c.if-blocks-v.true)
