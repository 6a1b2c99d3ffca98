-- `collecting::open_test` meets its contract: the list's last place is looked at.
use borrow.Author.Tests.{eq-eqb, ne_eqb}
use lib.ListN.{get_or}
use Rattle.rules.specs.Tools.{first_number}
use Rattle.test_arguments.specs.Replies.{open_test}
use Rattle.test_arguments.proofs.collecting.open_test.Goals as goal

pub returns-then-list-blocks-ne1 : goal.returns-then-list-blocks-ne1
unfolding open_test first_number
returns-then-list-blocks-ne1 c =
    rw (ne_eqb (get_or c.args.list.now c.args.blocks 0) 1 c.if-list-blocks-ne1.true, open_test, first_number)

pub returns : goal.returns
unfolding open_test first_number
returns c =
    rw (eq-eqb (get_or c.args.list.now c.args.blocks 0) 1 c.if-list-blocks-ne1.false, open_test, first_number)
