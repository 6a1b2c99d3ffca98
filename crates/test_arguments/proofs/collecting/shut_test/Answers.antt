-- `collecting::shut_test` meets its contract: the list's last place is looked at.
use borrow.Author.Tests.{eq-eqb, ne_eqb}
use lib.ListN.{get_or}
use Rattle.rules.specs.Tools.{first_number}
use Rattle.test_arguments.specs.Replies.{shut_test}
use Rattle.test_arguments.proofs.collecting.shut_test.Goals as goal

pub returns-then-list-blocks-eq1 : goal.returns-then-list-blocks-eq1
unfolding shut_test first_number
returns-then-list-blocks-eq1 c =
    rw (eq-eqb (get_or c.args.list.now c.args.blocks 0) 1 c.if-list-blocks-eq1.true, shut_test, first_number)

pub returns : goal.returns
unfolding shut_test first_number
returns c =
    rw (ne_eqb (get_or c.args.list.now c.args.blocks 0) 1 c.if-list-blocks-eq1.false, shut_test, first_number)
