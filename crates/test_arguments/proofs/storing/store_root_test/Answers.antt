-- `storing::store_root_test` meets its contract: the tests in order.
use Rattle.std.proofs.Common.{◌≡◌, sym, ◌∙◌, length, arith}
use borrow.Author.Tests.{le-ltb, lt-ltb}
use Rattle.rules.specs.Tools.{first_number}
use Rattle.rules_calls.specs.Calls.{own_refusals}
use Rattle.test_arguments.specs.Replies.{own_test}
use Rattle.test_arguments.proofs.storing.store_root_test.Goals as goal

pub returns-then-roots-r : goal.returns-then-roots-r
unfolding own_test own_refusals first_number
returns-then-roots-r c =
    rw (le-ltb c.args.r (length c.args.roots.now) (omega arith), own_test, own_refusals, first_number)

pub returns-then-not-is_reference : goal.returns-then-not-is_reference
unfolding own_test own_refusals first_number
returns-then-not-is_reference c =
    let fails = sym c.is_reference.ensures ∙ c.if-not-is_reference.true in
    rw (lt-ltb c.args.r (length c.args.roots.now) (omega arith), fails, own_test, own_refusals, first_number)

pub returns : goal.returns
unfolding own_test own_refusals first_number
returns c =
    let passes = sym c.is_reference.ensures ∙ c.if-not-is_reference.false in
    rw (lt-ltb c.args.r (length c.args.roots.now) (omega arith), passes, own_test, own_refusals, first_number)
