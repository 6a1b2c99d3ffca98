-- `cells::cell_test` meets its contract: the tests in order.
use Rattle.std.proofs.Common.{◌≡◌, sym, ◌∙◌, ◌-◌, ◌*◌, arith}
use borrow.Author.Tests.{le-ltb, lt-ltb}
use Rattle.rules.specs.Heap.{size_from}
use Rattle.rules.specs.Tools.{first_number}
use Rattle.rules.proofs.Objects.{first_facts}
use Rattle.test_arguments.specs.Replies.{cell_test}
use Rattle.test_arguments.proofs.cells.cell_test.Goals as goal

pub returns-then-not-is_first : goal.returns-then-not-is_first
unfolding cell_test first_number
returns-then-not-is_first c =
    let fails = sym c.is_first.ensures ∙ c.if-not-is_first.true in
    rw (fails, cell_test, first_number)

pub object_size-requires : goal.object_size-requires
object_size-requires c =
    omega (arith, (first_facts _ _ _ _ (sym c.is_first.ensures ∙ c.if-not-is_first.false)).inside)

pub returns-then-object_size-j : goal.returns-then-object_size-j
unfolding cell_test first_number
returns-then-object_size-j c =
    let x = c.args in
    let past = le-ltb x.j (4 * size_from (x.blocks - x.at) x.b.now x.at) (omega arith) in
    rw (sym c.is_first.ensures ∙ c.if-not-is_first.false, past, cell_test, first_number)

pub returns : goal.returns
unfolding cell_test first_number
returns c =
    let x = c.args in
    let inside = lt-ltb x.j (4 * size_from (x.blocks - x.at) x.b.now x.at) (omega arith) in
    rw (sym c.is_first.ensures ∙ c.if-not-is_first.false, inside, cell_test, first_number)
