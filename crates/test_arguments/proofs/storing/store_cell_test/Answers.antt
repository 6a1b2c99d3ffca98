-- `storing::store_cell_test` meets its contract: the tests in order.
use Rattle.std.proofs.Common.{◌≡◌, sym, ◌∙◌, arith}
use borrow.Author.Tests.{eq-eqb, ne_eqb}
use Rattle.std.proofs.lemmas.Result.{err_from_is_err_and}
use Rattle.bitmap.specs.Bit.{bit_at}
use Rattle.rules.specs.Tools.{first_number}
use Rattle.rules.proofs.Objects.{first_facts}
use Rattle.test_arguments.proofs.ArgumentTests.{maps, first_tested, first_passed, cell_there, store_refused, store_then}
use Rattle.test_arguments.proofs.storing.store_cell_test.Goals as goal

pub returns-in_err-cell_test : goal.returns-in_err-cell_test
returns-in_err-cell_test c =
    let x = c.args in
    let exit = err_from_is_err_and c.from_residual.result c.from_residual.ensures.1 in
    rw (exit.1, exit.2)
    (store_refused x.blocks (maps x.a.now x.b.now x.d.now) x.at x.j x.v _
    (first_tested x.blocks x.a.now x.b.now x.d.now x.at x.j c.in_err-cell_test.ensures))

pub get_bit-requires : goal.get_bit-requires
get_bit-requires c =
    let x = c.args in
    let passed = first_passed x.blocks x.a.now x.b.now x.d.now x.at x.j c.in_ok-cell_test.ensures in
    omega (arith, (first_facts _ _ _ _ (cell_there x.blocks (maps x.a.now x.b.now x.d.now) x.at x.j passed).0).inside)

pub returns-then-get_bit-eq1 : goal.returns-then-get_bit-eq1
unfolding first_number
returns-then-get_bit-eq1 c =
    let x = c.args in
    let passed = first_passed x.blocks x.a.now x.b.now x.d.now x.at x.j c.in_ok-cell_test.ensures in
    let made = eq-eqb (bit_at x.d.now x.at) 1 (omega (arith, c.get_bit.ensures.0, c.if-get_bit-eq1.true)) in
    rw (store_then x.blocks (maps x.a.now x.b.now x.d.now) x.at x.j x.v passed, made, first_number)

pub returns-then-not-is_reference : goal.returns-then-not-is_reference
unfolding first_number
returns-then-not-is_reference c =
    let x = c.args in
    let passed = first_passed x.blocks x.a.now x.b.now x.d.now x.at x.j c.in_ok-cell_test.ensures in
    let other = ne_eqb (bit_at x.d.now x.at) 1 (λ e. omega (arith, c.get_bit.ensures.0, c.if-get_bit-eq1.false, e)) in
    let fails = sym c.is_reference.ensures ∙ c.if-not-is_reference.true in
    rw (store_then x.blocks (maps x.a.now x.b.now x.d.now) x.at x.j x.v passed, other, fails, first_number)

pub returns : goal.returns
unfolding first_number
returns c =
    let x = c.args in
    let passed = first_passed x.blocks x.a.now x.b.now x.d.now x.at x.j c.in_ok-cell_test.ensures in
    let other = ne_eqb (bit_at x.d.now x.at) 1 (λ e. omega (arith, c.get_bit.ensures.0, c.if-get_bit-eq1.false, e)) in
    let passes = sym c.is_reference.ensures ∙ c.if-not-is_reference.false in
    rw (store_then x.blocks (maps x.a.now x.b.now x.d.now) x.at x.j x.v passed, other, passes, first_number)
