-- `returning::return_test` meets its contract: with 64 roots no bit lies past them.
use mathlib.Core.Path.{◌≡◌, sym, subst}
use Prim.Native.Nat.{ℕ, ◌+◌, ◌/◌, ◌^◌, ◌<◌}
use lib.Pow.{shr_lt}
use native.Mathlib.Omega.{arith}
use borrow.Author.Tests.{eq-eqb, ne_eqb}
use Rattle.rules.specs.Tools.{first_number}
use Rattle.test_arguments.specs.Replies.{return_test}
use Rattle.test_arguments.proofs.returning.return_test.Goals as goal

pub returns-then-roots-ge64 : goal.returns-then-roots-ge64
unfolding return_test first_number
returns-then-roots-ge64 c =
    let all : c.args.roots ≡ 64 = omega arith in
    let word : c.args.chosen < 2 ^ (0 + 64) = omega arith in
    let fits : c.args.chosen < 2 ^ (0 + c.args.roots) = subst (λ (n : ℕ). c.args.chosen < 2 ^ (0 + n)) (sym all) word in
    rw (eq-eqb (c.args.chosen / 2 ^ c.args.roots) 0 (omega (arith, shr_lt 0 c.args.roots fits)), return_test, first_number)

pub returns-then-chosen-roots-ne0 : goal.returns-then-chosen-roots-ne0
unfolding return_test first_number
returns-then-chosen-roots-ne0 c =
    rw (ne_eqb (c.args.chosen / 2 ^ c.args.roots) 0 c.if-chosen-roots-ne0.true, return_test, first_number)

pub returns : goal.returns
unfolding return_test first_number
returns c =
    rw (eq-eqb (c.args.chosen / 2 ^ c.args.roots) 0 (omega (arith, c.if-chosen-roots-ne0.false)), return_test, first_number)
