-- `check_shape::is_blocks` meets its contract.
use Rattle.std.proofs.Common.{arith}
use Rattle.std.proofs.lemmas.Grind.{common_steps}
use Rattle.std.proofs.lemmas.Bool.Decides.{nat_tests}
use Rattle.check_shape.proofs.Powers.{blocks_of_tests, tests_of_blocks}
use Rattle.check_shape.proofs.is_blocks.Goals as goal

pub returns-then-is_power_of_two : goal.returns-then-is_power_of_two
returns-then-is_power_of_two c = let low = blocks_of_tests c.args.n in let high = tests_of_blocks c.args.n in grind (arith, nat_tests, common_steps)

pub returns-else-is_power_of_two : goal.returns-else-is_power_of_two
returns-else-is_power_of_two c = let high = tests_of_blocks c.args.n in grind (arith, nat_tests, common_steps)
