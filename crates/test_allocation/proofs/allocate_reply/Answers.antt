-- `test_allocation::allocate_reply` meets its contract: the refusals in order, then what the search found.
use mathlib.Core.Path.{◌∙◌}
use native.Mathlib.Omega.{arith}
use Rattle.std.proofs.lemmas.Bool.Decides.{nat_tests}
use Rattle.test_allocation.specs.Replies.{allocate_reply}
use Rattle.test_allocation.proofs.SearchReply.{nothing_found, place_found}
use Rattle.test_allocation.proofs.allocate_reply.Goals as goal

pub returns-then-n-eq0 : goal.returns-then-n-eq0
unfolding allocate_reply
returns-then-n-eq0 c = grind (arith, nat_tests)

pub returns-then-roots-r : goal.returns-then-roots-r
unfolding allocate_reply
returns-then-roots-r c = grind (arith, nat_tests)

pub returns-in-Some : goal.returns-in-Some
returns-in-Some c = place_found _ (omega arith) (omega arith) (omega arith) c.find_place.ensures.at_is c.in-Some.at c.in-Some.is

pub returns-in-None : goal.returns-in-None
returns-in-None c = nothing_found _ (omega arith) (omega arith) (omega arith) c.find_place.ensures.at_is c.in-None.is
