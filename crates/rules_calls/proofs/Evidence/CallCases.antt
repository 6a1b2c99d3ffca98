-- Each call that tests the heap is refused on a damaged one, and the first number that applies is given.
use mathlib.Core.Path.{◌≡◌, refl}
use mathlib.Core.List.{List, map}
use Rattle.rules_calls.specs.Calls.{Call, answer}
use Rattle.rules_calls.specs.Evidence.Forms.{fresh_but, damaged}
use Rattle.rules.specs.Evidence.SmallHeaps.{eight_blocks}
use Rattle.rules_calls.specs.Evidence.CallCases.{testing_calls, mixed, order_cases}
use Rattle.rules_calls.proofs.Evidence.Computed.{computed}

pub tested_all : map (λ c. (answer 8 2 (fresh_but 1 255) c).0) testing_calls ≡ map (λ c. damaged 2) testing_calls
unfolding computed testing_calls
tested_all = refl

pub first_given : map (λ c. (answer 8 2 mixed c.0).0.number) order_cases ≡ map (λ c. c.1) order_cases
unfolding computed eight_blocks mixed order_cases
first_given = refl
