-- The rules give what document 01 says of small heaps, by computation: the cases marked P by one lemma over their list.
use mathlib.Core.Path.{◌≡◌, refl}
use mathlib.Core.List.{map}
use Rattle.rules_evidence.specs.Cases.{cases, readings, returns, moments, numbers}
use Rattle.rules_calls.specs.Evidence.Forms.{given, expected}
use Rattle.rules.specs.Evidence.SmallHeaps.{eight_blocks, cell_holding, root_holding}
use Rattle.rules_evidence.specs.StepCases.{with_roots_of, step_cases, given_steps, expected_steps}
use Rattle.rules_steps.specs.Evidence.MarkCases.{open_list, no_list, half}
use Rattle.rules_evidence.specs.OutputCases.{made_of, asking, given_output, expected_output, saying, shaping, reason_cases, shape_cases}
use Rattle.rules_calls.proofs.Evidence.Computed.{computed}

pub cases_hold : map given cases ≡ map expected cases
unfolding computed cases
cases_hold = refl

-- and so do those that tell the plausible readings that are wrong from the right ones
pub readings_hold : map given readings ≡ map expected readings
unfolding computed readings
readings_hold = refl

-- and so do those of request U10
pub returns_hold : map given returns ≡ map expected returns
unfolding computed returns
returns_hold = refl

-- and those of request U5
pub moments_hold : map given moments ≡ map expected moments
unfolding computed moments
moments_hold = refl

-- and those of request U6
pub numbers_hold : map given numbers ≡ map expected numbers
unfolding computed numbers
numbers_hold = refl

-- and those of request U8
pub steps_hold : map given_steps step_cases ≡ map expected_steps step_cases
unfolding computed eight_blocks cell_holding root_holding with_roots_of open_list no_list half step_cases given_steps expected_steps
steps_hold = refl

-- and those of requests U11 and U13
pub reasons_hold : map given_output reason_cases ≡ map expected_output reason_cases
unfolding computed made_of asking given_output saying reason_cases
reasons_hold = refl

pub shapes_hold : map given_output shape_cases ≡ map expected_output shape_cases
unfolding computed made_of asking given_output shaping shape_cases
shapes_hold = refl
