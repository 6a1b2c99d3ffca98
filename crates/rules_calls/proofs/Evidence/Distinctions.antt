-- The rules give what the cases of specs/Evidence/Distinctions.antt say.
use mathlib.Core.Path.{◌≡◌, refl}
use mathlib.Core.List.{map}
use Rattle.rules_calls.specs.Evidence.Forms.{given, expected}
use Rattle.rules.specs.Evidence.SmallHeaps.{eight_blocks, cell_holding, root_holding}
use Rattle.rules_calls.specs.Evidence.Distinctions.{distinctions}
use Rattle.rules_calls.proofs.Evidence.Computed.{computed}

-- and those that tell further wrong rules from the right ones
pub distinctions_hold : map given distinctions ≡ map expected distinctions
unfolding computed eight_blocks cell_holding root_holding distinctions
distinctions_hold = refl
