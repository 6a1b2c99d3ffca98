-- The rules give what the cases of specs/Evidence/CopyCases.antt say.
use mathlib.Core.Path.{◌≡◌, refl}
use mathlib.Core.List.{map}
use Rattle.rules_calls.specs.Evidence.Forms.{given, expected}
use Rattle.rules.specs.Evidence.SmallHeaps.{eight_blocks, cell_holding, root_holding}
use Rattle.rules_calls.specs.Evidence.WrongAnswers.{listed, collecting, chained, stale}
use Rattle.rules_calls.specs.Evidence.CopyCases.{junk, junk_four, three_roots, stuck_one, plain_one, threefold, full, full_open, three_and_one, fragmented, with_data, tangled, nine, full_in_sixteen, copies}
use Rattle.rules_calls.proofs.Evidence.Computed.{computed}

-- and those of request U14
pub copies_hold : map given copies ≡ map expected copies
unfolding computed eight_blocks cell_holding root_holding listed collecting chained stale junk junk_four three_roots stuck_one plain_one threefold full full_open three_and_one fragmented with_data tangled nine full_in_sixteen copies
copies_hold = refl
