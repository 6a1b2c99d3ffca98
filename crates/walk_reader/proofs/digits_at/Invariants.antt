-- `walk_reader::digits_at` meets its contract: the digits so far make `value`. The measure is what is left of the text.
use mathlib.Core.Path.{◌≡◌}
use mathlib.Core.Option.{some}
use Prim.Native.Nat.{◌<◌}
use lib.ListN.{length}
use Rattle.rules_output.specs.Sentence.{number_from}
use Rattle.walk_reader.specs.Reader.{limited}
use Rattle.walk_reader.proofs.digits_at.Given as goal

abbrev pub invariant-loop-rest : goal.invariant-loop-rest
invariant-loop-rest l = (limited (some (number_from 0 l.text)) ≡ limited (some (number_from l.value l.rest))) × (l.value < 4294967296)

abbrev pub decreases-loop-rest : goal.decreases-loop-rest
decreases-loop-rest l = length l.rest
