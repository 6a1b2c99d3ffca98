-- `walk_shape::put_numbers` meets its contract.
use mathlib.Core.Path.{◌≡◌}
use mathlib.Core.List.{map}
use lib.ListN.{take}
use Rattle.walk_shape.specs.Listing.{number_of}
use Rattle.walk_shape.proofs.put_numbers.Given as goal

abbrev pub invariant-loop-i : goal.invariant-loop-i
invariant-loop-i l = take l.i l.out ≡ map (number_of l.numbers) (take l.i l.refs)
