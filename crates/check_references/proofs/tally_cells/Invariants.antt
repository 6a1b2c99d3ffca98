-- `check_references::tally_cells` meets its contract: the cells of the bytes before are tallied, none of them wild.
use mathlib.Core.Path.{◌≡◌}
use Prim.Native.Nat.{◌*◌}
use Rattle.rules.specs.Heap.{ref_at}
use Rattle.rules.proofs.Searches.{Searched}
use Rattle.map_objects.specs.Walk.{data_before}
use Rattle.check_references.specs.Wild.{wild_cell}
use Rattle.check_references.specs.Tally.{Tallied}
use Rattle.check_references.proofs.tally_cells.Given as goal

abbrev pub invariant-loop-k : goal.invariant-loop-k
invariant-loop-k l =
    (l.before ≡ data_before l.blocks l.a l.b l.d (8 * l.k)) × Searched (wild_cell l.blocks l.a l.b l.d l.cells) (4 * l.blocks) (32 * l.k)
    × Tallied (ref_at l.blocks l.a l.b l.d l.cells) (32 * l.k) l.initial.at l.at
