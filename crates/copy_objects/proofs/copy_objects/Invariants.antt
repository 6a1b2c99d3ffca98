-- `copy_objects` meets its contract.
use mathlib.Core.Path.{◌≡◌}
use mathlib.Core.List.{[]}
use Rattle.count_up.specs.Ready.{Planes, Extents, part_memory}
use Rattle.copy_objects.specs.Copying.{copy_objects}
use Rattle.copy_objects.proofs.copy_objects.Given as goal

abbrev pub invariant-loop-reference : goal.invariant-loop-reference
invariant-loop-reference l =
    Planes l.blocks2 l.width2 l.counts2 × Extents l.blocks2 l.a2 l.b2 l.cells2 l.d2
    × (part_memory l.a2 l.b2 l.counts2 l.cells2 [] l.d2
    ≡ copy_objects l.blocks l.b l.d l.cells l.order l.moved l.blocks2 l.width2 (part_memory l.initial.a2 l.initial.b2 l.initial.counts2 l.initial.cells2 [] l.initial.d2) l.reference-index)
