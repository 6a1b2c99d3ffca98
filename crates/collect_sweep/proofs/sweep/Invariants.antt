-- `collect_sweep::sweep` meets its contract: the buffers are swept below block `from`. The measure is what is left of the blocks.
use mathlib.Core.Path.{◌≡◌}
use mathlib.Core.List.{[]}
use Prim.Native.Nat.{◌≤◌, ◌-◌, ◌*◌}
use Rattle.rules.specs.Heap.{max_blocks}
use Rattle.section_figures.specs.Figures.{Coherent}
use Rattle.count_up.specs.Ready.{Extents, part_memory}
use Rattle.collect_sweep.specs.Sweep.{sweep, sweep_blocks}
use Rattle.collect_sweep.proofs.sweep.Given as goal

abbrev pub invariant-loop-i : goal.invariant-loop-i
invariant-loop-i l =
    (l.from ≤ l.blocks) × Extents l.blocks l.a l.b l.cells l.d
    × (part_memory l.a l.b l.counts l.cells [] l.d ≡ sweep l.blocks l.width (part_memory l.initial.a l.initial.b l.counts l.initial.cells [] l.initial.d) l.from)
    × (l.freed ≡ sweep_blocks l.blocks l.width (part_memory l.initial.a l.initial.b l.counts l.initial.cells [] l.initial.d) l.from)
    × (l.freed ≤ max_blocks * l.from)
    × Coherent l.blocks l.a l.sections

abbrev pub decreases-loop-i : goal.decreases-loop-i
decreases-loop-i l = l.blocks - l.from
