-- The object graph of a lent memory: sizes read off the two maps, counts read off the count maps, and the roots before the cells as one
-- list of slots. Cells are read as references, so those of data hold 0 there (request U6). What the rules do to the memory is shown to be what
-- the graph's machine does to this view.
use Prim.Native.Nat.{ℕ, ◌*◌}
use mathlib.Core.List.{List, ◌++◌}
use Rattle.rules.specs.Heap.{Memory, count_of, reference}
use Rattle.rules.specs.Tools.{tabulate}
use Rattle.theory_memories.proofs.Maps.Extents.{sizes_of}
use Rattle.theory_graphs.proofs.Graphs.Graph.{Graph}

-- the cells read as references
abbrev pub cell_refs : ℕ → Memory → List ℕ
cell_refs N h = tabulate (4 * N) (reference N h)

-- the roots, then the cells
abbrev pub slots_in : ℕ → Memory → List ℕ
slots_in N h = h.roots ++ cell_refs N h

abbrev pub view : ℕ → ℕ → Memory → Graph
view N w h = record { sizes = sizes_of N h.a h.b; counts = tabulate N (count_of N w h); slots = slots_in N h }
