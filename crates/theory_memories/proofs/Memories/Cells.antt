-- Request U6: how the cells of a healthy memory are read.
use mathlib.Core.Path.{◌∙◌}
use Prim.Native.Nat.{ℕ, ◌+◌, ◌*◌, ◌<◌}
use native.Mathlib.Omega.{arith}
use lib.ListN.{get_or}
use Rattle.rules.specs.Heap.{Memory}
use Rattle.theory_memories.specs.Words.{Object}
use Rattle.theory_memories.specs.Cells.{CellsRead}
use Rattle.theory_memories.proofs.Maps.Extents.{sizes_of}
use Rattle.theory_graphs.proofs.Graphs.Stretch.{Inside}
use Rattle.rules.proofs.Reading.{read_free}
use Rattle.theory_memories.proofs.Memories.Reading.{data_read, ordinary_read}
use Rattle.theory_memories.proofs.Memories.Healthy.{Healthy}
use Rattle.theory_memories.proofs.Memories.Leads.{object_size}

-- ---- cells read

pub cells_read : (N w : ℕ) (h : Memory) → Healthy N w h → CellsRead N h
cells_read N w h healthy =
    record {
      of_data = λ b n j object made l.
          data_read N h.a h.b (sizes_of N h.a h.b) healthy.represents h.d h.cells b (4 * b + j) (inside b n j object l) made;
      of_others = λ b n j object ordinary l.
          ordinary_read N h.a h.b (sizes_of N h.a h.b) healthy.represents h.d h.cells b (4 * b + j) (inside b n j object l)
          ordinary;
      of_free = λ j z. read_free N h.a h.b h.d h.cells j z ∙ healthy.bare.free_cells j z;
    }
  where
    inside : (b n j : ℕ) → Object N h b n → j < 4 * n → Inside (4 * b) (4 * get_or (sizes_of N h.a h.b) b 0) (4 * b + j)
    inside b n j object l =
        (omega arith, omega (arith, (object_size N h (sizes_of N h.a h.b) healthy.represents b n object).0))
