-- What keeps the shapes that the inner calls ask for: `Planes` of the count maps, `Extents` of the maps and the cells.
use mathlib.Core.Path.{◌≡◌, ap, ◌∙◌}
use mathlib.Core.List.{List}
use Prim.Native.Nat.{ℕ}
use lib.ListN.{length, set, length-set}
use Rattle.bitmap.specs.Bit.{set_bit, fill_bits}
use Rattle.bitmap.proofs.Maps.{length_set_bit}
use Rattle.bitmap.proofs.Runs.{length_fill}
use Rattle.map_objects.proofs.Cells.{length_clear}
use Rattle.rules.specs.Heap.{Memory}
use Rattle.rules_stores.specs.Store.{clear_cells}
use Rattle.count_up.specs.Ready.{Planes, Extents, Ready}

-- the memory that is known to be ready, for a lemma that asks for one: a `_` would be filled in with a far longer term
abbrev pub memory_of : {N w : ℕ} {h : Memory} → Ready N w h → Memory
memory_of {h = h} ready = h

-- count maps of the same length
pub planes_same : {N w : ℕ} {counts counts' : List ℕ} → Planes N w counts → length counts' ≡ length counts → Planes N w counts'
planes_same p e = record {
  eighths = p.eighths;
  most = p.most;
  some = p.some;
  width = p.width;
  length_is = e ∙ p.length_is;
}

-- an extent written or cleared: a run of A bits, one B bit, a run of cells made 0, the D bit of the first block
pub extents_written :
    {N : ℕ} {a b cells d a' b' cells' d' : List ℕ} (i n x last y j m z : ℕ)
    → a' ≡ fill_bits a i n x → b' ≡ set_bit b last y → cells' ≡ clear_cells cells j m → d' ≡ set_bit d i z
    → Extents N a b cells d → Extents N a' b' cells' d'
extents_written {a = a} {b} {cells} {d} i n x last y j m z ea eb ee ed e = record {
  a_length = ap length ea ∙ length_fill a i n x ∙ e.a_length;
  b_length = ap length eb ∙ length_set_bit b last y ∙ e.b_length;
  cells_length = ap length ee ∙ length_clear cells j m ∙ e.cells_length;
  d_length = ap length ed ∙ length_set_bit d i z ∙ e.d_length;
}

-- a cell written
pub extents_cell : {N : ℕ} {a b cells d : List ℕ} (c v : ℕ) → Extents N a b cells d → Extents N a b (set cells c v) d
extents_cell {cells = cells} c v e = record {
  a_length = e.a_length;
  b_length = e.b_length;
  cells_length = length-set cells c v ∙ e.cells_length;
  d_length = e.d_length;
}
