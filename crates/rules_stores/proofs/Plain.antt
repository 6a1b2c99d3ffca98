-- The stores and the return as they are where no collection is open: nothing is marked or listed (proved as
-- `store_root_none`, `store_cell_none`, `return_none`, theory/proofs/EachCall/TidyKept.antt).
use mathlib.Core.Bool.{true, false}
use Prim.Native.Nat.{ℕ, zero, suc}
use lib.ListN.{get_or}
use lib.Dec.{eqb}
use Rattle.rules.specs.Heap.{Memory}
use Rattle.rules_stores.specs.Store.{change_root, change_cell, is_chosen}

unfoldable pub store_root_in : ℕ → ℕ → Memory → ℕ → ℕ → Memory
store_root_in N w h r v = elim (eqb (get_or h.roots r 0) v) [ true ↦ h | false ↦ change_root N w h r v ]

unfoldable pub store_cell_in : ℕ → ℕ → Memory → ℕ → ℕ → Memory
store_cell_in N w h c v = elim (eqb (get_or h.cells c 0) v) [ true ↦ h | false ↦ change_cell N w h c v ]

-- root r is cleared, by a store of 0, where it is one of the set
unfoldable pub clear_chosen : ℕ → ℕ → Memory → (chosen r : ℕ) → Memory
clear_chosen N w h chosen r = elim (is_chosen chosen r) [ true ↦ store_root_in N w h r 0 | false ↦ h ]

-- the roots of the set that are below n, the lowest first
unfoldable pub return_in : ℕ → ℕ → Memory → (chosen n : ℕ) → Memory
return_in N w h chosen zero = h
return_in N w h chosen (suc n) = clear_chosen N w (return_in N w h chosen n) chosen n
