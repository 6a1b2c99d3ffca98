-- For contracts of inner functions: what planning a record asks of the lists it reads, and whether its roots are in range.
use Rattle.std.specs.Prelude.{ℕ, ◌*◌, ◌≤◌, ◌≡◌, Bool, true, false, List, length, get_or, ltb}
use Rattle.rules.specs.Heap.{max_blocks}
use Rattle.history_records.specs.declared.Fields.{Fields}

-- an undamaged heap has it
pub record Readable (N : ℕ) (b cells roots d : List ℕ) : Type 0 where
  pub most : N ≤ max_blocks
  pub b_length : N ≤ 8 * length b
  pub cells_length : length cells ≡ 4 * N
  pub d_length : N ≤ 8 * length d
  pub named : (r : ℕ) → get_or roots r 0 ≤ N

-- both roots of a record are in range
unfoldable pub are_roots : (roots : List ℕ) → Fields → Bool
are_roots roots f = elim (ltb f.d (length roots)) [ true ↦ ltb f.s (length roots) | false ↦ false ]
