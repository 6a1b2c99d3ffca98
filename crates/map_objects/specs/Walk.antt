-- Blocks of data (request U6) in a walk over the blocks from block 0 upwards.
use Rattle.std.specs.Prelude.{ℕ, zero, suc, Bool, false, List}
use Rattle.rules.specs.Heap.{in_data}

-- what a walk that has come to block i carries: whether the block before it is a block of data. Before block
-- 0 there is none.
unfoldable pub data_before : ℕ → (a b d : List ℕ) → ℕ → Bool
data_before N a b d zero = false
data_before N a b d (suc i) = in_data N a b d i
