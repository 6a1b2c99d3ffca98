-- The heap of the program `report`: "on a new heap of .. blocks, w = 3, 64 roots"; request U12: "The report program's heap becomes 4,096
-- blocks."
use Rattle.std.specs.Prelude.{ℕ}
use Rattle.rules.specs.Heap.{Memory}
use Rattle.rules_stores.specs.Store.{formatted}

abbrev pub report_blocks : ℕ
report_blocks = 4096

abbrev pub report_width : ℕ
report_width = 3

abbrev pub report_roots : ℕ
report_roots = 64

abbrev pub new_heap : Memory
new_heap = formatted report_blocks report_width report_roots
