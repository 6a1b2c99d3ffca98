-- What the close of a collection in small steps computes (request U8), as total functions of the lent lists:
-- one pass over the blocks.
use Rattle.std.specs.Prelude.{ℕ, zero, suc, ◌+◌, ◌-◌, ◌*◌, Bool, true, false, not, ◌&&◌, List, [], get_or}
use Rattle.rules.specs.Heap.{Memory, with_counts, is_first, size_at}
use Rattle.rules_stores.specs.Store.{Work, work, count_down, naming_cells, freed, release}
use Rattle.release.specs.Blocks.{released_blocks}
use Rattle.section_figures.specs.Figures.{Coherent}
use Rattle.count_up.specs.Ready.{Planes, Extents, part_memory}
use Rattle.count_up.specs.Stack.{top_first, counted, Stack}
use Rattle.step_list.specs.Lists.{is_set}

-- the reference v where it names a survivor, a marked object; else 0
unfoldable pub to_survivor : (marks : List ℕ) → ℕ → ℕ
to_survivor marks v = elim (is_set marks (v - 1)) [ true ↦ v | false ↦ 0 ]

-- of the n cells from cell j on: "counts down the survivors that these named, once for each cell"
unfoldable pub count_down_survivors : ℕ → ℕ → (marks : List ℕ) → Work → List ℕ → ℕ → ℕ → Work
count_down_survivors N w marks s cells j zero = s
count_down_survivors N w marks s cells j (suc n) =
    count_down N w (count_down_survivors N w marks s cells j n) (to_survivor marks (get_or cells (j + n) 0))

-- an unmarked object starts at block i
unfoldable pub is_doomed : ℕ → (marks : List ℕ) → Memory → ℕ → Bool
is_doomed N marks h i = is_first N h i && not (is_set marks i)

-- the memory, and the survivors whose count came to 0
pub record Closing : Type 0 where
  pub heap : Memory
  pub stack : List ℕ

abbrev pub closing : Memory → List ℕ → Closing
closing heap stack = record { heap = heap; stack = stack }

-- an unmarked object of n blocks at i freed, and the survivors that it named counted down: data named none
abbrev pub down_from : ℕ → ℕ → (marks : List ℕ) → Closing → (i n : ℕ) → Work
down_from N w marks s i n =
    count_down_survivors N w marks (work (freed N w s.heap i n).counts s.stack) s.heap.cells (4 * i)
    (naming_cells s.heap.d i n)

abbrev pub doomed_freed : ℕ → ℕ → (marks : List ℕ) → Closing → (i n : ℕ) → Closing
doomed_freed N w marks s i n = closing (with_counts (down_from N w marks s i n).counts (freed N w s.heap i n)) (down_from N w marks s i n).stack

unfoldable pub close_one : ℕ → ℕ → (marks : List ℕ) → Closing → ℕ → Closing
close_one N w marks s i = elim (is_doomed N marks s.heap i) [ true ↦ doomed_freed N w marks s i (size_at N s.heap i) | false ↦ s ]

unfoldable pub close_one_blocks : ℕ → (marks : List ℕ) → Closing → ℕ → ℕ
close_one_blocks N marks s i = elim (is_doomed N marks s.heap i) [ true ↦ size_at N s.heap i | false ↦ 0 ]

-- those that start below n
unfoldable pub close_below : ℕ → ℕ → (marks : List ℕ) → Closing → ℕ → Closing
close_below N w marks s zero = s
close_below N w marks s (suc n) = close_one N w marks (close_below N w marks s n) n

unfoldable pub close_blocks : ℕ → ℕ → (marks : List ℕ) → Closing → ℕ → ℕ
close_blocks N w marks s zero = 0
close_blocks N w marks s (suc n) = close_blocks N w marks s n + close_one_blocks N marks (close_below N w marks s n) n

-- what waits then is let go of
unfoldable pub released : ℕ → ℕ → Closing → Memory
released N w s = release N N w s.heap s.stack

unfoldable pub released_after : ℕ → ℕ → Closing → ℕ
released_after N w s = released_blocks N N w s.heap s.stack

-- ---- for contracts

-- the lent lists where the pass begins: nothing is freed, and the stack is empty
abbrev pub untouched : (a b counts cells d : List ℕ) → Closing
untouched a b counts cells d = closing (part_memory a b counts cells [] d) []

-- the lent lists and the stack, as the definitions have them
abbrev pub held : (a b counts cells waiting d : List ℕ) → ℕ → Closing
held a b counts cells waiting d top = closing (part_memory a b counts cells [] d) (top_first waiting top)

-- what the lists are to be, so that the pass can go on
pub record Standing (N w : ℕ) (a b counts cells waiting sections d : List ℕ) (top : ℕ) : Type 0 where
  pub planes : Planes N w counts
  pub extents : Extents N a b cells d
  pub stack : Stack counted N w counts waiting top
  pub coherent : Coherent N a sections
