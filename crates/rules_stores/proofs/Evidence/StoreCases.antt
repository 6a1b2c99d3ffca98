-- The definitions of the stores and of the full collection give what their cases say, by computation.
use mathlib.Core.Path.{◌≡◌, refl}
use Prim.Native.Nat.{ℕ}
use mathlib.Core.List.{List, [], ◌∷◌, map}
use Rattle.bitmap.specs.Bit.{bit_at, set_bit, fill_bits, count_below}
use Rattle.planes.specs.Plane.{count_at, set_count}
use Rattle.rules.specs.Tools.{holding, some_below, tabulate}
use Rattle.rules.specs.Heap.{first_in, size_from, exponent_from, exponent, chunk_free, ref_in, first_at, in_data, ref_at}
use Rattle.rules.specs.Sections.{largest_free, figure, figures}
use Rattle.rules_stores.specs.Store.{formatted, count_up, sticks, count_down, count_down_each, clear_cells, freed, naming_cells, release, let_go, put_root, put_cell}
use Rattle.rules_stores.specs.Store.{change_root, change_cell, placed, allocate_in}
use Rattle.rules_stores.specs.Collection.{is_cell_of, cell_of_chosen, references_from, reached_next, reached_in, reached, swept, recounted, collected}
use Rattle.rules.specs.Evidence.SmallHeaps.{eight_blocks, cell_holding, root_holding}
use Rattle.rules_stores.specs.Evidence.StoreCases.{told_of, pair, store_cases, collection_cases, test_cases, formatted_list}

pub stores_hold : map (λ c. c.0) store_cases ≡ map (λ c. c.1) store_cases
unfolding bit_at set_bit fill_bits count_at set_count first_in size_from formatted count_up count_down count_down_each clear_cells freed naming_cells release let_go put_root put_cell change_root change_cell placed allocate_in eight_blocks cell_holding root_holding told_of pair store_cases
stores_hold = refl

pub collections_hold : map (λ c. c.0) collection_cases ≡ map (λ c. c.1) collection_cases
unfolding bit_at set_bit fill_bits count_below count_at set_count first_in size_from ref_in first_at in_data ref_at holding some_below tabulate clear_cells freed is_cell_of cell_of_chosen references_from reached_next reached_in reached swept recounted collected eight_blocks cell_holding root_holding told_of pair collection_cases
collections_hold = refl

pub tests_hold : map (λ c. c.0) test_cases ≡ map (λ c. c.1) test_cases
unfolding count_at bit_at sticks test_cases
tests_hold = refl

pub formatted_list_lem : formatted_list ≡ 8 ∷ []
unfolding bit_at exponent_from exponent chunk_free largest_free figure tabulate figures formatted formatted_list
formatted_list_lem = refl
