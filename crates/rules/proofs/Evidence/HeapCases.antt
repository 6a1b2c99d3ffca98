-- The definitions of the heap, of damage and of sections give what their cases say, by computation.
use mathlib.Core.Path.{◌≡◌, refl}
use Prim.Native.Nat.{ℕ}
use mathlib.Core.List.{List, [], ◌∷◌, map}
use lib.ListN.{length}
use Rattle.bitmap.specs.Bit.{bit_at, count_below}
use Rattle.planes.specs.Plane.{count_at}
use Rattle.rules.specs.Tools.{holding, some_below, first_number, tabulate}
use Rattle.rules.specs.Heap.{is_power_from, is_blocks, first_in, size_from, exponent_from, exponent, chunk_free, lowest_from, lowest_free, ref_in, first_at, in_data, ref_at}
use Rattle.rules.specs.Damage.{end_on_free, open_end, unaligned, bad_cell, bad_root, bad_count, stray_data, damage}
use Rattle.rules.specs.Sections.{largest_free, figure, figures, suffices_from}
use Rattle.rules.specs.Evidence.SmallHeaps.{eight_blocks, cell_holding, root_holding}
use Rattle.rules.specs.Evidence.HeapCases.{damage_cases, chunk_cases, section_cases}
use Rattle.rules.specs.Evidence.HeapCases.{figures_of_bytes, figures_of_sections, expected_of_sections, sizes_of_heaps}

pub damage_holds : map (λ c. damage 8 2 c.0) damage_cases ≡ map (λ c. c.1) damage_cases
unfolding bit_at count_below count_at first_in size_from exponent_from exponent ref_in first_at in_data ref_at holding some_below end_on_free open_end unaligned bad_cell bad_root bad_count stray_data first_number damage eight_blocks cell_holding root_holding damage_cases
damage_holds = refl

pub chunks_hold : map (λ c. lowest_free 8 c.0.0 (c.0.1 ∷ [])) chunk_cases ≡ map (λ c. c.1) chunk_cases
unfolding bit_at chunk_free lowest_from lowest_free chunk_cases
chunks_hold = refl

pub sections_hold : map (λ c. suffices_from (length c.0.0) c.0.0 c.0.1 0) section_cases ≡ map (λ c. c.1) section_cases
unfolding suffices_from section_cases
sections_hold = refl

-- the figures of request U4
pub figures_of_bytes_lem : map (λ c. figure 8 (c.0 ∷ []) 0) figures_of_bytes ≡ map (λ c. c.1) figures_of_bytes
unfolding bit_at exponent_from exponent chunk_free largest_free figure figures_of_bytes
figures_of_bytes_lem = refl

pub figures_of_sections_lem : figures_of_sections ≡ expected_of_sections
unfolding bit_at exponent_from exponent chunk_free largest_free figure tabulate figures figures_of_sections expected_of_sections
figures_of_sections_lem = refl

-- and which numbers of blocks a heap may have, with request U12
pub sizes_hold : map (λ c. is_blocks c.0) sizes_of_heaps ≡ map (λ c. c.1) sizes_of_heaps
unfolding is_power_from sizes_of_heaps
sizes_hold = refl
