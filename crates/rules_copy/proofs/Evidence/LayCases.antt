-- The definitions of request U14 give what their cases say, by computation.
use mathlib.Core.Path.{◌≡◌, refl}
use mathlib.Core.List.{List, map}
use Rattle.bitmap.specs.Bit.{bit_at, set_bit, fill_bits, count_below}
use Rattle.planes.specs.Plane.{count_at, set_count}
use Rattle.rules.specs.Tools.{holding, some_below, tabulate}
use Rattle.rules.specs.Heap.{first_in, size_from, exponent_from, exponent, chunk_free, lowest_from, lowest_free, ref_in, first_at, in_data, ref_at}
use Rattle.rules_stores.specs.Store.{formatted, clear_cells, freed}
use Rattle.rules_stores.specs.Collection.{is_cell_of, cell_of_chosen, references_from, reached_next, reached_in, reached, swept, recounted, collected}
use Rattle.rules_output.specs.Walk.{number_in, object_at, meet, meet_each, walk, references_of, followed, numbered}
use Rattle.rules_copy.specs.Copy.{lay_one, lay_next, lay_first, lay_all, places_in, new_reference, new_cell, fill_cells, copy_one, copy_first, copy_all, copied}
use Rattle.rules.specs.Evidence.SmallHeaps.{eight_blocks, cell_holding, root_holding}
use Rattle.rules_copy.specs.Evidence.LayCases.{apart, close_by, lay_cases, copy_told, copied_cases}

pub lays_hold : map (λ c. lay_all 8 c.0 8) lay_cases ≡ map (λ c. c.1) lay_cases
unfolding bit_at set_bit fill_bits first_in size_from exponent_from exponent chunk_free lowest_from lowest_free first_at in_data ref_at tabulate number_in object_at meet meet_each walk references_of followed numbered lay_one lay_next lay_first lay_all eight_blocks cell_holding root_holding apart close_by lay_cases
lays_hold = refl

pub copied_holds : map (λ c. c.0) copied_cases ≡ map (λ c. c.1) copied_cases
unfolding bit_at set_bit fill_bits count_below count_at set_count first_in size_from exponent_from exponent chunk_free lowest_from lowest_free ref_in first_at in_data ref_at holding some_below tabulate formatted clear_cells freed is_cell_of cell_of_chosen references_from reached_next reached_in reached swept recounted collected number_in object_at meet meet_each walk references_of followed numbered lay_one lay_next lay_first lay_all places_in new_reference new_cell fill_cells copy_one copy_first copy_all copied eight_blocks cell_holding root_holding apart close_by copy_told copied_cases
copied_holds = refl
