-- The definitions of request U8 give what their cases say, by computation.
use mathlib.Core.Path.{◌≡◌, refl}
use Prim.Native.Nat.{ℕ}
use mathlib.Core.List.{List, map}
use Rattle.bitmap.specs.Bit.{bit_at, set_bit, fill_bits, count_below}
use Rattle.planes.specs.Plane.{count_at, set_count}
use Rattle.rules.specs.Tools.{holding, some_below, is_some, tabulate}
use Rattle.rules.specs.Heap.{first_in, size_from, ref_in, first_at, in_data, ref_at}
use Rattle.rules_stores.specs.Store.{count_up, count_down, count_down_each, clear_cells, freed, naming_cells, release, let_go, put_root, put_cell}
use Rattle.rules_stores.specs.Store.{change_root, change_cell, placed, allocate_in}
use Rattle.rules_stores.specs.Collection.{swept}
use Rattle.rules_steps.specs.Steps.{names, is_listed, map_of, rising, list_of, with_progress, with_none, bad_next, bad_place, stray_mark, root_missed, cell_missed}
use Rattle.rules_steps.specs.Steps.{is_untidy, root_names, opened, progress_of, lowest, scanned, steps_from, to_survivor, survivors_down, survivors_let_go}
use Rattle.rules_steps.specs.Steps.{unmarked_freed, closed, closes, stepped, was_marked, named_by_freed, marks_after, list_after, shaded}
use Rattle.rules_steps.specs.Steps.{store_root_shading, store_cell_shading, allocate_shading, clear_shading, return_shading}
use Rattle.rules.specs.Evidence.SmallHeaps.{eight_blocks, cell_holding, root_holding}
use Rattle.rules_steps.specs.Evidence.MarkCases.{open_list, no_list, half}
use Rattle.rules_steps.specs.Evidence.MarkCases.{untidy_cases, progress_told, opening, three, stepping, progress_cases, closing, close_cases, shading_cases}

pub untidy_holds : map (λ c. is_untidy 8 c.0) untidy_cases ≡ map (λ c. c.1) untidy_cases
unfolding bit_at first_in size_from ref_in first_at in_data ref_at holding some_below names is_listed bad_next bad_place stray_mark root_missed cell_missed is_untidy eight_blocks cell_holding root_holding open_list no_list half untidy_cases
untidy_holds = refl

pub progress_holds : map (λ c. c.0) progress_cases ≡ map (λ c. c.1) progress_cases
unfolding bit_at set_bit fill_bits count_below count_at set_count first_in size_from ref_in first_at in_data ref_at holding some_below is_some tabulate count_down count_down_each clear_cells freed naming_cells release swept names is_listed map_of rising list_of with_progress with_none root_names opened progress_of lowest scanned steps_from to_survivor survivors_down survivors_let_go unmarked_freed closed closes stepped eight_blocks cell_holding root_holding open_list no_list half progress_told opening three stepping progress_cases
progress_holds = refl

pub closes_hold : map (λ c. c.0) close_cases ≡ map (λ c. c.1) close_cases
unfolding bit_at set_bit fill_bits count_at set_count first_in size_from ref_in first_at in_data ref_at count_down count_down_each clear_cells freed naming_cells release swept with_none to_survivor survivors_down survivors_let_go unmarked_freed closed eight_blocks cell_holding root_holding open_list no_list progress_told opening closing close_cases
closes_hold = refl

pub shadings_hold : map (λ c. c.0) shading_cases ≡ map (λ c. c.1) shading_cases
unfolding bit_at set_bit fill_bits count_below count_at set_count first_in size_from ref_in first_at in_data ref_at holding some_below count_up count_down count_down_each clear_cells freed naming_cells release let_go put_root put_cell change_root change_cell placed allocate_in names is_listed map_of rising list_of with_progress was_marked named_by_freed marks_after list_after shaded store_root_shading store_cell_shading allocate_shading clear_shading return_shading eight_blocks cell_holding root_holding open_list no_list progress_told opening three shading_cases
shadings_hold = refl
