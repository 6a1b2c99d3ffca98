-- What the rules give for a case, by computation.
use Prim.Native.Nat.{ℕ}
use mathlib.Core.List.{List}
use Rattle.bitmap.specs.Bit.{bit_at, set_bit, fill_bits, count_below, zeros}
use Rattle.planes.specs.Plane.{count_at, set_count}
use Rattle.rules.specs.Tools.{all, holding, some_below, first_number, is_some, tabulate}
use Rattle.rules.specs.Heap.{is_power_from, shape, first_in, size_from, exponent_from, exponent, chunk_free, lowest_from, lowest_free, ref_in, first_at, in_data, ref_at}
use Rattle.rules.specs.Damage.{end_on_free, open_end, unaligned, bad_cell, bad_root, bad_count, stray_data, damage}
use Rattle.rules.specs.Sections.{largest_free, figure, figures, stale_figures}
use Rattle.rules_stores.specs.Store.{formatted, count_up, sticks, count_down, count_down_each, clear_cells, freed, naming_cells, release, let_go, put_root, put_cell, change_root, change_cell, store_sticks, placed, allocate_in}
use Rattle.rules_stores.specs.Collection.{is_cell_of, cell_of_chosen, references_from, reached_next, reached_in, reached, swept, recounted, collected}
use Rattle.rules_steps.specs.Steps.{names, is_listed, map_of, rising, list_of, with_progress, with_none, bad_next, bad_place, stray_mark, root_missed, cell_missed, is_untidy, root_names, opened, progress_of, lowest, scanned, steps_from, to_survivor, survivors_down, survivors_let_go, unmarked_freed, closed, closes, stepped, was_marked, named_by_freed, marks_after, list_after, shaded, store_root_shading, store_cell_shading, allocate_shading, clear_shading, return_shading}
use Rattle.rules_output.specs.Walk.{number_in, object_at, meet, meet_each, walk, references_of, followed, numbered}
use Rattle.rules_copy.specs.Copy.{lay_one, lay_next, lay_first, lay_all, places_in, all_laid, new_reference, new_cell, fill_cells, copy_one, copy_first, copy_all, copied}
use Rattle.rules_calls.specs.Calls.{own_refusals, refusals, refused_with, freeing, outcome, answer, run, last_memory}
use Rattle.rules_calls.specs.Evidence.Forms.{Case, fresh, fresh_but, given, expected}
use Rattle.text.specs.Text.{decimal_in, decimal}
use Rattle.rules_output.specs.Shape.{cells_of, described, joined, shape_of}
use Rattle.rules_output.specs.Reason.{lowest_of, first_of, cells_to, chain_of, best_chain, chain_to, reason_from}
use Rattle.rules_output.specs.Sentence.{links, sentence, sentence_for}
use Rattle.rules_calls.specs.Promise.{output_after}
use Rattle.types.specs.declared.Reply.{Reply}

-- what the rules give for a case: to unfold this is to open every rule
unfoldable pub computed : Case → List Reply × ℕ × ℕ
unfolding bit_at set_bit fill_bits count_below zeros count_at set_count is_power_from all shape first_in size_from exponent_from exponent chunk_free lowest_from lowest_free ref_in first_at in_data ref_at holding some_below end_on_free open_end unaligned bad_cell bad_root bad_count stray_data first_number damage largest_free figure figures stale_figures formatted count_up sticks count_down count_down_each clear_cells freed naming_cells release let_go put_root put_cell change_root change_cell store_sticks placed allocate_in is_cell_of cell_of_chosen references_from tabulate reached_next reached_in reached swept recounted collected is_some names is_listed map_of rising list_of with_progress with_none bad_next bad_place stray_mark root_missed cell_missed is_untidy root_names opened progress_of lowest scanned steps_from to_survivor survivors_down survivors_let_go unmarked_freed closed closes stepped was_marked named_by_freed marks_after list_after shaded store_root_shading store_cell_shading allocate_shading clear_shading return_shading own_refusals refusals refused_with freeing outcome answer run fresh fresh_but last_memory given expected decimal_in decimal number_in object_at meet meet_each walk references_of followed numbered cells_of described joined shape_of lowest_of first_of cells_to chain_of best_chain chain_to reason_from links sentence sentence_for output_after lay_one lay_next lay_first lay_all places_in all_laid new_reference new_cell fill_cells copy_one copy_first copy_all copied
computed c = given c
