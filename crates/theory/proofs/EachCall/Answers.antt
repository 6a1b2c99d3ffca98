-- What is asked of one call holds of every call, whatever its arguments, on every fit memory, and leaves it fit.
use mathlib.Core.Path.{refl}
use mathlib.Core.Bool.{true, false}
use Prim.Native.Nat.{ℕ}
use Rattle.rules.specs.Heap.{Memory}
use Rattle.rules_calls.specs.Calls.{Call, format, check, collect, free_blocks, allocate, store_root, store_cell, look, return_roots, open_collection, take_steps}
use Rattle.rules_calls.specs.Calls.{allocate_data, write_number, read_number, write_reason, write_shape, outcome, answer}
use Rattle.rules_calls.specs.Calls.{copy_from, copy_into}
use Rattle.rules_calls.proofs.Replies.{answer_either, Passed, passed}
use Rattle.theory_memories.proofs.Memories.Fit.{Fit}
use Rattle.theory.proofs.EachCall.Served.{no_collection, Served, unchanged, refused_served, number_served, format_served}
use Rattle.theory.proofs.EachCall.StoresServed.{store_root_served, store_cell_served, allocate_served}
use Rattle.theory.proofs.EachCall.Shading.{Sized, shape_sized, settled_beside, freeing_beside, store_root_shading_lem, store_cell_shading_lem}
use Rattle.theory.proofs.EachCall.Shading.{allocate_shading_lem, return_shading_lem}
use Rattle.theory.proofs.EachCall.StepsServed.{open_served, steps_served}
use Rattle.theory.proofs.EachCall.TidyKept.{answer_tidy}
use Rattle.theory.proofs.EachCall.ReturnsServed.{return_served}
use Rattle.theory.proofs.EachCall.CollectionServed.{collect_served}
use Rattle.theory.proofs.EachCall.CopyServed.{copy_served}
use Rattle.theory.proofs.EachCall.TrueList.{answer_listed}

module _ (N w : ℕ) (h : Memory) (fit : Fit N w h) where
  sized : Sized N h
  sized = shape_sized N w h fit.healthy.shape

  outcome-served : (c : Call) → Passed N h c → Served N w c h (outcome N w h c)
  unfolding outcome Passed
  outcome-served format p = format_served N w h fit.healthy
  outcome-served check p = unchanged N w h fit.healthy check _ (no_collection check refl)
  outcome-served free_blocks p = unchanged N w h fit.healthy free_blocks _ (no_collection free_blocks refl)
  outcome-served collect p = collect_served N w h fit.healthy
  outcome-served (allocate n r) (low, high, place, found) =
      settled_beside N w (allocate n r) h _ refl _ _ (allocate_shading_lem N w h sized false n r _)
      (allocate_served N w h fit.healthy n r _ low high place found false _)
  outcome-served (store_root r v) (place, ref) =
      freeing_beside N w (store_root r v) h _ _ _ refl (store_root_shading_lem N w h sized r v)
      (store_root_served N w h fit.healthy r v place ref _)
  outcome-served (store_cell a j v) (first, place, ordinary, ref) =
      freeing_beside N w (store_cell a j v) h _ _ _ refl (store_cell_shading_lem N w h sized a j v)
      (store_cell_served N w h fit.healthy a j v first place ordinary ref _)
  outcome-served (look a) p = unchanged N w h fit.healthy (look a) _ (no_collection (look a) refl)
  outcome-served (return_roots chosen) p =
      freeing_beside N w (return_roots chosen) h _ _ _ refl (return_shading_lem N w h sized chosen _) (return_served N w h fit.healthy chosen)
  outcome-served (allocate_data n r) (low, high, place, found) =
      settled_beside N w (allocate_data n r) h _ refl _ _ (allocate_shading_lem N w h sized true n r _)
      (allocate_served N w h fit.healthy n r _ low high place found true _)
  outcome-served (write_number a j x) (first, place, made) = number_served N w h fit.healthy a j x first place made
  outcome-served (read_number a j) p = unchanged N w h fit.healthy (read_number a j) _ (no_collection (read_number a j) refl)
  outcome-served (write_reason a room) p = unchanged N w h fit.healthy (write_reason a room) _ (no_collection (write_reason a room) refl)
  outcome-served (write_shape room) p = unchanged N w h fit.healthy (write_shape room) _ (no_collection (write_shape room) refl)
  outcome-served open_collection p = open_served N w h fit.healthy
  outcome-served (take_steps budget) p = steps_served N w h fit p budget _
  outcome-served (copy_into M v second) p = unchanged N w h fit.healthy (copy_into M v second) _ (no_collection (copy_into M v second) refl)
  outcome-served (copy_from K u first) p = copy_served N w h fit.healthy.shape K u first p

  pub answer-served : (c : Call) → Served N w c h (answer N w h c)
  answer-served c =
      answer_either N w h c (λ x. Served N w c h x) (refused_served N w h fit.healthy c _) (λ e. outcome-served c (passed N w h c e))

-- and it leaves the memory fit
pub answer-fit : (N w : ℕ) (h : Memory) → Fit N w h → (c : Call) → Fit N w (answer N w h c).1
answer-fit N w h fit c =
    record { healthy = (answer-served N w h fit c).keep; listed = answer_listed N w h fit.listed c; tidy = answer_tidy N w h fit c }
