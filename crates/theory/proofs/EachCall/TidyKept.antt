-- Every call leaves the mark map and the second list as they have to be: number 13 does not come to apply
-- (request U8).
use mathlib.Core.Path.{◌≡◌, refl, sym, ap, ◌∙◌, subst}
use mathlib.Core.Bool.{Bool, true, false}
use mathlib.Core.List.{List, [], ◌∷◌}
use mathlib.Core.Logic.{inl, inr}
use mathlib.Core.Option.{some}
use Prim.Native.Nat.{ℕ, zero, suc, ◌+◌, ◌*◌, ◌≤◌, ◌<◌}
use native.Mathlib.Omega.{arith}
use lib.Dec.{eqb}
use lib.ListN.{length, get_or, set}
use Rattle.rules.specs.Heap.{Memory, with_cells, with_roots, is_first, size_at, exponent, lowest_free, is_data}
use Rattle.rules_stores.specs.Collection.{marked, collected}
use Rattle.rules_stores.specs.Store.{formatted, change_root, change_cell, placed, allocate_in, is_chosen}
use Rattle.rules_stores.proofs.Plain.{store_root_in, store_cell_in, clear_chosen, return_in}
use Rattle.rules_steps.specs.Steps.{is_open, is_untidy, with_none, with_progress, root_names, opened, Progress, progress_of, steps_from, closed, closes, stepped}
use Rattle.rules_steps.specs.Steps.{shaded, store_root_shading, store_cell_shading, allocate_shading, clear_shading, return_shading}
use Rattle.rules_calls.specs.Calls.{Call, format, check, collect, free_blocks, allocate, store_root, store_cell, look, return_roots, open_collection, take_steps}
use Rattle.rules_calls.specs.Calls.{allocate_data, write_number, read_number, write_reason, write_shape, settled, freeing, outcome, answer}
use Rattle.rules_calls.specs.Calls.{copy_from, copy_into}
use Rattle.rules.proofs.Tests.{test_cases_lem}
use Rattle.rules_calls.proofs.Replies.{answer_either, Passed, passed}
use Rattle.rules_calls.proofs.Unread.{Keeps, store_root_keeps, change_cell_keeps, allocate_keeps, return_keeps, collect_keeps}
use Rattle.theory_graphs.proofs.Graphs.Tidy.{Tidy}
use Rattle.theory_memories.proofs.Memories.View.{view}
use Rattle.theory_memories.proofs.Memories.Fit.{Fit}
use Rattle.theory_memories.proofs.Memories.TidyHeap.{tidy_passes, settled_untidy, read_untidy, none_passes, closed_passes}
use Rattle.theory_memories.proofs.Memories.Scanning.{steps_from_open, opened_tidy}
use Rattle.theory.proofs.EachCall.Served.{number_references}
use Rattle.theory_copies.proofs.Copies.Accepted.{copy_fit}
use Rattle.theory.proofs.EachCall.Open.{Open, root_goes, cell_goes, allocate_goes, return_goes}

-- ---- with none open nothing is marked

pub shaded_none : (N : ℕ) (h k : Memory) (touched : List ℕ) (g : Memory) → is_open N h ≡ false → shaded N h k touched g ≡ g
unfolding shaded
shaded_none N h k touched g none = rw (none, shaded)

module _ (N w : ℕ) (h : Memory) (none : is_open N h ≡ false) where
  pub store_root_none : (r v : ℕ) → store_root_shading N w h r v ≡ store_root_in N w h r v
  unfolding store_root_shading store_root_in
  store_root_none r v =
      ap (λ (g : Memory). elim (eqb (get_or h.roots r 0) v) as (λ _. Memory) [ true ↦ h | false ↦ g ])
      (shaded_none N h (with_roots (set h.roots r v) h) (get_or h.roots r 0 ∷ v ∷ []) (change_root N w h r v) none)

  pub store_cell_none : (a j v : ℕ) → store_cell_shading N w h a j v ≡ store_cell_in N w h (4 * a + j) v
  unfolding store_cell_shading store_cell_in
  store_cell_none a j v =
      ap (λ (g : Memory). elim (eqb (get_or h.cells (4 * a + j) 0) v) as (λ _. Memory) [ true ↦ h | false ↦ g ])
      (shaded_none N h (with_cells (set h.cells (4 * a + j) v) h) ((a + 1) ∷ get_or h.cells (4 * a + j) 0 ∷ v ∷ []) (change_cell N w h (4 * a + j) v) none)

  pub allocate_none : (asData : Bool) (n r i : ℕ) → allocate_shading N w asData h n r i ≡ allocate_in N w asData h n r i
  unfolding allocate_shading
  allocate_none asData n r i =
      shaded_none N h (with_roots (set h.roots r (i + 1)) (placed N w asData h i n)) (get_or h.roots r 0 ∷ (i + 1) ∷ []) (allocate_in N w asData h n r i) none

-- a memory with the second list of one that has none open has none open
pub keeps_none : (N : ℕ) (h g : Memory) → Keeps h g → is_open N h ≡ false → is_open N g ≡ false
keeps_none N h g keeps none = ap (λ (l : List ℕ). eqb (get_or l N 0) 1) keeps.list ∙ none

pub return_none : (N w : ℕ) (h : Memory) → is_open N h ≡ false → (chosen n : ℕ) → return_shading N w h chosen n ≡ return_in N w h chosen n
unfolding return_shading return_in clear_shading clear_chosen
return_none N w h none chosen zero = refl
return_none N w h none chosen (suc n) =
    ap (λ (g : Memory). clear_shading N w g chosen n) (return_none N w h none chosen n)
    ∙ ap (λ (g : Memory). elim (is_chosen chosen n) as (λ _. Memory) [ true ↦ g | false ↦ return_in N w h chosen n ])
    (store_root_none N w (return_in N w h chosen n) (keeps_none N h (return_in N w h chosen n) (return_keeps N w h chosen n) none) n 0)

-- ---- the calls

module _ (N w : ℕ) (h : Memory) (fit : Fit N w h) where
  abbrev Tidied : Memory → Type 0
  Tidied g = is_untidy N g ≡ false

  finished : (g : Memory) → Tidied g → Tidied (settled N g)
  finished g e = settled_untidy N g ∙ e

  -- with none open the lists are kept
  kept : (g : Memory) → is_open N h ≡ false → Keeps h g → Tidied g
  kept g none keeps = none_passes N h g none keeps.marks keeps.list fit.tidy

  opened_heap : is_open N h ≡ true → Open N w h
  opened_heap e = record { healthy = fit.healthy; was_open = e; tidy = fit.tidy }

  -- g' is the memory that the call leaves, g what document 01's rules leave
  either : (g' g : Memory) → Keeps h g → (is_open N h ≡ false → g' ≡ g) → (is_open N h ≡ true → Tidied g') → Tidied (settled N g')
  either g' g keeps same tidied =
      finished g'
      (elim (test_cases_lem (is_open N h)) [
        | inl e ↦ tidied e
        | inr e ↦ subst (λ (k : Memory). Tidied k) (sym (same e)) (kept g e keeps)
      ])

  store_cell_keeps : (c v : ℕ) → Keeps h (store_cell_in N w h c v)
  unfolding store_cell_in
  store_cell_keeps c v = go (eqb (get_or h.cells c 0) v)
    where
      go : (t : Bool) → Keeps h (elim t [ true ↦ h | false ↦ change_cell N w h c v ])
      go true = record { marks = refl; list = refl }
      go false = change_cell_keeps N w h c v

  opens : Tidied (opened N h)
  unfolding opened
  opens = tidy_passes N w h fit.healthy (root_names h) (root_names h) (opened_tidy N w h fit.healthy)

  steps : (budget : ℕ) (p : Progress) → Tidy (length h.roots) (view N w h) (marked p.marks) (marked p.list)
      → Tidied (stepped N w h budget p)
  unfolding stepped closed
  steps budget p tidy = pick (closes budget p)
    where
      pick : (t : Bool) → Tidied (elim t [ true ↦ closed N w p.marks h | false ↦ with_progress N (marked p.marks) (marked p.list) h ])
      pick true = closed_passes N _
      pick false = tidy_passes N w h fit.healthy (marked p.marks) (marked p.list) tidy

  allocates :
      (asData : Bool) (n r i : ℕ) → 1 ≤ n → n ≤ N → r < length h.roots → lowest_free N (exponent n) h.a ≡ some i
      → Tidied (settled N (allocate_shading N w asData h n r i))
  allocates asData n r i low high place found =
      either (allocate_shading N w asData h n r i) (allocate_in N w asData h n r i) (allocate_keeps N w h asData n r i)
      (λ e. allocate_none N w h e asData n r i) (λ e. (allocate_goes N w h (opened_heap e) asData n r i low high place found).after.tidy)

  -- a number write changes no reference (request U6)
  numbers :
      (a j x : ℕ) → is_first N h a ≡ true → j < 4 * size_at N h a → is_data h.d a ≡ true
      → Tidied (with_cells (set h.cells (4 * a + j) x) h)
  numbers a j x first place made =
      read_untidy N h (set h.cells (4 * a + j) x) (number_references N w h fit.healthy a j x first place made) ∙ fit.tidy

  outcome_tidy : (c : Call) → Passed N h c → Tidied (outcome N w h c).1
  unfolding outcome freeing Passed formatted with_none
  outcome_tidy format p = closed_passes N (formatted N w (length h.roots))
  outcome_tidy (copy_into M v second) p = fit.tidy
  outcome_tidy (copy_from K u first) p = (copy_fit N w h fit.healthy.shape K u first p).tidy
  outcome_tidy check p = fit.tidy
  outcome_tidy free_blocks p = fit.tidy
  outcome_tidy (look a) p = fit.tidy
  outcome_tidy collect none = finished (collected N w h) (kept (collected N w h) none (collect_keeps N w h))
  outcome_tidy (allocate n r) (low, high, place, found) = allocates false n r _ low high place found
  outcome_tidy (allocate_data n r) (low, high, place, found) = allocates true n r _ low high place found
  outcome_tidy (write_number a j x) (first, place, made) = numbers a j x first place made
  outcome_tidy (read_number a j) p = fit.tidy
  outcome_tidy (write_reason a room) p = fit.tidy
  outcome_tidy (write_shape room) p = fit.tidy
  outcome_tidy (store_root r v) (place, ref) =
      either (store_root_shading N w h r v) (store_root_in N w h r v) (store_root_keeps N w h r v) (λ e. store_root_none N w h e r v)
      (λ e. (root_goes N w h (opened_heap e) v ref r place).after.tidy)
  outcome_tidy (store_cell a j v) (first, place, ordinary, ref) =
      either (store_cell_shading N w h a j v) (store_cell_in N w h (4 * a + j) v) (store_cell_keeps (4 * a + j) v) (λ e. store_cell_none N w h e a j v)
      (λ e. (cell_goes N w h (opened_heap e) v ref a j first place ordinary).after.tidy)
  outcome_tidy (return_roots chosen) p =
      either (return_shading N w h chosen (length h.roots)) (return_in N w h chosen (length h.roots))
      (return_keeps N w h chosen (length h.roots)) (λ e. return_none N w h e chosen (length h.roots))
      (λ e. (return_goes N w h (opened_heap e) chosen (length h.roots) (omega arith)).after.tidy)
  outcome_tidy open_collection none = opens
  outcome_tidy (take_steps budget) was_open =
      finished (stepped N w h budget (steps_from budget N h (progress_of N h)).reached)
      (steps budget (steps_from budget N h (progress_of N h)).reached (steps_from_open N w h fit.healthy was_open fit.tidy budget).tidy)

  pub answer_tidy : (c : Call) → Tidied (answer N w h c).1
  answer_tidy c = answer_either N w h c (λ x. Tidied x.1) (λ number nonzero. fit.tidy) (λ e. outcome_tidy c (passed N w h c e))
