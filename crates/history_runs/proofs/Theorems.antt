-- The statements of specs/Theory.antt, proved.
use mathlib.Core.Path.{◌≡◌, refl, ap, ◌∙◌, subst}
use mathlib.Core.Bool.{true}
use mathlib.Core.List.{List, [], ◌∷◌}
use Prim.Native.Nat.{ℕ, ◌/◌}
use native.Mathlib.Omega.{arith}
use lib.ListN.{replicate, length-replicate}
use Rattle.bitmap.proofs.Zeros.{zeros_all_zero}
use Rattle.rules.specs.Heap.{Memory, shaped, with_waiting}
use Rattle.rules_stores.specs.Store.{formatted}
use Rattle.rules_calls.specs.Calls.{last_memory}
use Rattle.rules.proofs.Shape.{shape_facts}
use Rattle.theory_memories.specs.Words.{heap_of}
use Rattle.theory.specs.CallWords.{Made, left_by}
use Rattle.theory.specs.Demand.{Chain}
use Rattle.theory_memories.specs.Heaps.{Undamaged}
use Rattle.theory.proofs.Theorems.{theory}
use Rattle.history_records.specs.Records.{wide}
use Rattle.history_figures.specs.Figures.{new_run}
use Rattle.history_turns.proofs.Stopped.{stands_as_before, stops_while_open}
use Rattle.history_runs.specs.Runs.{ran}
use Rattle.history_runs.specs.Claims.{NewHeapUnused, HistoryBalances}
use Rattle.history_runs.specs.Promised.{cleared, RunIsCalls}
use Rattle.history_runs.specs.Theory.{HistoryTheory}
use Rattle.history_runs.proofs.CallsMade.{runs_are_calls}
use Rattle.history_runs.proofs.WholeRecords.{pieces_are_whole}
use Rattle.history_runs.proofs.TwoCalls.{left as run_left, calls_are_one}

-- ---- on a new heap

new_heap_unused : NewHeapUnused
unfolding formatted
new_heap_unused N w roots fits =
    omega (arith, zeros_all_zero (N / 8), (shape_facts N w (formatted N w roots) fits).whole_bytes)

pub new_heap_undamaged : (N w roots : ℕ) → shaped N w (formatted N w roots) ≡ true → Undamaged N w (formatted N w roots)
unfolding formatted
new_heap_undamaged N w roots fits =
    subst (λ (n : ℕ). Undamaged N w (formatted N w n)) (length-replicate roots 0)
    (theory.format_makes_undamaged N w (formatted N w roots) fits)

history_balances : HistoryBalances
history_balances N w roots fits bytes =
    let all = runs_are_calls N w bytes (formatted N w roots) new_run (new_heap_undamaged N w roots fits) in
    omega (arith, all.allocated, all.balance, new_heap_unused N w roots fits)

-- ---- behind a list of calls

module _ (N w : ℕ) (k left : Memory) (same : heap_of k ≡ heap_of left) where
  -- calls made on a heap were made on every memory with that heap
  same_chain : {made : List Made} → Chain N w k made → Chain N w left made
  same_chain Chain.none = Chain.none
  same_chain (Chain.next finds promise rest) =
      Chain.next (record { same_heap = finds.same_heap ∙ same; space = finds.space }) promise rest

  -- .. and leave the same heap
  same_left : (made : List Made) → heap_of (left_by k made) ≡ heap_of (left_by left made)
  unfolding last_memory
  same_left [] = same
  same_left (m ∷ made) = refl

run_is_calls : RunIsCalls
run_is_calls N w left h bytes r x after finds promised accepts =
    let made : List Made = (ran wide N w bytes (cleared N h) r).made in
    let all = promised.calls accepts in
    let heap : heap_of after ≡ heap_of (left_by left made) =
    ap (λ (g : Memory). heap_of g) (run_left N w bytes h r x after promised accepts ∙ all.memory_is)
    ∙ same_left N w (cleared N h) left finds.same_heap made in (
      same_chain N w (cleared N h) left finds.same_heap all.chain,
      ap (λ (l : List ℕ). with_waiting l after) (promised.idle accepts) ∙ ap (with_waiting (replicate N 0)) heap,
    )

pub history_theory : HistoryTheory
history_theory =
    record {
      runs_are_calls = runs_are_calls;
      run_is_calls = run_is_calls;
      pieces_are_whole = pieces_are_whole;
      calls_are_one = calls_are_one;
      new_heap_unused = new_heap_unused;
      history_balances = history_balances;
      stands_as_before = stands_as_before;
      stops_while_open = stops_while_open;
    }
