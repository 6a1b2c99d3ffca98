-- The statements of specs/Theory.antt, proved.
use mathlib.Core.Path.{◌≡◌, refl, ap, ◌∙◌}
use mathlib.Core.List.{List, [], ◌∷◌}
use Prim.Native.Nat.{ℕ}
use lib.ListN.{replicate}
use Rattle.rules.specs.Heap.{Memory, with_waiting}
use Rattle.rules_calls.specs.Calls.{last_memory}
use Rattle.theory_memories.specs.Words.{heap_of}
use Rattle.theory.specs.CallWords.{Made, left_by}
use Rattle.theory.specs.Demand.{Chain}
use Rattle.replay_batch.specs.Batch.{BatchIsCalls}
use Rattle.replay_batch.specs.Theory.{BatchTheory}

module _ (N w : ℕ) (k left : Memory) (same : heap_of k ≡ heap_of left) where
  -- calls made on a heap were made on every memory with that heap
  same_chain : {made : List Made} → Chain N w k made → Chain N w left made
  same_chain Chain.none = Chain.none
  same_chain (Chain.next finds promise rest) =
      Chain.next (record { same_heap = finds.same_heap ∙ same; space = finds.space }) promise rest

  -- .. and leave the same heap
  same_left : (made : List Made) → heap_of (left_by k made) ≡ heap_of (left_by left made)
  unfolding last_memory
  same_left [] = same
  same_left (m ∷ made) = refl

batch_is_calls : BatchIsCalls
batch_is_calls N w left h words replies x after replies' finds batch accepts =
    let start : Memory = with_waiting (replicate N 0) h in
    let ran = batch.ran accepts in
    let heap : heap_of after ≡ heap_of (left_by left ran.made) =
    ap (λ (g : Memory). heap_of g) ran.left_is ∙ same_left N w start left finds.same_heap ran.made in (
      ran.made,
      ran.calls_are,
      same_chain N w start left finds.same_heap ran.chain,
      ap (λ (l : List ℕ). with_waiting l after) (batch.usable accepts).idle ∙ ap (with_waiting (replicate N 0)) heap,
    )

pub batch_theory : BatchTheory
batch_theory = record { batch_is_calls = batch_is_calls }
