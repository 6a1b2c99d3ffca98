-- While a collection is open on a usable heap, its second list is one, and what stands on it is marked.
use Prim.Native.Nat.{ℕ}
use Rattle.rules.specs.Heap.{Memory}
use Rattle.rules_steps.specs.Steps.{is_listed}
use Rattle.step_list.specs.Lists.{listed_in}
use Rattle.step_release.specs.Left.{Listable}
use Rattle.theory_memories.specs.Heaps.{Usable}
use Rattle.theory_memories.proofs.Memories.TidyHeap.{list_is, tidy_facts}
use Rattle.theory.proofs.Usable.UsableHeap.{usable_fit}

pub usable_listable : {N w : ℕ} {h : Memory} → Usable N w h → Listable N h
unfolding listed_in is_listed
usable_listable {N} {w} {h} usable was_open =
    let fit = usable_fit usable in
    record {
      form = list_is N w h fit.healthy was_open fit.tidy;
      marked = λ i l e. (tidy_facts N w h fit.healthy was_open fit.tidy).listed_marked i e;
    }
