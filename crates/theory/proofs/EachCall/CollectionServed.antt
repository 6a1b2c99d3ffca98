-- The collection serves.
use Prim.Native.Nat.{ℕ}
use Rattle.rules.specs.Heap.{Memory}
use Rattle.rules_stores.specs.Collection.{collected}
use Rattle.rules_calls.specs.Calls.{collect, freeing}
use Rattle.theory.specs.CallWords.{written, stored}
use Rattle.theory_memories.proofs.Memories.Healthy.{Healthy}
use Rattle.theory_memories.proofs.Memories.Collected.{led_stays, collected_exact, unstuck, collected_healthy}
use Rattle.theory.proofs.EachCall.Served.{Served}

pub collect_served : (N w : ℕ) (h : Memory) → Healthy N w h → Served N w collect h (freeing N h (collected N w h) 0)
unfolding freeing stored written
collect_served N w h healthy =
    record {
      keep = collected_healthy N w h healthy;
      no_early_free = led_stays N w h healthy;
      collects = λ _ accepted. collected_exact N w h healthy;
      sticks = λ living b n was is low top. absurd (unstuck N w h healthy b was.first is.first low top);
    }
