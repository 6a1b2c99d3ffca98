-- The copy into a heap (request U14) serves: it leaves a healthy memory, and nothing that stood there lives on.
use mathlib.Core.Path.{refl}
use mathlib.Core.Bool.{true, false, true≢false}
use Prim.Native.Nat.{ℕ}
use lib.ListN.{length}
use Rattle.rules.specs.Heap.{Memory}
use Rattle.rules_copy.specs.Copy.{copied}
use Rattle.rules_calls.specs.Calls.{copy_from, reply, settled, accepted}
use Rattle.rules_calls.proofs.Replies.{CopyPassed}
use Rattle.rules.proofs.Shape.{Shaped}
use Rattle.theory.specs.CallWords.{written, stored}
use Rattle.theory_memories.proofs.Memories.Formatted.{zeros_at}
use Rattle.theory.proofs.EachCall.Served.{no_collection, Served, no_roots}
use Rattle.theory_copies.proofs.Copies.Accepted.{copy_fit}

pub copy_served :
    (N w : ℕ) (h : Memory) → Shaped N w h → (K u : ℕ) (first : Memory) → CopyPassed N h K u first → {value : ℕ}
    → Served N w (copy_from K u first) h (accepted (settled N (copied K first N w)) value)
unfolding stored written
copy_served N w h shape K u first p {value} =
    record {
      keep = (copy_fit N w h shape K u first p).healthy;
      no_early_free = λ b n object leads.
          absurd (no_roots N (stored h (copy_from K u first) (reply 0 value 0)) (λ r. zeros_at (length h.roots) r) leads);
      collects = no_collection (copy_from K u first) refl;
      sticks = λ living. absurd (true≢false living);
    }
