-- The N steps that the rules give a release are enough: nothing waits when they are used up, so more steps would change nothing.
use mathlib.Core.Path.{◌≡◌, refl, ap}
use mathlib.Core.List.{List, [], ◌∷◌}
use Prim.Native.Nat.{ℕ, zero, suc, ◌+◌, ◌≤◌}
use native.Mathlib.Omega.{arith}
use Rattle.rules.specs.Heap.{Memory}
use Rattle.rules_stores.specs.Store.{freed, work_after, memory_after, release}
use Rattle.theory_graphs.proofs.Graphs.Occurrences.{occurrences}
use Rattle.theory_graphs.proofs.Graphs.Balance.{waits_bound, waits_head, fewer}
use Rattle.theory_memories.proofs.Maps.Extents.{sizes_of, length_sizes_of}
use Rattle.theory_memories.proofs.Memories.View.{view}
use Rattle.theory_memories.proofs.Memories.ViewRelease.{Releasing, releasing_next, sizes_after}

steps_left :
    (N w fuel steps : ℕ) (h : Memory) (stack : List ℕ) → Releasing N w h stack → N ≤ occurrences 0 (sizes_of N h.a h.b) + fuel
    → fuel ≤ steps → release steps N w h stack ≡ release fuel N w h stack
unfolding release freed
steps_left N w zero zero h stack before f l = refl
steps_left N w zero (suc steps) h [] before f l = refl
steps_left N w zero (suc steps) h (x ∷ rest) before f l =
    absurd (omega (arith, waits_bound (x ∷ rest) (view N w h) before.waits, length_sizes_of N h.a h.b))
steps_left N w (suc fuel) zero h stack before f l = absurd (omega arith)
steps_left N w (suc fuel) (suc steps) h [] before f l = refl
steps_left N w (suc fuel) (suc steps) h (x ∷ rest) before f l =
    steps_left N w fuel steps (memory_after N w h x rest) (work_after N w h x rest).stack (releasing_next N w h x rest before)
    (omega (
      arith,
      fewer (view N w h) x (waits_head (view N w h) x rest before.waits).0,
      ap (occurrences 0) (sizes_after N w h x rest before),
    ))
    (omega arith)

-- more than N steps change nothing
pub steps_suffice :
    (N w steps : ℕ) (h : Memory) (stack : List ℕ) → Releasing N w h stack → N ≤ steps → release steps N w h stack ≡ release N N w h stack
steps_suffice N w steps h stack before enough = steps_left N w N steps h stack before (omega arith) enough
