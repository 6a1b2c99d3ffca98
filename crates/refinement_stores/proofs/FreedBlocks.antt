-- The number of blocks that letting go frees, counted along its release, is the growth of the A-map's zeros.
use mathlib.Core.Path.{◌≡◌, ap}
use mathlib.Core.List.{List, [], ◌∷◌}
use Prim.Native.Nat.{ℕ, zero, suc, ◌+◌}
use native.Mathlib.Omega.{arith}
use Rattle.bitmap.specs.Bit.{zeros}
use Rattle.rules.specs.Heap.{Memory}
use Rattle.rules_stores.specs.Store.{freed, release, let_go}
use Rattle.release.specs.Blocks.{part, released_blocks, let_go_blocks}
use Rattle.release.proofs.OtherBuffers.{let_go_beside, let_go_blocks_beside}
use Rattle.theory_memories.proofs.Memories.ViewRelease as view-release
use Rattle.theory_memories.proofs.Memories.ViewRelease.{Releasing, releasing_next}
use Rattle.refinement_stores.proofs.Shaded.{down_in, start_of}

pub release_zeros :
    (N w fuel : ℕ) {h : Memory} {stack : List ℕ} → Releasing N w h stack
    → zeros (release fuel N w h stack).a ≡ zeros h.a + released_blocks fuel N w h stack
unfolding release released_blocks freed
release_zeros N w zero before = omega arith
release_zeros N w (suc fuel) {stack = []} before = omega arith
release_zeros N w (suc fuel) {h} {stack = x ∷ rest} before =
    omega (arith, view-release.freed_zeros N w h x rest before, release_zeros N w fuel (releasing_next N w h x rest before))

-- `old` is let go in W, by code that knows a part of it
module _ (N w : ℕ) (W : Memory) (old : ℕ) (releasing : Releasing N w (start_of N w W old) (down_in N w W old).stack) where
  let_go_zeros : zeros (let_go N w W old).a ≡ zeros W.a + let_go_blocks N w W old
  unfolding let_go let_go_blocks
  let_go_zeros = release_zeros N w N releasing

  pub freed_zeros :
      (g : Memory) {n : ℕ} → part g ≡ let_go N w (part W) old → n ≡ let_go_blocks N w (part W) old → zeros g.a ≡ zeros W.a + n
  freed_zeros g gone counted =
      omega (
        arith,
        let_go_zeros,
        ap (λ (m : Memory). zeros m.a) (let_go_beside N w W old gone),
        let_go_blocks_beside N w W old counted,
      )
