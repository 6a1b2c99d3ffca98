-- Shape and damage don't depend on what the waiting list holds.
use mathlib.Core.Path.{◌≡◌, refl, ap}
use mathlib.Core.List.{List}
use Prim.Native.Nat.{ℕ}
use lib.ListN.{length}
use Rattle.rules.specs.Heap.{Memory, with_waiting, shape, shaped}
use Rattle.rules.specs.Damage.{end_on_free, open_end, unaligned, bad_cell, bad_root, bad_count, stray_data, damage}

module _ (N w : ℕ) (h : Memory) (x : List ℕ) (same_length : length x ≡ length h.waiting) where
  pub same_shape : shaped N w (with_waiting x h) ≡ shaped N w h
  same_shape =
      ap
      (λ (n : ℕ).
      shape N w (length h.a) (length h.b) (length h.counts) (length h.cells) (length h.roots) n (length h.sections)
      (length h.d) (length h.marks) (length h.list))
      same_length

  pub same_damage : damage N w (with_waiting x h) ≡ damage N w h
  unfolding damage end_on_free open_end unaligned bad_cell bad_root bad_count stray_data
  same_damage = refl
