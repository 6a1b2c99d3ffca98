-- One object, and the objects in turn, from what is written into each list.
use mathlib.Core.Path.{◌≡◌, refl, sym, ap, ◌∙◌}
use mathlib.Core.List.{List, []}
use Prim.Native.Nat.{ℕ, ◌+◌, ◌-◌, ◌*◌, ◌/◌}
use native.Mathlib.Numerals.{add-one}
use lib.ListN.{get_or}
use Rattle.bitmap.specs.Bit.{bit_at, set_bit, fill_bits}
use Rattle.planes.specs.Plane.{set_count}
use Rattle.rules.specs.Heap.{Memory, capacity, size_from}
use Rattle.rules_stores.specs.Store.{made_at}
use Rattle.rules_copy.specs.Copy.{fill_cells}
use Rattle.copy_plan.specs.Plan.{block_in}
use Rattle.count_up.specs.Ready.{part_memory}
use Rattle.copy_objects.specs.Copying.{moved_cells, copy_object, copy_objects}

module _ (N : ℕ) (b d cells moved : List ℕ) (M v at : ℕ) (a2 b2 counts2 cells2 d2 : List ℕ) where
  abbrev to : ℕ
  to = get_or moved at 0 - 1

  pub object_copied :
      {n bit count : ℕ} → n ≡ size_from (N - at) b at → bit ≡ bit_at d at → count ≡ capacity v → {a' b' counts' cells' d' : List ℕ}
      → a' ≡ fill_bits a2 to n 1 → b' ≡ set_bit b2 (to + n - 1) 0 → counts' ≡ set_count (M / 8) v counts2 to count
      → cells' ≡ fill_cells (moved_cells bit moved cells (4 * at)) cells2 (4 * to) (4 * n) → d' ≡ set_bit d2 to bit
      → part_memory a' b' counts' cells' [] d' ≡ copy_object N b d cells moved M v (part_memory a2 b2 counts2 cells2 [] d2) at
  unfolding copy_object
  object_copied n-is bit_is count_is a-is b-is counts-is cells_is d-is =
      (λ i. part_memory (a-is i) (b-is i) (counts-is i) (cells_is i) [] (d-is i))
      ∙ (λ i.
      made_at M v (part_memory a2 b2 counts2 cells2 [] d2) to (n-is i) (count_is i)
      (fill_cells (moved_cells (bit_is i) moved cells (4 * at)) cells2 (4 * to) (4 * n-is i)) (bit_is i))

module _ (N : ℕ) (b d cells order moved : List ℕ) (M v : ℕ) (g : Memory) where
  pub objects_start : g ≡ copy_objects N b d cells order moved M v g 0
  unfolding copy_objects
  objects_start = refl

  -- one more
  pub objects_more : (k : ℕ) {h h' : Memory} → h ≡ copy_objects N b d cells order moved M v g k → h' ≡ copy_object N b d cells moved M v h (block_in order k)
      → h' ≡ copy_objects N b d cells order moved M v g (k + 1)
  unfolding copy_objects
  objects_more k so_far next =
      next ∙ ap (λ (m : Memory). copy_object N b d cells moved M v m (block_in order k)) so_far
      ∙ sym (ap (copy_objects N b d cells order moved M v g) (add-one k))

  pub objects_all : {k met : ℕ} {h : Memory} → k ≡ met → h ≡ copy_objects N b d cells order moved M v g k → h ≡ copy_objects N b d cells order moved M v g met
  objects_all done so_far = so_far ∙ ap (copy_objects N b d cells order moved M v g) done
