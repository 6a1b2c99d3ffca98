-- The plan of a copy of h into a heap of M blocks as the local arrays hold it. For contracts of inner functions.
use Rattle.std.specs.Prelude.{ℕ, suc, ◌≤◌, ◌<◌, ◌≡◌, List, [], length, get_or}
use Rattle.std.proofs.Math.Option.{some}
use Rattle.rules.specs.Heap.{Memory, lent_memory}
use Rattle.rules_output.specs.Walk.{number_in, object_at, numbered}
use Rattle.rules_copy.specs.Copy.{Laid, lay_all, places_in, new_reference, copy_all}

-- `order` has the references to the reached objects in the order of their numbers, and `moved` at the first block of each the reference to
-- its copy
pub record Routed (N : ℕ) (h : Memory) (M : ℕ) (order moved : List ℕ) (met : ℕ) : Type 0 where
  pub all : met ≡ length (numbered N h)
  pub long_order : met ≤ length order
  pub long_moved : N ≤ length moved
  pub object : (k : ℕ) → k < met → get_or order k 0 ≡ object_at (numbered N h) (suc k)
  pub laid : Laid
  pub laid_by : lay_all N h M ≡ some laid
  pub moved_is : (b : ℕ) → b < N → get_or moved b 0 ≡ new_reference laid.places (number_in (numbered N h) (suc b))

-- ---- the lists of the second heap that the objects and the roots are written into

abbrev pub copied_lists : (a b counts cells roots d : List ℕ) → Memory
copied_lists a b counts cells roots d = lent_memory a b counts cells roots [] [] d [] []

abbrev pub lists_of : Memory → Memory
lists_of g = copied_lists g.a g.b g.counts g.cells g.roots g.d

-- .. once all of them are written
abbrev pub filled_lists : (N : ℕ) → Memory → (M v : ℕ) → Memory
filled_lists N h M v = lists_of (copy_all N h (numbered N h) (places_in (lay_all N h M)) M v)
