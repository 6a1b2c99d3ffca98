-- What one root of a return does (request U10): for contracts of inner functions.
use Rattle.std.specs.Prelude.{ℕ, ◌+◌, ◌≡◌, List}
use Rattle.bitmap.specs.Bit.{zeros}
use Rattle.rules.specs.Heap.{Memory, with_sections}
use Rattle.rules_steps.specs.Steps.{clear_shading}
use Rattle.theory_memories.specs.Heaps.{Usable}

-- root r was cleared where it is one of the set, and `freed` blocks were freed: as the rule has it whatever list of sections stands beside,
-- and the heap's own list is left true
pub record ClearedIfChosen (N w : ℕ) (h : Memory) (chosen r : ℕ) (g : Memory) (freed : ℕ) : Type 0 where
  pub after_is : (x : List ℕ) → with_sections x g ≡ clear_shading N w (with_sections x h) chosen r
  pub usable : Usable N w g
  pub blocks : zeros g.a ≡ zeros h.a + freed
