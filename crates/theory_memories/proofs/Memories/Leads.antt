-- Objects, and what the roots lead to, in the words of demand 3 and in the object graph. The maps stand for a list of sizes; the roots and
-- the cells are any, as for the memory that a call has written to and from which nothing is let go yet.
use mathlib.Core.Path.{◌≡◌, sym, ap, ◌∙◌}
use mathlib.Core.Logic.{◌≢◌}
use mathlib.Core.List.{List}
use Prim.Native.Nat.{ℕ, suc, ◌+◌, ◌-◌, ◌*◌, ◌<◌}
use native.Mathlib.Omega.{arith}
use lib.ListN.{length, get_or}
use Rattle.rules.specs.Heap.{Memory}
use Rattle.theory_memories.specs.Words.{Object, Leads, root, cell}
use Rattle.theory_memories.proofs.Maps.Extents.{Represents, first_size, size_is_first, extent}
use Rattle.theory_graphs.proofs.Graphs.Graph.{first_slot}
use Rattle.theory_graphs.proofs.Graphs.Keep.{Reach}
use Rattle.theory_memories.proofs.Memories.View.{slots_in}
use Rattle.theory_memories.proofs.Memories.Slots.{root_slot, cell_slot}

module _ (N : ℕ) (h : Memory) (sizes : List ℕ) (represents : Represents N h.a h.b sizes) where
  -- an object is a block whose size is not 0
  pub object_size : (b n : ℕ) → Object N h b n → (get_or sizes b 0 ≡ n) × (n ≢ 0)
  object_size b n object =
      let some = first_size N h.a h.b sizes represents b object.first in
      let e = sym (extent N h.a h.b sizes represents b some) ∙ object.size in
      (e, λ z. some (e ∙ z))

  pub size_object : (b : ℕ) → get_or sizes b 0 ≢ 0 → Object N h b (get_or sizes b 0)
  size_object b some =
      record { first = size_is_first N h.a h.b sizes represents b some; size = extent N h.a h.b sizes represents b some }

  -- what a root leads to is reached in the graph
  pub leads_reach : {b : ℕ} → Leads N h b → Reach (length h.roots) sizes (slots_in N h) b
  leads_reach (root b n r object l e) = Reach.root {b = b} r l (omega (arith, root_slot N h r l))
  leads_reach (cell b n a m j object before owner l e) =
      let both = object_size a m owner in
      let same = both.0 in
      let inside : 4 * a + j < 4 * N = omega (arith, represents.inside a (λ z. both.1 (sym same ∙ z))) in
      Reach.link {b = b}
      a
      (length h.roots + (4 * a + j))
      (leads_reach before)
      (omega arith, omega arith)
      (omega (arith, cell_slot N h (4 * a + j) inside))

  -- where every reference names an object, the other way too
  module _ (named : (s b : ℕ) → get_or (slots_in N h) s 0 ≡ suc b → get_or sizes b 0 ≢ 0) where
    pub reach_leads : (b : ℕ) → Reach (length h.roots) sizes (slots_in N h) b → Leads N h b
    reach_leads b (Reach.root s l e) =
        root b (get_or sizes b 0) s (size_object b (named s b e)) l (omega (arith, root_slot N h s l))
    reach_leads b (Reach.link a s before owns e) =
        let j : ℕ = s - first_slot (length h.roots) a in
        let place : length h.roots + (4 * a + j) ≡ s = omega (arith, owns.0) in
        let inside : 4 * a + j < 4 * N = omega (arith, owns, represents.inside a (omega (arith, owns))) in
        cell
        b
        (get_or sizes b 0)
        a
        (get_or sizes a 0)
        j
        (size_object b (named s b e))
        (reach_leads a before)
        (size_object a (omega (arith, owns)))
        (omega (arith, owns))
        (omega (arith, cell_slot N h (4 * a + j) inside, ap (λ (i : ℕ). get_or (slots_in N h) i 0) place))
