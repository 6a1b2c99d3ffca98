-- What a graph that keeps its laws gives its memory, once the waiting list is cleared and the list of sections is true.
use mathlib.Core.Path.{refl, sym, ◌∙◌, ◌≡◌, ap, subst}
use Prim.Native.Nat.{ℕ}
use lib.ListN.{length-replicate, length}
use Rattle.rules.specs.Heap.{Memory, capacity}
use Rattle.rules_calls.specs.Calls.{settled}
use Rattle.rules.proofs.TrueList.{length_figures}
use Rattle.theory_memories.proofs.Memories.Healthy.{Healthy, Aligned}
use Rattle.theory_memories.proofs.Memories.ViewRelease.{reshaped, Shows}
use Rattle.theory_memories.specs.Words.{Object}
use Rattle.theory_memories.proofs.Maps.Extents.{Represents, sizes_of}
use Rattle.theory_graphs.proofs.Graphs.Graph.{Graph, size}
use Rattle.theory_graphs.proofs.Graphs.Calls.{Whole}
use Rattle.theory_memories.proofs.Memories.View.{view}
use Rattle.theory_memories.proofs.Memories.Leads.{object_size, size_object}

-- a healthy memory stays so when its waiting list is cleared and its list of sections is true
pub settled_healthy : (N w : ℕ) (h : Memory) → Healthy N w h → Healthy N w (settled N h)
settled_healthy N w h healthy =
    record {
      shape = reshaped N w h (settled N h) healthy.shape refl refl refl refl refl
          (length-replicate N 0 ∙ sym healthy.shape.length_waiting) (length_figures N h.a ∙ sym healthy.shape.length_sections)
          refl refl refl;
      represents = healthy.represents;
      whole = healthy.whole;
      aligned = healthy.aligned;
      bare = healthy.bare;
    }

-- ---- what a graph that keeps its laws gives its memory

pub healthy_after :
    (N w r : ℕ) (g : Memory) (k : Graph) → Shows N w r g k → Whole (capacity w) r k → Aligned k.sizes → Healthy N w (settled N g)
healthy_after N w r g k shows whole aligned = record {
  shape = reshaped N w g (settled N g) shows.shape refl refl refl refl refl (length-replicate N 0 ∙ sym shows.shape.length_waiting)
      (length_figures N g.a ∙ sym shows.shape.length_sections) refl refl refl;
  represents = shows.represents;
  whole = subst (λ (m : Graph). Whole (capacity w) (length g.roots) m) (sym shows.view_is) (rw shows.roots_are whole);
  aligned = subst (λ (m : Graph). Aligned m.sizes) (sym shows.view_is) aligned;
  bare = shows.bare;
}

-- an object whose size stays stands
pub object_after :
    (N w r : ℕ) (h g : Memory) (k : Graph) → Represents N h.a h.b (sizes_of N h.a h.b) → Shows N w r g k → (b n : ℕ)
    → Object N h b n → size k b ≡ size (view N w h) b → Object N (settled N g) b n
object_after N w r h g k represents shows b n object e =
    let was = object_size N h (sizes_of N h.a h.b) represents b n object in
    let is : size (view N w g) b ≡ n = ap (λ (m : Graph). size m b) shows.view_is ∙ e ∙ was.0 in
    subst (λ (m : ℕ). Object N (settled N g) b m) is
    (size_object N (settled N g) (sizes_of N g.a g.b) shows.represents b (λ z. was.1 (sym is ∙ z)))
