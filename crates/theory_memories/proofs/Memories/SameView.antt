-- Two memories that were written from one, bit by bit in the maps and the counts, and that show one object graph are equal: sizes have one
-- pair of maps, counts one buffer, and the slots begin with the roots. Cells and D bits are those of the memory both were written from, where
-- an object stands, and else 0: the graph does not show the cells of data (request U6).
use mathlib.Core.Path.{◌≡◌, sym, ap, ◌∙◌, subst}
use mathlib.Core.Logic.{◌≢◌}
use mathlib.Core.Bool.{◌||◌}
use mathlib.Core.List.{List, ◌∷◌, ◌++◌}
use Prim.Native.Nat.{ℕ, zero, suc, ◌+◌, ◌-◌, ◌*◌, ◌/◌, ◌<◌}
use native.Mathlib.Omega.{arith}
use lib.ListN.{length, get_or, take, drop}
use lib.Seq.{take-append_seam, drop-append_seam, ext_get_or}
use lib.Dec.{ltb, eqb}
use Rattle.bitmap.proofs.Rewrites.{Rewritten, same, bit, rewritten_length, rewritten_trans, rewritten_fill, rewritten_ext}
use Rattle.planes.specs.Plane.{count_at, set_count}
use Rattle.planes.proofs.Counts.{rewritten_set_count, counts_bits}
use Rattle.rules.specs.Heap.{Memory, capacity, size_at}
use Rattle.rules_stores.specs.Store.{Work, work, count_down, count_down_each, freed, naming_cells, memory_after}
use Rattle.rules.proofs.Tests.{choose}
use Rattle.rules.proofs.Shape.{Shaped}
use Rattle.theory_memories.proofs.Maps.Extents.{Represents, sizes_of, same_a, same_b}
use Rattle.theory_graphs.proofs.Graphs.Graph.{Graph, count}
use Rattle.theory_memories.proofs.Memories.Reading.{Bare}
use Rattle.theory_memories.proofs.Memories.Keeping.{sizes_in, Kept, kept_same, kept_trans, freed_kept, kept_cell, kept_kind}
use Rattle.theory_memories.proofs.Memories.View.{cell_refs, view}
use Rattle.theory_memories.proofs.Memories.Healthy.{view_count}
use Rattle.theory_memories.proofs.Memories.ViewRelease.{Releasing, size_there, nonzero}

-- ---- what is written

-- the four buffers of bits of g were written from those of h, bit by bit, and what stands in g is as it was in h
pub record Rewrites (N : ℕ) (h g : Memory) : Type 0 where
  pub a : Rewritten h.a g.a
  pub b : Rewritten h.b g.b
  pub counts : Rewritten h.counts g.counts
  pub d : Rewritten h.d g.d
  pub keeps : (x : ℕ) → get_or (sizes_in N g) x 0 ≢ 0 → Kept N h g x

pub rewrites_same : (N : ℕ) (h : Memory) → Rewrites N h h
rewrites_same N h =
    record {
      a = same;
      b = same;
      counts = same;
      d = same;
      keeps = λ x some. kept_same N h x;
    }

pub rewrites_trans : {N : ℕ} {h g k : Memory} → Rewrites N h g → Rewrites N g k → Rewrites N h k
rewrites_trans p q =
    record {
      a = rewritten_trans p.a q.a;
      b = rewritten_trans p.b q.b;
      counts = rewritten_trans p.counts q.counts;
      d = rewritten_trans p.d q.d;
      keeps = λ x some. let late = q.keeps x some in kept_trans (p.keeps x (λ z. some (late.size ∙ z))) late;
    }

pub down_rewritten : (N w : ℕ) (s : Work) (v : ℕ) → Rewritten s.counts (count_down N w s v).counts
unfolding count_down
down_rewritten N w s v =
    choose (λ (t : Work). Rewritten s.counts t.counts) (eqb v 0 || ltb N v || eqb (count_at (N / 8) w s.counts (v - 1)) (capacity w))
    {x = s} same (rewritten_set_count (N / 8) w s.counts (v - 1) (count_at (N / 8) w s.counts (v - 1) - 1))

each_rewritten : (N w : ℕ) (s : Work) (cells : List ℕ) (j n : ℕ) → Rewritten s.counts (count_down_each N w s cells j n).counts
unfolding count_down_each
each_rewritten N w s cells j zero = same
each_rewritten N w s cells j (suc n) =
    rewritten_trans (each_rewritten N w s cells j n) (down_rewritten N w (count_down_each N w s cells j n) (get_or cells (j + n) 0))

-- one step of a release
pub step_rewrites : (N w : ℕ) (h : Memory) (x : ℕ) (rest : List ℕ) → Releasing N w h (x ∷ rest) → Rewrites N h (memory_after N w h x rest)
unfolding freed
step_rewrites N w h x rest before =
    let n : ℕ = size_at N h x in
    record {
      a = rewritten_fill h.a x n 0 (omega arith);
      b = bit (x + n - 1) 1 (omega arith) same;
      counts =
          rewritten_trans (rewritten_set_count (N / 8) w h.counts x 0)
          (each_rewritten N w (work (set_count (N / 8) w h.counts x 0) rest) h.cells (4 * x) (naming_cells h.d x n));
      d = bit x 0 (omega arith) same;
      keeps = λ y some.
          let kept =
          freed_kept N w h (sizes_in N h) before.represents x n (sym (size_there N w h x rest before)) (nonzero N w h x rest before) y some in
          record { size = kept.size; kind = kept.kind; cells = kept.cells };
    }

-- ---- memories that show one graph

-- lists of one length, with more behind them
same_parts : (l m back after : List ℕ) → length l ≡ length m → l ++ back ≡ m ++ after → (l ≡ m) × (back ≡ after)
same_parts l m back after n e = (
  sym (take-append_seam l back) ∙ ap (λ (k : ℕ). take k (l ++ back)) n ∙ ap (take (length m)) e ∙ take-append_seam m after,
  sym (drop-append_seam l back) ∙ ap (λ (k : ℕ). drop k (l ++ back)) n ∙ ap (drop (length m)) e ∙ drop-append_seam m after,
)

module _ (N w : ℕ) (h : Memory) {g k : Memory} (shape : Shaped N w g) (other-shape : Shaped N w k)
    (p : Represents N g.a g.b (sizes_of N g.a g.b)) (q : Represents N k.a k.b (sizes_of N k.a k.b))
    (bare-g : Bare N g.a g.b g.d g.cells) (bare-k : Bare N k.a k.b k.d k.cells)
    (from-g : Rewrites N h g) (from-k : Rewrites N h k)
    (roots_length : length g.roots ≡ length k.roots) (same_waiting : g.waiting ≡ k.waiting)
    (same_sections : g.a ≡ k.a → g.sections ≡ k.sections) (same_marks : g.marks ≡ k.marks) (same_list : g.list ≡ k.list)
    (one : view N w g ≡ view N w k) where
  pub same_memory_lem : g ≡ k
  same_memory_lem =
      λ i.
      record {
        a = maps_a i;
        b = maps_b i;
        counts = counts_are i;
        cells = cells_are i;
        roots = roots_are i;
        waiting = same_waiting i;
        sections = same_sections maps_a i;
        d = d_are i;
        marks = same_marks i;
        list = same_list i;
      }
    where
      also : Represents N k.a k.b (sizes_of N g.a g.b)
      also = subst (λ (s : List ℕ). Represents N k.a k.b s) (sym (ap (λ (m : Graph). m.sizes) one)) q

      maps_a : g.a ≡ k.a
      maps_a = rewritten_ext from-g.a from-k.a (λ i l. same_a N g.a g.b k.a k.b (sizes_of N g.a g.b) p also i)

      maps_b : g.b ≡ k.b
      maps_b =
          rewritten_ext from-g.b from-k.b
          (λ i l. same_b N g.a g.b k.a k.b (sizes_of N g.a g.b) p also i (omega (arith, p.length_b, rewritten_length from-g.b)))

      counts_are : g.counts ≡ k.counts
      counts_are =
          rewritten_ext from-g.counts from-k.counts
          (λ i l.
          counts_bits (N / 8) w g.counts k.counts shape.length_counts
          (λ b m.
          let inside : b < N = omega (arith, shape.whole_bytes) in
          sym (view_count N w g b inside) ∙ ap (λ (m : Graph). count m b) one ∙ view_count N w k b inside)
          i (omega (arith, rewritten_length from-g.counts)))

      roots_are : g.roots ≡ k.roots
      roots_are = (same_parts g.roots k.roots (cell_refs N g) (cell_refs N k) roots_length (ap (λ (m : Graph). m.slots) one)).0

      cells_are : g.cells ≡ k.cells
      cells_are =
          ext_get_or 0 g.cells k.cells (shape.length_cells ∙ sym other-shape.length_cells)
          (λ j l. kept_cell N h p bare-g bare-k from-g.keeps from-k.keeps maps_a maps_b j)

      d_are : g.d ≡ k.d
      d_are = rewritten_ext from-g.d from-k.d (λ x l. kept_kind N h p bare-g bare-k from-g.keeps from-k.keeps maps_a maps_b x)
