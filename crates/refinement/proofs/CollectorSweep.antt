-- The collector's sweep is, seen in the object graph, the sweep of the graph's machine; it leaves the counts, and the blocks that it counts
-- are the growth of the A-map's zeros.
use mathlib.Core.Path.{◌≡◌, refl, sym, ap, ◌∙◌}
use mathlib.Core.Logic.{◌≢◌, inl, inr}
use mathlib.Core.Bool.{true, false}
use mathlib.Core.List.{List}
use Prim.Native.Nat.{ℕ, zero, suc, ◌+◌, ◌/◌, ◌≤◌, ◌<◌}
use native.Mathlib.Decide.{ℕ_discrete}
use native.Mathlib.Omega.{arith}
use lib.ListN.{length, get_or}
use lib.Dec.{eqb}
use borrow.Author.Tests.{eqb-true, eqb-false}
use Rattle.bitmap.specs.Bit.{zeros}
use Rattle.bitmap.proofs.Zeros.{zeros_fill_zeros}
use Rattle.planes.specs.Plane.{count_at}
use Rattle.planes.proofs.Counts.{set_count_there}
use Rattle.rules.specs.Heap.{Memory, is_first, size_at, count_of}
use Rattle.rules_stores.specs.Store.{freed}
use Rattle.collect_sweep.specs.Sweep.{is_unmarked, sweep_one_blocks, sweep, sweep_blocks}
use Rattle.collect_sweep.specs.Sweep as sweeping
use Rattle.rules.proofs.Tests.{test_cases_lem, false_unless, and_true, and_false}
use Rattle.rules.proofs.Shape.{Shaped}
use Rattle.theory_memories.proofs.Maps.Extents.{Represents, sizes_of, first_size, not_first_size, extent}
use Rattle.theory_graphs.proofs.Graphs.Graph.{Graph, size, count}
use Rattle.theory_graphs.proofs.Graphs.Sweep as graph
use Rattle.theory_graphs.proofs.Graphs.Sweep.{sweep_one, sweep_gone, sweep_kept}
use Rattle.theory_memories.proofs.Memories.Reading.{Bare}
use Rattle.theory_memories.proofs.Memories.Keeping.{kept_same}
use Rattle.theory_memories.proofs.Memories.View.{view}
use Rattle.theory_memories.proofs.Memories.Healthy.{view_count}
use Rattle.theory_memories.proofs.Memories.ViewSweep.{Swept, freed_swept, erase_none, sweep_counts}

-- ---- one step

module _ (N w : ℕ) (h : Memory) (n : ℕ) where
  sweep_goes :
      is_unmarked N w (sweep N w h n) n ≡ true → sweep N w h (suc n) ≡ freed N w (sweep N w h n) n (size_at N (sweep N w h n) n)
  unfolding sweep sweeping.sweep_one
  sweep_goes e = rw (e, sweep, sweeping.sweep_one)

  sweep_stays : is_unmarked N w (sweep N w h n) n ≡ false → sweep N w h (suc n) ≡ sweep N w h n
  unfolding sweep sweeping.sweep_one
  sweep_stays e = rw (e, sweep, sweeping.sweep_one)

  blocks_go : is_unmarked N w (sweep N w h n) n ≡ true → sweep_blocks N w h (suc n) ≡ sweep_blocks N w h n + size_at N (sweep N w h n) n
  unfolding sweep_blocks sweep_one_blocks
  blocks_go e = rw (e, sweep_blocks, sweep_one_blocks)

  blocks_stay : is_unmarked N w (sweep N w h n) n ≡ false → sweep_blocks N w h (suc n) ≡ sweep_blocks N w h n + 0
  unfolding sweep_blocks sweep_one_blocks
  blocks_stay e = rw (e, sweep_blocks, sweep_one_blocks)

-- ---- the blocks below n

-- the memory g that is left, and the number of blocks freed, where the graph k is left of h
pub record Stage (N w : ℕ) (h g : Memory) (k : Graph) (blocks : ℕ) : Type 0 where
  pub swept : Swept N w h g k
  pub same_counts : g.counts ≡ h.counts
  pub freed_blocks_lem : zeros g.a ≡ zeros h.a + blocks

module _ (N w : ℕ) (h g : Memory) (k : Graph) (blocks n : ℕ) (stage : Stage N w h g k blocks) (same_count : count k n ≡ count_of N w g n) where
  abbrev r : ℕ
  r = length h.roots

  module _ (first : is_first N g n ≡ true) (uncounted : count_of N w g n ≡ 0) where
    some : size k n ≢ 0
    some = first_size N g.a g.b k.sizes stage.swept.represents n first

    there : size_at N g n ≡ size k n
    there = extent N g.a g.b k.sizes stage.swept.represents n some

    freed_stage : Stage N w h (freed N w g n (size_at N g n)) (sweep_one r k n) (blocks + size_at N g n)
    unfolding freed
    freed_stage =
        record {
          swept =
              rw (sweep_gone r k n (same_count ∙ uncounted))
              (freed_swept N w h g k stage.swept n (size_at N g n) (sym there) (λ z. some (sym there ∙ z)));
          same_counts = set_count_there (N / 8) w g.counts n 0 uncounted ∙ stage.same_counts;
          freed_blocks_lem =
              omega (
                arith,
                stage.freed_blocks_lem,
                zeros_fill_zeros g.a n (size_at N g n)
                    (omega (arith, there, stage.swept.represents.length_a, stage.swept.represents.inside n some))
                    (λ i l u. stage.swept.represents.used n i l (omega (arith, there))),
              );
        }

  -- a block with a count, or at which no object starts
  same_stage : is_unmarked N w g n ≡ false → Stage N w h g (sweep_one r k n) (blocks + 0)
  unfolding is_unmarked
  same_stage e =
      record {
        swept = rw (stays (ℕ_discrete (count k n) 0)) stage.swept;
        same_counts = stage.same_counts;
        freed_blocks_lem = omega (arith, stage.freed_blocks_lem);
      }
    where
      stays : Dec (count k n ≡ 0) → sweep_one r k n ≡ k
      stays (no c) = sweep_kept r k n c
      stays (yes z) =
          sweep_gone r k n z
          ∙ erase_none r k n
          (not_first_size N g.a g.b k.sizes stage.swept.represents n
          (false_unless (is_first N g n)
          (λ f. eqb-false (count_of N w g n) 0 (and_false (is_first N g n) (eqb (count_of N w g n) 0) e f) (sym same_count ∙ z))))

module _ (N w : ℕ) (h : Memory) (shape : Shaped N w h) (represents : Represents N h.a h.b (sizes_of N h.a h.b))
    (bare : Bare N h.a h.b h.d h.cells) where
  next_stage :
      (n : ℕ) → n < N → Stage N w h (sweep N w h n) (graph.sweep (length h.roots) (view N w h) n) (sweep_blocks N w h n)
      → Stage N w h (sweep N w h (suc n)) (sweep_one (length h.roots) (graph.sweep (length h.roots) (view N w h) n) n)
      (sweep_blocks N w h (suc n))
  unfolding is_unmarked
  next_stage n l stage =
      let g : Memory = sweep N w h n in
      let k : Graph = graph.sweep (length h.roots) (view N w h) n in
      elim (test_cases_lem (is_unmarked N w g n)) [
        | inl e ↦
            let facts = and_true (is_first N g n) (eqb (count_of N w g n) 0) e in
            rw (sweep_goes N w h n e, blocks_go N w h n e)
            (freed_stage N w h g k (sweep_blocks N w h n) n stage same_count facts.0 (eqb-true (count_of N w g n) 0 facts.1))
        | inr e ↦ rw (sweep_stays N w h n e, blocks_stay N w h n e) (same_stage N w h g k (sweep_blocks N w h n) n stage same_count e)
      ]
    where
      same_count : count (graph.sweep (length h.roots) (view N w h) n) n ≡ count_of N w (sweep N w h n) n
      same_count =
          ap (λ (c : List ℕ). get_or c n 0) (sweep_counts (length h.roots) (view N w h) n)
          ∙ view_count N w h n l
          ∙ ap (λ (c : List ℕ). count_at (N / 8) w c n) (sym stage.same_counts)

  pub sweep_stage :
      (n : ℕ) → n ≤ N → Stage N w h (sweep N w h n) (graph.sweep (length h.roots) (view N w h) n) (sweep_blocks N w h n)
  unfolding sweep sweeping.sweep_one sweep_blocks sweep_one_blocks graph.sweep
  sweep_stage zero l =
      record {
        swept = record {
          shape = shape;
          represents = represents;
          same_roots = refl;
          same_waiting = refl;
          same_sections = refl;
          same_marks = refl;
          same_list = refl;
          slots_are = refl;
          bare = bare;
          keeps = λ x stands. kept_same N h x;
        };
        same_counts = refl;
        freed_blocks_lem = omega arith;
      }
  sweep_stage (suc n) l = next_stage n l (sweep_stage n (omega arith))
