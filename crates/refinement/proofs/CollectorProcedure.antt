-- On a healthy memory of bytes the collector's procedure is the rule: marking by counting anew and sweeping what is left at 0 gives the
-- memory that the rules give, and the blocks that it counts are the growth of the A-map's zeros.
use mathlib.Core.Path.{◌≡◌, refl, sym, ap, ◌∙◌, subst}
use mathlib.Core.Logic.{◌≢◌}
use mathlib.Core.List.{List}
use Prim.Native.Nat.{ℕ, ◌-◌, ◌/◌, ◌<◌}
use native.Mathlib.Omega.{arith}
use lib.ListN.{length, get_or}
use lib.Seq.{ext_get_or}
use Rattle.bitmap.specs.Bit.{zeros}
use Rattle.bitmap.proofs.Maps.{map_ext}
use Rattle.planes.specs.Plane.{count_at}
use Rattle.planes.proofs.Counts.{counts_ext}
use Rattle.rules.specs.Heap.{Memory, with_counts, capacity, count_of}
use Rattle.rules_stores.specs.Collection.{collected}
use Rattle.collect_mark.specs.Mark.{mark_counts}
use Rattle.refinement.proofs.Collection.{collect_by, collect_blocks}
use Rattle.rules.proofs.Shape.{Shaped}
use Rattle.theory_memories.proofs.Maps.Extents.{Represents, length_sizes_of, represents_is, same_maps}
use Rattle.theory_memories.proofs.Maps.Totals.{free_and_sizes}
use Rattle.theory_graphs.proofs.Graphs.Graph.{Graph, count}
use Rattle.theory_graphs.proofs.Graphs.Sweep as graph
use Rattle.theory_graphs.proofs.Graphs.Sweep.{marked_graph}
use Rattle.theory_memories.proofs.Memories.Keeping.{sizes_in, Kept, kept_cell, kept_kind}
use Rattle.theory_memories.proofs.Memories.View.{view}
use Rattle.theory_memories.proofs.Memories.Healthy.{Healthy, view_count}
use Rattle.theory_memories.proofs.Memories.ViewRelease.{reshaped, graph_is}
use Rattle.theory_memories.proofs.Memories.ViewSweep.{sweep_counts}
use Rattle.theory_memories.proofs.Memories.ViewCollection.{collect_swept, collected_shows}
use Rattle.refinement.proofs.ViewMarking.{mark_counts_shows}
use Rattle.refinement.proofs.CollectorSweep.{Stage, sweep_stage}
use Rattle.refinement.proofs.Bytewise.{Bytewise, collected_bytes, collect_by_bytes}

module _ (N w : ℕ) (h : Memory) (healthy : Healthy N w h) where
  abbrev r : ℕ
  r = length h.roots

  abbrev after : Graph
  after = graph.collect (capacity w) r (view N w h)

  abbrev remarked : Memory
  remarked = with_counts (mark_counts N w h) h

  remarked_shape : Shaped N w remarked
  remarked_shape =
      reshaped N w h remarked healthy.shape refl refl ((mark_counts_shows N w h healthy).0 ∙ sym healthy.shape.length_counts) refl refl
      refl
      refl
      refl
      refl
      refl

  remarked_view : view N w remarked ≡ marked_graph (capacity w) r (view N w h)
  remarked_view = graph_is refl (mark_counts_shows N w h healthy).1 refl

  end_stage : Stage N w remarked (collect_by N w h) after (collect_blocks N w h)
  unfolding collect_by collect_blocks graph.collect
  end_stage =
      subst (λ (k : Graph). Stage N w remarked (collect_by N w h) k (collect_blocks N w h))
      (ap (λ (m : Graph). graph.sweep r m N) remarked_view
      ∙ ap (graph.sweep r (marked_graph (capacity w) r (view N w h))) (sym (length_sizes_of N h.a h.b)))
      (sweep_stage N w remarked remarked_shape healthy.represents healthy.bare N (omega arith))

  -- ---- the memory

  count_by : (b : ℕ) → b < N → count_of N w (collect_by N w h) b ≡ count after b
  unfolding graph.collect
  count_by b l =
      ap (λ (c : List ℕ). count_at (N / 8) w c b) end_stage.same_counts
      ∙ sym (view_count N w remarked b l)
      ∙ ap (λ (k : Graph). count k b) remarked_view
      ∙ ap (λ (c : List ℕ). get_or c b 0)
      (sym (sweep_counts r (marked_graph (capacity w) r (view N w h)) (length (view N w h).sizes)))

  count_is : (b : ℕ) → b < N → count_of N w (collected N w h) b ≡ count after b
  count_is b l = sym (view_count N w (collected N w h) b l) ∙ ap (λ (k : Graph). count k b) (collected_shows N w h healthy).view_is

  pub collect_by_is : Bytewise h → collect_by N w h ≡ collected N w h
  unfolding collected
  collect_by_is bytes =
      λ i.
      record {
        a = maps.0 i;
        b = maps.1 i;
        counts = same_counts i;
        cells = same_cells i;
        roots = (end_stage.swept.same_roots ∙ sym (collect_swept N w h healthy).same_roots) i;
        waiting = (end_stage.swept.same_waiting ∙ sym (collect_swept N w h healthy).same_waiting) i;
        sections = (end_stage.swept.same_sections ∙ sym (collect_swept N w h healthy).same_sections) i;
        d = same_d i;
        marks = (end_stage.swept.same_marks ∙ sym (collect_swept N w h healthy).same_marks) i;
        list = (end_stage.swept.same_list ∙ sym (collect_swept N w h healthy).same_list) i;
      }
    where
      by : Bytewise (collect_by N w h)
      by = collect_by_bytes N w h bytes

      is : Bytewise (collected N w h)
      is = collected_bytes N w h bytes

      maps : ((collect_by N w h).a ≡ (collected N w h).a) × ((collect_by N w h).b ≡ (collected N w h).b)
      maps =
          same_maps N (collect_by N w h).a (collect_by N w h).b (collected N w h).a (collected N w h).b after.sizes
          end_stage.swept.represents
          (collect_swept N w h healthy).represents
          by.a
          by.b
          is.a
          is.b

      same_counts : (collect_by N w h).counts ≡ (collected N w h).counts
      same_counts =
          counts_ext (N / 8) w (collect_by N w h).counts (collected N w h).counts by.counts is.counts
          end_stage.swept.shape.length_counts
          (collected_shows N w h healthy).shape.length_counts
          (λ b l.
          let inside : b < N = omega (arith, healthy.shape.whole_bytes) in
          count_by b inside ∙ sym (count_is b inside))

      -- marking leaves all but the counts: what stands after the sweep is as it was before the marking
      by_keeps : (x : ℕ) → get_or (sizes_in N (collect_by N w h)) x 0 ≢ 0 → Kept N h (collect_by N w h) x
      by_keeps x stands =
          let kept = end_stage.swept.keeps x stands in
          record { size = kept.size; kind = kept.kind; cells = kept.cells }

      -- what stands is as it was, on both sides, and nothing is left where nothing stands
      represents : Represents N (collect_by N w h).a (collect_by N w h).b (sizes_in N (collect_by N w h))
      represents =
          rw (← represents_is N (collect_by N w h).a (collect_by N w h).b after.sizes end_stage.swept.represents)
          end_stage.swept.represents

      same_cells : (collect_by N w h).cells ≡ (collected N w h).cells
      same_cells =
          ext_get_or 0 (collect_by N w h).cells (collected N w h).cells
          (end_stage.swept.shape.length_cells ∙ sym (collect_swept N w h healthy).shape.length_cells)
          (λ j l.
          kept_cell N h represents end_stage.swept.bare (collect_swept N w h healthy).bare by_keeps (collect_swept N w h healthy).keeps
          maps.0 maps.1 j)

      same_d : (collect_by N w h).d ≡ (collected N w h).d
      same_d =
          map_ext (collect_by N w h).d (collected N w h).d by.d is.d
          (end_stage.swept.shape.length_d ∙ sym (collect_swept N w h healthy).shape.length_d)
          (λ x l.
          kept_kind N h represents end_stage.swept.bare (collect_swept N w h healthy).bare by_keeps (collect_swept N w h healthy).keeps
          maps.0 maps.1 x)

  -- ---- the blocks freed

  pub collect_blocks_is : collect_blocks N w h ≡ zeros (collected N w h).a - zeros h.a
  unfolding collected
  collect_blocks_is =
      omega (
        arith,
        end_stage.freed_blocks_lem,
        free_and_sizes N (collect_by N w h).a (collect_by N w h).b after.sizes end_stage.swept.represents,
        free_and_sizes N (collected N w h).a (collected N w h).b after.sizes (collect_swept N w h healthy).represents,
      )
