-- An accepted allocation makes an object of the kind that was asked for (request U6): what the call lets go afterwards leaves it as it was placed.
use mathlib.Core.Path.{◌≡◌, refl, sym, ap, ◌∙◌, subst}
use mathlib.Core.Logic.{◌≢◌, inl}
use mathlib.Core.Bool.{Bool, true, false}
use mathlib.Core.Option.{some}
use Prim.Native.Nat.{ℕ, suc, ◌+◌, ◌*◌, ◌≤◌, ◌<◌}
use native.Mathlib.Omega.{arith}
use lib.Dec.{eqb}
use lib.ListN.{length, get_or, set}
use lib.Seq.{get_or-set_same}
use Rattle.bitmap.specs.Bit.{one}
use Rattle.bitmap.proofs.Maps.{bit_set_same}
use Rattle.rules.specs.Heap.{Memory, with_roots, capacity, exponent, lowest_free}
use Rattle.rules_stores.specs.Store.{put_root, placed, allocate_in}
use Rattle.rules_steps.specs.Steps.{allocate_shading}
use Rattle.rules_calls.specs.Calls.{Call, allocate, allocate_data, Answer, settled, outcome}
use Rattle.rules_calls.proofs.Replies.{accepted_none, accepted_outcome, Passed, passed}
use Rattle.theory_memories.specs.Words.{Object}
use Rattle.theory.specs.Data.{Makes, AllocationsMake}
use Rattle.theory_memories.proofs.Maps.Extents.{Represents, sizes_of, length_sizes_of}
use Rattle.theory_memories.proofs.Maps.LowestChunk.{Room, room}
use Rattle.theory_graphs.proofs.Graphs.Graph as graph
use Rattle.theory_graphs.proofs.Graphs.Graph.{Graph, size, place}
use Rattle.theory_graphs.proofs.Graphs.Keep.{root}
use Rattle.theory_graphs.proofs.Graphs.Calls.{finish_keeps, placed_balanced, placed_waits, placed_shape}
use Rattle.theory_memories.proofs.Memories.Reading.{one_lt, cleared_in}
use Rattle.theory_memories.proofs.Memories.Keeping.{sizes_in, Kept}
use Rattle.theory_memories.proofs.Memories.View.{view}
use Rattle.theory_memories.proofs.Memories.Healthy.{Healthy}
use Rattle.theory_memories.proofs.Memories.Leads.{size_object}
use Rattle.theory_memories.proofs.Memories.Stores.{memory_left, LetsGo, positive, room_vacant, allocate_root}
use Rattle.theory_memories.proofs.Memories.Accepted.{accepted_fit}
use Rattle.theory.proofs.EachCall.Shading.{shape_sized, allocate_shading_lem}
use Rattle.theory.proofs.EachCall.Stay.{let_go_rewrites}

kind_bit : (t : Bool) → eqb (one t) 1 ≡ t
kind_bit true = refl
kind_bit false = refl

module _ (N w : ℕ) (h : Memory) (healthy : Healthy N w h) (asData : Bool) (n r i : ℕ) (some_blocks : 1 ≤ n) (l : r < length h.roots)
    (found : lowest_free N (exponent n) h.a ≡ some i) where
  nonzero : n ≢ 0
  nonzero = omega arith

  space : Room N h.a n i
  space = room N h.a n i found

  abbrev written : Memory
  written = with_roots (set h.roots r (i + 1)) (placed N w asData h i n)

  abbrev end : Memory
  end = allocate_in N w asData h n r i

  lets_go : LetsGo N w (length h.roots) written (get_or h.roots r 0) (graph.allocate (capacity w) (length h.roots) (view N w h) i n r)
  lets_go = allocate_root N w h healthy n i nonzero space asData r l

  stands_for : Represents N end.a end.b (sizes_in N end)
  unfolding allocate_in put_root placed
  stands_for = lets_go.shows.represents

  -- root r names it, so it stands
  size_there : get_or (sizes_in N end) i 0 ≡ n
  unfolding allocate_in put_root placed graph.allocate
  size_there =
      let cap : ℕ = capacity w in
      let roots : ℕ = length h.roots in
      let pos = positive N w h healthy in
      let free = room_vacant N w h healthy n i nonzero space in
      let shape = placed_shape cap pos roots (view N w h) healthy.whole i n r free l in
      ap (λ (m : Graph). size m i) lets_go.shows.view_is
      ∙ finish_keeps cap pos roots (place (view N w h) i n) r (suc i)
      (placed_balanced cap pos roots (view N w h) healthy.whole i n r free l)
      (placed_waits cap pos roots (view N w h) healthy.whole i n r free l) shape (inl l) i
      (root r l (get_or-set_same (view N w h).slots r (suc i) 0 (omega (arith, shape.slots_length))))
      ∙ get_or-set_same (sizes_of N h.a h.b) i n 0 (omega (arith, length_sizes_of N h.a h.b, space.inside))

  kept : Kept N (memory_left N w written (get_or h.roots r 0)) end i
  unfolding allocate_in put_root placed
  kept =
      (let_go_rewrites N w (length h.roots) written (get_or h.roots r 0) lets_go).keeps i (λ z. nonzero (sym size_there ∙ z))

  pub stands_there : Object N end i n
  stands_there =
      subst (λ (m : ℕ). Object N end i m) size_there
      (size_object N end (sizes_in N end) stands_for i (λ z. nonzero (sym size_there ∙ z)))

  makes : Makes N asData n i (settled N end)
  unfolding allocate_in put_root placed
  makes =
      record {
        object = record { first = stands_there.first; size = stands_there.size };
        kind =
            ap (λ (v : ℕ). eqb v 1)
            (kept.kind
            ∙ bit_set_same h.d i (one asData) (omega (arith, space.inside, healthy.shape.length_d, healthy.shape.whole_bytes)) (one_lt asData))
            ∙ kind_bit asData;
        cells = λ j u.
            kept.cells (4 * i + j) (omega arith, omega (arith, size_there, kept.size))
            ∙ cleared_in h.cells (4 * i) (4 * n) (4 * i + j) (omega arith, omega arith);
      }

  -- with a collection open the marks and the second list change besides
  shaded_makes : Makes N asData n i (settled N (allocate_shading N w asData h n r i))
  shaded_makes =
      let made = makes in
      subst (λ (g : Memory). Makes N asData n i (settled N g))
      (sym (allocate_shading_lem N w h (shape_sized N w h healthy.shape) asData n r i).is)
      (record { object = record { first = made.object.first; size = made.object.size }; kind = made.kind; cells = made.cells })

pub allocations_make : AllocationsMake
unfolding outcome Passed
allocations_make N w h true n r accepted =
    let c : Call = allocate_data n r in
    let p = passed N w h c (accepted_none N w h c accepted) in
    subst (λ (x : Answer). Makes N true n x.0.value x.1) (sym (accepted_outcome N w h c accepted))
    (shaded_makes N w h (accepted_fit N w h c refl accepted).healthy true n r _ p.0 p.2 p.3)
allocations_make N w h false n r accepted =
    let c : Call = allocate n r in
    let p = passed N w h c (accepted_none N w h c accepted) in
    subst (λ (x : Answer). Makes N false n x.0.value x.1) (sym (accepted_outcome N w h c accepted))
    (shaded_makes N w h (accepted_fit N w h c refl accepted).healthy false n r _ p.0 p.2 p.3)
