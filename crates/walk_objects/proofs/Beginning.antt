-- What the walk begins with: arrays of zeros, and a heap without damage.
use Prim.Native.Nat.{ℕ, ◌≤◌}
use native.Mathlib.Omega.{arith}
use lib.ListN.{replicate, length-replicate}
use Rattle.std.proofs.lemmas.List.{get_or-replicate}
use Rattle.rules.specs.Heap.{Memory, max_blocks}
use Rattle.rules_output.specs.Walk.{number_in}
use Rattle.theory_memories.specs.Heaps.{Undamaged}
use Rattle.theory_memories.proofs.Memories.Fit.{undamaged_fit}
use Rattle.theory_walks.proofs.Walks.Numbers.{none}
use Rattle.theory_walks.proofs.Walks.Steps.{nil}
use Rattle.theory_walks.proofs.Walks.Reached.{Named, intact_named}
use Rattle.walk_objects.specs.Walking.{Walkable, Walking, Tracing, walked_heap, last_first}

walk_begins : (N n : ℕ) → N ≤ max_blocks → N ≤ n → Walking N (replicate n 0) (replicate n 0) 0
unfolding last_first number_in
walk_begins N n small room =
    record {
      small = small;
      long_order = omega (arith, length-replicate {A = ℕ} n 0);
      long_numbers = omega (arith, length-replicate {A = ℕ} n 0);
      distinct = none;
      below = nil;
      numbers_are = λ b l. get_or-replicate n b 0 0 (omega arith);
    }

pub trace_begins : (N n : ℕ) → N ≤ max_blocks → N ≤ n → Tracing N (replicate n 0) (replicate n 0) (replicate n 0) (replicate n 0) 0
trace_begins N n small room =
    record {
      walking = walk_begins N n small room;
      long_owners = omega (arith, length-replicate {A = ℕ} n 0);
      long_vias = omega (arith, length-replicate {A = ℕ} n 0);
    }

-- ---- a heap that the check accepts

module _ {N w : ℕ} {h : Memory} (u : Undamaged N w h) where
  pub read_named : Named N (walked_heap h.a h.b h.d h.cells h.roots)
  read_named =
      let n = intact_named N w h u.intact in
      record {
        of_root = n.of_root;
        of_cell = n.of_cell;
        read = record {
          of_data = λ b m j o. n.read.of_data b m j (record { first = o.first; size = o.size });
          of_others = λ b m j o. n.read.of_others b m j (record { first = o.first; size = o.size });
          of_free = n.read.of_free;
        };
      }

  pub walkable : Walkable N h.a h.b h.d h.cells h.roots
  walkable =
      let s = (undamaged_fit N w h u).healthy.shape in
      record {
        small = s.blocks_max;
        long_a = omega (arith, s.whole_bytes, s.length_a);
        long_b = omega (arith, s.whole_bytes, s.length_b);
        long_d = omega (arith, s.whole_bytes, s.length_d);
        long_cells = s.length_cells;
        few_roots = s.roots_max;
        named = read_named;
      }
