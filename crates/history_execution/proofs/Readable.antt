-- A usable heap can be read by the plan of a record, which looks at four of its buffers alone.
use mathlib.Core.Path.{◌≡◌, subst}
use mathlib.Core.List.{[]}
use Prim.Native.Nat.{ℕ}
use native.Mathlib.Omega.{arith}
use Rattle.rules.specs.Heap.{Memory, lent_memory}
use Rattle.theory_memories.specs.Heaps.{Usable}
use Rattle.theory_memories.proofs.Memories.Stores.{roots_named}
use Rattle.theory.proofs.Usable.UsableHeap.{usable_healthy}
use Rattle.history_records.specs.declared.Fields.{Fields}
use Rattle.history_plans.specs.declared.Plan.{Plan}
use Rattle.history_plans.specs.Meaning.{meaning}
use Rattle.history_plans.specs.Readable.{Readable}
use Rattle.history_plans.specs.Asked.{Asked, on_roots, copying, writing, reading, clearing, writing_number, operation, asked}
use Rattle.history_turns.specs.declared.outcome.Done.{Done}
use Rattle.history_turns.specs.Turns.{turn_of}
use Rattle.history_turns.specs.Steps.{Acted}

pub usable_readable : {N w : ℕ} {h : Memory} → Usable N w h → Readable N h.b h.cells h.roots h.d
usable_readable {N} {w} {h} usable =
    let shape = (usable_healthy usable).shape in
    record {
      most = shape.blocks_max;
      b_length = omega (arith, shape.length_b, shape.whole_bytes);
      cells_length = shape.length_cells;
      d_length = omega (arith, shape.length_d, shape.whole_bytes);
      named = roots_named N w h (usable_healthy usable);
    }

-- what is asked for on the four buffers is what is asked for on the heap
pub planned :
    (w : ℕ) (f : Fields) (plan : Plan) {N : ℕ} {h : Memory} {d : Done} {g : Memory}
    → meaning plan ≡ asked N (lent_memory [] h.b [] h.cells h.roots [] [] h.d [] []) f → Acted N h (turn_of N w h (meaning plan)) d g
    → Acted N h (turn_of N w h (asked N h f)) d g
unfolding asked operation copying writing reading clearing writing_number on_roots
planned w f plan {N} {h} {d} {g} e acted = subst (λ (x : Asked). Acted N h (turn_of N w h x) d g) e acted
