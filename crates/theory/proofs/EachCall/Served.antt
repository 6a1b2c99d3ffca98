-- What is asked of one call on a healthy memory, and that it holds of every call that frees and stores nothing: one that is refused, the
-- check, the number of free blocks, the look and a number read, which leave the memory as it was, a number written, and the format.
use mathlib.Core.Path.{◌≡◌, refl, sym, ap, ◌∙◌, subst}
use mathlib.Core.Logic.{◌≢◌}
use mathlib.Core.Bool.{Bool, true, false, true≢false}
use mathlib.Core.List.{List, ◌++◌}
use Prim.Native.Nat.{ℕ, ◌+◌, ◌*◌, ◌<◌}
use native.Mathlib.Omega.{arith}
use lib.ListN.{length, get_or, set, length-set}
use Rattle.rules.specs.Heap.{Memory, with_cells, capacity, count_of, is_first, size_at, is_data, reference}
use Rattle.rules_stores.specs.Store.{formatted}
use Rattle.rules_calls.specs.Calls.{Call, format, check, collect, free_blocks, allocate, store_root, store_cell, look, return_roots, open_collection, take_steps}
use Rattle.rules_calls.specs.Calls.{allocate_data, write_number, read_number, write_reason, write_shape, Answer}
use Rattle.rules_calls.specs.Calls.{copy_from, copy_into}
use Rattle.rules_calls.specs.Calls.{reply, accepted, refused}
use Rattle.theory_memories.specs.Words.{Object, Leads, root, cell}
use Rattle.theory.specs.CallWords.{written, stored, copied_over}
use Rattle.theory.specs.Stuck.{Wrote}
use Rattle.theory.specs.Demand.{NoEarlyFree, Collects}
use Rattle.types.specs.declared.Reply.{Reply}
use Rattle.rules.proofs.Tabulate.{get_d_tabulate}
use Rattle.theory_memories.proofs.Maps.Extents.{sizes_of}
use Rattle.theory_graphs.proofs.Graphs.Graph.{Graph}
use Rattle.theory_graphs.proofs.Graphs.Calls.{Whole}
use Rattle.theory_memories.proofs.Memories.Reading.{tabulate_is, number_written, cell_bare}
use Rattle.theory_memories.proofs.Memories.View.{cell_refs, view}
use Rattle.theory_memories.proofs.Memories.Slots.{length_cell_refs}
use Rattle.theory_memories.proofs.Memories.Healthy.{Healthy}
use Rattle.theory_memories.proofs.Memories.Stores.{cell_of_lem}
use Rattle.theory_memories.proofs.Memories.ViewRelease.{reshaped, graph_is}
use Rattle.theory_memories.proofs.Memories.Formatted.{zeros_at, no_object, formatted_healthy}

-- the count of an object that stands before and after a call, not made anew by a copy, comes to the capacity only by a reference that the
-- call writes
abbrev pub Sticks : ℕ → ℕ → Call → Memory → Reply → Memory → Type 0
Sticks N w c h x g =
    copied_over c x ≡ false → (b n : ℕ) → Object N h b n → Object N g b n → count_of N w h b < capacity w → count_of N w g b ≡ capacity w
    → Wrote N w b c h x

-- of another call `Collects` says nothing
abbrev pub collecting : Call → Bool
collecting collect = true
collecting format = false
collecting check = false
collecting free_blocks = false
collecting (allocate n r) = false
collecting (store_root r v) = false
collecting (store_cell a j v) = false
collecting (look a) = false
collecting (return_roots chosen) = false
collecting (allocate_data n r) = false
collecting (write_number a j x) = false
collecting (read_number a j) = false
collecting (write_reason a room) = false
collecting (write_shape room) = false
collecting open_collection = false
collecting (take_steps budget) = false
collecting (copy_from K u first) = false
collecting (copy_into M v second) = false

pub no_collection : {A : Type 0} (c : Call) → collecting c ≡ false → c ≡ collect → A
no_collection c other is = absurd (true≢false (ap collecting (sym is) ∙ other))

-- call c on memory h, answered with x
pub record Served (N w : ℕ) (c : Call) (h : Memory) (x : Answer) : Type 0 where
  pub keep : Healthy N w x.1
  pub no_early_free : NoEarlyFree N c h x.0 x.1
  pub collects : Collects N w c h x.0 x.1
  pub sticks : Sticks N w c h x.0 x.1

-- where all roots are 0 they lead nowhere
pub no_roots : (N : ℕ) (h : Memory) → ((r : ℕ) → get_or h.roots r 0 ≡ 0) → {b : ℕ} → Leads N h b → ⊥
no_roots N h empty (root b n r object l e) = omega (arith, empty r)
no_roots N h empty (cell b n a m j object before owner l e) = no_roots N h empty before

module _ (N w : ℕ) (h : Memory) (healthy : Healthy N w h) where
  -- ---- the calls that leave the memory

  pub unchanged : (c : Call) (x : Reply) → Collects N w c h x h → Served N w c h (x, h)
  unchanged c x collects =
      record {
        keep = healthy;
        no_early_free = λ b n object leads. object;
        collects = collects;
        sticks = λ living b n was is low top. absurd (omega arith);
      }

  pub refused_served : (c : Call) (kind number : ℕ) → number ≢ 0 → Served N w c h (refused kind h number)
  refused_served c kind number nonzero = unchanged c _ (λ _ accepted. absurd (nonzero accepted))

  -- ---- a number written into cell j of the data at block a (request U6): no reference changes

  module _ (a j x : ℕ) (first : is_first N h a ≡ true) (l : j < 4 * size_at N h a) (made : is_data h.d a ≡ true) where
    abbrev c : ℕ
    c = 4 * a + j

    abbrev sizes : List ℕ
    sizes = sizes_of N h.a h.b

    abbrev left : Memory
    left = with_cells (set h.cells c x) h

    pub number_references : (i : ℕ) → reference N left i ≡ reference N h i
    number_references =
        number_written N h.a h.b sizes healthy.represents h.d h.cells a c x (cell_of_lem N w h healthy a j first l) made

    pub number_view : view N w left ≡ view N w h
    number_view =
        graph_is refl refl
        (ap (λ (refs : List ℕ). h.roots ++ refs)
        (tabulate_is (4 * N) (reference N left) (cell_refs N h) (length_cell_refs N h)
        (λ i m. number_references i ∙ sym (get_d_tabulate 0 (4 * N) (reference N h) i m))))

    pub number_healthy : Healthy N w left
    number_healthy =
        record {
          shape = reshaped N w h left healthy.shape refl refl refl (length-set h.cells c x) refl refl refl refl refl refl;
          represents = healthy.represents;
          whole = subst (λ (k : Graph). Whole (capacity w) (length h.roots) k) (sym number_view) healthy.whole;
          aligned = healthy.aligned;
          bare =
              cell_bare N h.a h.b sizes healthy.represents h.d h.cells a c x (cell_of_lem N w h healthy a j first l)
              healthy.bare;
        }

    pub number_served : Served N w (write_number a j x) h (accepted left 0)
    number_served =
        record {
          keep = number_healthy;
          no_early_free = λ b n object leads. record { first = object.first; size = object.size };
          collects = no_collection (write_number a j x) refl;
          sticks = λ living b n was is low top. absurd (omega arith);
        }

  -- ---- the format

  pub format_served : Served N w format h (accepted (formatted N w (length h.roots)) 0)
  unfolding stored written
  format_served =
      record {
        keep = formatted_healthy N w h healthy.shape;
        no_early_free = λ b n object leads.
            absurd (no_roots N (stored h format (reply 0 0 0)) (λ r. zeros_at (length h.roots) r) leads);
        collects = no_collection format refl;
        sticks = λ living b n was is low top. absurd (no_object N w h healthy.shape b is.first);
      }
