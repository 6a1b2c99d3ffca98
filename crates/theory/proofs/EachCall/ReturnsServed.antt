-- The accepted return serves (request U10): it leaves a healthy memory, frees nothing that a root leads to once its roots are cleared, and
-- brings no count to the capacity.
use mathlib.Core.Path.{◌≡◌, refl, sym, ap, ◌∙◌, subst}
use mathlib.Core.Logic.{inl, inr}
use mathlib.Core.Bool.{Bool, true, false}
use mathlib.Core.List.{List}
use Prim.Native.Nat.{ℕ, suc, ◌+◌, ◌<◌}
use native.Mathlib.Omega.{arith}
use lib.ListN.{length, get_or}
use borrow.Author.Tests.{eqb-false}
use Rattle.bitmap.specs.Bit.{bit_of}
use Rattle.rules.specs.Heap.{Memory, with_roots, capacity}
use Rattle.rules_stores.specs.Store.{is_chosen}
use Rattle.rules_stores.proofs.Plain.{return_in}
use Rattle.rules_calls.specs.Calls.{return_roots, settled, freeing}
use Rattle.rules.proofs.Objects.{first_facts}
use Rattle.theory_memories.specs.Words.{Object}
use Rattle.theory.specs.CallWords.{roots_without, written, stored}
use Rattle.rules.proofs.Tabulate.{length_tabulate, get_d_tabulate}
use Rattle.theory_memories.proofs.Maps.Extents.{sizes_of}
use Rattle.theory_graphs.proofs.Graphs.Graph.{size, slot}
use Rattle.theory_graphs.proofs.Graphs.Keep.{Reach}
use Rattle.theory_graphs.proofs.Graphs.Order.{runs_leave}
use Rattle.theory_graphs.proofs.Graphs.Returns.{runs_reach_without}
use Rattle.theory_memories.proofs.Memories.View.{slots_in, view}
use Rattle.theory_memories.proofs.Memories.Slots.{root_slot, cell_slot, cell_within, slot_cases}
use Rattle.theory_memories.proofs.Memories.Healthy.{Healthy, view_count}
use Rattle.theory_memories.proofs.Memories.Leads.{object_size, size_object, leads_reach}
use Rattle.theory_memories.proofs.Memories.Stores.{positive}
use Rattle.theory.proofs.EachCall.Served.{no_collection, Served}
use Rattle.theory_memories.proofs.Memories.Settled.{settled_healthy}
use Rattle.theory.proofs.EachCall.Clearing.{Cleared, InSet, returned}

-- what one place holds once the roots of the set are made 0
root_left : (chosen : ℕ) → List ℕ → ℕ → ℕ
root_left chosen roots r = elim (is_chosen chosen r) [ true ↦ 0 | false ↦ get_or roots r 0 ]

pub length_without : (chosen : ℕ) (roots : List ℕ) → length (roots_without chosen roots) ≡ length roots
unfolding roots_without root_left
length_without chosen roots = length_tabulate (length roots) (root_left chosen roots)

get_d_without : (chosen : ℕ) (roots : List ℕ) (r : ℕ) → r < length roots → get_or (roots_without chosen roots) r 0 ≡ root_left chosen roots r
unfolding roots_without root_left
get_d_without chosen roots r l = get_d_tabulate 0 (length roots) (root_left chosen roots) r l

module _ (N w : ℕ) (h : Memory) (healthy : Healthy N w h) (chosen : ℕ) where
  abbrev Chosen : ℕ → Type 0
  Chosen i = InSet chosen (length h.roots) i

  abbrev left : Memory
  left = with_roots (roots_without chosen h.roots) h

  -- what is not 0 once the roots of the set are is no root of the set
  left_slot : (s b : ℕ) → get_or (slots_in N left) s 0 ≡ suc b → (slot (view N w h) s ≡ suc b) × ¬ Chosen s
  unfolding root_left
  left_slot s b e = elim (slot_cases left s) [ inl l ↦ of_root l | inr q ↦ of_cell q.0 q.1 ]
    where
      same_length : length left.roots ≡ length h.roots
      same_length = length_without chosen h.roots

      of_root : s < length left.roots → (slot (view N w h) s ≡ suc b) × ¬ Chosen s
      of_root m = go (is_chosen chosen s) refl (sym (get_d_without chosen h.roots s l) ∙ sym (root_slot N left s m) ∙ e)
        where
          l : s < length h.roots
          l = omega (arith, same_length)

          go : (t : Bool) → is_chosen chosen s ≡ t → elim t [ true ↦ 0 | false ↦ get_or h.roots s 0 ] ≡ suc b
              → (slot (view N w h) s ≡ suc b) × ¬ Chosen s
          go true f z = absurd (omega arith)
          go false f z = (root_slot N h s l ∙ z, λ q. eqb-false (bit_of chosen s) 1 f q.1)

      of_cell : (j : ℕ) → s ≡ length left.roots + j → (slot (view N w h) s ≡ suc b) × ¬ Chosen s
      of_cell j q =
          let at : s ≡ length h.roots + j = q ∙ ap (λ (n : ℕ). n + j) same_length in
          let inside = cell_within N left j (omega (arith, e, ap (λ (i : ℕ). get_or (slots_in N left) i 0) q)) in (
            ap (λ (i : ℕ). slot (view N w h) i) at ∙ cell_slot N h j inside ∙ sym (cell_slot N left j inside)
                ∙ ap (λ (i : ℕ). get_or (slots_in N left) i 0) (sym q) ∙ e,
            λ p. omega (arith, p.0),
          )

  abbrev end : Memory
  end = return_in N w h chosen (length h.roots)

  all : Cleared N w Chosen Chosen h end
  all = returned N w h healthy chosen (length h.roots) (omega arith)

  pub return_served : Served N w (return_roots chosen) h (freeing N h end 0)
  unfolding freeing stored written
  return_served =
      record {
        keep = settled_healthy N w end all.healthy;
        no_early_free = λ b n object leads.
            let was = object_size N h (sizes_of N h.a h.b) healthy.represents b n object in
            let kept =
            runs_reach_without (capacity w) (positive N w h healthy) (length h.roots) Chosen (view N w h) (view N w end)
            (slots_in N left) all.runs healthy.whole.balanced healthy.whole.shape.disjoint (λ i s. s.0) left_slot b
            (subst (λ (r : ℕ). Reach r (sizes_of N h.a h.b) (slots_in N left) b) (length_without chosen h.roots)
            (leads_reach N left (sizes_of N h.a h.b) healthy.represents leads)) in
            let is : size (view N w end) b ≡ n = kept ∙ was.0 in
            subst (λ (m : ℕ). Object N (settled N end) b m) is
            (size_object N (settled N end) (sizes_of N end.a end.b) all.healthy.represents b (λ z. was.1 (sym is ∙ z)));
        collects = no_collection (return_roots chosen) refl;
        sticks = λ living b n was is low top.
            let in_heap : b < N = (first_facts N h.a h.b b was.first).inside in
            absurd
            (omega (
              arith,
              (runs_leave (capacity w) (length h.roots) Chosen (positive N w h healthy) all.runs).lowered b,
              view_count N w h b in_heap,
              view_count N w end b in_heap,
            ));
      }
