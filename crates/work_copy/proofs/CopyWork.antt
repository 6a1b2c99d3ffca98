-- The promise of a copy, from what was written into the lists of the second heap and what the collection left.
use mathlib.Core.Path.{◌≡◌, refl, sym, ap, ◌∙◌, subst}
use mathlib.Core.Bool.{Bool, true, false}
use mathlib.Core.List.{List, map}
use mathlib.Core.Option.{some}
use Prim.Native.Nat.{ℕ, zero, suc, ◌+◌, ◌-◌, ◌/◌}
use lib.ListN.{length, get_or, replicate}
use Rattle.bitmap.specs.Bit.{zeros}
use Rattle.types.specs.declared.Reply.{Reply}
use Rattle.types.specs.Told.{Came}
use Rattle.rules.specs.Heap.{Memory, lent_memory, with_roots, shaped}
use Rattle.rules.specs.Sections.{figures}
use Rattle.rules_stores.specs.Store.{formatted}
use Rattle.rules_stores.specs.Collection.{collected}
use Rattle.rules_steps.specs.Steps.{is_open}
use Rattle.rules_output.specs.Walk.{block_at, number_in, references_of, followed, numbered}
use Rattle.rules_copy.specs.Copy.{Laid, lay_all, all_laid, places_in, new_reference, new_cell, copy_one, copy_first, copy_all, copied}
use Rattle.rules_calls.specs.Calls.{collect, copy_from, Answer, reply, settled, freeing}
use Rattle.rules_calls.specs.Promise.{Promise}
use Rattle.rules.proofs.Shape.{Shaped, shape_facts, shaped_blocks}
use Rattle.rules_stores.proofs.FormattedShape.{formatted_shaped}
use Rattle.theory_memories.specs.Heaps.{Undamaged}
use Rattle.theory_memories.specs.Heaps.{Usable}
use Rattle.theory.specs.Usable.{Worked}
use Rattle.theory.proofs.Usable.UsableHeap.{usable_fit}
use Rattle.theory.proofs.Usable.WorkDone.{collect_answered}
use Rattle.theory_copies.proofs.Copies.Accepted.{there_laid}
use Rattle.theory_copies.proofs.Copies.Copied.{filled_usable, filled_shut, filled_collected}
use Rattle.walk_objects.specs.Walking.{walked_heap}
use Rattle.walk_objects.proofs.Beginning.{walkable}
use Rattle.refinement_copy.specs.Routed.{lists_of}
use Rattle.refinement_copy.proofs.Filled.{all_written}
use Rattle.refinement_copy.proofs.CopyAnswer.{copy_nowhere, copy_done}
use Rattle.copy_lists.specs.Written.{Fillable, CopyWritten}

-- ---- what a copy reads

abbrev read : Memory → Memory
read h = walked_heap h.a h.b h.d h.cells h.roots

first_read : (N : ℕ) (h : Memory) (met places : List ℕ) (M v k : ℕ) → copy_first N (read h) met places M v k ≡ copy_first N h met places M v k
unfolding copy_first copy_one new_cell
first_read N h met places M v zero = refl
first_read N h met places M v (suc k) =
    ap (λ (g : Memory). copy_one N h met places M v g (block_at met (suc k)) (get_or places k 0)) (first_read N h met places M v k)

copied_read : (N : ℕ) (h : Memory) (M v : ℕ) → copied N (read h) M v ≡ copied N h M v
unfolding copied copy_all lay_all numbered followed references_of
copied_read N h M v =
    let met = numbered N h in
    let places = places_in (lay_all N h M) in
    ap (λ (g : Memory). collected M v (with_roots (map (λ x. new_reference places (number_in met x)) h.roots) g)) (first_read N h met places M v (length met))

laid_read : (N : ℕ) (h : Memory) (M : ℕ) → lay_all N (read h) M ≡ lay_all N h M
unfolding lay_all numbered followed references_of
laid_read N h M = refl

module _ {N w : ℕ} {h : Memory} (u : Undamaged N w h) (M v : ℕ) (g : Memory) (fits : shaped M v g ≡ true) (as_many : length h.roots ≡ length g.roots) where
  second_shape : Shaped M v g
  second_shape = shape_facts M v g fits

  pub fillable : Fillable M v (length h.roots) g.a g.b g.counts g.cells g.roots g.d
  fillable =
      let s = second_shape in
      record {
        blocks = shaped_blocks M v g s;
        planes = record {
          eighths = sym s.whole_bytes;
          most = s.blocks_max;
          some = s.width_min;
          width = s.width_max;
          length_is = s.length_counts;
        };
        extents = record {
          a_length = s.length_a;
          b_length = s.length_b;
          cells_length = s.length_cells;
          d_length = s.length_d;
        };
        as_many = sym as_many;
      }

  empty_shaped : Shaped M v (formatted M v (length h.roots))
  empty_shaped = subst (λ (n : ℕ). Shaped M v (formatted M v n)) (sym as_many) (formatted_shaped M v g second_shape)

  -- ---- no chunk for an object: nothing is written

  -- g with other lists of objects and roots
  abbrev over : Memory → Memory
  over p = lent_memory p.a p.b p.counts p.cells p.roots g.waiting g.sections p.d g.marks g.list

  pub copy_unplaced : is_open N h ≡ false → {p : Memory} {r : Bool} → CopyWritten N (read h) M v (lists_of g) p r → r ≡ false → {x : Reply} → x ≡ reply 17 0 0
      → Promise M v (copy_from N w h) g x (over p)
  copy_unplaced shut {p} written e {x} x_is =
      subst (λ (q : Memory). Promise M v (copy_from N w h) g x (over q)) (sym (written.kept e))
      (copy_nowhere u shut fits as_many (sym (ap all_laid (laid_read N h M)) ∙ sym written.found ∙ e) x_is)

  -- ---- all have their places

  module _ {p : Memory} {r : Bool} (written : CopyWritten N (read h) M v (lists_of g) p r) (e : r ≡ true) {waiting sections marks list : List ℕ}
      (idle : waiting ≡ replicate M 0) (marks_are : marks ≡ replicate (M / 8) 0) (list_is : list ≡ replicate (M + 1) 0)
      (true_list : sections ≡ figures M p.a) where
    abbrev placed : (s : Laid) × (lay_all N (read h) M ≡ some s)
    placed = there_laid (lay_all N (read h) M) (sym (sym e ∙ written.found))

    abbrev before : Memory
    before = lent_memory p.a p.b p.counts p.cells p.roots waiting sections p.d marks list

    full : before ≡ settled M (copy_all N (read h) (numbered N (read h)) placed.0.places M v)
    unfolding places_in
    full =
        all_written N (read h) (numbered N (read h)) (places_in (lay_all N (read h) M)) M v
        (ap lists_of (written.filled e)) idle marks_are list_is true_list
        ∙ ap (λ (q : List ℕ). settled M (copy_all N (read h) (numbered N (read h)) q M v)) (ap places_in placed.1)

    pub full_usable : Usable M v before
    full_usable = subst (Usable M v) (sym full) (filled_usable N (read h) (walkable u).named M v empty_shaped placed.0 placed.1)

    pub full_shut : is_open M before ≡ false
    full_shut = ap (is_open M) full ∙ filled_shut N (read h) (walkable u).named M v empty_shaped placed.0 placed.1

    pub copy_collected : is_open N h ≡ false → {done : Came} {after : Memory} → Worked M v collect before done after
        → {x : Reply} → x ≡ reply 0 (M - zeros after.a) 0 → Promise M v (copy_from N w h) g x after
    unfolding freeing
    copy_collected shut {done} {after} worked x_is =
        let left : after ≡ settled M (copied N h M v) =
        worked.promise.after_is
        ∙ ap (λ (y : Answer). y.1) (collect_answered (usable_fit full_usable) full_shut)
        ∙ ap (λ (m : Memory). settled M (collected M v m)) full
        ∙ filled_collected N (read h) (walkable u).named M v empty_shaped placed.0 placed.1
        ∙ ap (settled M) (copied_read N h M v) in
        copy_done u shut fits as_many (sym (laid_read N h M) ∙ placed.1) left x_is
