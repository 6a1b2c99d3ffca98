-- What the arrays of a plan say of each object: its place and its cells.
use mathlib.Core.Path.{◌≡◌, refl, sym, ap, ◌∙◌, subst}
use mathlib.Core.Logic.{◌≢◌}
use mathlib.Core.Bool.{true, false}
use mathlib.Core.List.{List}
use Prim.Native.Nat.{ℕ, zero, suc, ◌+◌, ◌-◌, ◌*◌, ◌≤◌, ◌<◌}
use native.Mathlib.Decide.{ℕ_discrete}
use native.Mathlib.Omega.{arith}
use lib.ListN.{length, get_or}
use borrow.Author.Tests.{eq-eqb, ne_eqb}
use Rattle.bitmap.specs.Bit.{bit_at}
use Rattle.rules.specs.Heap.{Memory, capacity, is_first, size_at, is_data}
use Rattle.rules_stores.specs.Store.{made_at}
use Rattle.rules_output.specs.Walk.{number_in, object_at, block_at, references_of, followed, numbered}
use Rattle.rules_copy.specs.Copy.{size_of, lay_all, new_reference, new_cell, fill_cells, copy_one}
use Rattle.rules.proofs.Objects.{first_facts}
use Rattle.theory_memories.specs.Words.{Leads}
use Rattle.theory_memories.proofs.Maps.LowestChunk.{room}
use Rattle.theory_walks.proofs.Walks.Numbers.{number_zero, object_number, object_some}
use Rattle.theory_walks.proofs.Walks.Reached.{led_first, met_led, numbered_distinct, references_at, followed_block, cells_below}
use Rattle.theory_copies.proofs.Copies.Laying.{LaidOut, laid_out}
use Rattle.theory_copies.proofs.Copies.Image.{new_none, new_some}
use Rattle.walk_objects.specs.Walking.{walked_heap, Walkable}
use Rattle.copy_plan.specs.Plan.{block_in}
use Rattle.copy_objects.specs.Copying.{moved_to, moved_cells, Movable, copy_object}
use Rattle.copy_objects.proofs.Filling.{fill_same, moved_nothing, moved_some}
use Rattle.refinement_copy.specs.Routed.{Routed}

module _ (N : ℕ) (a b d cells roots : List ℕ) (walkable : Walkable N a b d cells roots) where
  abbrev h : Memory
  h = walked_heap a b d cells roots

  module _ {M : ℕ} {order moved : List ℕ} {met : ℕ} (r : Routed N h M order moved met) where
    abbrev all : List ℕ
    all = numbered N h

    abbrev pub places : List ℕ
    places = r.laid.places

    out : LaidOut M (size_of N h all) (length all) r.laid
    unfolding lay_all
    out = laid_out M (size_of N h all) (length all) r.laid r.laid_by

    -- ---- one object

    module _ (k : ℕ) (l : k < met) where
      abbrev at : ℕ
      at = block_in order k

      pub block_is : at ≡ block_at all (suc k)
      block_is = ap (λ (x : ℕ). x - 1) (r.object k l)

      inside_all : k < length all
      inside_all = omega (arith, r.all)

      pub some_object : get_or order k 0 ≢ 0
      some_object z = object_some (numbered_distinct N h walkable.named) (suc k) (omega arith) (omega (arith, inside_all)) (sym (r.object k l) ∙ z)

      number_at : number_in all (suc at) ≡ suc k
      number_at =
          let whole : suc at ≡ get_or order k 0 = omega (arith, some_object) in
          ap (number_in all) (whole ∙ r.object k l)
          ∙ object_number (numbered_distinct N h walkable.named) (suc k) (omega arith) (omega (arith, inside_all))

      led : Leads N h at
      led =
          let here : suc at - 1 ≡ at = omega arith in
          subst (Leads N h) here (met_led N h walkable.named (suc at) k number_at).1

      first : is_first N h at ≡ true
      first = led_first N h led

      below : at < N
      below = (first_facts N h.a h.b at first).inside

      place_at : get_or moved at 0 ≡ 1 + get_or places k 0
      place_at = r.moved_is at below ∙ new_some places (number_in all (suc at)) k number_at

      place_is : get_or moved at 0 - 1 ≡ get_or places k 0
      place_is = omega (arith, place_at)

      inside : get_or moved at 0 - 1 + size_at N h at ≤ M
      inside =
          omega (arith, (room M _ (size_of N h all k) (get_or places k 0) (out.found k inside_all)).inside, place_is, ap (size_at N h) block_is)

      -- an ordinary cell names a block of the heap, or nothing
      cell_small : bit_at h.d at ≢ 1 → (i : ℕ) → i < 4 * size_at N h at → get_or h.cells (4 * at + i) 0 ≤ N
      cell_small other i inside-object =
          omega (
            arith,
            walkable.named.read.of_others at (size_at N h at) i (record { first = first; size = refl }) (ne_eqb (bit_at h.d at) 1 other) inside-object,
            references_at N h at i inside-object,
            ap (λ (x : List ℕ). get_or x i 0) (followed_block N h at),
            cells_below N h walkable.named (suc at) i,
          )

      pub movable : Movable N h.b h.d h.cells moved M at
      movable =
          record {
            small = walkable.small;
            long_b = walkable.long_b;
            long_d = walkable.long_d;
            long_cells = walkable.long_cells;
            long_moved = r.long_moved;
            below = below;
            some = omega (arith, place_at);
            inside = inside;
            of_cells = cell_small;
          }

    -- ---- references

    pub reference_is : (x : ℕ) → x ≤ N → moved_to moved x ≡ new_reference places (number_in all x)
    reference_is x l = elim (ℕ_discrete x 0) [
      | yes z ↦
          sym (moved_nothing moved x z)
          ∙ sym (new_none places (number_in all x) (ap (number_in all) z ∙ number_zero (numbered_distinct N h walkable.named)))
      | no s ↦
          let whole : suc (x - 1) ≡ x = omega arith in
          sym (moved_some moved x s) ∙ r.moved_is (x - 1) (omega arith) ∙ ap (λ (y : ℕ). new_reference places (number_in all y)) whole
    ]

    -- the cells of an object as they are written
    cells_are : (k : ℕ) (l : k < met) (j : ℕ) → j < 4 * size_at N h (block_in order k)
        → moved_cells (bit_at h.d (block_in order k)) moved h.cells (4 * block_in order k) j ≡ new_cell h all places (block_in order k) j
    unfolding moved_cells new_cell
    cells_are k l j inside-object = elim (ℕ_discrete (bit_at h.d (block_in order k)) 1) [
      | yes e ↦ rw (eq-eqb (bit_at h.d (block_in order k)) 1 e, moved_cells, new_cell) refl
      | no d ↦
          rw (ne_eqb (bit_at h.d (block_in order k)) 1 d, moved_cells, new_cell)
          (reference_is (get_or h.cells (4 * block_in order k + j) 0) (cell_small k l d j inside-object))
    ]

    -- the object is the rule's
    pub object_is : (v : ℕ) (g : Memory) (k : ℕ) → k < met
        → copy_object N h.b h.d h.cells moved M v g (block_in order k) ≡ copy_one N h all places M v g (block_at all (suc k)) (get_or places k 0)
    unfolding copy_object copy_one
    object_is v g k l =
        let at : ℕ = block_in order k in
        let to : ℕ = get_or moved at 0 - 1 in
        let n : ℕ = size_at N h at in
        let cells : fill_cells (moved_cells (bit_at h.d at) moved h.cells (4 * at)) g.cells (4 * to) (4 * n)
        ≡ fill_cells (new_cell h all places at) g.cells (4 * to) (4 * n) =
        fill_same (moved_cells (bit_at h.d at) moved h.cells (4 * at)) (new_cell h all places at) g.cells (4 * to) (4 * n) (cells_are k l) in
        let i_is : at ≡ block_at all (suc k) = block_is k l in
        let to_is : to ≡ get_or places k 0 = place_is k l in
        (λ t. made_at M v g to n (capacity v) (cells t) (bit_at h.d at))
        ∙ (λ t.
        made_at M v g (to_is t) (size_at N h (i_is t)) (capacity v)
        (fill_cells (new_cell h all places (i_is t)) g.cells (4 * to_is t) (4 * size_at N h (i_is t))) (bit_at h.d (i_is t)))
