-- The second heap from what the code writes into its lists.
use mathlib.Core.Path.{◌≡◌, refl, sym, ap, ◌∙◌}
use mathlib.Core.List.{List, [], map}
use Prim.Native.Nat.{ℕ, zero, suc, ◌+◌, ◌*◌, ◌/◌, ◌≤◌, ◌<◌}
use native.Mathlib.Omega.{arith}
use lib.ListN.{length, get_or, replicate, length-map, get_or-map}
use lib.Seq.{ext_get_or}
use Rattle.rules.specs.Heap.{Memory, lent_memory, with_roots}
use Rattle.rules.specs.Sections.{figures}
use Rattle.rules_stores.specs.Store.{formatted}
use Rattle.rules_output.specs.Walk.{number_in, block_at, numbered}
use Rattle.rules_copy.specs.Copy.{lay_all, places_in, new_reference, fill_cells, copy_one, copy_first, copy_all}
use Rattle.rules_calls.specs.Calls.{settled}
use Rattle.theory_walks.proofs.Walks.Numbers.{number_zero}
use Rattle.theory_walks.proofs.Walks.Reached.{numbered_distinct, roots_below}
use Rattle.theory_copies.proofs.Copies.Image.{new_none}
use Rattle.theory_copies.proofs.Copies.Placing.{fill_length, fill_in}
use Rattle.count_up.specs.Ready.{part_memory}
use Rattle.walk_objects.specs.Walking.{walked_heap, Walkable}
use Rattle.copy_plan.specs.Plan.{block_in}
use Rattle.copy_objects.specs.Copying.{moved_to, copy_object, copy_objects}
use Rattle.refinement_copy.specs.Routed.{Routed, copied_lists, lists_of, filled_lists}
use Rattle.refinement_copy.proofs.Routes.{places, reference_is, object_is}

-- the lists that objects are written into
abbrev part : Memory → Memory
part g = part_memory g.a g.b g.counts g.cells [] g.d

-- the other lists of g beside those of p
abbrev beside : (g p : Memory) → Memory
beside g p = lent_memory p.a p.b p.counts p.cells p.roots g.waiting g.sections p.d g.marks g.list

module _ (N : ℕ) (b d cells order moved : List ℕ) (M v : ℕ) (g : Memory) where
  -- objects are written into their lists whatever the others are
  objects_part : (k : ℕ) → copy_objects N b d cells order moved M v (part g) k ≡ part (copy_objects N b d cells order moved M v g k)
  unfolding copy_objects copy_object
  objects_part zero = refl
  objects_part (suc k) = ap (λ (m : Memory). copy_object N b d cells moved M v m (block_in order k)) (objects_part k)

module _ (N : ℕ) (a b d cells roots : List ℕ) (walkable : Walkable N a b d cells roots) where
  abbrev h : Memory
  h = walked_heap a b d cells roots

  module _ {M : ℕ} {order moved : List ℕ} {met : ℕ} (r : Routed N h M order moved met) (v : ℕ) where
    abbrev all : List ℕ
    all = numbered N h

    abbrev empty : Memory
    empty = formatted M v (length h.roots)

    objects_are : (k : ℕ) → k ≤ met
        → copy_objects N h.b h.d h.cells order moved M v empty k ≡ copy_first N h all (places N a b d cells roots walkable r) M v k
    unfolding copy_objects copy_first
    objects_are zero l = refl
    objects_are (suc k) l =
        ap (λ (g : Memory). copy_object N h.b h.d h.cells moved M v g (block_in order k)) (objects_are k (omega arith))
        ∙ object_is N a b d cells roots walkable r v (copy_first N h all (places N a b d cells roots walkable r) M v k) k (omega arith)

    -- ---- the roots

    abbrev new_root : ℕ → ℕ
    new_root x = new_reference (places N a b d cells roots walkable r) (number_in all x)

    roots_are : (roots₀ : List ℕ) → length roots₀ ≡ length h.roots
        → fill_cells (λ i. moved_to moved (get_or h.roots (0 + i) 0)) roots₀ 0 (length h.roots) ≡ map new_root h.roots
    roots_are roots₀ as_many =
        let f : ℕ → ℕ = λ i. moved_to moved (get_or h.roots (0 + i) 0) in
        let n : ℕ = length h.roots in
        let zero_root : new_root 0 ≡ 0 = new_none (places N a b d cells roots walkable r) (number_in all 0) (number_zero (numbered_distinct N h walkable.named)) in
        ext_get_or 0 (fill_cells f roots₀ 0 n) (map new_root h.roots)
        (fill_length f roots₀ 0 n ∙ as_many ∙ sym (length-map h.roots new_root))
        (λ i l.
        let here : 0 + i ≡ i = omega arith in
        ap (λ (x : ℕ). get_or (fill_cells f roots₀ 0 n) x 0) (sym here)
        ∙ fill_in f roots₀ 0 n i (omega (arith, as_many)) (omega (arith, fill_length f roots₀ 0 n, as_many))
        ∙ ap (λ (x : ℕ). moved_to moved (get_or h.roots x 0)) here
        ∙ reference_is N a b d cells roots walkable r (get_or h.roots i 0) (roots_below N h walkable.named i)
        ∙ sym (ap (λ (d : ℕ). get_or (map new_root h.roots) i d) (sym zero_root) ∙ get_or-map new_root h.roots i 0))

    -- ---- the six lists: five cleared, the objects written, the roots written over what they were

    pub lists_written :
        (roots₀ : List ℕ) {a₀ b₀ counts₀ cells₀ d₀ a2 b2 counts2 cells2 roots2 d2 : List ℕ}
        → a₀ ≡ replicate (M / 8) 0 → b₀ ≡ replicate (M / 8) 255 → counts₀ ≡ replicate (v * (M / 8)) 0 → cells₀ ≡ replicate (4 * M) 0
        → d₀ ≡ replicate (M / 8) 0 → length roots₀ ≡ length h.roots
        → part_memory a2 b2 counts2 cells2 [] d2 ≡ copy_objects N h.b h.d h.cells order moved M v (part_memory a₀ b₀ counts₀ cells₀ [] d₀) met
        → roots2 ≡ fill_cells (λ i. moved_to moved (get_or h.roots (0 + i) 0)) roots₀ 0 (length h.roots)
        → copied_lists a2 b2 counts2 cells2 roots2 d2 ≡ filled_lists N h M v
    unfolding copy_all formatted places_in
    lists_written roots₀ {roots2 = roots2} a-is b-is counts_are cells_are d-is as_many objects rooted =
        ap (with_roots roots2)
        (objects
        ∙ (λ t. copy_objects N h.b h.d h.cells order moved M v (part_memory (a-is t) (b-is t) (counts_are t) (cells_are t) [] (d-is t)) met)
        ∙ objects_part N h.b h.d h.cells order moved M v empty met
        ∙ ap part (objects_are met (omega arith) ∙ ap (copy_first N h all (places N a b d cells roots walkable r) M v) r.all))
        ∙ ap (λ (l : List ℕ). with_roots l (part (copy_first N h all (places N a b d cells roots walkable r) M v (length all)))) (rooted ∙ roots_are roots₀ as_many)
        ∙ ap (λ (p : List ℕ). lists_of (copy_all N h all p M v)) (sym (ap places_in r.laid_by))

-- ---- all of it: the other four lists cleared, that of sections true

-- the rule writes no other list
first_beside : (N : ℕ) (h : Memory) (met places : List ℕ) (M v k : ℕ) → let g = copy_first N h met places M v k in
    g ≡ beside (formatted M v (length h.roots)) g
unfolding copy_first copy_one
first_beside N h met places M v zero = refl
first_beside N h met places M v (suc k) =
    ap (λ (g : Memory). copy_one N h met places M v g (block_at met (suc k)) (get_or places k 0)) (first_beside N h met places M v k)

pub all_written :
    (N : ℕ) (h : Memory) (met places : List ℕ) (M v : ℕ) {a b counts cells roots waiting sections d marks list : List ℕ}
    → copied_lists a b counts cells roots d ≡ lists_of (copy_all N h met places M v)
    → waiting ≡ replicate M 0 → marks ≡ replicate (M / 8) 0 → list ≡ replicate (M + 1) 0
    → sections ≡ figures M a → lent_memory a b counts cells roots waiting sections d marks list ≡ settled M (copy_all N h met places M v)
unfolding copy_all formatted
all_written N h met places M v {a} {b} {counts} {cells} {roots} {waiting} {sections} {d} {marks} {list} lists idle marks_are list_is true_list =
    let empty : Memory = formatted M v (length h.roots) in
    (λ t. lent_memory a b counts cells roots (idle t) (true_list t) d (marks_are t) (list_is t))
    ∙ ap (λ (p : Memory). settled M (beside empty p)) lists
    ∙ ap (λ (g : Memory). settled M (with_roots (copy_all N h met places M v).roots g)) (sym (first_beside N h met places M v (length met)))
