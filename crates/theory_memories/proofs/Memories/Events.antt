-- The stores of the rules, seen in the object graph, for request U8: the memory before a store, the one with
-- the slot written, and the one that is left, with the objects that the store touches.
use mathlib.Core.Path.{◌≡◌, refl, sym, ap, ◌∙◌, subst}
use mathlib.Core.Logic.{◌≢◌, ◌⊎◌, inl, inr}
use mathlib.Core.Bool.{Bool, true, false}
use mathlib.Core.List.{List, [], ◌∷◌, ◌++◌}
use Prim.Native.Nat.{ℕ, suc, ◌+◌, ◌*◌, ◌≤◌, ◌<◌}
use native.Mathlib.Numerals.{add-one}
use native.Mathlib.Decide.{ℕ_discrete}
use native.Mathlib.Omega.{arith}
use lib.Dec.{eqb}
use lib.ListN.{length, get_or, set, length-set}
use lib.Seq.{set-append_left, get_or-set_same, get_or-set_other}
use borrow.Author.Tests.{eq-eqb, eqb-true, ltb-true, lt-ltb}
use Rattle.bitmap.specs.Bit.{one}
use Rattle.rules.specs.Tools.{holding}
use Rattle.rules.specs.Heap.{Memory, with_cells, with_roots, capacity, is_first, size_at, is_ref, is_data}
use Rattle.rules_stores.specs.Store.{placed, put_root, put_cell, change_root, change_cell, allocate_in}
use Rattle.rules.proofs.Tests.{test_cases_lem}
use Rattle.rules.proofs.Objects.{holding_nil, holding_cons}
use Rattle.theory_memories.proofs.Maps.Extents.{sizes_of, length_sizes_of}
use Rattle.theory_memories.proofs.Maps.LowestChunk.{Room}
use Rattle.theory_graphs.proofs.Graphs.Stretch.{Inside}
use Rattle.theory_graphs.proofs.Graphs.Graph as graph
use Rattle.theory_graphs.proofs.Graphs.Graph.{Graph, size, slot, first_slot, Owns, raise, place}
use Rattle.theory_graphs.proofs.Graphs.Balance.{Balanced, Waits, named_object}
use Rattle.theory_graphs.proofs.Graphs.Calls.{Shape, Place, raised_balanced, raised_waits, raised_shape, placed_balanced, placed_waits, placed_shape}
use Rattle.theory_graphs.proofs.Graphs.Tidy.{Lets}
use Rattle.theory_graphs.proofs.Graphs.Apart.{To}
use Rattle.theory_graphs.proofs.Graphs.Stored.{finish_stands, finish_left, finish_to_kept}
use Rattle.theory_memories.proofs.Memories.Reading.{reference_written}
use Rattle.theory_memories.proofs.Memories.View.{cell_refs, slots_in, view}
use Rattle.theory_memories.proofs.Memories.Slots.{root_slot}
use Rattle.theory_memories.proofs.Memories.Healthy.{Healthy}
use Rattle.theory_memories.proofs.Memories.Shades.{Among}
use Rattle.theory_memories.proofs.Memories.ViewMoves.{set_append_right}
use Rattle.theory_memories.proofs.Memories.ViewRelease.{Shows}
use Rattle.theory_memories.proofs.Memories.Stores.{positive, slots_length, ref_object, store_root_lem, cell_place, cell_inside, cell_of_lem, cell_below}
use Rattle.theory_memories.proofs.Memories.Stores.{cell_read_lem, store_cell_lem, room_vacant, placed_shows, allocate_root}

-- ---- the objects that are touched

pub among_none : (b : ℕ) → ¬ (Among [] b)
among_none b e = omega (arith, ltb-true 0 (holding (b + 1) []) e, holding_nil (b + 1))

pub among_here : (x : ℕ) (l : List ℕ) (b : ℕ) → x ≡ suc b → Among (x ∷ l) b
among_here x l b e =
    lt-ltb 0 (holding (b + 1) (x ∷ l)) (omega (arith, holding_cons (b + 1) x l, ap one (eq-eqb x (b + 1) (e ∙ sym (add-one b)))))

pub among_later : (x : ℕ) (l : List ℕ) (b : ℕ) → Among l b → Among (x ∷ l) b
among_later x l b e =
    lt-ltb 0 (holding (b + 1) (x ∷ l)) (omega (arith, holding_cons (b + 1) x l, ltb-true 0 (holding (b + 1) l) e))

pub among_cases : (x : ℕ) (l : List ℕ) (b : ℕ) → Among (x ∷ l) b → (x ≡ suc b) ⊎ Among l b
among_cases x l b e =
    elim (test_cases_lem (eqb x (b + 1))) [
      | inl q ↦ inl (eqb-true x (b + 1) q ∙ add-one b)
      | inr q ↦
          inr
          (lt-ltb 0 (holding (b + 1) l)
          (omega (arith, ltb-true 0 (holding (b + 1) (x ∷ l)) e, holding_cons (b + 1) x l, ap one q)))
    ]

-- ---- what is known of a store: h before it, k with the slot written, g what is left

pub record Event (N w : ℕ) (h k : Memory) (touched : List ℕ) (g : Memory) : Type 0 where
  pub left : Healthy N w g
  pub roots_k : length k.roots ≡ length h.roots
  pub roots_g : length g.roots ≡ length h.roots
  pub lets : Lets (length h.roots) (view N w h) (view N w k) (view N w g) (Among touched)
  -- what leads to b is not freed, where nothing that is touched does
  pub kept :
      (b : ℕ) → size (view N w h) b ≢ 0
      → ((c : ℕ) → Among touched c → ¬ (To (length h.roots) (view N w k).sizes (view N w k).slots b c))
      → (c : ℕ) → To (length h.roots) (view N w k).sizes (view N w k).slots b c → size (view N w g) c ≡ size (view N w k) c

-- from the graph: f has what is in the hand, slot i is written, and what it named is let go
module _ (N w : ℕ) (h k : Memory) (touched : List ℕ) (g : Memory) (healthy : Healthy N w h) (left : Healthy N w g) (f : Graph) (i v : ℕ)
    (held : Balanced (capacity w) f v) (waits : Waits f []) (shape : Shape (length h.roots) f) (slot-i : Place (length h.roots) f i)
    (view-g : view N w g ≡ graph.finish (capacity w) (length h.roots) f i v)
    (sizes-k : (view N w k).sizes ≡ f.sizes) (slots-k : (view N w k).slots ≡ set f.slots i v)
    (roots_k : length k.roots ≡ length h.roots) (roots_g : length g.roots ≡ length h.roots)
    (same_slots : f.slots ≡ (view N w h).slots)
    (placed : (x : ℕ) → (size (view N w k) x ≡ size (view N w h) x)
    ⊎ ((size (view N w h) x ≡ 0) × ((s : ℕ) → Owns (length h.roots) (view N w k).sizes x s → slot (view N w k) s ≡ 0)))
    (old-touched : (c : ℕ) → slot (view N w h) i ≡ suc c → Among touched c) (new_touched : (c : ℕ) → v ≡ suc c → Among touched c)
    (inside : i < length (slots_in N h)) where
  abbrev cap : ℕ
  cap = capacity w

  abbrev r : ℕ
  r = length h.roots

  pos : 0 < capacity w
  pos = positive N w h healthy

  slot_k : (s : ℕ) → slot (view N w k) s ≡ get_or (set (slots_in N h) i v) s 0
  slot_k s = ap (λ (l : List ℕ). get_or l s 0) slots-k ∙ ap (λ (l : List ℕ). get_or (set l i v) s 0) same_slots

  stored : (s b : ℕ) → slot (view N w k) s ≡ suc b → (slot (view N w h) s ≡ suc b) ⊎ Among touched b
  stored s b e =
      elim (ℕ_discrete s i) [
        | yes q ↦
            inr
            (new_touched b
            (sym (get_or-set_same (slots_in N h) i v 0 inside) ∙ ap (λ (j : ℕ). get_or (set (slots_in N h) i v) j 0) (sym q) ∙ sym (slot_k s) ∙ e))
        | no d ↦ inl (sym (get_or-set_other (slots_in N h) i s v 0 d) ∙ sym (slot_k s) ∙ e)
      ]

  stands : (x : ℕ) → size (view N w g) x ≢ 0 → size (view N w g) x ≡ size (view N w k) x
  stands x n =
      let here : size (view N w g) x ≡ size (graph.finish cap r f i v) x = ap (λ (m : Graph). size m x) view-g in
      here ∙ finish_stands cap pos r f i v held waits shape slot-i x (λ z. n (here ∙ z)) ∙ sym (ap (λ (l : List ℕ). get_or l x 0) sizes-k)

  left_slot : (s b : ℕ) → slot (view N w g) s ≡ suc b → slot (view N w k) s ≡ suc b
  left_slot s b e =
      ap (λ (l : List ℕ). get_or l s 0) slots-k
      ∙ finish_left cap pos r f i v held waits shape slot-i s b (sym (ap (λ (m : Graph). slot m s) view-g) ∙ e)

  kept : (b : ℕ) → size (view N w h) b ≢ 0
      → ((c : ℕ) → Among touched c → ¬ (To r (view N w k).sizes (view N w k).slots b c))
      → (c : ℕ) → To r (view N w k).sizes (view N w k).slots b c → size (view N w g) c ≡ size (view N w k) c
  kept b some apart c to =
      let there = subst (λ (l : List ℕ). To r f.sizes l b c) slots-k (subst (λ (l : List ℕ). To r l (view N w k).slots b c) sizes-k to) in
      let old : (c : ℕ) → slot f i ≡ suc c → ¬ (To r f.sizes (set f.slots i v) b c) =
      λ c e t.
      apart c (old-touched c (sym (ap (λ (l : List ℕ). get_or l i 0) same_slots) ∙ e))
      (subst (λ (l : List ℕ). To r l (view N w k).slots b c) (sym sizes-k) (subst (λ (l : List ℕ). To r f.sizes l b c) (sym slots-k) t)) in
      ap (λ (m : Graph). size m c) view-g
      ∙ finish_to_kept cap pos r f i v held waits shape slot-i b some_f old c there
      ∙ sym (ap (λ (l : List ℕ). get_or l c 0) sizes-k)
    where
      some_f : size f b ≢ 0
      some_f z =
          elim (placed b) [
            | inl e ↦ some (sym e ∙ ap (λ (l : List ℕ). get_or l b 0) sizes-k ∙ z)
            | inr e ↦ some e.0
          ]

  pub event : Event N w h k touched g
  event =
      record {
        left = left;
        roots_k = roots_k;
        roots_g = roots_g;
        lets = record {
          placed = placed;
          stored = stored;
          stands = stands;
          left = left_slot;
          named = named_object cap pos (view N w g) left.whole.balanced;
        };
        kept = kept;
      }

-- the stores of the rules, each as such a store
module _ (N w : ℕ) (h : Memory) (healthy : Healthy N w h) where
  abbrev R : ℕ
  R = length h.roots

  module _ (v : ℕ) (ref : is_ref N h v ≡ true) where
    pub root_event :
        (r : ℕ) → r < length h.roots → Healthy N w (change_root N w h r v)
        → Event N w h (with_roots (set h.roots r v) h) (get_or h.roots r 0 ∷ v ∷ []) (change_root N w h r v)
    unfolding change_root put_root graph.store
    root_event r l left =
        let shows = (store_root_lem N w h healthy v ref r l).shows in
        let named = ref_object N w h healthy v ref in
        let old : ℕ = get_or h.roots r 0 in
        event N w h (with_roots (set h.roots r v) h) (old ∷ v ∷ []) (change_root N w h r v) healthy left (raise (capacity w) (view N w h) v) r v
        (raised_balanced (capacity w) (positive N w h healthy) R (view N w h) healthy.whole r v (inl l) named)
        (raised_waits (capacity w) (positive N w h healthy) R (view N w h) healthy.whole r v (inl l) named)
        (raised_shape (capacity w) (positive N w h healthy) R (view N w h) healthy.whole r v (inl l) named) (inl l)
        shows.view_is refl (sym (set-append_left h.roots (cell_refs N h) r v l)) (length-set h.roots r v) shows.roots_are refl
        (λ x. inl refl) (λ c e. among_here old (v ∷ []) c (sym (root_slot N h r l) ∙ e)) (λ c e. among_later old (v ∷ []) c (among_here v [] c e))
        (omega (arith, slots_length N w h healthy))

    pub cell_event :
        (a j : ℕ) → is_first N h a ≡ true → j < 4 * size_at N h a → is_data h.d a ≡ false → Healthy N w (change_cell N w h (4 * a + j) v)
        → Event N w h (with_cells (set h.cells (4 * a + j) v) h) ((a + 1) ∷ get_or h.cells (4 * a + j) 0 ∷ v ∷ []) (change_cell N w h (4 * a + j) v)
    unfolding change_cell put_cell graph.store
    cell_event a j first l ordinary left =
        let c : ℕ = 4 * a + j in
        let i : ℕ = length h.roots + c in
        let shows = (store_cell_lem N w h healthy v ref a j first l ordinary).shows in
        let named = ref_object N w h healthy v ref in
        let slot-i = cell_place N w h healthy a j first l in
        let old : ℕ = get_or h.cells c 0 in
        let refs =
        reference_written N h.a h.b (sizes_of N h.a h.b) healthy.represents h.d h.cells a c v (cell_of_lem N w h healthy a j first l) ordinary
        (omega (arith, cell_below N w h healthy a j first l, healthy.shape.length_cells)) in
        event N w h (with_cells (set h.cells c v) h) ((a + 1) ∷ old ∷ v ∷ []) (change_cell N w h c v) healthy left (raise (capacity w) (view N w h) v) i v
        (raised_balanced (capacity w) (positive N w h healthy) R (view N w h) healthy.whole i v slot-i named)
        (raised_waits (capacity w) (positive N w h healthy) R (view N w h) healthy.whole i v slot-i named)
        (raised_shape (capacity w) (positive N w h healthy) R (view N w h) healthy.whole i v slot-i named) slot-i
        shows.view_is refl (ap (λ (m : List ℕ). h.roots ++ m) refs ∙ sym (set_append_right h.roots (cell_refs N h) c v)) refl shows.roots_are refl
        (λ x. inl refl)
        (λ d e. among_later (a + 1) (old ∷ v ∷ []) d (among_here old (v ∷ []) d (sym (cell_read_lem N w h healthy a j first l ordinary) ∙ e)))
        (λ d e. among_later (a + 1) (old ∷ v ∷ []) d (among_later old (v ∷ []) d (among_here v [] d e)))
        (cell_inside N w h healthy a j first l)

  module _ (n i : ℕ) (some : n ≢ 0) (room : Room N h.a n i) (asData : Bool) where
    -- the cells there are 0
    vacant_slots : (s : ℕ) → Inside (first_slot (length h.roots) i) (4 * n) s → slot (view N w h) s ≡ 0
    vacant_slots s p =
        elim (ℕ_discrete (slot (view N w h) s) 0) [ yes e ↦ e | no m ↦ absurd (go (healthy.whole.shape.owned s m)) ]
      where
        beside :
            (x : ℕ) → Owns (length h.roots) (sizes_of N h.a h.b) x s → (x + size (view N w h) x ≤ i) ⊎ (i + n ≤ x) → ⊥
        beside x own (inl l) = omega (arith, own, p)
        beside x own (inr l) = omega (arith, own, p)

        go : (s < length h.roots) ⊎ ((x : ℕ) × Owns (length h.roots) (sizes_of N h.a h.b) x s) → ⊥
        go (inl l) = omega (arith, p)
        go (inr (x, own)) = beside x own ((room_vacant N w h healthy n i some room).clear x (omega (arith, own)))

    -- the slots with the new reference written
    pub allocate_slots : (r : ℕ) → r < length h.roots → Shows N w (length h.roots) (placed N w asData h i n) (place (view N w h) i n)
        → set h.roots r (i + 1) ++ cell_refs N (placed N w asData h i n) ≡ set (slots_in N h) r (suc i)
    unfolding placed
    allocate_slots r l shown =
        sym (set-append_left h.roots (cell_refs N (placed N w asData h i n)) r (i + 1) l)
        ∙ ap (λ (m : Graph). set m.slots r (i + 1)) shown.view_is
        ∙ ap (set (slots_in N h) r) (add-one i)

    -- it stands there, where none stood
    pub allocate_fresh : (size (view N w h) i ≡ 0) × (size (view N w (placed N w asData h i n)) i ≢ 0)
    allocate_fresh = (
      elim (ℕ_discrete (size (view N w h) i) 0) [
        | yes z ↦ z
        | no m ↦ absurd (beside ((room_vacant N w h healthy n i some room).clear i m) m)
      ],
      λ z.
          some
          (sym (get_or-set_same (sizes_of N h.a h.b) i n 0 (omega (arith, room.inside, length_sizes_of N h.a h.b)))
          ∙ sym (ap (λ (m : Graph). size m i) (placed_shows N w h healthy n i some room asData).view_is) ∙ z),
    )
      where
        beside : (i + size (view N w h) i ≤ i) ⊎ (i + n ≤ i) → size (view N w h) i ≢ 0 → ⊥
        beside (inl u) m = omega arith
        beside (inr u) m = omega arith

    pub allocate_placed : (r : ℕ) → r < length h.roots → (x : ℕ)
        → (get_or (sizes_of N (placed N w asData h i n).a (placed N w asData h i n).b) x 0 ≡ size (view N w h) x)
        ⊎ ((size (view N w h) x ≡ 0)
        × ((s : ℕ) → Owns (length h.roots) (sizes_of N (placed N w asData h i n).a (placed N w asData h i n).b) x s
        → get_or (set h.roots r (i + 1) ++ cell_refs N (placed N w asData h i n)) s 0 ≡ 0))
    allocate_placed r l x =
        let shown = placed_shows N w h healthy n i some room asData in
        let is : sizes_of N (placed N w asData h i n).a (placed N w asData h i n).b ≡ set (sizes_of N h.a h.b) i n =
        ap (λ (m : Graph). m.sizes) shown.view_is in
        elim (ℕ_discrete x i) [
          | no d ↦ inl (ap (λ (m : List ℕ). get_or m x 0) is ∙ get_or-set_other (sizes_of N h.a h.b) i x n 0 d)
          | yes q ↦
              let size_new : get_or (sizes_of N (placed N w asData h i n).a (placed N w asData h i n).b) x 0 ≡ n =
              ap (λ (m : List ℕ). get_or m x 0) is ∙ ap (λ (j : ℕ). get_or (set (sizes_of N h.a h.b) i n) j 0) q
              ∙ get_or-set_same (sizes_of N h.a h.b) i n 0 (omega (arith, room.inside, length_sizes_of N h.a h.b)) in
              inr (
                fresh x q,
                λ s own.
                    let d : s ≢ r = omega (arith, own) in
                    ap (λ (m : List ℕ). get_or m s 0) (allocate_slots r l shown) ∙ get_or-set_other (slots_in N h) r s (suc i) 0 d
                    ∙ vacant_slots s (omega (arith, own), omega (arith, own)),
              )
        ]
      where
        fresh : (x : ℕ) → x ≡ i → size (view N w h) x ≡ 0
        fresh x q =
            elim (ℕ_discrete (size (view N w h) x) 0) [
              | yes z ↦ z
              | no m ↦ absurd (beside ((room_vacant N w h healthy n i some room).clear x m) m)
            ]
          where
            beside : (x + size (view N w h) x ≤ i) ⊎ (i + n ≤ x) → size (view N w h) x ≢ 0 → ⊥
            beside (inl u) m = omega arith
            beside (inr u) m = omega arith

    pub allocate_event :
        (r : ℕ) → r < length h.roots → Healthy N w (allocate_in N w asData h n r i)
        → Event N w h (with_roots (set h.roots r (i + 1)) (placed N w asData h i n)) (get_or h.roots r 0 ∷ (i + 1) ∷ []) (allocate_in N w asData h n r i)
    unfolding allocate_in put_root graph.allocate placed
    allocate_event r l left =
        let cap : ℕ = capacity w in
        let pos = positive N w h healthy in
        let vacant = room_vacant N w h healthy n i some room in
        let shown = placed_shows N w h healthy n i some room asData in
        let shows = (allocate_root N w h healthy n i some room asData r l).shows in
        let old : ℕ = get_or h.roots r 0 in
        let k : Memory = with_roots (set h.roots r (i + 1)) (placed N w asData h i n) in
        event N w h k (old ∷ (i + 1) ∷ []) (allocate_in N w asData h n r i) healthy left (place (view N w h) i n) r (suc i)
        (placed_balanced cap pos R (view N w h) healthy.whole i n r vacant l)
        (placed_waits cap pos R (view N w h) healthy.whole i n r vacant l)
        (placed_shape cap pos R (view N w h) healthy.whole i n r vacant l) (inl l)
        shows.view_is (sizes_are shown) (allocate_slots r l shown) (length_set_placed r) shows.roots_are refl
        (allocate_placed r l)
        (λ c e. among_here old ((i + 1) ∷ []) c (sym (root_slot N h r l) ∙ e))
        (λ c e. among_later old ((i + 1) ∷ []) c (among_here (i + 1) [] c (add-one i ∙ e)))
        (omega (arith, slots_length N w h healthy))
      where
        sizes_are : Shows N w (length h.roots) (placed N w asData h i n) (place (view N w h) i n)
            → sizes_of N (placed N w asData h i n).a (placed N w asData h i n).b ≡ set (sizes_of N h.a h.b) i n
        sizes_are shown = ap (λ (m : Graph). m.sizes) shown.view_is

        length_set_placed : (r : ℕ) → length (set h.roots r (i + 1)) ≡ length h.roots
        length_set_placed r = length-set h.roots r (i + 1)
