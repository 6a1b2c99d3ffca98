-- Stores, allocations and returns while a collection is open (request U8): it stays open, number 13 does not
-- come to apply, the objects that are unmarked or listed become no more, and an object that no marked one led
-- to is so still, unless the call touches it.
use mathlib.Core.Path.{◌≡◌, refl, sym, ap, ◌∙◌, subst}
use mathlib.Core.Logic.{◌≢◌, inl, inr}
use mathlib.Core.Bool.{Bool, true, false}
use mathlib.Core.List.{List, [], ◌∷◌}
use mathlib.Core.Option.{some}
use Prim.Native.Nat.{ℕ, zero, suc, ◌+◌, ◌*◌, ◌≤◌, ◌<◌}
use native.Mathlib.Omega.{arith}
use lib.Dec.{eqb}
use lib.ListN.{length, get_or, set}
use lib.Seq.{get_or-set_other, set-append_left}
use borrow.Author.Tests.{eqb-false}
use Rattle.bitmap.specs.Bit.{count_below}
use Rattle.rules.specs.Heap.{Memory, with_cells, with_roots, capacity, is_first, size_at, exponent, lowest_free, is_ref, is_data}
use Rattle.rules_stores.specs.Store.{put_root, put_cell, change_root, change_cell, placed, allocate_in, is_chosen}
use Rattle.rules_stores.proofs.Plain.{store_root_in, return_in}
use Rattle.rules_steps.specs.Steps.{is_open, is_marked, is_listed, is_untidy, with_progress, marks_after, list_after, shaded}
use Rattle.rules_steps.specs.Steps.{store_root_shading, store_cell_shading, allocate_shading, clear_shading, return_shading}
use Rattle.rules_calls.specs.Calls.{settled}
use Rattle.rules.proofs.Shape.{Shaped}
use Rattle.theory_memories.proofs.Maps.LowestChunk.{room}
use Rattle.theory_graphs.proofs.Graphs.Graph.{size, slot, Owns}
use Rattle.theory_graphs.proofs.Graphs.Order.{runs_leave}
use Rattle.theory_graphs.proofs.Graphs.Tidy.{Tidy, Shades, tidy_shades}
use Rattle.theory_graphs.proofs.Graphs.Apart.{To, self, link, Apart, apart_shades}
use Rattle.theory_graphs.proofs.Graphs.Pale.{is_pale, pale_shades}
use Rattle.theory_graphs.proofs.Graphs.Scan.{apart_same, pale_same}
use Rattle.theory_memories.proofs.Memories.View.{cell_refs, slots_in, view}
use Rattle.theory_memories.proofs.Memories.Slots.{root_slot}
use Rattle.theory_memories.proofs.Memories.Healthy.{Healthy}
use Rattle.theory_memories.proofs.Memories.TidyHeap.{tidy_facts, open_after, marked_after, listed_after, tidy_passes}
use Rattle.theory_memories.proofs.Memories.Shades.{Among, shades}
use Rattle.theory_memories.proofs.Memories.Events.{among_none, among_cases, Event, root_event, cell_event, allocate_event}
use Rattle.theory_memories.proofs.Memories.Stores.{positive, store_root_lem, cell_place, store_cell_lem, allocate_root}
use Rattle.theory.proofs.EachCall.Shading.{shape_sized, progress_shading, healthy_shading, store_root_shading_lem, return_shading_lem}
use Rattle.theory.proofs.EachCall.StoresServed.{store_healthy, allocate_served}
use Rattle.theory.proofs.EachCall.Clearing.{none_ref, InSet, root_cleared, returned}

-- ---- what is known of a heap with a collection open

-- the number of objects that are unmarked or listed
abbrev pub pale_in : ℕ → ℕ → Memory → ℕ
pale_in N w h = count_below (is_pale (view N w h) (is_marked h) (is_listed N h)) N

-- no root and no marked object leads to the object at b
abbrev pub ApartIn : ℕ → ℕ → Memory → ℕ → Type 0
ApartIn N w h b = Apart (length h.roots) (view N w h) (is_marked h) b

pub record Open (N w : ℕ) (h : Memory) : Type 0 where
  pub healthy : Healthy N w h
  pub was_open : is_open N h ≡ true
  pub tidy : is_untidy N h ≡ false

-- a call made g of h; `Apart b` says that nothing that it touches leads to b
pub record Goes (N w : ℕ) (h : Memory) (Unled : ℕ → Type 0) (g : Memory) : Type 0 where
  pub after : Open N w g
  pub roots_are : length g.roots ≡ length h.roots
  pub fewer : pale_in N w g ≤ pale_in N w h
  pub apart : (b : ℕ) → Unled b → size (view N w h) b ≢ 0 → size (view N w g) b ≢ 0 → ApartIn N w h b → ApartIn N w g b
  -- what is not touched is not freed
  pub stays : (b : ℕ) → Unled b → size (view N w h) b ≢ 0 → size (view N w g) b ≢ 0

pub goes_same : (N w : ℕ) (h : Memory) (Unled : ℕ → Type 0) → Open N w h → Goes N w h Unled h
goes_same N w h Unled was_open = record { after = was_open; roots_are = refl; fewer = omega arith; apart = λ b u was is a. a; stays = λ b u was. was }

module _ (N w : ℕ) (h : Memory) (before : Open N w h) where
  abbrev R : ℕ
  R = length h.roots

  now : Tidy (length h.roots) (view N w h) (is_marked h) (is_listed N h)
  now = tidy_facts N w h before.healthy before.was_open before.tidy

  -- ---- a store

  module _ (k : Memory) (touched : List ℕ) (g : Memory) (event : Event N w h k touched g) where
    abbrev M : ℕ → Bool
    M = marks_after N h k touched g

    abbrev L : ℕ → Bool
    L = list_after N h k touched g

    pub shade : Shades R (view N w h) (view N w k) (view N w g) (Among touched) (is_marked h) (is_listed N h) M L
    shade =
        subst (λ (q : ℕ). Shades q (view N w h) (view N w k) (view N w g) (Among touched) (is_marked h) (is_listed N h) M L) event.roots_k
        (shades N w h k touched g)

    pub tidy_left : Tidy (length g.roots) (view N w g) M L
    tidy_left =
        subst (λ (q : ℕ). Tidy q (view N w g) M L) (sym event.roots_g)
        (tidy_shades R (view N w h) (view N w k) (view N w g) (Among touched) (is_marked h) (is_listed N h) M L now event.lets shade)

    pub is_shaded : shaded N h k touched g ≡ with_progress N M L g
    unfolding shaded
    is_shaded = rw (before.was_open, shaded)

    goes_progress :
        Goes N w h (λ b. (c : ℕ) → Among touched c → ¬ (To R (view N w k).sizes (view N w k).slots b c)) (with_progress N M L g)
    unfolding with_progress
    goes_progress =
        record {
          after = record {
            healthy = healthy_shading N w g (with_progress N M L g) (progress_shading N g (shape_sized N w g event.left.shape) M L) event.left;
            was_open = open_after N w g event.left M L tidy_left;
            tidy = tidy_passes N w g event.left M L tidy_left;
          };
          roots_are = event.roots_g;
          fewer =
              omega (
                arith,
                pale_same (view N w g) M L (is_marked (with_progress N M L g)) (is_listed N (with_progress N M L g))
                    (marked_after N w g event.left M L tidy_left) (listed_after N w g event.left M L tidy_left) N,
                pale_shades R (view N w h) (view N w k) (view N w g) (Among touched) (is_marked h) (is_listed N h) M L now event.lets shade N,
              );
          apart = λ b unled was is apart.
              subst (λ (q : ℕ). Apart q (view N w g) (is_marked (with_progress N M L g)) b) (sym event.roots_g)
              (apart_same R (view N w g) M (is_marked (with_progress N M L g)) b (marked_after N w g event.left M L tidy_left)
              (apart_shades R (view N w h) (view N w k) (view N w g) (Among touched) (is_marked h) (is_listed N h) M L b apart event.lets was
              (λ c m. (shade.now c m).1) unled (event.kept b was unled)));
          stays = λ b unled was z.
              elim (event.lets.placed b) [
                | inl same ↦ was (sym same ∙ sym (event.kept b was unled b self) ∙ z)
                | inr new ↦ was new.0
              ];
        }

    pub goes_shaded :
        Goes N w h (λ b. (c : ℕ) → Among touched c → ¬ (To R (view N w k).sizes (view N w k).slots b c)) (shaded N h k touched g)
    goes_shaded =
        subst (λ (m : Memory). Goes N w h (λ b. (c : ℕ) → Among touched c → ¬ (To R (view N w k).sizes (view N w k).slots b c)) m)
        (sym is_shaded) goes_progress

  -- ---- the memory that is left is healthy before it is settled

  unsettled : (g : Memory) → Shaped N w g → Healthy N w (settled N g) → Healthy N w g
  unsettled g shape fine = record { shape = shape; represents = fine.represents; whole = fine.whole; aligned = fine.aligned; bare = fine.bare }

  module _ (v : ℕ) (ref : is_ref N h v ≡ true) where
    pub root_goes :
        (r : ℕ) → r < length h.roots
        → let k : Memory = with_roots (set h.roots r v) h in
        let old : ℕ = get_or h.roots r 0 in
        Goes N w h (λ b. old ≢ v → (c : ℕ) → Among (old ∷ v ∷ []) c → ¬ (To R (view N w k).sizes (view N w k).slots b c))
        (store_root_shading N w h r v)
    unfolding store_root_shading change_root put_root
    root_goes r l = go (eqb (get_or h.roots r 0) v) refl
      where
        left : Healthy N w (change_root N w h r v)
        left =
            let shows = (store_root_lem N w h before.healthy v ref r l).shows in
            unsettled (change_root N w h r v) shows.shape
            (store_healthy N w h before.healthy v ref r (inl l) (change_root N w h r v) shows)

        go : (t : Bool) → eqb (get_or h.roots r 0) v ≡ t
            → Goes N w h
            (λ b. get_or h.roots r 0 ≢ v → (c : ℕ) → Among (get_or h.roots r 0 ∷ v ∷ []) c
            → ¬ (To R (view N w (with_roots (set h.roots r v) h)).sizes (view N w (with_roots (set h.roots r v) h)).slots b c))
            (elim t [
              | true ↦ h
              | false ↦ shaded N h (with_roots (set h.roots r v) h) (get_or h.roots r 0 ∷ v ∷ []) (change_root N w h r v)
            ])
        go true e = goes_same N w h _ before
        go false e =
            let more =
            goes_shaded (with_roots (set h.roots r v) h) (get_or h.roots r 0 ∷ v ∷ []) (change_root N w h r v)
            (root_event N w h before.healthy v ref r l left) in
            record {
              after = more.after;
              roots_are = more.roots_are;
              fewer = more.fewer;
              apart = λ b unled. more.apart b (unled (eqb-false (get_or h.roots r 0) v e));
              stays = λ b unled. more.stays b (unled (eqb-false (get_or h.roots r 0) v e));
            }

    pub cell_goes :
        (a j : ℕ) → is_first N h a ≡ true → j < 4 * size_at N h a → is_data h.d a ≡ false
        → let k : Memory = with_cells (set h.cells (4 * a + j) v) h in
        let old : ℕ = get_or h.cells (4 * a + j) 0 in
        Goes N w h (λ b. old ≢ v → (c : ℕ) → Among ((a + 1) ∷ old ∷ v ∷ []) c → ¬ (To R (view N w k).sizes (view N w k).slots b c))
        (store_cell_shading N w h a j v)
    unfolding store_cell_shading change_cell put_cell
    cell_goes a j first l ordinary = go (eqb (get_or h.cells (4 * a + j) 0) v) refl
      where
        left : Healthy N w (change_cell N w h (4 * a + j) v)
        left =
            let shows = (store_cell_lem N w h before.healthy v ref a j first l ordinary).shows in
            unsettled (change_cell N w h (4 * a + j) v) shows.shape
            (store_healthy N w h before.healthy v ref (length h.roots + (4 * a + j)) (cell_place N w h before.healthy a j first l)
            (change_cell N w h (4 * a + j) v) shows)

        go : (t : Bool) → eqb (get_or h.cells (4 * a + j) 0) v ≡ t
            → Goes N w h
            (λ b. get_or h.cells (4 * a + j) 0 ≢ v → (c : ℕ) → Among ((a + 1) ∷ get_or h.cells (4 * a + j) 0 ∷ v ∷ []) c
            → ¬ (To R (view N w (with_cells (set h.cells (4 * a + j) v) h)).sizes (view N w (with_cells (set h.cells (4 * a + j) v) h)).slots b c))
            (elim t [
              | true ↦ h
              | false ↦
                  shaded N h (with_cells (set h.cells (4 * a + j) v) h) ((a + 1) ∷ get_or h.cells (4 * a + j) 0 ∷ v ∷ [])
                  (change_cell N w h (4 * a + j) v)
            ])
        go true e = goes_same N w h _ before
        go false e =
            let more =
            goes_shaded (with_cells (set h.cells (4 * a + j) v) h) ((a + 1) ∷ get_or h.cells (4 * a + j) 0 ∷ v ∷ [])
            (change_cell N w h (4 * a + j) v) (cell_event N w h before.healthy v ref a j first l ordinary left) in
            record {
              after = more.after;
              roots_are = more.roots_are;
              fewer = more.fewer;
              apart = λ b unled. more.apart b (unled (eqb-false (get_or h.cells (4 * a + j) 0) v e));
              stays = λ b unled. more.stays b (unled (eqb-false (get_or h.cells (4 * a + j) 0) v e));
            }

  pub allocate_left :
      (asData : Bool) (n r i : ℕ) → 1 ≤ n → n ≤ N → r < length h.roots → lowest_free N (exponent n) h.a ≡ some i
      → Healthy N w (allocate_in N w asData h n r i)
  unfolding allocate_in put_root placed
  allocate_left asData n r i low high l found =
      unsettled (allocate_in N w asData h n r i)
      (allocate_root N w h before.healthy n i (omega arith) (room N h.a n i found) asData r l).shows.shape
      (allocate_served N w h before.healthy n r i low high l found asData 0).keep

  pub allocate_goes :
      (asData : Bool) (n r i : ℕ) → 1 ≤ n → n ≤ N → r < length h.roots → lowest_free N (exponent n) h.a ≡ some i
      → let k : Memory = with_roots (set h.roots r (i + 1)) (placed N w asData h i n) in
      Goes N w h (λ b. (c : ℕ) → Among (get_or h.roots r 0 ∷ (i + 1) ∷ []) c → ¬ (To R (view N w k).sizes (view N w k).slots b c))
      (allocate_shading N w asData h n r i)
  unfolding allocate_shading
  allocate_goes asData n r i low high l found =
      goes_shaded (with_roots (set h.roots r (i + 1)) (placed N w asData h i n)) (get_or h.roots r 0 ∷ (i + 1) ∷ []) (allocate_in N w asData h n r i)
      (allocate_event N w h before.healthy n i (omega arith) (room N h.a n i found) asData r l
      (allocate_left asData n r i low high l found))

-- ---- what leads to an object in a smaller graph

pub to_grows :
    {r : ℕ} {sizes slots sizes' slots' : List ℕ} {b : ℕ} → ((x s a : ℕ) → Owns r sizes x s → get_or slots s 0 ≡ suc a → get_or sizes x 0 ≡ get_or sizes' x 0)
    → ((x s a : ℕ) → Owns r sizes x s → get_or slots s 0 ≡ suc a → get_or slots' s 0 ≡ suc a) → {c : ℕ} → To r sizes slots b c → To r sizes' slots' b c
to_grows same left self = self
to_grows same left {c} (link a s own e rest) = link a s (rw (same c s a own e) at own) (left c s a own e) (to_grows same left rest)

-- what stands once a root is cleared stood before
root_stood : (N w : ℕ) (h : Memory) → Open N w h → (r : ℕ) → r < length h.roots → (b : ℕ)
    → size (view N w (store_root_shading N w h r 0)) b ≢ 0 → size (view N w h) b ≢ 0
root_stood N w h before r l b stands =
    let shading = store_root_shading_lem N w h (shape_sized N w h before.healthy.shape) r 0 in
    let cleared = root_cleared N w (λ i. i ≡ r) h before.healthy r l refl in
    let leaves = runs_leave (capacity w) (length h.roots) (λ i. i ≡ r) (positive N w h before.healthy) cleared.runs in
    let there : size (view N w (store_root_in N w h r 0)) b ≢ 0 = subst (λ (g : Memory). size (view N w g) b ≢ 0) shading.is stands in
    elim (leaves.objects b) [ inl e ↦ λ z. there (e ∙ z) | inr e ↦ absurd (there e.0) ]

-- ---- a return

module _ (N w : ℕ) (h : Memory) (before : Open N w h) (chosen : ℕ) where
  -- nothing that a root of the set names leads to b
  abbrev pub Unreturned : ℕ → Type 0
  Unreturned b =
      (r c : ℕ) → r < length h.roots → is_chosen chosen r ≡ true → slot (view N w h) r ≡ suc c
      → ¬ (To (length h.roots) (view N w h).sizes (view N w h).slots b c)

  -- what is left of h once the roots below n are cleared
  record Smaller (g : Memory) : Type 0 where
    stands : (x : ℕ) → size (view N w g) x ≢ 0 → size (view N w g) x ≡ size (view N w h) x
    left : (s a : ℕ) → slot (view N w g) s ≡ suc a → slot (view N w h) s ≡ suc a

  smaller : (n : ℕ) → n ≤ length h.roots → Smaller (return_shading N w h chosen n)
  smaller n l =
      let base = return_in N w h chosen n in
      let cleared = returned N w h before.healthy chosen n l in
      let leaves = runs_leave (capacity w) (length h.roots) (InSet chosen (length h.roots)) (positive N w h before.healthy) cleared.runs in
      let shading = return_shading_lem N w h (shape_sized N w h before.healthy.shape) chosen n in
      subst (λ (g : Memory). Smaller g) (sym shading.is)
      (record {
        stands = λ x is. elim (leaves.objects x) [ inl e ↦ e | inr e ↦ absurd (is e.0) ];
        left = λ s a e. elim (leaves.references s) [ inl q ↦ sym q ∙ e | inr q ↦ absurd (omega (arith, q, e)) ];
      })

  pub return_goes : (n : ℕ) → n ≤ length h.roots → Goes N w h Unreturned (return_shading N w h chosen n)
  unfolding return_shading clear_shading
  return_goes zero l = goes_same N w h Unreturned before
  return_goes (suc n) l =
      one (return_shading N w h chosen n) (return_goes n (omega arith)) (smaller n (omega arith))
      (λ c. smaller_after c) (is_chosen chosen n) refl
    where
      smaller_after : is_chosen chosen n ≡ true → Smaller (store_root_shading N w (return_shading N w h chosen n) n 0)
      smaller_after c =
          subst (λ (t : Bool). Smaller (elim t [ true ↦ store_root_shading N w (return_shading N w h chosen n) n 0 | false ↦ return_shading N w h chosen n ]))
          c (smaller (suc n) l)

      one :
          (g : Memory) → Goes N w h Unreturned g → Smaller g → (is_chosen chosen n ≡ true → Smaller (store_root_shading N w g n 0)) → (t : Bool)
          → is_chosen chosen n ≡ t → Goes N w h Unreturned (elim t [ true ↦ store_root_shading N w g n 0 | false ↦ g ])
      one g goes less more false e = goes
      one g goes less more true e =
          let next = root_goes N w g goes.after 0 (none_ref N g) n (omega (arith, goes.roots_are)) in
          record {
            after = next.after;
            roots_are = next.roots_are ∙ goes.roots_are;
            fewer = omega (arith, next.fewer, goes.fewer);
            apart = λ b unled was is apart.
                next.apart b (unled-here b unled) (stood b is) is (goes.apart b unled was (stood b is) apart);
            stays = λ b unled was. next.stays b (unled-here b unled) (goes.stays b unled was);
          }
        where
          -- an object that stands after the root is cleared stood before
          stood : (b : ℕ) → size (view N w (store_root_shading N w g n 0)) b ≢ 0 → size (view N w g) b ≢ 0
          stood b is = root_stood N w g goes.after n (omega (arith, goes.roots_are)) b is

          -- the old object is one of h, and what leads to b now led to it in h
          unled-here : (b : ℕ) → Unreturned b → get_or g.roots n 0 ≢ 0 → (c : ℕ) → Among (get_or g.roots n 0 ∷ 0 ∷ []) c
              → ¬ (To (length g.roots) (view N w (with_roots (set g.roots n 0) g)).sizes (view N w (with_roots (set g.roots n 0) g)).slots b c)
          unled-here b unled new c among to =
              elim (among_cases (get_or g.roots n 0) (0 ∷ []) c among) [
                | inl old ↦
                    unled n c (omega arith) e (less.left n c (root_slot N g n (omega (arith, goes.roots_are)) ∙ old))
                    (subst (λ (q : ℕ). To q (view N w h).sizes (view N w h).slots b c) goes.roots_are (to_grows same kept to))
                | inr other ↦
                    elim (among_cases 0 [] c other) [ inl z ↦ omega arith | inr none ↦ among_none c none ]
              ]
            where
              same : (x s a : ℕ) → Owns (length g.roots) (view N w g).sizes x s → slot (view N w (with_roots (set g.roots n 0) g)) s ≡ suc a
                  → size (view N w g) x ≡ size (view N w h) x
              same x s a own f = less.stands x (omega (arith, own))

              kept : (x s a : ℕ) → Owns (length g.roots) (view N w g).sizes x s → slot (view N w (with_roots (set g.roots n 0) g)) s ≡ suc a
                  → slot (view N w h) s ≡ suc a
              kept x s a own f =
                  let inside : n < length g.roots = omega (arith, goes.roots_are) in
                  let other : s ≢ n = omega (arith, own) in
                  less.left s a
                  (sym (get_or-set_other (slots_in N g) n s 0 0 other)
                  ∙ ap (λ (m : List ℕ). get_or m s 0) (set-append_left g.roots (cell_refs N g) n 0 inside) ∙ f)
