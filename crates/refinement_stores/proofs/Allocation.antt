-- An allocation on a fit memory: what the code's steps leave, and the blocks that they count, are the rules' (requests U6 and U8). The new
-- object is marked before anything is let go.
use mathlib.Core.Path.{◌≡◌, refl, sym, ap, ◌∙◌, subst}
use mathlib.Core.Logic.{◌≢◌, inl, inr}
use mathlib.Core.Bool.{Bool, true, false, true≢false}
use mathlib.Core.List.{List, [], ◌∷◌}
use mathlib.Core.Option.{some}
use Prim.Native.Nat.{ℕ, ◌+◌, ◌-◌, ◌*◌, ◌≤◌, ◌<◌}
use native.Mathlib.Decide.{ℕ_discrete}
use native.Mathlib.Omega.{arith}
use lib.ListN.{length, get_or, set}
use lib.Seq.{get_or-set_other}
use Rattle.bitmap.specs.Bit.{set_bit, fill_bits, zeros}
use Rattle.bitmap.proofs.Rewrites.{Rewritten, bit}
use Rattle.rules.specs.Heap.{Memory, lent_memory, with_roots, with_sections, with_marks, with_list, exponent, lowest_free}
use Rattle.rules_stores.specs.Store.{let_go, put_root, placed, allocate_in}
use Rattle.rules_steps.specs.Steps.{is_open, was_marked, allocate_shading}
use Rattle.rules.proofs.Tests.{test_cases_lem, false_unless}
use Rattle.count_up.specs.Ready.{part_memory}
use Rattle.step_list.specs.Lists.{is_set, Listing}
use Rattle.step_list.proofs.Bits.{made_set, others_same}
use Rattle.work_place.specs.Born.{born_marks}
use Rattle.work_place.proofs.Births.{born_open, born_shut}
use Rattle.release.proofs.OtherBuffers.{lent_again}
use Rattle.step_release.specs.Left.{Listable, LetGo}
use Rattle.theory_memories.proofs.Maps.Extents.{sizes_of, length_sizes_of}
use Rattle.theory_memories.proofs.Maps.LowestChunk.{Room, room}
use Rattle.theory_memories.proofs.Maps.Totals.{sum_set, free_and_sizes}
use Rattle.theory_graphs.proofs.Graphs.Graph.{Graph, size}
use Rattle.theory_memories.proofs.Memories.View.{view}
use Rattle.theory_memories.proofs.Memories.Fit.{Fit}
use Rattle.theory_memories.proofs.Memories.Shades.{was_facts, facts_was}
use Rattle.theory_memories.proofs.Memories.Events.{allocate_fresh}
use Rattle.theory_memories.proofs.Memories.Stores.{roots_named, maps_placed, placed_shows, allocate_root}
use Rattle.theory_memories.proofs.Memories.MarksAnyOrder.{tidy, first_objects, stays, new_touched}
use Rattle.refinement_stores.proofs.Touched.{two_held}
use Rattle.refinement_stores.proofs.Shaded.{Storing, handed, gone_of, shaded_left}
use Rattle.refinement_stores.proofs.FreedBlocks.{freed_zeros}

-- tests that pass together are equal
alike : (s t : Bool) → (s ≡ true → t ≡ true) → (t ≡ true → s ≡ true) → s ≡ t
alike s t there back =
    elim (test_cases_lem s) [ inl e ↦ e ∙ sym (there e) | inr e ↦ e ∙ sym (false_unless t (λ f. true≢false (sym (back f) ∙ e))) ]

-- a bit set keeps those that were set
set_more : (marks : List ℕ) (i : ℕ) → i < 8 * length marks → (b : ℕ) → is_set marks b ≡ true → is_set (set_bit marks i 1) b ≡ true
set_more marks i inside b e =
    elim (ℕ_discrete b i) [
      | yes q ↦ ap (is_set (set_bit marks i 1)) q ∙ made_set marks i inside
      | no d ↦ others_same marks i 1 b (omega arith) d ∙ e
    ]

-- with the new object's mark, what stands on the list is still marked
pub born_listing :
    (N : ℕ) (h : Memory) (i : ℕ) {marks : List ℕ} → marks ≡ born_marks N h.marks h.list i → i < 8 * length h.marks
    → Listable N h → is_open N h ≡ true → Listing N marks h.list
born_listing N h i born within listable was_open =
    let good = listable was_open in
    let is = born ∙ born_open N h.marks h.list i was_open in
    record {
      form = good.form;
      marked = λ b l e. ap (λ (m : List ℕ). is_set m b) is ∙ set_more h.marks i within b (good.marked b l e);
    }

-- ---- the memory that is handed on

module _ (N w : ℕ) (h : Memory) (asData : Bool) (n r i : ℕ) where
  abbrev pub born : List ℕ
  born = born_marks N h.marks h.list i

  abbrev pub root_placed : Memory
  root_placed = with_roots (set h.roots r (i + 1)) (placed N w asData h i n)

  abbrev pub old_one : ℕ
  old_one = get_or h.roots r 0

  abbrev touched : List ℕ
  touched = old_one ∷ (i + 1) ∷ []

  module _ (fit : Fit N w h) (low : 1 ≤ n) (place : r < length h.roots) (found : lowest_free N (exponent n) h.a ≡ some i) where
    space : Room N h.a n i
    space = room N h.a n i found

    nonzero : n ≢ 0
    nonzero = omega arith

    inside : i < 8 * length h.marks
    inside = omega (arith, space.inside, fit.healthy.shape.length_marks, fit.healthy.shape.whole_bytes)

    fresh : (size (view N w h) i ≡ 0) × (size (view N w (placed N w asData h i n)) i ≢ 0)
    fresh = allocate_fresh N w h fit.healthy n i nonzero space asData

    -- every other object stood before
    other_size : (b : ℕ) → b ≢ i → size (view N w root_placed) b ≡ size (view N w h) b
    other_size b d =
        ap (λ (g : Graph). size g b) (placed_shows N w h fit.healthy n i nonzero space asData).view_is
        ∙ get_or-set_other (sizes_of N h.a h.b) i b n 0 d

    was_born : (g : Memory) (b : ℕ) → is_set (set_bit h.marks i 1) b ≡ was_marked N h root_placed touched g b
    was_born g b =
        alike (is_set (set_bit h.marks i 1) b) (was_marked N h root_placed touched g b)
        (λ e.
        elim (ℕ_discrete b i) [
          | yes q ↦
              facts_was N w h root_placed touched g b
              (inr (ap (size (view N w h)) q ∙ fresh.0, λ z. fresh.1 (ap (size (view N w root_placed)) (sym q) ∙ z)))
          | no d ↦ facts_was N w h root_placed touched g b (inl (sym (others_same h.marks i 1 b (omega arith) d) ∙ e))
        ])
        (λ e.
        elim (was_facts N w h root_placed touched g b e) [
          | inl m ↦ set_more h.marks i inside b m
          | inr new ↦
              elim (ℕ_discrete b i) [
                | yes q ↦ ap (is_set (set_bit h.marks i 1)) q ∙ made_set h.marks i inside
                | no d ↦ absurd (new.1 (other_size b d ∙ new.0))
              ]
        ])

    allocate_storing : is_open N h ≡ true → Storing N w h root_placed root_placed born 0 old_one (i + 1) touched
    unfolding let_go placed
    allocate_storing was_open =
        let is = born_open N h.marks h.list i was_open in
        record {
          releasing = (allocate_root N w h fit.healthy n i nonzero space asData r place).releasing;
          roots_are = refl;
          sizes_are = refl;
          slots_are = refl;
          objects =
              first_objects N w h fit was_open root_placed touched _ (stays N w h fit was_open asData n r i low place found)
              (new_touched N w h fit was_open asData n r i low place found);
          listed = (tidy N w h fit was_open).listed_marked;
          long = omega (arith, fit.healthy.shape.length_marks, fit.healthy.shape.whole_bytes);
          from = subst (λ (m : List ℕ). Rewritten h.marks m) (sym is) (bit i 1 (omega arith) Rewritten.same);
          was = λ b. ap (λ (m : List ℕ). is_set m b) is ∙ was_born _ b;
          owner_le = omega arith;
          old_le = roots_named N w h fit.healthy r;
          new_le = omega (arith, space.inside);
          among = λ b. two_held old_one (i + 1) b;
        }

    -- the new object's blocks were free
    placed_zeros : zeros (fill_bits h.a i n 1) + n ≡ zeros h.a
    placed_zeros =
        let sizes : List ℕ = sizes_of N h.a h.b in
        omega (
          arith,
          free_and_sizes N h.a h.b sizes fit.healthy.represents,
          free_and_sizes N (fill_bits h.a i n 1) (set_bit h.b (i + n - 1) 0) (set sizes i n)
              (maps_placed N w h fit.healthy n i nonzero space),
          sum_set sizes i n (omega (arith, space.inside, length_sizes_of N h.a h.b)),
          fresh.0,
        )

  -- the object is made, with its mark
  module _ {a b counts cells d marks : List ℕ} (sections : List ℕ)
      (made : part_memory a b counts cells [] d ≡ placed N w asData (part_memory h.a h.b h.counts h.cells [] h.d) i n)
      (marked : marks ≡ born) where
    -- as the code lends it on
    abbrev lent_on : Memory
    lent_on = lent_memory a b counts cells [] h.waiting sections d marks h.list

    lent_on_lem : lent_on ≡ with_sections sections (handed born root_placed)
    unfolding placed
    lent_on_lem = λ k.
        let m : Memory = made k in
        lent_memory m.a m.b m.counts m.cells [] h.waiting sections m.d (marked k) h.list

    module _ (fit : Fit N w h) (low : 1 ≤ n) (place : r < length h.roots) (found : lowest_free N (exponent n) h.a ≡ some i)
        {g : Memory} {freed : ℕ} (gone : LetGo N w lent_on 0 old_one (i + 1) g freed) where
      gone_on : LetGo N w (with_sections sections (handed born root_placed)) 0 old_one (i + 1) g freed
      gone_on = subst (λ (m : Memory). LetGo N w m 0 old_one (i + 1) g freed) lent_on_lem gone

      pub allocate_changed :
          with_marks g.marks (with_list g.list (lent_again (with_roots (set h.roots r (i + 1)) h) g))
          ≡ allocate_shading N w asData h n r i
      unfolding allocate_shading allocate_in put_root placed
      allocate_changed =
          shaded_left N w h root_placed root_placed born 0 old_one (i + 1) touched refl refl
          (λ e. born_shut N h.marks h.list i e) (allocate_storing fit low place found)
          (gone_of N w (handed born root_placed) sections gone_on)

      pub allocate_freed : zeros (allocate_shading N w asData h n r i).a + n ≡ zeros h.a + freed
      unfolding let_go placed
      allocate_freed =
          omega (
            arith,
            freed_zeros N w root_placed old_one
                (allocate_root N w h fit.healthy n i (omega arith) (room N h.a n i found) asData r place).releasing g
                gone_on.part_is gone_on.freed_is,
            placed_zeros fit low place found,
            ap (λ (m : Memory). zeros m.a) allocate_changed,
          )
