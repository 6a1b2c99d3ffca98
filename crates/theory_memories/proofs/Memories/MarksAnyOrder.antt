-- The marks and the second list that a store leaves while a collection is open don't depend on the order of
-- freeing (request U8).
use mathlib.Core.Path.{◌≡◌, refl, sym, ap, ◌∙◌, subst}
use mathlib.Core.Logic.{◌≢◌, inl, inr}
use mathlib.Core.Bool.{Bool, true, false}
use mathlib.Core.List.{List, [], ◌∷◌}
use mathlib.Core.Option.{some}
use Prim.Native.Nat.{ℕ, suc, ◌+◌, ◌*◌, ◌≤◌, ◌<◌}
use native.Mathlib.Omega.{arith}
use lib.Dec.{ltb}
use lib.ListN.{length, get_or, set}
use lib.Seq.{get_or-set_same}
use Rattle.rules.specs.Tools.{holding}
use Rattle.rules.specs.Heap.{Memory, with_cells, with_roots, is_first, size_at, is_ref, is_data, exponent, lowest_free}
use Rattle.rules_stores.specs.Store.{let_go, put_root, put_cell, change_root, change_cell, placed, allocate_in}
use Rattle.rules_steps.specs.Steps.{is_open, is_marked, is_listed, was_marked}
use Rattle.rules.proofs.Tests.{or_true}
use Rattle.theory_memories.specs.Marks.{first_marks, MarkedInAnyOrder, MarksOrderUnseen}
use Rattle.theory_memories.proofs.Maps.Extents.{sizes_of, length_sizes_of}
use Rattle.theory_memories.proofs.Maps.LowestChunk.{room}
use Rattle.theory_graphs.proofs.Graphs.Graph.{Graph, size, slot}
use Rattle.theory_graphs.proofs.Graphs.Balance.{named_object}
use Rattle.theory_graphs.proofs.Graphs.Tidy.{Tidy, Was}
use Rattle.theory_memories.proofs.Memories.View.{view}
use Rattle.theory_memories.proofs.Memories.Slots.{root_slot}
use Rattle.theory_memories.proofs.Memories.Healthy.{Healthy}
use Rattle.theory_memories.proofs.Memories.Fit.{Fit, undamaged_fit}
use Rattle.theory_memories.proofs.Memories.TidyHeap.{first_some, tidy_facts}
use Rattle.theory_memories.proofs.Memories.Shades.{Among, was_facts}
use Rattle.theory_memories.proofs.Memories.Events.{among_none, among_cases, allocate_placed}
use Rattle.theory_memories.proofs.Memories.Stores.{positive, cell_read_lem, ref_object, store_root_lem, store_cell_lem, placed_shows, allocate_root}
use Rattle.theory_memories.proofs.Memories.MarkOrders.{in_any_order}

module _ (N w : ℕ) (h : Memory) (fit : Fit N w h) (was_open : is_open N h ≡ true) where
  abbrev healthy : Healthy N w h
  healthy = fit.healthy

  pub tidy : Tidy (length h.roots) (view N w h) (is_marked h) (is_listed N h)
  tidy = tidy_facts N w h fit.healthy was_open fit.tidy

  named : (s b : ℕ) → slot (view N w h) s ≡ suc b → size (view N w h) b ≢ 0
  named s b e = named_object _ (positive N w h fit.healthy) (view N w h) fit.healthy.whole.balanced s b e

  -- what is marked at first is an object, if what is touched is one
  pub first_objects :
      (k : Memory) (touched : List ℕ) (g : Memory) → ((b : ℕ) → size (view N w h) b ≢ 0 → size (view N w k) b ≢ 0)
      → ((b : ℕ) → Among touched b → size (view N w k) b ≢ 0) → (b : ℕ) → first_marks N h k touched g b ≡ true → size (view N w k) b ≢ 0
  first_objects k touched g stays touch b e =
      elim (or_true (was_marked N h k touched g b) (ltb 0 (holding (b + 1) touched)) e) [
        | inr t ↦ touch b t
        | inl q ↦ was (was_facts N w h k touched g b q)
      ]
    where
      was : Was (view N w h) (view N w k) (is_marked h) b → size (view N w k) b ≢ 0
      was (inl m) = stays b (tidy.objects b m)
      was (inr born) = born.1

  pub root_touched : (r v : ℕ) → r < length h.roots → is_ref N h v ≡ true → (b : ℕ) → Among (get_or h.roots r 0 ∷ v ∷ []) b → size (view N w h) b ≢ 0
  root_touched r v l ref b t =
      elim (among_cases (get_or h.roots r 0) (v ∷ []) b t) [
        | inl e ↦ named r b (root_slot N h r l ∙ e)
        | inr rest ↦ elim (among_cases v [] b rest) [ inl e ↦ ref_object N w h fit.healthy v ref b e | inr none ↦ absurd (among_none b none) ]
      ]

  pub cell_touched : (a j v : ℕ) → is_first N h a ≡ true → j < 4 * size_at N h a → is_data h.d a ≡ false → is_ref N h v ≡ true → (b : ℕ)
      → Among ((a + 1) ∷ get_or h.cells (4 * a + j) 0 ∷ v ∷ []) b → size (view N w h) b ≢ 0
  cell_touched a j v first l ordinary ref b t =
      elim (among_cases (a + 1) (get_or h.cells (4 * a + j) 0 ∷ v ∷ []) b t) [
        | inl e ↦ let same : a ≡ b = omega arith in subst (λ (q : ℕ). size (view N w h) q ≢ 0) same (first_some N w h a first)
        | inr more ↦ elim (among_cases (get_or h.cells (4 * a + j) 0) (v ∷ []) b more) [
          | inl e ↦ named (length h.roots + (4 * a + j)) b (cell_read_lem N w h fit.healthy a j first l ordinary ∙ e)
          | inr rest ↦ elim (among_cases v [] b rest) [ inl e ↦ ref_object N w h fit.healthy v ref b e | inr none ↦ absurd (among_none b none) ]
        ]
      ]

  pub stays : (asData : Bool) (n r i : ℕ) → 1 ≤ n → r < length h.roots → lowest_free N (exponent n) h.a ≡ some i → (b : ℕ) → size (view N w h) b ≢ 0
      → size (view N w (with_roots (set h.roots r (i + 1)) (placed N w asData h i n))) b ≢ 0
  stays asData n r i low l found b stood z =
      elim (allocate_placed N w h fit.healthy n i (omega arith) (room N h.a n i found) asData r l b) [
        | inl e ↦ stood (sym e ∙ z)
        | inr e ↦ stood e.0
      ]

  pub new_touched : (asData : Bool) (n r i : ℕ) → 1 ≤ n → r < length h.roots → lowest_free N (exponent n) h.a ≡ some i → (b : ℕ)
      → Among (get_or h.roots r 0 ∷ (i + 1) ∷ []) b → size (view N w (with_roots (set h.roots r (i + 1)) (placed N w asData h i n))) b ≢ 0
  new_touched asData n r i low l found b t =
      elim (among_cases (get_or h.roots r 0) ((i + 1) ∷ []) b t) [
        | inl e ↦ stays asData n r i low l found b (named r b (root_slot N h r l ∙ e))
        | inr rest ↦ elim (among_cases (i + 1) [] b rest) [
          | inl e ↦
              let same : b ≡ i = omega arith in
              let space = room N h.a n i found in
              λ z.
              omega (
                arith,
                z,
                ap (λ (k : Graph). size k b) (placed_shows N w h fit.healthy n i (omega arith) space asData).view_is,
                ap (λ (q : ℕ). get_or (set (sizes_of N h.a h.b) i n) q 0) same,
                get_or-set_same (sizes_of N h.a h.b) i n 0 (omega (arith, space.inside, length_sizes_of N h.a h.b)),
              )
          | inr none ↦ absurd (among_none b none)
        ]
      ]

  pub alike : MarkedInAnyOrder N w h
  unfolding change_root change_cell allocate_in put_root put_cell let_go placed
  alike =
      record {
        in_root = λ r v l ref g m' l' order.
            in_any_order N w h (with_roots (set h.roots r v) h) (get_or h.roots r 0 ∷ v ∷ []) _ _
            (store_root_lem N w h fit.healthy v ref r l).releasing refl refl refl
            (first_objects (with_roots (set h.roots r v) h) (get_or h.roots r 0 ∷ v ∷ []) _ (λ b n. n) (root_touched r v l ref))
            tidy.listed_marked g m' l' order;
        in_cell = λ a j v first l ordinary ref g m' l' order.
            in_any_order N w h (with_cells (set h.cells (4 * a + j) v) h) ((a + 1) ∷ get_or h.cells (4 * a + j) 0 ∷ v ∷ []) _ _
            (store_cell_lem N w h fit.healthy v ref a j first l ordinary).releasing refl refl refl
            (first_objects (with_cells (set h.cells (4 * a + j) v) h) ((a + 1) ∷ get_or h.cells (4 * a + j) 0 ∷ v ∷ []) _ (λ b n. n)
            (cell_touched a j v first l ordinary ref))
            tidy.listed_marked g m' l' order;
        new = λ asData n r i low l found g m' l' order.
            in_any_order N w h (with_roots (set h.roots r (i + 1)) (placed N w asData h i n)) (get_or h.roots r 0 ∷ (i + 1) ∷ []) _ _
            (allocate_root N w h fit.healthy n i (omega arith) (room N h.a n i found) asData r l).releasing refl refl refl
            (first_objects (with_roots (set h.roots r (i + 1)) (placed N w asData h i n)) (get_or h.roots r 0 ∷ (i + 1) ∷ []) _
            (stays asData n r i low l found) (new_touched asData n r i low l found))
            tidy.listed_marked g m' l' order;
      }

pub marks_order_unseen : MarksOrderUnseen
marks_order_unseen N w h u was_open = alike N w h (undamaged_fit N w h u) was_open
