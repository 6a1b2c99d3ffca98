-- Calls that store while a collection is open (request U8): beside the mark map and the second list they do
-- what document 01's rules do, and what is asked of a call beside number 13 doesn't read these lists.
use mathlib.Core.Path.{◌≡◌, refl, sym, ap, ◌∙◌, subst}
use mathlib.Core.Bool.{Bool, true, false}
use mathlib.Core.List.{List, ◌∷◌, []}
use Prim.Native.Nat.{ℕ, zero, suc, ◌+◌, ◌*◌, ◌/◌}
use native.Mathlib.Omega.{arith}
use lib.Dec.{eqb}
use lib.ListN.{length, get_or, set}
use Rattle.rules.specs.Heap.{Memory, with_cells, with_roots, with_marks, with_list}
use Rattle.rules_stores.specs.Store.{change_root, change_cell, placed, allocate_in, is_chosen}
use Rattle.rules_stores.proofs.Plain.{store_root_in, store_cell_in, clear_chosen, return_in}
use Rattle.rules_steps.specs.Steps.{is_open, map_of, list_of, with_progress, marks_after, list_after, shaded}
use Rattle.rules_steps.specs.Steps.{store_root_shading, store_cell_shading, allocate_shading, clear_shading, return_shading}
use Rattle.rules_calls.specs.Calls.{Call, settled, freeing}
use Rattle.types.specs.declared.Reply.{Reply}
use Rattle.rules.proofs.Shape.{Shaped}
use Rattle.rules_steps.proofs.Progress.{length_map_of, length_list_of}
use Rattle.rules_calls.proofs.Unread.{Keeps, store_root_beside, change_root_keeps, change_cell_keeps, allocate_keeps}
use Rattle.theory_memories.proofs.Memories.Healthy.{Healthy}
use Rattle.theory_memories.proofs.Memories.ViewRelease.{reshaped}
use Rattle.theory.proofs.EachCall.Served.{collecting, no_collection, Served}
use Rattle.theory_memories.proofs.Memories.Settled.{settled_healthy}

-- ---- memories that differ in these lists alone

-- the mark map and the second list have their lengths
pub record Sized (N : ℕ) (g : Memory) : Type 0 where
  pub marks : length g.marks ≡ N / 8
  pub list : length g.list ≡ N + 1

pub shape_sized : (N w : ℕ) (g : Memory) → Shaped N w g → Sized N g
shape_sized N w g shape = record { marks = shape.length_marks; list = shape.length_list }

pub keeps_sized : (N : ℕ) (h g : Memory) → Keeps h g → Sized N h → Sized N g
keeps_sized N h g keeps sized = record { marks = ap length keeps.marks ∙ sized.marks; list = ap length keeps.list ∙ sized.list }

pub record Shading (N : ℕ) (g g' : Memory) : Type 0 where
  pub marks : List ℕ
  pub list : List ℕ
  pub is : g' ≡ with_marks marks (with_list list g)
  pub length_marks : length marks ≡ N / 8
  pub length_list : length list ≡ N + 1

pub no_shading : (N : ℕ) (g : Memory) → Sized N g → Shading N g g
no_shading N g sized = record { marks = g.marks; list = g.list; is = refl; length_marks = sized.marks; length_list = sized.list }

pub progress_shading : (N : ℕ) (g : Memory) → Sized N g → (marks list : ℕ → Bool) → Shading N g (with_progress N marks list g)
unfolding with_progress
progress_shading N g sized marks list =
    record {
      marks = map_of g.marks marks N;
      list = list_of N list;
      is = refl;
      length_marks = length_map_of g.marks marks N ∙ sized.marks;
      length_list = length_list_of N list;
    }

pub shaded_shading : (N : ℕ) (h k : Memory) (touched : List ℕ) (g : Memory) → Sized N g → Shading N g (shaded N h k touched g)
unfolding shaded
shaded_shading N h k touched g sized = go (is_open N h)
  where
    go : (t : Bool)
        → Shading N g (elim t [ true ↦ with_progress N (marks_after N h k touched g) (list_after N h k touched g) g | false ↦ g ])
    go true = progress_shading N g sized (marks_after N h k touched g) (list_after N h k touched g)
    go false = no_shading N g sized

-- ---- the calls

module _ (N w : ℕ) (h : Memory) (sized : Sized N h) where
  pub store_root_shading_lem : (r v : ℕ) → Shading N (store_root_in N w h r v) (store_root_shading N w h r v)
  unfolding store_root_in store_root_shading
  store_root_shading_lem r v = go (eqb (get_or h.roots r 0) v)
    where
      k : Memory
      k = with_roots (set h.roots r v) h

      go : (t : Bool)
          → Shading N (elim t [ true ↦ h | false ↦ change_root N w h r v ])
          (elim t [ true ↦ h | false ↦ shaded N h (with_roots (set h.roots r v) h) (get_or h.roots r 0 ∷ v ∷ []) (change_root N w h r v) ])
      go true = no_shading N h sized
      go false =
          shaded_shading N h (with_roots (set h.roots r v) h) (get_or h.roots r 0 ∷ v ∷ []) (change_root N w h r v)
          (keeps_sized N h (change_root N w h r v) (change_root_keeps N w h r v) sized)

  pub store_cell_shading_lem : (a j v : ℕ) → Shading N (store_cell_in N w h (4 * a + j) v) (store_cell_shading N w h a j v)
  unfolding store_cell_in store_cell_shading
  store_cell_shading_lem a j v = go (eqb (get_or h.cells (4 * a + j) 0) v)
    where
      go : (t : Bool)
          → Shading N (elim t [ true ↦ h | false ↦ change_cell N w h (4 * a + j) v ])
          (elim t [
            | true ↦ h
            | false ↦
                shaded N h (with_cells (set h.cells (4 * a + j) v) h) ((a + 1) ∷ get_or h.cells (4 * a + j) 0 ∷ v ∷ [])
                (change_cell N w h (4 * a + j) v)
          ])
      go true = no_shading N h sized
      go false =
          shaded_shading N h (with_cells (set h.cells (4 * a + j) v) h) ((a + 1) ∷ get_or h.cells (4 * a + j) 0 ∷ v ∷ [])
          (change_cell N w h (4 * a + j) v) (keeps_sized N h (change_cell N w h (4 * a + j) v) (change_cell_keeps N w h (4 * a + j) v) sized)

  pub allocate_shading_lem :
      (asData : Bool) (n r i : ℕ) → Shading N (allocate_in N w asData h n r i) (allocate_shading N w asData h n r i)
  unfolding allocate_shading
  allocate_shading_lem asData n r i =
      shaded_shading N h (with_roots (set h.roots r (i + 1)) (placed N w asData h i n)) (get_or h.roots r 0 ∷ (i + 1) ∷ []) (allocate_in N w asData h n r i)
      (keeps_sized N h (allocate_in N w asData h n r i) (allocate_keeps N w h asData n r i) sized)

clear_shading_lem :
    (N w : ℕ) (g g' : Memory) → Shading N g g' → (chosen n : ℕ) → Shading N (clear_chosen N w g chosen n) (clear_shading N w g' chosen n)
unfolding clear_chosen clear_shading
clear_shading_lem N w g g' before chosen n =
    subst (λ (x : Memory). Shading N (clear_chosen N w g chosen n) (clear_shading N w x chosen n)) (sym before.is) (one (is_chosen chosen n))
  where
    one : (t : Bool)
        → Shading N (elim t [ true ↦ store_root_in N w g n 0 | false ↦ g ])
        (elim t [
          | true ↦ store_root_shading N w (with_marks before.marks (with_list before.list g)) n 0
          | false ↦ with_marks before.marks (with_list before.list g)
        ])
    one false =
        record {
          marks = before.marks;
          list = before.list;
          is = refl;
          length_marks = before.length_marks;
          length_list = before.length_list;
        }
    one true =
        let more =
        store_root_shading_lem N w (with_marks before.marks (with_list before.list g))
        (record { marks = before.length_marks; list = before.length_list }) n 0 in
        record {
          marks = more.marks;
          list = more.list;
          is = more.is
              ∙ ap (λ (x : Memory). with_marks more.marks (with_list more.list x))
              (store_root_beside N w (λ x. with_marks before.marks (with_list before.list x)) g n 0);
          length_marks = more.length_marks;
          length_list = more.length_list;
        }

pub return_shading_lem : (N w : ℕ) (h : Memory) → Sized N h → (chosen n : ℕ) → Shading N (return_in N w h chosen n) (return_shading N w h chosen n)
unfolding return_in return_shading
return_shading_lem N w h sized chosen zero = no_shading N h sized
return_shading_lem N w h sized chosen (suc n) =
    clear_shading_lem N w (return_in N w h chosen n) (return_shading N w h chosen n) (return_shading_lem N w h sized chosen n) chosen n

-- ---- what is asked of a call

pub healthy_shading : (N w : ℕ) (g g' : Memory) → Shading N g g' → Healthy N w g → Healthy N w g'
healthy_shading N w g g' s healthy =
    subst (λ (k : Memory). Healthy N w k) (sym s.is)
    (record {
      shape = reshaped N w g (with_marks s.marks (with_list s.list g)) healthy.shape refl refl refl refl refl refl refl refl
          (s.length_marks ∙ sym healthy.shape.length_marks) (s.length_list ∙ sym healthy.shape.length_list);
      represents = healthy.represents;
      whole = healthy.whole;
      aligned = healthy.aligned;
      bare = healthy.bare;
    })

module _ (N w : ℕ) (c : Call) (h : Memory) (x : Reply) (other : collecting c ≡ false) where
  -- of the memory with the lists of request U8 replaced
  pub served_beside : (g g' : Memory) → Shading N g g' → Served N w c h (x, g) → Served N w c h (x, g')
  served_beside g g' s served =
      subst (λ (k : Memory). Served N w c h (x, k)) (sym s.is)
      (record {
        keep = subst (λ (k : Memory). Healthy N w k) s.is (healthy_shading N w g g' s served.keep);
        no_early_free = λ b n object leads. let is = served.no_early_free b n object leads in record { first = is.first; size = is.size };
        collects = no_collection c other;
        sticks = λ living b n was is low top. served.sticks living b n was (record { first = is.first; size = is.size }) low top;
      })

  pub settled_beside : (g g' : Memory) → Shading N g g' → Served N w c h (x, settled N g) → Served N w c h (x, settled N g')
  settled_beside g g' s =
      served_beside (settled N g) (settled N g')
      (record {
        marks = s.marks;
        list = s.list;
        is = ap (settled N) s.is;
        length_marks = s.length_marks;
        length_list = s.length_list;
      })

pub freeing_beside :
    (N w : ℕ) (c : Call) (h g g' : Memory) (second : ℕ) → collecting c ≡ false → Shading N g g' → Served N w c h (freeing N h g second)
    → Served N w c h (freeing N h g' second)
unfolding freeing
freeing_beside N w c h g g' second other s served =
    subst (λ (k : Memory). Served N w c h (freeing N h k second)) (sym s.is)
    (settled_beside N w c h (freeing N h g second).0 other g (with_marks s.marks (with_list s.list g))
    (record { marks = s.marks; list = s.list; is = refl; length_marks = s.length_marks; length_list = s.length_list }) served)

-- a call that changes these lists alone
pub marked_served :
    (N w : ℕ) (c : Call) (h g : Memory) (x : Reply) → collecting c ≡ false → Healthy N w h → Shading N h g → Served N w c h (x, g)
marked_served N w c h g x other healthy s =
    served_beside N w c h x other h g s
    (record {
      keep = healthy;
      no_early_free = λ b n object leads. object;
      collects = no_collection c other;
      sticks = λ living b n was is low top. absurd (omega arith);
    })

pub marked_settled :
    (N w : ℕ) (c : Call) (h g : Memory) (x : Reply) → collecting c ≡ false → Healthy N w h → Shading N h g → Served N w c h (x, settled N g)
marked_settled N w c h g x other healthy s =
    settled_beside N w c h x other h g s
    (record {
      keep = settled_healthy N w h healthy;
      no_early_free = λ b n object leads. record { first = object.first; size = object.size };
      collects = no_collection c other;
      sticks = λ living b n was is low top. absurd (omega arith);
    })
