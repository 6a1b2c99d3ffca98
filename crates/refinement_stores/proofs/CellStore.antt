-- A store in a cell on a fit memory: what the code's steps leave, and the blocks that they count, are the rules' (requests U2, U6 and U8).
-- The owner is marked too.
use mathlib.Core.Path.{◌≡◌, refl, sym, ap, subst}
use mathlib.Core.Logic.{◌≢◌}
use mathlib.Core.Bool.{true, false}
use mathlib.Core.List.{List, [], ◌∷◌}
use Prim.Native.Nat.{ℕ, ◌+◌, ◌-◌, ◌*◌, ◌≤◌, ◌<◌}
use native.Mathlib.Omega.{arith}
use lib.ListN.{length, get_or, set}
use borrow.Author.Tests.{eq-eqb, ne_eqb}
use Rattle.bitmap.specs.Bit.{zeros}
use Rattle.bitmap.proofs.Rewrites.{Rewritten}
use Rattle.rules.specs.Heap.{Memory, with_counts, with_cells, with_marks, with_list, is_first, size_at, is_ref, is_data}
use Rattle.rules_stores.specs.Store.{count_up, let_go, put_cell, change_cell}
use Rattle.rules_steps.specs.Steps.{is_open, store_cell_shading}
use Rattle.rules.proofs.Objects.{first_facts}
use Rattle.release.proofs.OtherBuffers.{lent_again}
use Rattle.step_release.specs.Left.{LetGo}
use Rattle.theory_memories.proofs.Memories.Fit.{Fit}
use Rattle.theory_memories.proofs.Memories.Stores.{slots_named, cell_read_lem, store_cell_lem}
use Rattle.theory_memories.proofs.Memories.MarksAnyOrder.{tidy, first_objects, cell_touched}
use Rattle.refinement_stores.proofs.Touched.{three_held, was_same}
use Rattle.refinement_stores.proofs.Shaded.{Storing, handed, gone_of, shaded_left}
use Rattle.refinement_stores.proofs.FreedBlocks.{freed_zeros}

module _ (N w : ℕ) (h : Memory) (at j : ℕ) where
  abbrev pub old_cell : ℕ
  old_cell = get_or h.cells (4 * at + j) 0

  -- the value present
  module _ (v : ℕ) (same : old_cell ≡ v) where
    pub cell_present : h ≡ store_cell_shading N w h at j v
    unfolding store_cell_shading
    cell_present = rw (eq-eqb old_cell v same, store_cell_shading)

    pub cell_none : 0 ≡ zeros (store_cell_shading N w h at j v).a - zeros h.a
    cell_none = omega (arith, ap (λ (g : Memory). zeros g.a) cell_present)

  -- another one: it is written in, and counted up
  module _ (v : ℕ) where
    abbrev pub cell_written : Memory
    cell_written = with_cells (set h.cells (4 * at + j) v) h

    abbrev pub cell_counted : List ℕ → Memory
    cell_counted counts = with_cells (set h.cells (4 * at + j) v) (with_counts counts h)

    module _ (fit : Fit N w h) (first : is_first N h at ≡ true) (place : j < 4 * size_at N h at) (ordinary : is_data h.d at ≡ false)
        (ref : is_ref N h v ≡ true) (inside : v ≤ N) where
      abbrev up : List ℕ
      up = count_up N w h.counts v

      abbrev touched : List ℕ
      touched = (at + 1) ∷ old_cell ∷ v ∷ []

      cell_storing : is_open N h ≡ true → Storing N w h cell_written (cell_counted up) h.marks (at + 1) old_cell v touched
      unfolding let_go
      cell_storing was_open =
          record {
            releasing = (store_cell_lem N w h fit.healthy v ref at j first place ordinary).releasing;
            roots_are = refl;
            sizes_are = refl;
            slots_are = refl;
            objects =
                first_objects N w h fit was_open cell_written touched _ (λ b n. n)
                (cell_touched N w h fit was_open at j v first place ordinary ref);
            listed = (tidy N w h fit was_open).listed_marked;
            long = omega (arith, fit.healthy.shape.length_marks, fit.healthy.shape.whole_bytes);
            from = Rewritten.same;
            was = λ b. sym (was_same N h cell_written touched _ b refl);
            owner_le = omega (arith, (first_facts N h.a h.b at first).inside);
            old_le =
                omega (
                  arith,
                  slots_named N w h fit.healthy (length h.roots + (4 * at + j)),
                  cell_read_lem N w h fit.healthy at j first place ordinary,
                );
            new_le = inside;
            among = λ b. three_held (at + 1) old_cell v b;
          }

      module _ (other : old_cell ≢ v) {counts : List ℕ} (counted : counts ≡ up) {g : Memory} {freed : ℕ}
          (gone : LetGo N w (handed h.marks (cell_counted counts)) (at + 1) old_cell v g freed) where
        gone_up : LetGo N w (handed h.marks (cell_counted up)) (at + 1) old_cell v g freed
        gone_up = subst (λ (c : List ℕ). LetGo N w (handed h.marks (cell_counted c)) (at + 1) old_cell v g freed) counted gone

        pub cell_changed : with_marks g.marks (with_list g.list (lent_again (cell_counted counts) g)) ≡ store_cell_shading N w h at j v
        unfolding store_cell_shading change_cell put_cell
        cell_changed =
            rw (ne_eqb old_cell v other, store_cell_shading)
            (shaded_left N w h cell_written (cell_counted up) h.marks (at + 1) old_cell v touched refl refl (λ _. refl) cell_storing
            (gone_of N w (handed h.marks (cell_counted up)) h.sections gone_up))

        pub cell_freed : freed ≡ zeros (store_cell_shading N w h at j v).a - zeros h.a
        unfolding let_go
        cell_freed =
            omega (
              arith,
              freed_zeros N w (cell_counted up) old_cell (store_cell_lem N w h fit.healthy v ref at j first place ordinary).releasing g
                  gone_up.part_is gone_up.freed_is,
              ap (λ (m : Memory). zeros m.a) cell_changed,
            )
