-- A store in a root on a fit memory: what the code's steps leave, and the blocks that they count, are the rules' (requests U2, U6 and U8).
use mathlib.Core.Path.{◌≡◌, refl, sym, ap, subst}
use mathlib.Core.Logic.{◌≢◌}
use mathlib.Core.Bool.{true}
use mathlib.Core.List.{List, [], ◌∷◌}
use Prim.Native.Nat.{ℕ, ◌-◌, ◌≤◌, ◌<◌}
use native.Mathlib.Omega.{arith}
use lib.ListN.{length, get_or, set}
use borrow.Author.Tests.{eq-eqb, ne_eqb}
use Rattle.bitmap.specs.Bit.{zeros}
use Rattle.bitmap.proofs.Rewrites.{Rewritten}
use Rattle.rules.specs.Heap.{Memory, with_counts, with_roots, with_marks, with_list, is_ref}
use Rattle.rules_stores.specs.Store.{count_up, let_go, put_root, change_root}
use Rattle.rules_steps.specs.Steps.{is_open, store_root_shading}
use Rattle.release.proofs.OtherBuffers.{lent_again}
use Rattle.step_release.specs.Left.{LetGo}
use Rattle.theory_memories.proofs.Memories.Fit.{Fit}
use Rattle.theory_memories.proofs.Memories.Stores.{roots_named, store_root_lem}
use Rattle.theory_memories.proofs.Memories.MarksAnyOrder.{tidy, first_objects, root_touched}
use Rattle.refinement_stores.proofs.Touched.{two_held, was_same}
use Rattle.refinement_stores.proofs.Shaded.{Storing, handed, gone_of, shaded_left}
use Rattle.refinement_stores.proofs.FreedBlocks.{freed_zeros}

module _ (N w : ℕ) (h : Memory) (r : ℕ) where
  abbrev pub old_root : ℕ
  old_root = get_or h.roots r 0

  -- the value present
  module _ (v : ℕ) (same : old_root ≡ v) where
    pub root_present : h ≡ store_root_shading N w h r v
    unfolding store_root_shading
    root_present = rw (eq-eqb old_root v same, store_root_shading)

    pub root_none : 0 ≡ zeros (store_root_shading N w h r v).a - zeros h.a
    root_none = omega (arith, ap (λ (g : Memory). zeros g.a) root_present)

  -- another one: it is written in, and counted up
  module _ (v : ℕ) where
    abbrev pub root_written : Memory
    root_written = with_roots (set h.roots r v) h

    abbrev pub root_counted : List ℕ → Memory
    root_counted counts = with_roots (set h.roots r v) (with_counts counts h)

    module _ (fit : Fit N w h) (place : r < length h.roots) (ref : is_ref N h v ≡ true) (inside : v ≤ N) where
      abbrev up : List ℕ
      up = count_up N w h.counts v

      root_storing : is_open N h ≡ true → Storing N w h root_written (root_counted up) h.marks 0 old_root v (old_root ∷ v ∷ [])
      unfolding let_go
      root_storing was_open =
          record {
            releasing = (store_root_lem N w h fit.healthy v ref r place).releasing;
            roots_are = refl;
            sizes_are = refl;
            slots_are = refl;
            objects =
                first_objects N w h fit was_open root_written (old_root ∷ v ∷ []) _ (λ b n. n) (root_touched N w h fit was_open r v place ref);
            listed = (tidy N w h fit was_open).listed_marked;
            long = omega (arith, fit.healthy.shape.length_marks, fit.healthy.shape.whole_bytes);
            from = Rewritten.same;
            was = λ b. sym (was_same N h root_written (old_root ∷ v ∷ []) _ b refl);
            owner_le = omega arith;
            old_le = roots_named N w h fit.healthy r;
            new_le = inside;
            among = λ b. two_held old_root v b;
          }

      module _ (other : old_root ≢ v) {counts : List ℕ} (counted : counts ≡ up) {g : Memory} {freed : ℕ}
          (gone : LetGo N w (handed h.marks (root_counted counts)) 0 old_root v g freed) where
        gone_up : LetGo N w (handed h.marks (root_counted up)) 0 old_root v g freed
        gone_up = subst (λ (c : List ℕ). LetGo N w (handed h.marks (root_counted c)) 0 old_root v g freed) counted gone

        pub root_changed : with_marks g.marks (with_list g.list (lent_again (root_counted counts) g)) ≡ store_root_shading N w h r v
        unfolding store_root_shading change_root put_root
        root_changed =
            rw (ne_eqb old_root v other, store_root_shading)
            (shaded_left N w h root_written (root_counted up) h.marks 0 old_root v (old_root ∷ v ∷ []) refl refl (λ _. refl) root_storing
            (gone_of N w (handed h.marks (root_counted up)) h.sections gone_up))

        pub root_freed : freed ≡ zeros (store_root_shading N w h r v).a - zeros h.a
        unfolding let_go
        root_freed =
            omega (
              arith,
              freed_zeros N w (root_counted up) old_root (store_root_lem N w h fit.healthy v ref r place).releasing g gone_up.part_is
                  gone_up.freed_is,
              ap (λ (m : Memory). zeros m.a) root_changed,
            )
