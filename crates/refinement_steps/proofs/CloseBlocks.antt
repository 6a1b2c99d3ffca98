-- The number of blocks that the close frees, counted along its pass and its release, is the growth of the
-- A-map's zeros.
use mathlib.Core.Path.{◌≡◌, refl, sym, ap, ap₂, ◌∙◌}
use mathlib.Core.Logic.{◌≢◌, ◌⊎◌, inl, inr}
use mathlib.Core.Bool.{Bool, true, false, not, ◌&&◌}
use mathlib.Core.List.{List, [], ◌∷◌}
use Prim.Native.Nat.{ℕ, zero, suc, ◌+◌, ◌-◌, ◌≤◌, ◌<◌}
use native.Mathlib.Omega.{arith}
use lib.ListN.{length, get_or}
use Rattle.bitmap.specs.Bit.{fill_bits, zeros}
use Rattle.bitmap.proofs.Zeros.{zeros_fill_zeros}
use Rattle.rules.specs.Heap.{Memory, with_counts, is_first, size_at}
use Rattle.rules_stores.specs.Store.{Work, work, freed, work_after, memory_after}
use Rattle.rules_stores.specs.Collection.{marked, swept}
use Rattle.rules_steps.specs.Steps.{unmarked_freed}
use Rattle.rules.proofs.Tests.{test_cases_lem, and_true}
use Rattle.rules_calls.proofs.Unread.{beside}
use Rattle.step_list.specs.Lists.{is_set}
use Rattle.count_up.specs.Ready.{part_memory}
use Rattle.release.specs.Blocks.{released_blocks}
use Rattle.step_close.specs.Close.{is_doomed, Closing, closing, close_one_blocks, close_below, close_blocks, released_after}
use Rattle.step_close.proofs.Order as order
use Rattle.theory_memories.proofs.Maps.Extents.{Represents, extent, first_size}
use Rattle.theory_graphs.proofs.Graphs.Graph.{Graph}
use Rattle.theory_graphs.proofs.Graphs.Sweep.{sweep}
use Rattle.theory_graphs.proofs.Graphs.Tidy.{Tidy}
use Rattle.theory_memories.proofs.Memories.Keeping.{sizes_in}
use Rattle.theory_memories.proofs.Memories.View.{view, slots_in}
use Rattle.theory_memories.proofs.Memories.Healthy.{Healthy}
use Rattle.theory_memories.proofs.Memories.ViewSweep.{as_counts, as_counts_marked, as_counts_unmarked, Swept, sweep_swept}
use Rattle.theory_memories.proofs.Memories.ViewClose as view-close
use Rattle.refinement_stores.proofs.FreedBlocks.{release_zeros}
use Rattle.refinement_steps.proofs.CloseSame.{aside_of, close_beside, let_go_same, undisturbed, pass_is}

released_beside : (N w : ℕ) (other : Memory → Memory) (f : ℕ) (h : Memory) (stack : List ℕ)
    → released_blocks f N w (beside other h) stack ≡ released_blocks f N w h stack
unfolding released_blocks freed
released_beside N w other zero h stack = refl
released_beside N w other (suc f) h [] = refl
released_beside N w other (suc f) h (i ∷ rest) =
    ap (λ (k : ℕ). size_at N h i + k) (released_beside N w other f (memory_after N w h i rest) (work_after N w h i rest).stack)

blocks_beside : (N w : ℕ) (marks : List ℕ) (other : Memory → Memory) (s : Closing) (n : ℕ)
    → close_blocks N w marks (aside_of N w marks other s) n ≡ close_blocks N w marks s n
unfolding close_blocks close_one_blocks is_doomed
blocks_beside N w marks other s zero = refl
blocks_beside N w marks other s (suc n) =
    ap₂ ◌+◌ (blocks_beside N w marks other s n) (ap (λ (t : Closing). close_one_blocks N marks t n) (close_beside N w marks other s n))

module _ (N w : ℕ) (h : Memory) (healthy : Healthy N w h) (ms : List Bool) (marks : List ℕ)
    (agrees : (i : ℕ) → marked ms i ≡ is_set marks i) (within : (b : ℕ) → marked ms b ≡ true → b < N) where
  abbrev graph : Graph
  graph = record { sizes = sizes_in N h; counts = as_counts N ms; slots = slots_in N h }

  abbrev at : ℕ → Memory
  at n = swept N w h ms n

  part : (n : ℕ) → n ≤ N → Swept N w h (at n) (sweep (length h.roots) graph n)
  part n l = sweep_swept N w h healthy.shape healthy.represents healthy.bare ms (as_counts N ms)
      (as_counts_marked N ms within) (as_counts_unmarked N ms within) n l

  -- the extent of an object as it is then
  grown : (n : ℕ) → n ≤ N → is_first N (at n) n ≡ true → zeros (fill_bits (at n).a n (size_at N (at n) n) 0) ≡ zeros (at n).a + size_at N (at n) n
  grown n l first =
      let k : Graph = sweep (length h.roots) graph n in
      let rep : Represents N (at n).a (at n).b k.sizes = (part n l).represents in
      let some : get_or k.sizes n 0 ≢ 0 = first_size N (at n).a (at n).b k.sizes rep n first in
      let there : size_at N (at n) n ≡ get_or k.sizes n 0 = extent N (at n).a (at n).b k.sizes rep n some in
      zeros_fill_zeros (at n).a n (size_at N (at n) n) (omega (arith, there, rep.length_a, rep.inside n some))
      (λ i p q. rep.used n i p (omega (arith, there)))

  one_is : (s : Closing) (n : ℕ) → is_doomed N marks s.heap n ≡ true → close_one_blocks N marks s n ≡ size_at N s.heap n
  unfolding close_one_blocks
  one_is s n e = rw (e, close_one_blocks)

  none_is_lem : (s : Closing) (n : ℕ) → is_doomed N marks s.heap n ≡ false → close_one_blocks N marks s n ≡ 0
  unfolding close_one_blocks
  none_is_lem s n e = rw (e, close_one_blocks)

  pass_zeros : (n : ℕ) → n ≤ N → zeros (at n).a ≡ zeros h.a + close_blocks N w marks (closing h []) n
  unfolding close_blocks swept is_doomed order.in_turn freed
  pass_zeros zero l = omega arith
  pass_zeros (suc n) l = go (pass_zeros n (omega arith)) (test_cases_lem (is_doomed N marks h n))
    where
      still : order.Undisturbed N w marks h ms
      still = undisturbed N w h healthy ms marks agrees within

      so_far : close_below N w marks (closing h []) n ≡ order.in_turn N w marks h ms n
      so_far = pass_is N w h healthy ms marks agrees within n (omega arith)

      same : is_doomed N marks (order.in_turn N w marks h ms n).heap n ≡ is_doomed N marks h n
      same = ap (λ (t : Bool). t && not (is_set marks n)) (still.first n l)

      test : is_first N h n && not (marked ms n) ≡ is_doomed N marks h n
      test = ap (λ (t : Bool). is_first N h n && not t) (agrees n)

      go : zeros (at n).a ≡ zeros h.a + close_blocks N w marks (closing h []) n
          → (is_doomed N marks h n ≡ true) ⊎ (is_doomed N marks h n ≡ false)
          → zeros (at (suc n)).a ≡ zeros h.a + close_blocks N w marks (closing h []) (suc n)
      go before (inl e) =
          let first = (and_true (is_first N h n) (not (is_set marks n)) e).0 in
          let size = still.size n l first in
          let gone : at (suc n) ≡ freed N w (at n) n (size_at N h n) = rw (test ∙ e, swept) in
          let counted : close_one_blocks N marks (close_below N w marks (closing h []) n) n ≡ size_at N (at n) n =
          ap (λ (s : Closing). close_one_blocks N marks s n) so_far ∙ one_is (order.in_turn N w marks h ms n) n (same ∙ e) in
          ap (λ (m : Memory). zeros m.a) gone ∙ ap (λ (k : ℕ). zeros (fill_bits (at n).a n k 0)) (sym size)
          ∙ omega (arith, grown n (omega arith) (still.first n l ∙ first), before, counted)
      go before (inr e) =
          let stays : at (suc n) ≡ at n = rw (test ∙ e, swept) in
          let counted : close_one_blocks N marks (close_below N w marks (closing h []) n) n ≡ 0 =
          ap (λ (s : Closing). close_one_blocks N marks s n) so_far ∙ none_is_lem (order.in_turn N w marks h ms n) n (same ∙ e) in
          ap (λ (m : Memory). zeros m.a) stays ∙ omega (arith, before, counted)

  module _ (tidy : Tidy (length h.roots) (view N w h) (marked ms) (λ b. false)) where
    after_zeros : zeros (unmarked_freed N w ms h).a ≡ zeros (at N).a + released_after N w (close_below N w marks (closing h []) N)
    unfolding unmarked_freed released_after order.in_turn
    after_zeros =
        release_zeros N w N (view-close.releasing N w h healthy ms tidy)
        ∙ ap (λ (s : Work). zeros (at N).a + released_blocks N N w (with_counts s.counts (at N)) s.stack)
        (let_go_same N w h healthy ms marks agrees within (work (at N).counts []) N)
        ∙ ap (λ (s : Closing). zeros (at N).a + released_blocks N N w s.heap s.stack)
        (sym (pass_is N w h healthy ms marks agrees within N (omega arith)))

    pub close_blocks_are : {r : ℕ}
        → r ≡ close_blocks N w marks (closing (part_memory h.a h.b h.counts h.cells [] h.d) []) N
        + released_after N w (close_below N w marks (closing (part_memory h.a h.b h.counts h.cells [] h.d) []) N)
        → r ≡ zeros (unmarked_freed N w ms h).a - zeros h.a
    unfolding released_after
    close_blocks_are {r} e =
        let lent : Closing = closing (part_memory h.a h.b h.counts h.cells [] h.d) [] in
        let first : close_blocks N w marks lent N ≡ close_blocks N w marks (closing h []) N = sym (blocks_beside N w marks (λ _. h) lent N) in
        let then : released_after N w (close_below N w marks lent N) ≡ released_after N w (close_below N w marks (closing h []) N) =
        sym (released_beside N w (λ _. h) N (close_below N w marks lent N).heap (close_below N w marks lent N).stack)
        ∙ ap (λ (s : Closing). released_blocks N N w s.heap s.stack) (sym (close_beside N w marks (λ _. h) lent N)) in
        omega (arith, e, first, then, pass_zeros N (omega arith), after_zeros)
