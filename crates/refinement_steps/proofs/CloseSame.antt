-- The pass of the close, on the lists that are lent to it, and the release behind it leave what the rules
-- leave once the unmarked objects are freed.
use mathlib.Core.Path.{◌≡◌, refl, sym, ap, ap₂, ◌∙◌}
use mathlib.Core.Logic.{◌⊎◌, inl, inr}
use mathlib.Core.Bool.{Bool, true, false, not, ◌&&◌}
use mathlib.Core.List.{List, []}
use Prim.Native.Nat.{ℕ, zero, suc, ◌+◌, ◌-◌, ◌*◌, ◌≤◌, ◌<◌}
use native.Mathlib.Omega.{arith}
use lib.ListN.{get_or}
use Rattle.rules.specs.Heap.{Memory, with_counts, is_first, size_at, is_data}
use Rattle.rules_stores.specs.Store.{Work, work, count_down, naming_cells, freed, release}
use Rattle.rules_stores.specs.Collection.{marked, swept}
use Rattle.rules_steps.specs.Steps.{to_survivor, survivors_down, survivors_let_go, unmarked_freed}
use Rattle.rules.proofs.Tests.{test_cases_lem, and_true}
use Rattle.rules_calls.proofs.Unread.{beside, release_beside}
use Rattle.step_list.specs.Lists.{is_set}
use Rattle.count_up.specs.Ready.{part_memory}
use Rattle.step_close.specs.Close as close
use Rattle.step_close.specs.Close.{count_down_survivors, is_doomed, Closing, closing, doomed_freed, close_one, close_below, released}
use Rattle.step_close.proofs.Order as order
use Rattle.theory_memories.proofs.Memories.Healthy.{Healthy}
use Rattle.theory_memories.proofs.Memories.Naming.{naming_data, naming_ordinary, of_data, of_others}
use Rattle.theory_memories.proofs.Memories.OnePass as pass

-- ---- the lists that the pass does not read

module _ (N w : ℕ) (marks : List ℕ) (other : Memory → Memory) where
  abbrev pub aside_of : Closing → Closing
  aside_of s = closing (beside other s.heap) s.stack

  one_beside : (s : Closing) (n : ℕ) → close_one N w marks (aside_of s) n ≡ aside_of (close_one N w marks s n)
  unfolding close_one freed is_doomed
  one_beside s n = go (is_first N s.heap n && not (is_set marks n))
    where
      go : (t : Bool)
          → elim t as (λ _. Closing) [ true ↦ doomed_freed N w marks (aside_of s) n (size_at N s.heap n) | false ↦ aside_of s ]
          ≡ aside_of (elim t [ true ↦ doomed_freed N w marks s n (size_at N s.heap n) | false ↦ s ])
      go true = refl
      go false = refl

  pub close_beside : (s : Closing) (n : ℕ) → close_below N w marks (aside_of s) n ≡ aside_of (close_below N w marks s n)
  unfolding close_below
  close_beside s zero = refl
  close_beside s (suc n) =
      ap (λ (t : Closing). close_one N w marks t n) (close_beside s n) ∙ one_beside (close_below N w marks s n) n

-- ---- the marks of the map, and those of the rules

module _ (N w : ℕ) (h : Memory) (healthy : Healthy N w h) (ms : List Bool) (marks : List ℕ)
    (agrees : (i : ℕ) → marked ms i ≡ is_set marks i) (within : (b : ℕ) → marked ms b ≡ true → b < N) where
  survivor_same : (v : ℕ) → to_survivor ms v ≡ close.to_survivor marks v
  unfolding to_survivor close.to_survivor
  survivor_same v = ap (λ (t : Bool). elim t as (λ _. ℕ) [ true ↦ v | false ↦ 0 ]) (agrees (v - 1))

  -- 0 names none
  down_zero : (s : Work) → count_down N w s (to_survivor ms 0) ≡ s
  unfolding count_down to_survivor
  down_zero s = go (marked ms (0 - 1))
    where
      go : (t : Bool) → count_down N w s (elim t [ true ↦ 0 | false ↦ 0 ]) ≡ s
      go true = refl
      go false = refl

  module _ (x : ℕ) (first : is_first N h x ≡ true) (s : Work) where
    abbrev theirs : ℕ → Work
    theirs = survivors_down N w ms h s (4 * x)

    abbrev ours : ℕ → Work
    ours = count_down_survivors N w marks s h.cells (4 * x)

    down_none : is_data h.d x ≡ true → (n : ℕ) → n ≤ 4 * size_at N h x → theirs n ≡ s
    unfolding survivors_down
    down_none made zero l = refl
    down_none made (suc n) l =
        ap (λ (v : ℕ). count_down N w (theirs n) (to_survivor ms v)) (of_data N h healthy.represents x first made n (omega arith))
        ∙ ap (λ (t : Work). count_down N w t (to_survivor ms 0)) (down_none made n (omega arith)) ∙ down_zero s

    down_each : is_data h.d x ≡ false → (n : ℕ) → n ≤ 4 * size_at N h x → theirs n ≡ ours n
    unfolding survivors_down count_down_survivors
    down_each ordinary zero l = refl
    down_each ordinary (suc n) l =
        ap (λ (v : ℕ). count_down N w (theirs n) (to_survivor ms v)) (of_others N h healthy.represents x first ordinary n (omega arith))
        ∙ ap₂ (λ (t : Work) (v : ℕ). count_down N w t v) (down_each ordinary n (omega arith))
        (survivor_same (get_or h.cells (4 * x + n) 0))

    -- what is counted down for an object: of data nothing
    down_same : theirs (4 * size_at N h x) ≡ ours (naming_cells h.d x (size_at N h x))
    unfolding count_down_survivors
    down_same =
        elim (test_cases_lem (is_data h.d x)) [
          | inl made ↦ down_none made (4 * size_at N h x) (omega arith) ∙ sym (ap ours (naming_data h.d x (size_at N h x) made))
          | inr ordinary ↦
              down_each ordinary (4 * size_at N h x) (omega arith)
              ∙ sym (ap ours (naming_ordinary h.d x (size_at N h x) ordinary))
        ]

  doomed_same : (n : ℕ) → is_first N h n && not (marked ms n) ≡ is_doomed N marks h n
  unfolding is_doomed
  doomed_same n = ap (λ (t : Bool). is_first N h n && not t) (agrees n)

  pub let_go_same : (s : Work) (n : ℕ) → survivors_let_go N w ms h s n ≡ order.survivors_let_go N w marks h s n
  unfolding survivors_let_go order.survivors_let_go
  let_go_same s zero = refl
  let_go_same s (suc n) = go (let_go_same s n) (test_cases_lem (is_doomed N marks h n))
    where
      go : survivors_let_go N w ms h s n ≡ order.survivors_let_go N w marks h s n
          → (is_doomed N marks h n ≡ true) ⊎ (is_doomed N marks h n ≡ false)
          → survivors_let_go N w ms h s (suc n) ≡ order.survivors_let_go N w marks h s (suc n)
      go before (inl e) =
          let first = (and_true (is_first N h n) (not (marked ms n)) (doomed_same n ∙ e)).0 in
          let theirs : survivors_let_go N w ms h s (suc n) ≡ survivors_down N w ms h (survivors_let_go N w ms h s n) (4 * n) (4 * size_at N h n) =
          rw (doomed_same n ∙ e, survivors_let_go) in
          let ours : order.survivors_let_go N w marks h s (suc n)
          ≡ count_down_survivors N w marks (order.survivors_let_go N w marks h s n) h.cells (4 * n) (naming_cells h.d n (size_at N h n)) =
          rw (e, order.survivors_let_go) in
          theirs ∙ down_same n first (survivors_let_go N w ms h s n)
          ∙ ap (λ (t : Work). count_down_survivors N w marks t h.cells (4 * n) (naming_cells h.d n (size_at N h n))) before
          ∙ sym ours
      go before (inr e) =
          let theirs : survivors_let_go N w ms h s (suc n) ≡ survivors_let_go N w ms h s n = rw (doomed_same n ∙ e, survivors_let_go) in
          let ours : order.survivors_let_go N w marks h s (suc n) ≡ order.survivors_let_go N w marks h s n = rw (e, order.survivors_let_go) in
          theirs ∙ before ∙ sym ours

  pub undisturbed : order.Undisturbed N w marks h ms
  undisturbed =
      let shape = healthy.shape in
      record {
        agrees = λ n l. agrees n;
        first = λ n l. (pass.undisturbed N w h healthy ms within n (omega arith)).first;
        size = λ n l. (pass.undisturbed N w h healthy ms within n (omega arith)).size;
        kind = λ n l. (pass.undisturbed N w h healthy ms within n (omega arith)).kind;
        cells = λ n l. (pass.undisturbed N w h healthy ms within n (omega arith)).cells;
        planes = λ n l. record {
          eighths = sym shape.whole_bytes;
          most = shape.blocks_max;
          some = shape.width_min;
          width = shape.width_max;
          length_is = (pass.undisturbed N w h healthy ms within n l).counts;
        };
      }

  pub pass_is : (n : ℕ) → n ≤ N → close_below N w marks (closing h []) n ≡ order.in_turn N w marks h ms n
  pass_is n l = order.close_in_order N w marks h ms undisturbed n l

  released_same : released N w (close_below N w marks (closing h []) N) ≡ unmarked_freed N w ms h
  unfolding released unmarked_freed order.in_turn
  released_same =
      ap (λ (s : Closing). release N N w s.heap s.stack) (pass_is N (omega arith))
      ∙ ap (λ (s : Work). release N N w (with_counts s.counts (swept N w h ms N)) s.stack)
      (sym (let_go_same (work (swept N w h ms N).counts []) N))

  -- what the code leaves of the lists that are lent to it
  pub close_left : {g : Memory}
      → g ≡ released N w (close_below N w marks (closing (part_memory h.a h.b h.counts h.cells [] h.d) []) N)
      → beside (λ _. h) g ≡ unmarked_freed N w ms h
  unfolding released
  close_left {g} e =
      let lent : Closing = closing (part_memory h.a h.b h.counts h.cells [] h.d) [] in
      let end : Closing = close_below N w marks lent N in
      ap (beside (λ _. h)) e
      ∙ sym (release_beside N w (λ _. h) N end.heap end.stack)
      ∙ ap (λ (s : Closing). release N N w s.heap s.stack) (sym (close_beside N w marks (λ _. h) lent N))
      ∙ released_same
