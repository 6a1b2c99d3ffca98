-- For the bridge: the pass of the close, which frees an object and counts down the survivors that it named
-- before it comes to the next one, ends as the rules do, which first free all unmarked objects and then count
-- down. Asked for: what is freed before an object leaves that object as it was.
use mathlib.Core.Path.{◌≡◌, refl, sym, ap, ap₂, ◌∙◌}
use mathlib.Core.Logic.{◌⊎◌, inl, inr}
use mathlib.Core.Bool.{Bool, true, false, not, ◌&&◌}
use mathlib.Core.List.{List, []}
use Prim.Native.Nat.{ℕ, zero, suc, ◌+◌, ◌*◌, ◌≤◌, ◌<◌}
use native.Mathlib.Omega.{arith}
use borrow.Author.Tests.{not-true}
use lib.ListN.{get_or}
use Rattle.rules.specs.Heap.{Memory, with_counts, is_first, size_at}
use Rattle.rules_stores.specs.Store.{Work, work, count_down, naming_cells, freed}
use Rattle.bitmap.specs.Bit.{bit_at}
use lib.Dec.{eqb}
use Rattle.rules_stores.specs.Collection.{marked, swept}
use Rattle.rules.proofs.Tests.{test_cases_lem, and_true}
use Rattle.count_up.specs.Ready.{Planes}
use Rattle.step_close.specs.Close.{to_survivor, count_down_survivors, is_doomed, Closing, closing, doomed_freed, close_one, close_below}
use Rattle.step_list.specs.Lists.{is_set}
use Rattle.step_close.proofs.Commute.{zeroed, survivors_planes, survivors_comm}

-- the rules' count-downs: of what the unmarked objects of h that start below n named
unfoldable pub survivors_let_go : ℕ → ℕ → (marks : List ℕ) → Memory → Work → (n : ℕ) → Work
survivors_let_go N w marks h s zero = s
survivors_let_go N w marks h s (suc n) =
    let t = survivors_let_go N w marks h s n in
    elim (is_doomed N marks h n) [ true ↦ count_down_survivors N w marks t h.cells (4 * n) (naming_cells h.d n (size_at N h n)) | false ↦ t ]

-- cells that are equal count the same down
cells_same : (N w : ℕ) (marks : List ℕ) (s : Work) (cells other : List ℕ) (j n : ℕ)
    → ((k : ℕ) → k < n → get_or cells (j + k) 0 ≡ get_or other (j + k) 0)
    → count_down_survivors N w marks s cells j n ≡ count_down_survivors N w marks s other j n
unfolding count_down_survivors
cells_same N w marks s cells other j zero h = refl
cells_same N w marks s cells other j (suc n) h =
    ap₂ (λ (t : Work) (v : ℕ). count_down N w t (to_survivor marks v)) (cells_same N w marks s cells other j n (λ k l. h k (omega arith)))
    (h n (omega arith))

-- one kind, as many cells that name others
same_naming : (d e : List ℕ) (i n : ℕ) → bit_at d i ≡ bit_at e i → naming_cells d i n ≡ naming_cells e i n
unfolding naming_cells
same_naming d e i n same = ap (λ (k : ℕ). elim (eqb k 1) as (λ _. ℕ) [ true ↦ 0 | false ↦ 4 * n ]) same

naming_le : (d : List ℕ) (i n : ℕ) → naming_cells d i n ≤ 4 * n
unfolding naming_cells
naming_le d i n = go (eqb (bit_at d i) 1)
  where
    go : (t : Bool) → elim t as (λ _. ℕ) [ true ↦ 0 | false ↦ 4 * n ] ≤ 4 * n
    go true = omega arith
    go false = omega arith

module _ (N w : ℕ) (marks : List ℕ) (h : Memory) where
  let_go_planes : (s : Work) (n : ℕ) → Planes N w s.counts → Planes N w (survivors_let_go N w marks h s n).counts
  unfolding survivors_let_go
  let_go_planes s zero p = p
  let_go_planes s (suc n) p = go (let_go_planes s n p) (is_doomed N marks h n)
    where
      go : Planes N w (survivors_let_go N w marks h s n).counts → (t : Bool)
          → Planes N w (elim t as (λ _. Work) [
            | true ↦ count_down_survivors N w marks (survivors_let_go N w marks h s n) h.cells (4 * n) (naming_cells h.d n (size_at N h n))
            | false ↦ survivors_let_go N w marks h s n
          ]).counts
      go q true = survivors_planes marks (survivors_let_go N w marks h s n) h.cells (4 * n) (naming_cells h.d n (size_at N h n)) q
      go q false = q

  let_go_comm : (s : Work) (i n : ℕ) → Planes N w s.counts → i < N → is_set marks i ≡ false
      → survivors_let_go N w marks h (zeroed N w i s) n ≡ zeroed N w i (survivors_let_go N w marks h s n)
  unfolding survivors_let_go
  let_go_comm s i zero p l dead = refl
  let_go_comm s i (suc n) p l dead = go (let_go_comm s i n p l dead) (is_doomed N marks h n)
    where
      down : Work → Work
      down t = count_down_survivors N w marks t h.cells (4 * n) (naming_cells h.d n (size_at N h n))

      go : survivors_let_go N w marks h (zeroed N w i s) n ≡ zeroed N w i (survivors_let_go N w marks h s n) → (t : Bool)
          → elim t as (λ _. Work) [ true ↦ down (survivors_let_go N w marks h (zeroed N w i s) n) | false ↦ survivors_let_go N w marks h (zeroed N w i s) n ]
          ≡ zeroed N w i (elim t [ true ↦ down (survivors_let_go N w marks h s n) | false ↦ survivors_let_go N w marks h s n ])
      go e true =
          ap down e
          ∙ survivors_comm marks (survivors_let_go N w marks h s n) h.cells (4 * n) (naming_cells h.d n (size_at N h n)) i (let_go_planes s n p) l dead
      go e false = e

  -- what is freed before block n leaves the object there as it was
  pub record Undisturbed (ms : List Bool) : Type 0 where
    pub agrees : (n : ℕ) → n < N → marked ms n ≡ is_set marks n
    pub first : (n : ℕ) → n < N → is_first N (swept N w h ms n) n ≡ is_first N h n
    pub size : (n : ℕ) → n < N → is_first N h n ≡ true → size_at N (swept N w h ms n) n ≡ size_at N h n
    pub kind : (n : ℕ) → n < N → is_first N h n ≡ true → bit_at (swept N w h ms n).d n ≡ bit_at h.d n
    pub cells : (n : ℕ) → n < N → is_first N h n ≡ true → (k : ℕ) → k < 4 * size_at N h n
        → get_or (swept N w h ms n).cells (4 * n + k) 0 ≡ get_or h.cells (4 * n + k) 0
    pub planes : (n : ℕ) → n ≤ N → Planes N w (swept N w h ms n).counts

  abbrev pub joint : Memory → Work → Closing
  joint g t = closing (with_counts t.counts g) t.stack

  -- the rules: all that start below n freed, then the survivors counted down
  unfoldable pub in_turn : List Bool → ℕ → Closing
  in_turn ms n = joint (swept N w h ms n) (survivors_let_go N w marks h (work (swept N w h ms n).counts []) n)

  module _ (n : ℕ) where
    one_spared : (s : Closing) → is_doomed N marks s.heap n ≡ false → close_one N w marks s n ≡ s
    unfolding close_one
    one_spared s e = rw (e, close_one)

    one_freed : (s : Closing) → is_doomed N marks s.heap n ≡ true → close_one N w marks s n ≡ doomed_freed N w marks s n (size_at N s.heap n)
    unfolding close_one
    one_freed s e = rw (e, close_one)

    go_spared : (s : Work) → is_doomed N marks h n ≡ false → survivors_let_go N w marks h s (suc n) ≡ survivors_let_go N w marks h s n
    unfolding survivors_let_go
    go_spared s e = rw (e, survivors_let_go)

    go_freed : (s : Work) → is_doomed N marks h n ≡ true
        → survivors_let_go N w marks h s (suc n)
        ≡ count_down_survivors N w marks (survivors_let_go N w marks h s n) h.cells (4 * n) (naming_cells h.d n (size_at N h n))
    unfolding survivors_let_go
    go_freed s e = rw (e, survivors_let_go)

    module _ (ms : List Bool) (agrees : marked ms n ≡ is_set marks n) where
      swept_spared : is_doomed N marks h n ≡ false → swept N w h ms (suc n) ≡ swept N w h ms n
      unfolding swept is_doomed
      swept_spared e = rw (ap (λ (t : Bool). is_first N h n && not t) agrees ∙ e, swept)

      swept_freed : is_doomed N marks h n ≡ true → swept N w h ms (suc n) ≡ freed N w (swept N w h ms n) n (size_at N h n)
      unfolding swept is_doomed
      swept_freed e = rw (ap (λ (t : Bool). is_first N h n && not t) agrees ∙ e, swept)

  one_more : (ms : List Bool) → Undisturbed ms → (n : ℕ) → n < N → close_one N w marks (in_turn ms n) n ≡ in_turn ms (suc n)
  unfolding in_turn is_doomed freed
  one_more ms u n l = go (test_cases_lem (is_doomed N marks h n))
    where
      g : Memory
      g = swept N w h ms n

      x : Work
      x = survivors_let_go N w marks h (work g.counts []) n

      z : ℕ
      z = size_at N h n

      same : is_doomed N marks (joint g x).heap n ≡ is_doomed N marks h n
      same = ap (λ (t : Bool). t && not (is_set marks n)) (u.first n l)

      down : List ℕ → Work → Work
      down cells t = count_down_survivors N w marks t cells (4 * n) (naming_cells h.d n z)

      go : (is_doomed N marks h n ≡ true) ⊎ (is_doomed N marks h n ≡ false) → close_one N w marks (in_turn ms n) n ≡ in_turn ms (suc n)
      go (inr e) =
          one_spared n (joint g x) (same ∙ e)
          ∙ ap (joint g) (sym (go_spared n (work g.counts []) e))
          ∙ ap (λ (m : Memory). joint m (survivors_let_go N w marks h (work m.counts []) (suc n))) (sym (swept_spared n ms (u.agrees n l) e))
      go (inl e) =
          let parts = and_true (is_first N h n) (not (is_set marks n)) e in
          let dead = not-true (is_set marks n) parts.1 in
          let after : Memory = freed N w g n z in
          one_freed n (joint g x) (same ∙ e)
          ∙ ap (doomed_freed N w marks (joint g x) n) (u.size n l parts.0)
          ∙ ap (λ (m : ℕ). joint after (count_down_survivors N w marks (zeroed N w n x) g.cells (4 * n) m)) (same_naming g.d h.d n z (u.kind n l parts.0))
          ∙ ap (joint after)
          (cells_same N w marks (zeroed N w n x) g.cells h.cells (4 * n) (naming_cells h.d n z)
          (λ k v. u.cells n l parts.0 k (omega (arith, naming_le h.d n z))))
          ∙ ap (λ (t : Work). joint after (down h.cells t)) (sym (let_go_comm (work g.counts []) n n (u.planes n (omega arith)) l dead))
          ∙ ap (joint after) (sym (go_freed n (zeroed N w n (work g.counts [])) e))
          ∙ ap (λ (m : Memory). joint m (survivors_let_go N w marks h (work m.counts []) (suc n))) (sym (swept_freed n ms (u.agrees n l) e))

  pub close_in_order : (ms : List Bool) → Undisturbed ms → (n : ℕ) → n ≤ N → close_below N w marks (closing h []) n ≡ in_turn ms n
  unfolding close_below in_turn survivors_let_go swept
  close_in_order ms u zero l = refl
  close_in_order ms u (suc n) l =
      ap (λ (s : Closing). close_one N w marks s n) (close_in_order ms u n (omega arith)) ∙ one_more ms u n (omega arith)
