-- What `sweep_one` gives on each way through the code, and a turn of the sweep's loop.
use mathlib.Core.Path.{◌≡◌, sym, ap, ap₂, ◌∙◌}
use mathlib.Core.Bool.{true, false}
use mathlib.Core.List.{List, []}
use Prim.Native.Nat.{ℕ, zero, suc, ◌+◌, ◌-◌, ◌*◌, ◌/◌, ◌≤◌, ◌<◌}
use native.Mathlib.Numerals.{add-one}
use native.Mathlib.Decide.{ℕ_discrete}
use native.Mathlib.Omega.{arith}
use lib.Dec.{eqb}
use borrow.Author.Tests.{eqb-true}
use Rattle.bitmap.specs.Bit.{set_bit, fill_bits}
use Rattle.planes.proofs.Counts.{set_count_there}
use Rattle.rules.specs.Heap.{Memory, with_a, with_b, with_counts, with_cells, with_d, is_first, size_at, count_of}
use Rattle.rules_stores.specs.Store.{freed, clear_cells}
use Rattle.rules.proofs.Tests.{and_true}
use Rattle.section_figures.specs.Figures.{Coherent}
use Rattle.count_up.specs.Ready.{part_memory}
use Rattle.collect_sweep.specs.Sweep.{is_unmarked, LowestUnmarked, sweep_one, sweep_one_blocks, sweep, sweep_blocks}

-- what the code has to show of block i: the memory that it leaves, the number of blocks that it frees, and that no figure of a section is
-- wrong
abbrev SweptOne : (N w : ℕ) → Memory → (i : ℕ) → Memory → ℕ → List ℕ → Type 0
SweptOne N w h i g n sections = (g ≡ sweep_one N w h i) × (n ≡ sweep_one_blocks N w h i) × (n ≤ N) × Coherent N g.a sections

module _ (N w : ℕ) (h : Memory) (i : ℕ) where
  object_freed : is_unmarked N w h i ≡ true
      → (freed N w h i (size_at N h i) ≡ sweep_one N w h i) × (size_at N h i ≡ sweep_one_blocks N w h i)
  unfolding sweep_one sweep_one_blocks
  object_freed e = (rw (e, sweep_one), rw (e, sweep_one_blocks))

  -- the count of an unmarked object is 0 already
  pub sweep_unmarked : {n : ℕ} → n ≡ size_at N h i → i + n ≤ N → is_unmarked N w h i ≡ true
      → {a b cells d : List ℕ} → a ≡ fill_bits h.a i n 0 → b ≡ set_bit h.b (i + n - 1) 1 → cells ≡ clear_cells h.cells (4 * i) (4 * n)
      → d ≡ set_bit h.d i 0
      → {sections : List ℕ} → Coherent N a sections → SweptOne N w h i (with_a a (with_b b (with_cells cells (with_d d h)))) n sections
  unfolding is_unmarked freed
  sweep_unmarked {n} size within unmarked {a} {b} {cells} {d} ea eb ec ed coherent =
      let z = eqb-true (count_of N w h i) 0 (and_true (is_first N h i) (eqb (count_of N w h i) 0) unmarked).1 in
      let there = set_count_there (N / 8) w h.counts i 0 z in
      let cleared : with_a a (with_b b (with_cells cells (with_d d h))) ≡ freed N w h i n =
      λ t. with_a (ea t) (with_b (eb t) (with_counts (sym there t) (with_cells (ec t) (with_d (ed t) h)))) in
      let done = object_freed unmarked in
      (cleared ∙ ap (λ (k : ℕ). freed N w h i k) size ∙ done.0, size ∙ done.1, omega arith, coherent)

-- blocks at which no unmarked object starts are passed over
module _ (N w : ℕ) (start : Memory) {h : Memory} where
  sweep_pass : (i : ℕ) → is_unmarked N w h i ≡ false → h ≡ sweep N w start i → h ≡ sweep N w start (suc i)
  unfolding sweep sweep_one
  sweep_pass i none swept =
      let stays : h ≡ sweep_one N w h i = rw (none, sweep_one) in
      stays ∙ ap (λ (x : Memory). sweep_one N w x i) swept

  sweep_blocks_pass : (i : ℕ) → is_unmarked N w h i ≡ false → h ≡ sweep N w start i → sweep_blocks N w start i ≡ sweep_blocks N w start (suc i)
  unfolding sweep_blocks sweep_one_blocks
  sweep_blocks_pass i none swept =
      let frees : sweep_one_blocks N w (sweep N w start i) i ≡ 0 =
      ap (λ (x : Memory). sweep_one_blocks N w x i) (sym swept) ∙ rw (none, sweep_one_blocks) in
      omega arith

  pub sweep_to : (i r : ℕ) → i ≤ r → ((j : ℕ) → i ≤ j → j < r → is_unmarked N w h j ≡ false) → h ≡ sweep N w start i
      → (h ≡ sweep N w start r) × (sweep_blocks N w start i ≡ sweep_blocks N w start r)
  sweep_to i zero l none swept =
      let e : i ≡ zero = omega arith in
      (swept ∙ ap (sweep N w start) e, ap (sweep_blocks N w start) e)
  sweep_to i (suc r) l none swept = elim (ℕ_discrete i (suc r)) [
    | yes e ↦ (swept ∙ ap (sweep N w start) e, ap (sweep_blocks N w start) e)
    | no d ↦
        let to = sweep_to i r (omega arith) (λ j p q. none j p (omega arith)) swept in
        let last = none r (omega arith) (omega arith) in
        (sweep_pass r last to.0, to.1 ∙ sweep_blocks_pass r last to.0)
  ]

-- a search for the next unmarked object reads the A-map, the B-map and the counts alone
module _ (N w : ℕ) (start : Memory) {a b counts cells d : List ℕ} {i : ℕ} (swept : part_memory a b counts cells [] d ≡ sweep N w start i) where
  pub sweep_to_next : {r : ℕ} → LowestUnmarked N w (part_memory a b counts [] [] []) i r
      → (part_memory a b counts cells [] d ≡ sweep N w start r) × (sweep_blocks N w start i ≡ sweep_blocks N w start r)
  unfolding is_unmarked
  sweep_to_next {r} next = sweep_to N w start i r next.from next.none_before swept

  pub sweep_to_end : i ≤ N → ((j : ℕ) → i ≤ j → j < N → is_unmarked N w (part_memory a b counts [] [] []) j ≡ false)
      → (part_memory a b counts cells [] d ≡ sweep N w start N) × (sweep_blocks N w start i ≡ sweep_blocks N w start N)
  unfolding is_unmarked
  sweep_to_end within none = sweep_to N w start i N within none swept

-- a turn of the loop, from what stands swept below i
module _ (N w : ℕ) (start : Memory) (i : ℕ) {h : Memory} (swept : h ≡ sweep N w start i) where
  pub sweep_next : {g : Memory} → g ≡ sweep_one N w h i → g ≡ sweep N w start (i + 1)
  unfolding sweep
  sweep_next e = e ∙ ap (λ (x : Memory). sweep_one N w x i) swept ∙ sym (ap (sweep N w start) (add-one i))

  pub sweep_blocks_next : {freed n : ℕ} → freed ≡ sweep_blocks N w start i → n ≡ sweep_one_blocks N w h i
      → freed + n ≡ sweep_blocks N w start (i + 1)
  unfolding sweep_blocks
  sweep_blocks_next so_far e =
      ap₂ ◌+◌ so_far (e ∙ ap (λ (x : Memory). sweep_one_blocks N w x i) swept) ∙ sym (ap (sweep_blocks N w start) (add-one i))
