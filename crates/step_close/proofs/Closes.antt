-- What `close_one` gives on each way through the code, and a turn of the pass.
use mathlib.Core.Path.{◌≡◌, sym, ap, ap₂, ◌∙◌}
use mathlib.Core.Logic.{◌≢◌}
use mathlib.Core.Bool.{true, false}
use mathlib.Core.List.{List, []}
use Prim.Native.Nat.{ℕ, ◌+◌, ◌-◌, ◌*◌, ◌/◌, ◌≤◌}
use native.Mathlib.Numerals.{add-one}
use native.Mathlib.Omega.{arith}
use Rattle.bitmap.specs.Bit.{bit_at, set_bit, fill_bits}
use Rattle.planes.specs.Plane.{set_count}
use Rattle.rules.specs.Heap.{Memory, is_first, size_at}
use Rattle.rules_stores.specs.Store.{work, clear_cells, naming_cells, freed}
use Rattle.count_up.specs.Ready.{part_memory}
use Rattle.section_figures.specs.Figures.{Coherent}
use Rattle.count_up.specs.Stack.{top_first, counted, Worked}
use Rattle.count_up.proofs.Shapes.{extents_written}
use Rattle.step_list.proofs.Bits.{set_is, clear_is}
use Rattle.step_close.specs.Close.{count_down_survivors, is_doomed, Closing, closing, down_from, doomed_freed, close_one, close_one_blocks, close_below, close_blocks, held, Standing}

-- what the code has to show of block i
abbrev pub ClosedOne : (N w : ℕ) (marks : List ℕ) (s : Closing) (i : ℕ) (a b counts cells waiting sections d : List ℕ) (top freed : ℕ) → Type 0
ClosedOne N w marks s i a b counts cells waiting sections d top freed =
    (held a b counts cells waiting d top ≡ close_one N w marks s i) × (freed ≡ close_one_blocks N marks s i) × (freed ≤ N)
    × Standing N w a b counts cells waiting sections d top

module _ (marks : List ℕ) (i : ℕ) {N w : ℕ} {a b counts cells waiting sections d : List ℕ} {top : ℕ} (s : Standing N w a b counts cells waiting sections d top) where
  abbrev heap : Memory
  heap = part_memory a b counts cells [] d

  abbrev now_held : Closing
  now_held = held a b counts cells waiting d top

  spared : is_doomed N marks heap i ≡ false → ClosedOne N w marks now_held i a b counts cells waiting sections d top 0
  unfolding close_one close_one_blocks
  spared e = (rw (e, close_one), rw (e, close_one_blocks), omega arith, s)

  pub close_not_first : is_first N heap i ≡ false → ClosedOne N w marks now_held i a b counts cells waiting sections d top 0
  unfolding is_doomed
  close_not_first e = spared (rw (e, is_doomed))

  pub close_marked : is_first N heap i ≡ true → bit_at marks i ≡ 1 → ClosedOne N w marks now_held i a b counts cells waiting sections d top 0
  unfolding is_doomed
  close_marked e m = spared (rw (e, set_is marks i m, is_doomed))

  pub close_doomed : is_first N heap i ≡ true → bit_at marks i ≢ 1 → {n : ℕ} → n ≡ size_at N heap i → i + n ≤ N
      → {a' b' mid cells' counts' waiting' sections' d' : List ℕ} {top' left : ℕ}
      → a' ≡ fill_bits a i n 0 → b' ≡ set_bit b (i + n - 1) 1 → mid ≡ set_count (N / 8) w counts i 0
      → Worked counted N w (count_down_survivors N w marks (work mid (top_first waiting top)) cells (4 * i) (naming_cells d i n)) left counts' waiting' top'
      → cells' ≡ clear_cells cells (4 * i) (4 * n) → d' ≡ set_bit d i 0 → Coherent N a' sections'
      → ClosedOne N w marks now_held i a' b' counts' cells' waiting' sections' d' top' n
  unfolding is_doomed close_one close_one_blocks freed
  close_doomed first m {n} size inside {a'} {b'} {mid} {cells'} {counts'} {waiting'} {sections'} {d'} {top'} ea eb em down ec ed coherent =
      let doomed : is_doomed N marks heap i ≡ true = rw (first, clear_is marks i m, is_doomed) in
      let worked : work counts' (top_first waiting' top') ≡ down_from N w marks now_held i n =
      down.result ∙ ap (λ (c : List ℕ). count_down_survivors N w marks (work c (top_first waiting top)) cells (4 * i) (naming_cells d i n)) em in
      let made : held a' b' counts' cells' waiting' d' top' ≡ doomed_freed N w marks now_held i n =
      λ k. closing (part_memory (ea k) (eb k) (worked k).counts (ec k) [] (ed k)) (worked k).stack in (
        made ∙ ap (doomed_freed N w marks now_held i) size ∙ rw (doomed, close_one),
        size ∙ rw (doomed, close_one_blocks),
        omega arith,
        record {
          planes = down.planes;
          extents = extents_written i n 0 (i + n - 1) 1 (4 * i) (4 * n) 0 ea eb ec ed s.extents;
          stack = down.stack;
          coherent = coherent;
        },
      )

-- ---- a turn of the pass

module _ (N w : ℕ) (marks : List ℕ) (start : Closing) (i : ℕ) {s : Closing} (so_far : s ≡ close_below N w marks start i) where
  pub close_next : {t : Closing} → t ≡ close_one N w marks s i → t ≡ close_below N w marks start (i + 1)
  unfolding close_below
  close_next e = e ∙ ap (λ (x : Closing). close_one N w marks x i) so_far ∙ sym (ap (close_below N w marks start) (add-one i))

  pub close_blocks_next : {freed n : ℕ} → freed ≡ close_blocks N w marks start i → n ≡ close_one_blocks N marks s i
      → freed + n ≡ close_blocks N w marks start (i + 1)
  unfolding close_blocks
  close_blocks_next before e =
      ap₂ ◌+◌ before (e ∙ ap (λ (x : Closing). close_one_blocks N marks x i) so_far) ∙ sym (ap (close_blocks N w marks start) (add-one i))
