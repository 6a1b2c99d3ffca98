-- The bitmaps of a memory hold bytes, and a collection keeps them so, the rule's and the collector's.
use mathlib.Core.Bool.{Bool, not, ◌&&◌, ◌||◌}
use mathlib.Core.List.{List, [], ◌∷◌}
use Prim.Native.Nat.{ℕ, zero, suc, ◌+◌, ◌-◌, ◌*◌, ◌/◌, min}
use native.Mathlib.Omega.{arith}
use lib.ListN.{length, get_or, replicate}
use lib.Dec.{ltb, eqb}
use Rattle.bitmap.specs.Bit.{Bytes}
use Rattle.bitmap.proofs.Maps.{bytes_set_bit, bytes_replicate}
use Rattle.bitmap.proofs.Runs.{bytes_fill}
use Rattle.planes.specs.Plane.{count_at}
use Rattle.planes.proofs.Counts.{bytes_set_count}
use Rattle.rules.specs.Heap.{Memory, with_counts, capacity, is_first, size_at}
use Rattle.rules_stores.specs.Store.{Work, work, freed, naming_cells, count_up}
use Rattle.rules_stores.specs.Collection.{marked, references_from, reached, swept, recounted, collected}
use Rattle.rules.proofs.Tests.{choose}
use Rattle.collect_visit.specs.Visit.{visit, visit_each}
use Rattle.collect_mark.specs.Mark.{scan, mark_counts}
use Rattle.collect_sweep.specs.Sweep.{is_unmarked, sweep_one, sweep}
use Rattle.refinement.proofs.Collection.{collect_by}

pub record Bytewise (h : Memory) : Type 0 where
  pub a : Bytes h.a
  pub b : Bytes h.b
  pub counts : Bytes h.counts
  pub d : Bytes h.d

module _ (N w : ℕ) where
  freed_bytes : (h : Memory) (x n : ℕ) → Bytewise h → Bytewise (freed N w h x n)
  unfolding freed
  freed_bytes h x n bytes =
      record {
        a = bytes_fill h.a x n 0 (omega arith) bytes.a;
        b = bytes_set_bit h.b (x + n - 1) 1 (omega arith) bytes.b;
        counts = bytes_set_count (N / 8) w h.counts x 0 bytes.counts;
        d = bytes_set_bit h.d x 0 (omega arith) bytes.d;
      }

  -- ---- the rule

  module _ (h : Memory) (bytes : Bytewise h) where
    swept_bytes : (marks : List Bool) (n : ℕ) → Bytewise (swept N w h marks n)
    unfolding swept
    swept_bytes marks zero = bytes
    swept_bytes marks (suc n) =
        choose Bytewise (is_first N h n && not (marked marks n)) (freed_bytes (swept N w h marks n) n (size_at N h n) (swept_bytes marks n)) (swept_bytes marks n)

    recounted_bytes : (marks : List Bool) (counts : List ℕ) → Bytes counts → (n : ℕ) → Bytes (recounted N w h marks counts n)
    unfolding recounted
    recounted_bytes marks counts b zero = b
    recounted_bytes marks counts b (suc n) =
        let before = recounted_bytes marks counts b n in
        choose Bytes (marked marks n)
        (bytes_set_count (N / 8) w (recounted N w h marks counts n) n (min (capacity w) (references_from N h (marked marks) n)) before)
        before

    pub collected_bytes : Bytewise (collected N w h)
    unfolding collected
    collected_bytes =
        let left = swept_bytes (reached N h) N in
        record {
          a = left.a;
          b = left.b;
          counts = recounted_bytes (reached N h) (swept N w h (reached N h) N).counts left.counts N;
          d = left.d;
        }

  -- ---- the collector

  up_bytes : (counts : List ℕ) (v : ℕ) → Bytes counts → Bytes (count_up N w counts v)
  unfolding count_up
  up_bytes counts v bytes =
      choose Bytes (eqb v 0 || eqb (count_at (N / 8) w counts (v - 1)) (capacity w))
      bytes
      (bytes_set_count (N / 8) w counts (v - 1) (count_at (N / 8) w counts (v - 1) + 1) bytes)

  visit_bytes : (s : Work) (v : ℕ) → Bytes s.counts → Bytes (visit N w s v).counts
  unfolding visit
  visit_bytes s v bytes = choose (λ (t : Work). Bytes t.counts) (eqb v 0 || ltb N v) {x = s} bytes (up_bytes s.counts v bytes)

  visit_each_bytes : (s : Work) (refs : List ℕ) (j n : ℕ) → Bytes s.counts → Bytes (visit_each N w s refs j n).counts
  unfolding visit_each
  visit_each_bytes s refs j zero bytes = bytes
  visit_each_bytes s refs j (suc n) bytes = visit_bytes (visit_each N w s refs j n) (get_or refs (j + n) 0) (visit_each_bytes s refs j n bytes)

  scan_bytes : (fuel : ℕ) (h : Memory) (counts stack : List ℕ) → Bytes counts → Bytes (scan fuel N w h counts stack)
  unfolding scan
  scan_bytes zero h counts stack bytes = bytes
  scan_bytes (suc fuel) h counts [] bytes = bytes
  scan_bytes (suc fuel) h counts (x ∷ stack) bytes =
      let named : ℕ = naming_cells h.d x (size_at N h x) in
      let s : Work = visit_each N w (work counts stack) h.cells (4 * x) named in
      scan_bytes fuel h s.counts s.stack (visit_each_bytes (work counts stack) h.cells (4 * x) named bytes)

  mark_bytes : (h : Memory) → Bytes (mark_counts N w h)
  unfolding mark_counts
  mark_bytes h =
      let s : Work = visit_each N w (work (replicate (w * (N / 8)) 0) []) h.roots 0 (length h.roots) in
      scan_bytes N h s.counts s.stack
      (visit_each_bytes (work (replicate (w * (N / 8)) 0) []) h.roots 0 (length h.roots) (bytes_replicate (w * (N / 8)) 0 (omega arith)))

  sweep_bytes : (h : Memory) (n : ℕ) → Bytewise h → Bytewise (sweep N w h n)
  unfolding sweep sweep_one
  sweep_bytes h zero bytes = bytes
  sweep_bytes h (suc n) bytes =
      let before = sweep_bytes h n bytes in
      choose Bytewise (is_unmarked N w (sweep N w h n) n)
      (freed_bytes (sweep N w h n) n (size_at N (sweep N w h n) n) before)
      before

  pub collect_by_bytes : (h : Memory) → Bytewise h → Bytewise (collect_by N w h)
  unfolding collect_by
  collect_by_bytes h bytes =
      sweep_bytes (with_counts (mark_counts N w h) h) N (record { a = bytes.a; b = bytes.b; counts = mark_bytes h; d = bytes.d })
