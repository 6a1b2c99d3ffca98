-- The heap that a format leaves is healthy: it has no objects, no counts and no references.
use mathlib.Core.Path.{◌≡◌}
use mathlib.Core.Logic.{inl}
use mathlib.Core.Bool.{true}
use mathlib.Core.List.{List}
use Prim.Native.Nat.{ℕ, ◌*◌, ◌/◌}
use native.Mathlib.Decide.{dec_lt}
use native.Mathlib.Omega.{arith}
use lib.ListN.{length, get_or, replicate, length-replicate, get_or-replicate, get_or-eq_default}
use Rattle.bitmap.proofs.Maps.{bit_all_zero}
use Rattle.planes.proofs.Counts.{count_all_zero}
use Rattle.rules.specs.Heap.{Memory, is_first}
use Rattle.rules_stores.specs.Store.{formatted}
use Rattle.rules.proofs.Shape.{Shaped}
use Rattle.rules_stores.proofs.FormattedShape.{formatted_shaped}
use Rattle.rules.proofs.Objects.{first_facts, ref_test}
use Rattle.theory_memories.proofs.Maps.Extents.{represents_delimited, formatted_represents}
use Rattle.theory_memories.proofs.Maps.Undamaged.{DamageFree}
use Rattle.rules.proofs.Reading.{read_zero}
use Rattle.theory_memories.proofs.Memories.Healthy.{Healthy, undamaged_healthy}

pub zeros_at : (n i : ℕ) → ◌≡◌ {A = ℕ} (get_or (replicate n 0) i 0) 0
zeros_at n i =
    elim (dec_lt i n) [
      | yes l ↦ get_or-replicate n i 0 0 l
      | no l ↦ get_or-eq_default (replicate n 0) 0 {n = i} (omega (arith, length-replicate {A = ℕ} n 0))
    ]

module _ (N w : ℕ) (h : Memory) (shape : Shaped N w h) where
  pub no_object : (i : ℕ) → is_first N (formatted N w (length h.roots)) i ≡ true → ⊥
  unfolding formatted
  no_object i f =
      omega (arith, (first_facts N (replicate (N / 8) 0) (replicate (N / 8) 255) i f).used, bit_all_zero (N / 8) i)

  formatted_undamaged : DamageFree N w (formatted N w (length h.roots))
  unfolding formatted
  formatted_undamaged =
      let a : List ℕ = replicate (N / 8) 0 in
      let b : List ℕ = replicate (N / 8) 255 in
      record {
        delimited = represents_delimited N a b (replicate N 0) (formatted_represents N shape.whole_bytes);
        aligned = λ i f. absurd (no_object i f);
        free_cells = λ j l z. zeros_at (4 * N) j;
        cell_refs_lem = λ j l. ref_test N a b _ (inl (read_zero N a b (replicate (N / 8) 0) (replicate (4 * N) 0) j (zeros_at (4 * N) j)));
        root_refs = λ r l. ref_test N a b (get_or (replicate (length h.roots) 0) r 0) (inl (zeros_at (length h.roots) r));
        no_count = λ i l f. count_all_zero (N / 8) w (w * (N / 8)) i;
        some_count = λ i f z. no_object i f;
        counted = λ i f. absurd (no_object i f);
        data_first = λ i l f. bit_all_zero (N / 8) i;
      }

  pub formatted_healthy : Healthy N w (formatted N w (length h.roots))
  formatted_healthy =
      undamaged_healthy N w (formatted N w (length h.roots)) (formatted_shaped N w h shape) formatted_undamaged
