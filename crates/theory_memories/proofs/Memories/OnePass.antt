-- For code that closes a collection in one pass (request U8), freeing an unmarked object and counting down
-- what it named before it comes to the next: what the sweep has freed below block n leaves the object there
-- as it was.
use mathlib.Core.Path.{◌≡◌, sym, ap, ◌∙◌}
use mathlib.Core.Logic.{◌≢◌, inl, inr}
use mathlib.Core.Bool.{Bool, true}
use mathlib.Core.List.{List}
use Prim.Native.Nat.{ℕ, ◌+◌, ◌*◌, ◌/◌, ◌≤◌, ◌<◌}
use native.Mathlib.Omega.{arith}
use lib.ListN.{length, get_or}
use Rattle.bitmap.specs.Bit.{bit_at}
use Rattle.rules.specs.Heap.{Memory, is_first, size_at}
use Rattle.rules_stores.specs.Collection.{marked, swept}
use Rattle.rules.proofs.Tests.{test_cases_lem, false_unless}
use Rattle.theory_memories.proofs.Maps.Extents.{size_first, size_not_first, represents_is}
use Rattle.theory_graphs.proofs.Graphs.Graph.{Graph}
use Rattle.theory_graphs.proofs.Graphs.Sweep.{sweep}
use Rattle.theory_memories.proofs.Memories.Keeping.{sizes_in}
use Rattle.theory_memories.proofs.Memories.View.{slots_in}
use Rattle.theory_memories.proofs.Memories.Healthy.{Healthy}
use Rattle.theory_memories.proofs.Memories.ViewSweep.{as_counts, as_counts_marked, as_counts_unmarked, Swept, sweep_swept, sweep_later}
use Rattle.theory_memories.proofs.Memories.TidyHeap.{first_some, some_first}

module _ (N w : ℕ) (h : Memory) (healthy : Healthy N w h) (marks : List Bool) (within : (b : ℕ) → marked marks b ≡ true → b < N) where
  abbrev graph : Graph
  graph = record { sizes = sizes_in N h; counts = as_counts N marks; slots = slots_in N h }

  -- the object at block n, once those below it are swept
  pub record Undisturbed (n : ℕ) : Type 0 where
    pub first : is_first N (swept N w h marks n) n ≡ is_first N h n
    pub size : is_first N h n ≡ true → size_at N (swept N w h marks n) n ≡ size_at N h n
    pub kind : is_first N h n ≡ true → bit_at (swept N w h marks n).d n ≡ bit_at h.d n
    pub cells : is_first N h n ≡ true → (k : ℕ) → k < 4 * size_at N h n
        → get_or (swept N w h marks n).cells (4 * n + k) 0 ≡ get_or h.cells (4 * n + k) 0
    pub counts : length (swept N w h marks n).counts ≡ w * (N / 8)

  module _ (n : ℕ) (l : n ≤ N) where
    abbrev g : Memory
    g = swept N w h marks n

    part : Swept N w h g (sweep (length h.roots) graph n)
    part = sweep_swept N w h healthy.shape healthy.represents healthy.bare marks (as_counts N marks)
        (as_counts_marked N marks within) (as_counts_unmarked N marks within) n l

    same_size : get_or (sizes_in N g) n 0 ≡ get_or (sizes_in N h) n 0
    same_size =
        ap (λ (s : List ℕ). get_or s n 0) (sym (represents_is N g.a g.b (sweep (length h.roots) graph n).sizes part.represents))
        ∙ sweep_later (length h.roots) graph n n (omega arith)

    stands : is_first N h n ≡ true → get_or (sizes_in N g) n 0 ≢ 0
    stands f z = first_some N w h n f (sym same_size ∙ z)

    same_first : is_first N g n ≡ is_first N h n
    same_first =
        elim (test_cases_lem (is_first N h n)) [
          | inl f ↦ some_first N w g n (stands f) ∙ sym f
          | inr f ↦
              false_unless (is_first N g n) (λ t. first_some N w g n t (same_size ∙ size_not_first N h.a h.b n f)) ∙ sym f
        ]

    pub undisturbed : Undisturbed n
    undisturbed =
        record {
          first = same_first;
          size = λ f.
              sym (size_first N g.a g.b n (same_first ∙ f)) ∙ same_size ∙ size_first N h.a h.b n f;
          kind = λ f. (part.keeps n (stands f)).kind;
          cells = λ f k u. (part.keeps n (stands f)).cells (4 * n + k) (omega arith, omega (arith, size_first N h.a h.b n f));
          counts = part.shape.length_counts;
        }
