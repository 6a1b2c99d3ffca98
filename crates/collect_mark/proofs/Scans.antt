-- Laws of `scan`: what is left of one as its loop goes on, and which buffers it reads.
use mathlib.Core.Path.{◌≡◌, refl, sym, ap, ap₂, ◌∙◌}
use mathlib.Core.Bool.{Bool, true, false}
use mathlib.Core.List.{List, [], ◌∷◌}
use Prim.Native.Nat.{ℕ, zero, suc, ◌-◌, ◌*◌, ◌/◌, ◌≤◌, ◌<◌}
use native.Mathlib.Omega.{arith}
use lib.ListN.{length, get_or, set, replicate}
use Rattle.rules.specs.Heap.{Memory, with_b, with_cells, with_roots, with_d, size_at, is_data}
use Rattle.rules_stores.specs.Store.{Work, work, naming_cells}
use Rattle.count_up.specs.Stack.{top_first, uncounted, remaining, Stack, Worked}
use Rattle.count_up.proofs.Stack.{top_first_kept, top_first_pop, stack_pop, stack_empty}
use Rattle.count_up.proofs.Shapes.{planes_same}
use Rattle.collect_counts.proofs.Counts.{maps_length, counting_none}
use Rattle.collect_visit.specs.Visit.{visit_each, Counted}
use Rattle.collect_mark.specs.Mark.{scan, mark_counts, Markable}

-- a scan with an empty stack is at its end
scan_empty : (steps N w : ℕ) (h : Memory) (counts : List ℕ) → scan steps N w h counts [] ≡ counts
unfolding scan
scan_empty zero N w h counts = refl
scan_empty (suc f) N w h counts = refl

scan_next : (steps N w : ℕ) (h : Memory) (counts : List ℕ) (i : ℕ) (rest : List ℕ) → 0 < steps →
    let s = visit_each N w (work counts rest) h.cells (4 * i) (naming_cells h.d i (size_at N h i)) in
    scan steps N w h counts (i ∷ rest) ≡ scan (steps - 1) N w h s.counts s.stack
unfolding scan
scan_next steps N w h counts i rest some =
    let one_more : steps ≡ suc (steps - 1) = omega arith in
    ap (λ (f : ℕ). scan f N w h counts (i ∷ rest)) one_more

-- the cells that name others are those of whole blocks
pub naming_whole : (d : List ℕ) (i n : ℕ) → 4 * (naming_cells d i n / 4) ≡ naming_cells d i n
unfolding naming_cells
naming_whole d i n = whole (is_data d i)
  where
    whole : (t : Bool) → 4 * ((elim t [ true ↦ 0 | false ↦ 4 * n ]) / 4) ≡ elim t [ true ↦ 0 | false ↦ 4 * n ]
    whole true = refl
    whole false = omega arith

-- the object on top of the stack taken off
pub counted_pop : {N w : ℕ} {at waiting : List ℕ} {top : ℕ} → 0 < top → Counted N w at waiting top
    → Counted N w at (set waiting (top - 1) 0) (top - 1)
counted_pop some c = record { planes = c.planes; counting = c.counting; stack = stack_pop some c.stack }

-- Counts and stack lead to the result, in `steps` steps, which are enough.
pub record Leading (N w : ℕ) (h : Memory) (result counts waiting : List ℕ) (top : ℕ) : Type 0 where
  pub steps : ℕ
  pub enough : remaining uncounted N w counts top ≤ steps
  pub leads : scan steps N w h counts (top_first waiting top) ≡ result

module _ {N w : ℕ} {h : Memory} {counts waiting : List ℕ} {top : ℕ} where
  pub leading_start : Stack uncounted N w counts waiting top → Leading N w h (scan N N w h counts (top_first waiting top)) counts waiting top
  leading_start s = record { steps = N; enough = s.room; leads = refl }

  module _ {result : List ℕ} (before : Leading N w h result counts waiting top) where
    -- the object on top of the stack is scanned
    pub leading_next : 0 < top → {n named : ℕ} → n ≡ size_at N h (get_or waiting (top - 1) 0)
        → named ≡ naming_cells h.d (get_or waiting (top - 1) 0) n → {counts' waiting' : List ℕ} {top' : ℕ}
        → Worked uncounted N w
        (visit_each N w (work counts (top_first (set waiting (top - 1) 0) (top - 1))) h.cells (4 * get_or waiting (top - 1) 0) named)
        (remaining uncounted N w counts (top - 1)) counts' waiting' top'
        → Leading N w h result counts' waiting' top'
    leading_next some size names next =
        let i : ℕ = get_or waiting (top - 1) 0 in
        let after : List ℕ → ℕ → Work = λ rest k. visit_each N w (work counts rest) h.cells (4 * i) k in
        let popped = top_first_kept waiting (top - 1) (top - 1) 0 (omega arith) in
        record {
          steps = before.steps - 1;
          enough = omega (arith, next.left_is, before.enough);
          leads =
              ap (λ (s : Work). scan (before.steps - 1) N w h s.counts s.stack) (next.result ∙ ap₂ after popped (names ∙ ap (naming_cells h.d i) size))
              ∙ sym (scan_next before.steps N w h counts i (top_first waiting (top - 1)) (omega (arith, before.enough)))
              ∙ ap (λ (l : List ℕ). scan before.steps N w h counts l) (sym (top_first_pop waiting top some))
              ∙ before.leads;
        }

    pub leading_done : top ≡ 0 → counts ≡ result
    unfolding top_first
    leading_done e =
        sym (scan_empty before.steps N w h counts)
        ∙ ap (λ (k : ℕ). scan before.steps N w h counts (top_first waiting k)) (sym e)
        ∙ before.leads

-- a scan reads the B-map, the cells and the D-map alone: all other lists may be those of g
scan_reads : (steps N w : ℕ) (h g : Memory) (counts stack : List ℕ)
    → scan steps N w h counts stack ≡ scan steps N w (with_b h.b (with_cells h.cells (with_d h.d g))) counts stack
unfolding scan
scan_reads zero N w h g counts stack = refl
scan_reads (suc f) N w h g counts [] = refl
scan_reads (suc f) N w h g counts (i ∷ rest) = scan_reads f N w h g _ _

-- and the marking reads the roots besides
pub mark_reads : (N w : ℕ) (h g : Memory)
    → mark_counts N w h ≡ mark_counts N w (with_b h.b (with_cells h.cells (with_roots h.roots (with_d h.d g))))
unfolding mark_counts
mark_reads N w h g = scan_reads N N w h (with_roots h.roots g) _ _

-- the marking in two parts, with counts and stack in between
pub mark_parts : (N w : ℕ) (h : Memory) {cleared counts stack : List ℕ} → cleared ≡ replicate (w * (N / 8)) 0
    → work counts stack ≡ visit_each N w (work cleared []) h.roots 0 (length h.roots)
    → scan N N w (with_roots [] h) counts stack ≡ mark_counts N w h
unfolding mark_counts
mark_parts N w h e visited =
    scan_reads N N w (with_roots [] h) h _ _
    ∙ ap (λ (s : Work). scan N N w h s.counts s.stack)
    (visited ∙ ap (λ (c : List ℕ). visit_each N w (work c []) h.roots 0 (length h.roots)) e)

-- ---- the start, with every count 0

pub counted_none : {N w : ℕ} {b counts cells waiting d : List ℕ} (at : List ℕ) → Markable N w b counts cells waiting d → N ≤ length at
    → ((i : ℕ) → get_or at i 0 ≡ 0) → Counted N w at waiting 0
counted_none {N} {w} at m long none = record {
  planes = planes_same m.planes (maps_length N w at ∙ sym m.planes.length_is);
  counting = counting_none N w at long none;
  stack = stack_empty m.idle;
}
