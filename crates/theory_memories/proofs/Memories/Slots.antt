-- Roots and cells as one list of slots: where each stands in it, that the references counted there are those that the rules count, and
-- what a reference names.
use mathlib.Core.Path.{◌≡◌, sym, ap, ◌∙◌}
use mathlib.Core.Logic.{◌≢◌, ◌⊎◌, inl, inr}
use mathlib.Core.Bool.{true}
use mathlib.Core.List.{List, [], ◌∷◌}
use Prim.Native.Nat.{ℕ, suc, ◌+◌, ◌-◌, ◌*◌, ◌<◌}
use native.Mathlib.Numerals.{add-one}
use native.Mathlib.Decide.{dec_lt}
use native.Mathlib.Omega.{arith}
use lib.Dec.{eqb}
use lib.ListN.{length, get_or, get_or-append}
use lib.Seq.{get_or-append-add}
use borrow.Author.Tests.{eqb-true, eqb-false}
use Rattle.bitmap.specs.Bit.{one, count_below}
use Rattle.bitmap.proofs.Zeros.{count_same}
use Rattle.rules.specs.Tools.{holding}
use Rattle.rules.specs.Heap.{Memory, is_first, is_ref, reference, references}
use Rattle.rules.proofs.Tests.{test_cases_lem}
use Rattle.rules.proofs.Objects.{ref_facts, holding_nil, holding_cons}
use Rattle.rules.proofs.Tabulate.{length_tabulate, get_d_tabulate}
use Rattle.theory_graphs.proofs.Graphs.Occurrences.{equals, equals_same, equals_other, occurrences, occurrences_nil, occurrences_cons, occurrences_append}
use Rattle.theory_graphs.proofs.Graphs.Occurrences.{nonzero_inside}
use Rattle.theory_memories.proofs.Memories.View.{cell_refs, slots_in}

-- ---- where a root and a cell stand

pub root_slot : (N : ℕ) (h : Memory) (r : ℕ) → r < length h.roots → get_or (slots_in N h) r 0 ≡ get_or h.roots r 0
root_slot N h r l = get_or-append h.roots (cell_refs N h) 0 r l

pub cell_slot : (N : ℕ) (h : Memory) (j : ℕ) → j < 4 * N → get_or (slots_in N h) (length h.roots + j) 0 ≡ reference N h j
cell_slot N h j l = get_or-append-add h.roots (cell_refs N h) j 0 ∙ get_d_tabulate 0 (4 * N) (reference N h) j l

pub length_cell_refs : (N : ℕ) (h : Memory) → length (cell_refs N h) ≡ 4 * N
length_cell_refs N h = length_tabulate (4 * N) (reference N h)

-- a cell's slot that holds something is in the heap
pub cell_within : (N : ℕ) (h : Memory) (j : ℕ) → get_or (slots_in N h) (length h.roots + j) 0 ≢ 0 → j < 4 * N
cell_within N h j some =
    omega (
      arith,
      nonzero_inside (cell_refs N h) j (λ z. some (get_or-append-add h.roots (cell_refs N h) j 0 ∙ z)),
      length_cell_refs N h,
    )

-- every slot is a root or a cell
pub slot_cases : (h : Memory) (s : ℕ) → (s < length h.roots) ⊎ ((j : ℕ) × (s ≡ length h.roots + j))
slot_cases h s = elim (dec_lt s (length h.roots)) [ yes l ↦ inl l | no l ↦ inr (s - length h.roots, omega arith) ]

-- ---- how many name an object

equals_one : (x v : ℕ) → equals x v ≡ one (eqb x v)
equals_one x v =
    elim (test_cases_lem (eqb x v)) [
      | inl e ↦ equals_same x v (eqb-true x v e) ∙ sym (ap one e)
      | inr e ↦ equals_other x v (eqb-false x v e) ∙ sym (ap one e)
    ]

pub occurrences_holding : (v : ℕ) (l : List ℕ) → occurrences v l ≡ holding v l
occurrences_holding v [] = occurrences_nil v ∙ sym (holding_nil v)
occurrences_holding v (x ∷ l) =
    omega (arith, occurrences_cons v x l, holding_cons v x l, equals_one x v, occurrences_holding v l)

-- of the cells read as references, as the rules count them
holding_cells : (N : ℕ) (h : Memory) (v : ℕ) → holding v (cell_refs N h) ≡ count_below (λ j. eqb (reference N h j) v) (4 * N)
unfolding holding
holding_cells N h v =
    ap (count_below (λ j. eqb (get_or (cell_refs N h) j 0) v)) (length_cell_refs N h)
    ∙ count_same (λ j. eqb (get_or (cell_refs N h) j 0) v) (λ j. eqb (reference N h j) v) (4 * N)
    (λ j l. ap (λ (x : ℕ). eqb x v) (get_d_tabulate 0 (4 * N) (reference N h) j l))

pub references_slots : (N : ℕ) (h : Memory) (b : ℕ) → occurrences (suc b) (slots_in N h) ≡ references N h b
references_slots N h b =
    omega (
      arith,
      ap (λ (v : ℕ). references_at v) (add-one b),
      occurrences_append (suc b) h.roots (cell_refs N h),
      occurrences_holding (suc b) h.roots,
      occurrences_holding (suc b) (cell_refs N h),
      holding_cells N h (suc b),
    )
  where
    references_at : ℕ → ℕ
    references_at v = holding v h.roots + count_below (λ j. eqb (reference N h j) v) (4 * N)

-- ---- what a reference names

pub ref_first : (N : ℕ) (h : Memory) (v b : ℕ) → is_ref N h v ≡ true → v ≡ suc b → is_first N h b ≡ true
ref_first N h v b ref e =
    elim (ref_facts N h.a h.b v ref) [
      | inl z ↦ absurd (omega arith)
      | inr f ↦ let q : v - 1 ≡ b = omega arith in ap (is_first N h) (sym q) ∙ f
    ]
