-- What an object names (request U8), read off its cells as they stand: none where it is data (request U6),
-- else all of them. The rules read each cell through the map of kinds; code looks at the object's kind once.
-- Both name the same.
use mathlib.Core.Path.{◌≡◌, refl, sym, ap, ◌∙◌}
use mathlib.Core.Logic.{inl, inr}
use mathlib.Core.Bool.{Bool, true, false}
use mathlib.Core.List.{List}
use Prim.Native.Nat.{ℕ, zero, suc, ◌+◌, ◌*◌, ◌<◌}
use native.Mathlib.Omega.{arith}
use lib.Dec.{eqb}
use lib.ListN.{get_or}
use borrow.Author.Tests.{ne_eqb}
use Rattle.rules.specs.Tools.{some_below}
use Rattle.rules.specs.Heap.{Memory, is_first, size_at, is_data, reference}
use Rattle.rules_stores.specs.Store.{naming_cells}
use Rattle.rules_steps.specs.Steps.{names}
use Rattle.rules.proofs.Tests.{test_cases_lem, false_some}
use Rattle.theory_memories.proofs.Maps.Extents.{Represents, sizes_of, size_first}
use Rattle.theory_graphs.proofs.Graphs.Stretch.{Inside}
use Rattle.theory_memories.proofs.Memories.Reading.{data_read, ordinary_read}

-- tests that agree below n
some_same : (test other : ℕ → Bool) (n : ℕ) → ((k : ℕ) → k < n → test k ≡ other k) → some_below test n ≡ some_below other n
unfolding some_below
some_same test other zero same = refl
some_same test other (suc n) same =
    ap (λ (t : Bool). elim t [ true ↦ true | false ↦ test n ]) (some_same test other n (λ k l. same k (omega arith)))
    ∙ ap (λ (t : Bool). elim (some_below other n) [ true ↦ true | false ↦ t ]) (same n (omega arith))

pub naming_data : (d : List ℕ) (x n : ℕ) → is_data d x ≡ true → naming_cells d x n ≡ 0
unfolding naming_cells
naming_data d x n e = rw (e, naming_cells)

pub naming_ordinary : (d : List ℕ) (x n : ℕ) → is_data d x ≡ false → naming_cells d x n ≡ 4 * n
unfolding naming_cells
naming_ordinary d x n e = rw (e, naming_cells)

module _ (N : ℕ) (h : Memory) (rep : Represents N h.a h.b (sizes_of N h.a h.b)) (x : ℕ) (first : is_first N h x ≡ true) where
  inside : (k : ℕ) → k < 4 * size_at N h x → Inside (4 * x) (4 * get_or (sizes_of N h.a h.b) x 0) (4 * x + k)
  inside k l = (omega arith, omega (arith, size_first N h.a h.b x first))

  -- what cells of data hold is no reference
  pub of_data : is_data h.d x ≡ true → (k : ℕ) → k < 4 * size_at N h x → reference N h (4 * x + k) ≡ 0
  of_data made k l = data_read N h.a h.b (sizes_of N h.a h.b) rep h.d h.cells x (4 * x + k) (inside k l) made

  -- what others hold is one
  pub of_others : is_data h.d x ≡ false → (k : ℕ) → k < 4 * size_at N h x → reference N h (4 * x + k) ≡ get_or h.cells (4 * x + k) 0
  of_others ordinary k l = ordinary_read N h.a h.b (sizes_of N h.a h.b) rep h.d h.cells x (4 * x + k) (inside k l) ordinary

  -- data names nothing
  pub data_names : is_data h.d x ≡ true → (i : ℕ) → names N h x i ≡ false
  unfolding names
  data_names made i =
      false_some (λ k. eqb (reference N h (4 * x + k)) (i + 1)) (4 * size_at N h x)
      (λ k l. ne_eqb (reference N h (4 * x + k)) (i + 1) (λ e. omega (arith, of_data made k l)))

  pub names_cells :
      (i : ℕ)
      → names N h x i ≡ some_below (λ k. eqb (get_or h.cells (4 * x + k) 0) (i + 1)) (naming_cells h.d x (size_at N h x))
  unfolding names some_below
  names_cells i =
      elim (test_cases_lem (is_data h.d x)) [
        | inl made ↦
            data_names made i
            ∙ sym (ap (some_below (λ k. eqb (get_or h.cells (4 * x + k) 0) (i + 1))) (naming_data h.d x (size_at N h x) made))
        | inr ordinary ↦
            some_same (λ k. eqb (reference N h (4 * x + k)) (i + 1)) (λ k. eqb (get_or h.cells (4 * x + k) 0) (i + 1)) (4 * size_at N h x)
            (λ k l. ap (λ (v : ℕ). eqb v (i + 1)) (of_others ordinary k l))
            ∙ sym (ap (some_below (λ k. eqb (get_or h.cells (4 * x + k) 0) (i + 1))) (naming_ordinary h.d x (size_at N h x) ordinary))
      ]
