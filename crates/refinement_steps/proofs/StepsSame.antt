-- The steps that code takes, which looks at an object's kind once, are the rules' on a healthy heap, as long
-- as what is listed are objects.
use mathlib.Core.Path.{◌≡◌, refl, sym, ap, subst, ◌∙◌}
use mathlib.Core.Bool.{Bool, true, false, not, ◌&&◌, ◌||◌, true≢false}
use mathlib.Core.List.{List, [], ◌∷◌}
use mathlib.Core.Option
use mathlib.Core.Option.{Option, none, some}
use Prim.Native.Nat.{ℕ, zero, suc, ◌+◌}
use native.Mathlib.Omega.{arith}
use lib.Dec.{eqb}
use lib.ListN.{length, get_or}
use Rattle.rules.specs.Tools.{is_some, tabulate}
use Rattle.rules.specs.Heap.{Memory, is_first}
use Rattle.rules_stores.specs.Collection.{marked}
use Rattle.rules_steps.specs.Steps.{names, is_listed, Progress, progress, progress_of, lowest, scanned, StepsTaken, taken, steps_from}
use Rattle.step_list.specs.Lists.{listed_in}
use Rattle.step_list.specs.Naming.{cell_names}
use Rattle.step_advance.specs.Steps.{progress_at, scanned_by, steps_by}
use Rattle.check_marks.proofs.TidySame.{names_same}
use Rattle.theory_graphs.proofs.Graphs.Tidy.{Tidy}
use Rattle.theory_memories.proofs.Memories.View.{view}
use Rattle.theory_memories.proofs.Memories.Healthy.{Healthy}
use Rattle.theory_memories.proofs.Memories.TidyHeap.{some_first}
use Rattle.theory_memories.proofs.Memories.Scanning.{steps_taken}

lowest_found : (ts : List Bool) (i x : ℕ) → lowest ts i ≡ some x → (k : ℕ) × (x ≡ i + k) × (get_or ts k false ≡ true)
unfolding lowest is_some
lowest_found [] i x e = absurd (none_some e)
  where
    none_some : {y : ℕ} → none ≡ some y → ⊥
    none_some q = true≢false (sym (ap is_some q))
lowest_found (true ∷ ts) i x e = let same : i ≡ x = ap (λ (o : Option ℕ). Option.get_or o 0) e in (0, omega arith, refl)
lowest_found (false ∷ ts) i x e = let more = lowest_found ts (i + 1) x e in (suc more.0, omega (arith, more.1), more.2)

module _ (N w : ℕ) (h : Memory) (healthy : Healthy N w h) where
  -- what code takes a cell to name
  abbrev pub code_names : ℕ → ℕ → Bool
  code_names = cell_names N h.b h.d h.cells

  abbrev pub TidyAt : Progress → Type 0
  TidyAt p = Tidy (length h.roots) (view N w h) (marked p.marks) (marked p.list)

  scanned_same : (p : Progress) (x : ℕ) → is_first N h x ≡ true → scanned_by N code_names p x ≡ scanned N h p x
  unfolding scanned_by scanned
  scanned_same p x first = λ k.
      progress
      (tabulate N (λ i. marked p.marks i || names_same N w h healthy x first i k))
      (tabulate N (λ i. (marked p.list i && not (eqb i x)) || (names_same N w h healthy x first i k && not (marked p.marks i))))

  step_on : (p : Progress) → TidyAt p → (x : ℕ) → lowest p.list 0 ≡ some x → TidyAt (scanned N h p x)
  unfolding steps_from
  step_on p tidy x e =
      let one : steps_from 1 N h p ≡ taken 1 (scanned N h p x) = rw (e, steps_from) in
      subst (λ (t : StepsTaken). TidyAt t.reached) one (steps_taken N w h healthy 1 p tidy).tidy

  pub steps_same : (budget : ℕ) (p : Progress) → TidyAt p → steps_by budget N code_names p ≡ steps_from budget N h p
  unfolding steps_by steps_from
  steps_same zero p tidy = refl
  steps_same (suc k) p tidy = go (λ q t. steps_same k q t) (lowest p.list 0) refl
    where
      go : ((q : Progress) → TidyAt q → steps_by k N code_names q ≡ steps_from k N h q) → (o : Option ℕ) → lowest p.list 0 ≡ o
          → ◌≡◌ {A = StepsTaken}
          (elim o [
            | none ↦ taken 0 p
            | some x ↦ let t = steps_by k N code_names (scanned_by N code_names p x) in taken (suc t.steps) t.reached
          ])
          (elim o [
            | none ↦ taken 0 p
            | some x ↦ let t = steps_from k N h (scanned N h p x) in taken (suc t.steps) t.reached
          ])
      go rest none e = refl
      go rest (some x) e =
          let found = lowest_found p.list 0 x e in
          let at : found.0 ≡ x = omega (arith, found.1) in
          let on : marked p.list x ≡ true = ap (marked p.list) (sym at) ∙ found.2 in
          let first = some_first N w h x (tidy.objects x (tidy.listed_marked x on)) in
          ap (λ (t : StepsTaken). taken (suc t.steps) t.reached)
          (ap (steps_by k N code_names) (scanned_same p x first) ∙ rest (scanned N h p x) (step_on p tidy x e))

-- the lists hold the progress that the rules read off them
pub progress_same : (N : ℕ) (h : Memory) → progress_at N h.marks h.list ≡ progress_of N h
unfolding progress_at progress_of listed_in is_listed
progress_same N h = refl
