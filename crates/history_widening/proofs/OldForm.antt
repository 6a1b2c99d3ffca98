-- An old history that is given unwidened: its first record stops the run with 9, or the file ends inside it.
use mathlib.Core.Path.{◌≡◌, refl, sym, ap, ◌∙◌}
use mathlib.Core.Logic.{◌≢◌, inl, inr}
use mathlib.Core.Bool.{true}
use mathlib.Core.List.{List, [], ◌∷◌, map}
use Prim.Native.Nat.{ℕ, suc, ◌+◌, ◌-◌, ◌*◌, ◌≤◌}
use native.Mathlib.Decide.{ℕ_discrete, dec_lt}
use native.Mathlib.Omega.{arith}
use lib.Dec.{eqb}
use lib.ListN.{length, get_or, length-replicate, get_or-replicate}
use borrow.Author.Tests.{eqb-true}
use Rattle.rules.specs.Heap.{Memory}
use Rattle.rules_stores.specs.Store.{formatted}
use Rattle.rules_calls.specs.Calls.{Call, allocate, allocate_data, answer}
use Rattle.rules.proofs.Tests.{test_cases_lem, all_at}
use Rattle.rules_calls.proofs.Replies.{accepted_none, Passed, passed}
use Rattle.history_records.specs.declared.Fields.{Fields}
use Rattle.history_records.specs.Records.{record_length, number, fields_at, wide, old, unnamed_by, unnamed, are_zero}
use Rattle.history_plans.specs.Asked.{Asked, makes, stops, root, allocating, allocating_data, writing_number, operations, asked}
use Rattle.history_plans.proofs.Plans.{number_target, number_empty, nonzero_asked, known_asked, unknown_asked}
use Rattle.history_figures.specs.Figures.{run, new_run, no_figures, noted_all}
use Rattle.history_turns.specs.Turns.{Turn, tried_again, turn_of, after_turn}
use Rattle.history_turns.proofs.Turns.{turn_once, turn_again}
use Rattle.history_runs.specs.Runs.{Came, ran_from, whole_records, ended}
use Rattle.history_runs.proofs.Ends.{ended_stopped, ended_past}
use Rattle.history_runs.proofs.WholeRecords.{joined, ran_going}
use Rattle.history_widening.specs.Claims.{OldIsStopped, OldIsCutOff}

-- ---- what an accepted record says

module _ (N w : ℕ) (h : Memory) (f : Fields) (accepted : (turn_of N w h (asked N h f)).number ≡ 0) where
  -- its unnamed fields are 0
  unnamed_zero : are_zero (unnamed f) ≡ true
  unfolding turn_of
  unnamed_zero = elim (test_cases_lem (are_zero (unnamed f))) [
    | inl e ↦ e
    | inr e ↦ absurd (omega (arith, ap (λ (x : Asked). (turn_of N w h x).number) (sym (nonzero_asked N h f e)) ∙ accepted))
  ]

  -- it was accepted as its operation's
  as_known : (k : ℕ) → f.operation ≡ k → (turn_of N w h (get_or (operations N h f) k (stops 9))).number ≡ 0
  as_known k e = ap (λ (x : Asked). (turn_of N w h x).number) (sym (known_asked N h f unnamed_zero k e)) ∙ accepted

  -- a call that no heap accepts stops the run
  not_refused : (c : Call) → (turn_of N w h (makes c)).number ≡ 0 → ((g : Memory) → (answer N w g c).0.number ≢ 0) → ⊥
  unfolding tried_again
  not_refused c e never = elim (ℕ_discrete (answer N w h c).0.number 5) [
    | yes again ↦ never _ (ap (λ (x : Turn). x.number) (sym (turn_again N w h c again)) ∙ e)
    | no once ↦ never h (ap (λ (x : Turn). x.number) (sym (turn_once N w h c once)) ∙ e)
  ]

  -- an allocation has a size
  some_blocks : f.operation ≡ 1 → f.size ≢ 0
  unfolding allocating Passed
  some_blocks e none =
      not_refused (allocate f.size f.d) (as_known 1 e)
      (λ g a. omega (arith, none, (passed N w g (allocate f.size f.d) (accepted_none N w g (allocate f.size f.d) a)).0))

  some_data : f.operation ≡ 7 → f.size ≢ 0
  unfolding allocating_data Passed
  some_data e none =
      not_refused (allocate_data f.size f.d) (as_known 7 e)
      (λ g a. omega (arith, none, (passed N w g (allocate_data f.size f.d) (accepted_none N w g (allocate_data f.size f.d) a)).0))

-- a number is written to no new heap: its roots are empty
no_number : (N w roots : ℕ) (f : Fields) → (turn_of N w (formatted N w roots) (asked N (formatted N w roots) f)).number ≡ 0 → f.operation ≢ 8
unfolding formatted turn_of
no_number N w roots f accepted e =
    let h : Memory = formatted N w roots in
    let long : length h.roots ≡ roots = length-replicate roots 0 in
    let stopped : (k : ℕ) → writing_number h f ≡ stops k → k ≡ 0 =
    λ k is. ap (λ (x : Asked). (turn_of N w h x).number) (sym is) ∙ as_known N w h f accepted 8 e in
    elim (dec_lt f.d roots) [
      | yes inside ↦
          let empty : root h f.d ≡ 0 = get_or-replicate roots f.d 0 0 inside in
          let none = stopped 6 (number_empty h f (omega (arith, long)) empty) in
          omega arith
      | no outside ↦
          let none = stopped 4 (number_target h f (omega (arith, long))) in
          omega arith
    ]

-- ---- the first record, read in the new form

module _ (N : ℕ) (h : Memory) (f : Fields) (some : f.size ≢ 0) (one : f.operation ≡ 1 → f.c ≢ 0) (seven : f.operation ≡ 7 → f.c ≢ 0)
    (eight : f.operation ≢ 8) where
  -- field i of those that operation k doesn't name, byte 3 being the first
  field_zero : are_zero (unnamed f) ≡ true → (k i : ℕ) → f.operation ≡ k → get_or (map (λ x. eqb x 0) (f.unused ∷ get_or (unnamed_by f) k [])) i true ≡ true
  unfolding unnamed
  field_zero zero k i e =
      all_at (map (λ x. eqb x 0) (f.unused ∷ get_or (unnamed_by f) k []))
      (ap (λ (j : ℕ). are_zero (f.unused ∷ get_or (unnamed_by f) j [])) (sym e) ∙ zero) i

  first_stops : asked N h f ≡ stops 9
  first_stops = elim (test_cases_lem (are_zero (unnamed f))) [
    | inr nonzero ↦ nonzero_asked N h f nonzero
    | inl zero ↦
        unknown_asked f
        (λ e. one e (eqb-true f.c 0 (field_zero zero 1 2 e)))
        (λ e. some (eqb-true f.size 0 (field_zero zero 2 2 e)))
        (λ e. some (eqb-true f.size 0 (field_zero zero 3 1 e)))
        (λ e. some (eqb-true f.size 0 (field_zero zero 4 1 e)))
        (λ e. some (eqb-true f.size 0 (field_zero zero 5 3 e)))
        (λ e. some (eqb-true f.size 0 (field_zero zero 6 4 e)))
        (λ e. seven e (eqb-true f.c 0 (field_zero zero 7 2 e)))
        eight
        N h zero
  ]

same_operation : (bytes : List ℕ) → (fields_at wide bytes 0).operation ≡ (fields_at old bytes 0).operation
unfolding fields_at
same_operation bytes = refl

-- the old size stands in the cell, and the byte behind the record in the size
cell_is : (bytes : List ℕ) → (fields_at wide bytes 0).c ≡ (fields_at old bytes 0).c + 65536 * (fields_at old bytes 0).size
unfolding fields_at number
cell_is bytes = omega arith

size_has : (bytes : List ℕ) → get_or bytes (record_length old) 0 ≤ (fields_at wide bytes 0).size
unfolding fields_at number
size_has bytes = omega arith

pub old_is_stopped : OldIsStopped
unfolding ran_from turn_of after_turn noted_all
old_is_stopped N w roots bytes accepted long next =
    let h : Memory = formatted N w roots in
    let f : Fields = fields_at old bytes 0 in
    let g : Fields = fields_at wide bytes 0 in
    let same : g.operation ≡ f.operation = same_operation bytes in
    let nine : asked N h g ≡ stops 9 =
    first_stops N h g (λ e. next (omega (arith, size_has bytes)))
    (λ e z. some_blocks N w h f accepted (sym same ∙ e) (omega (arith, cell_is bytes)))
    (λ e z. some_data N w h f accepted (sym same ∙ e) (omega (arith, cell_is bytes)))
    (λ e. no_number N w roots f accepted (sym same ∙ e)) in
    let k : ℕ = whole_records wide bytes new_run - 1 in
    let stopped : (ran_from wide (suc k) N w bytes 0 h new_run).run ≡ run 9 0 no_figures =
    ap (λ (x : Turn). (joined N new_run x (ran_from wide k N w bytes 1 x.after (after_turn N x new_run))).run) (ap (turn_of N w h) nine) in
    ap (λ (x : Came). x.run) (ran_going N w bytes h new_run refl (suc k) (omega arith))
    ∙ ap (ended wide (length bytes) (suc k)) stopped
    ∙ ended_stopped (length bytes) (suc k) (run 9 0 no_figures) (λ e. omega arith)

pub old_is_cut_off : OldIsCutOff
unfolding ran_from
old_is_cut_off N w roots bytes some few =
    ap (λ (x : Came). x.run) (ran_going N w bytes (formatted N w roots) new_run refl 0 (omega arith))
    ∙ ended_past (length bytes) 0 new_run (λ e. omega arith) refl
