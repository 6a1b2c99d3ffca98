-- What came of a record, noted: nothing wraps, the run is the one after the turn, and it is in range.
use mathlib.Core.Path.{◌≡◌, refl, sym, ap, ◌∙◌, subst}
use mathlib.Core.Bool.{Bool, true, false, true≢false}
use Prim.Native.Nat.{ℕ, ◌+◌, ◌-◌, ◌≤◌}
use native.Mathlib.Decide.{ℕ_discrete}
use native.Mathlib.Omega.{arith}
use borrow.Author.Tests.{eq-eqb, ne_eqb}
use Rattle.rules.specs.Heap.{Memory, max_blocks}
use Rattle.theory_memories.specs.Words.{in_use}
use Rattle.history_figures.specs.declared.tally.Tally.{Tally}
use Rattle.history_figures.specs.declared.tally.Run.{Run}
use Rattle.history_figures.specs.Figures.{collected, used, moment_in, run}
use Rattle.history_figures.proofs.Ranges.{Within, in_range_within, within_in_range, going_collections, stopped_collections}
use Rattle.history_turns.specs.declared.outcome.Done.{Done}
use Rattle.history_turns.specs.declared.noting.Running.{Running}
use Rattle.history_turns.specs.Turns.{Turn, after_turn}
use Rattle.history_turns.specs.Outcomes.{running, with_collection, with_allocation, figures_of, CanNote, noted_by}
use Rattle.history_turns.specs.Steps.{Acted, Going, Stepped}

-- ---- figures grow by little

-- at most one allocation, one collection and one object that became stuck more, and the blocks allocated
record Grown (d : Done) (t is : Tally) : Type 0 where
  collections : is.collections ≤ t.collections + 1
  allocations : is.allocations ≤ t.allocations + 1
  no_allocation : d.allocated ≡ 0 → is.allocations ≡ t.allocations
  blocks : is.blocks ≡ t.blocks + d.allocated
  stuck : is.stuck ≤ t.stuck + 1
  none_stuck : d.stuck ≡ false → is.stuck ≡ t.stuck

pub collection_grows : (d : Done) (t : Tally)
    → let is = with_collection d t in (is.collections ≤ t.collections + 1) × (is.allocations ≡ t.allocations) × (is.blocks ≡ t.blocks) × (is.stuck ≡ t.stuck)
unfolding with_collection
collection_grows d t = go d.collected
  where
    go : (b : Bool)
        → let is : Tally = elim b [ true ↦ collected t | false ↦ t ] in
        (is.collections ≤ t.collections + 1) × (is.allocations ≡ t.allocations) × (is.blocks ≡ t.blocks) × (is.stuck ≡ t.stuck)
    go true = (omega arith, refl, refl, refl)
    go false = (omega arith, refl, refl, refl)

-- an allocation adds to two figures
pub allocation_grows : (d : Done) (t : Tally)
    → let is = with_allocation d t in
    (is.collections ≡ t.collections) × (is.allocations ≤ t.allocations + 1) × (d.allocated ≡ 0 → is.allocations ≡ t.allocations)
    × (is.blocks ≡ t.blocks + d.allocated) × (is.stuck ≡ t.stuck)
unfolding with_allocation
allocation_grows d t = elim (ℕ_discrete d.allocated 0) [
  | yes e ↦ rw (eq-eqb d.allocated 0 e, with_allocation) (refl, omega arith, λ _. refl, omega arith, refl)
  | no e ↦ rw (ne_eqb d.allocated 0 e, with_allocation) (refl, omega arith, λ z. absurd (e z), refl, refl)
]

moment_grows : (s : Bool) (t : Tally)
    → let is = moment_in s t in
    (is.collections ≡ t.collections) × (is.allocations ≡ t.allocations) × (is.blocks ≡ t.blocks) × (is.stuck ≤ t.stuck + 1)
    × (s ≡ false → is.stuck ≡ t.stuck)
unfolding moment_in
moment_grows true t = (refl, refl, refl, omega arith, λ e. absurd (true≢false e))
moment_grows false t = (refl, refl, refl, omega arith, λ _. refl)

figures_grow : (d : Done) (t : Tally) → Grown d t (figures_of d t)
figures_grow d t =
    let first = collection_grows d t in
    let second = allocation_grows d (with_collection d t) in
    let third = moment_grows d.stuck (with_allocation d (with_collection d t)) in
    record {
      collections = omega (arith, first.0, second.0, third.0);
      allocations = omega (arith, first.1, second.1, third.1);
      no_allocation = λ z. third.1 ∙ second.2 z ∙ first.1;
      blocks = omega (arith, first.2, second.3, third.2);
      stuck = omega (arith, first.3, second.4, third.3);
      none_stuck = λ e. third.4 e ∙ second.4 ∙ first.3;
    }

-- ---- one record

module _ {N : ℕ} (small : N ≤ max_blocks) {h : Memory} {state : Running} (going : Going N h 1 state) {x : Turn} {d : Done} {g : Memory}
    (acted : Acted N h x d g) where
  within : Within state.run
  within = in_range_within state.run going.in_range_lem

  few_collections : state.run.tally.collections ≤ state.run.records
  few_collections = omega (arith, within.collections_few, going_collections state.run going.goes_on)

  pub can_note : CanNote d state
  can_note =
      record {
        collections_fit = omega (arith, few_collections, going.more);
        allocations_fit = omega (arith, within.allocations_few, going.more);
        blocks_fit = omega (arith, within.blocks_few, going.more, acted.allocated_few);
        stuck_fits = omega (arith, within.stuck_few, going.more);
        records_fit = omega (arith, going.more);
        used_fits = omega (arith, going.used_is, acted.allocated_few);
        freed_few = omega (arith, going.used_is, acted.balance);
      }

  -- the blocks in use are known again
  used_again : state.used + d.allocated - d.freed ≡ in_use N g
  used_again = omega (arith, going.used_is, acted.balance)

  abbrev figures : Tally
  figures = figures_of d state.run.tally

  grown : Grown d state.run.tally figures
  grown = figures_grow d state.run.tally

  accepted_within : Within (run 0 (state.run.records + 1) (used (in_use N g) figures))
  accepted_within =
      let r : Run = run 0 (state.run.records + 1) (used (in_use N g) figures) in
      record {
        few = omega (arith, going.more);
        allocations_few = omega (arith, grown.allocations, within.allocations_few);
        blocks_few = omega (arith, grown.blocks, within.blocks_few, acted.allocated_few);
        stuck_few = omega (arith, grown.stuck, within.stuck_few);
        collections_few = omega (arith, grown.collections, few_collections, going_collections r refl);
      }

  refused_within :
      (number : ℕ) → (number ≡ 0 → ⊥) → (d.allocated ≡ 0) × (d.stuck ≡ false) → Within (run number state.run.records figures)
  refused_within number stopped (none_new, none_stuck) =
      let r : Run = run number state.run.records figures in
      record {
        few = omega (arith, going.more);
        allocations_few = omega (arith, grown.no_allocation none_new, within.allocations_few);
        blocks_few = omega (arith, grown.blocks, within.blocks_few);
        stuck_few = omega (arith, grown.none_stuck none_stuck, within.stuck_few);
        collections_few = omega (arith, grown.collections, few_collections, stopped_collections r stopped);
      }

  -- the run after the turn, of an accepted record and of one that stops the run
  after_accepted : d.number ≡ 0 → after_turn N x state.run ≡ run 0 (state.run.records + 1) (used (in_use N g) figures)
  unfolding after_turn
  after_accepted e =
      rw (eq-eqb x.number 0 (sym acted.number_is ∙ e), after_turn)
      (ap (λ (t : Tally). run 0 (state.run.records + 1) (used (in_use N x.after) t)) (sym (acted.figures_are state.run.tally))
      ∙ ap (λ (m : Memory). run 0 (state.run.records + 1) (used (in_use N m) figures)) (sym acted.after_is))

  after_refused : (d.number ≡ 0 → ⊥) → after_turn N x state.run ≡ run d.number state.run.records figures
  unfolding after_turn
  after_refused stopped =
      rw (ne_eqb x.number 0 (λ e. stopped (acted.number_is ∙ e)), after_turn)
      (ap (λ (t : Tally). run x.number state.run.records t) (sym (acted.figures_are state.run.tally))
      ∙ ap (λ (k : ℕ). run k state.run.records figures) (sym acted.number_is))

  noted_accepted : d.number ≡ 0 → noted_by d state ≡ running (run 0 (state.run.records + 1) (used (in_use N g) figures)) (in_use N g)
  unfolding noted_by
  noted_accepted e =
      rw (eq-eqb d.number 0 e, noted_by)
      (ap (λ (k : ℕ). running (run 0 (state.run.records + 1) (used k figures)) k) used_again)

  noted_refused : (d.number ≡ 0 → ⊥) → noted_by d state ≡ running (run d.number state.run.records figures) (in_use N g)
  unfolding noted_by
  noted_refused stopped =
      rw (ne_eqb d.number 0 stopped, noted_by) (ap (λ (k : ℕ). running (run d.number state.run.records figures) k) used_again)

  noted_step : Stepped N x state (noted_by d state) g
  noted_step = elim (ℕ_discrete d.number 0) [
    | yes e ↦
        rw (noted_accepted e)
        record {
          run_is = sym (after_accepted e);
          after_is = acted.after_is;
          in_range_lem = within_in_range _ accepted_within;
          used_is = refl;
        }
    | no stopped ↦
        rw (noted_refused stopped)
        record {
          run_is = sym (after_refused stopped);
          after_is = acted.after_is;
          in_range_lem = within_in_range _ (refused_within d.number stopped (acted.refused_none stopped));
          used_is = refl;
        }
  ]

  pub noted_stepped : {is : Running} → is ≡ noted_by d state → Stepped N x state is g
  noted_stepped e = subst (λ (s : Running). Stepped N x state s g) (sym e) noted_step
