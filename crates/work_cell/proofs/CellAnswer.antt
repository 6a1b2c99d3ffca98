-- The answer of a store in a cell whose test is passed, and what came of the code's: memory, number of blocks freed, and whether an object
-- became stuck.
use mathlib.Core.Path.{◌≡◌, refl, sym, ap, ◌∙◌}
use mathlib.Core.Bool.{Bool}
use Prim.Native.Nat.{ℕ, ◌+◌, ◌-◌, ◌*◌}
use lib.ListN.{get_or}
use Rattle.bitmap.specs.Bit.{one, zeros}
use Rattle.rules.specs.Heap.{Memory, with_waiting, with_sections}
use Rattle.rules.specs.Sections.{figures}
use Rattle.rules_stores.specs.Store.{store_sticks}
use Rattle.rules_steps.specs.Steps.{store_cell_shading}
use Rattle.rules_calls.specs.Calls.{store_cell, Answer, freeing, outcome, answer}
use Rattle.rules_calls.proofs.Replies.{Passed}
use Rattle.rules_calls.proofs.Unread.{store_cell_aside}
use Rattle.theory_memories.specs.Heaps.{Usable}
use Rattle.theory.specs.Usable.{outcome_of, Worked}
use Rattle.theory_memories.proofs.Memories.Accepted.{fit_accepted}
use Rattle.theory.proofs.EachCall.Balance.{blocks_add_up}
use Rattle.theory.proofs.Usable.UsableHeap.{usable_fit, left_settled}
use Rattle.theory.proofs.Usable.WorkDone.{worked_freeing}
use Rattle.test_arguments.proofs.ArgumentTests.{CellPassed}

-- whether the store makes an object stuck
abbrev pub cell_sticks : (N w : ℕ) → Memory → (a j v : ℕ) → Bool
cell_sticks N w h a j v = store_sticks N w h.counts (get_or h.cells (4 * a + j) 0) v

module _ {N w : ℕ} {h : Memory} {a j v : ℕ} (passed : CellPassed N h a j v) (usable : Usable N w h) where
  cell_answered : answer N w h (store_cell a j v) ≡ freeing N h (store_cell_shading N w h a j v) (one (cell_sticks N w h a j v))
  unfolding outcome Passed
  cell_answered = fit_accepted N w h (usable_fit usable) (store_cell a j v) refl (passed.first, passed.place, passed.ordinary, passed.ref)

  pub cell_worked :
      {freed : ℕ} {stuck : Bool} {g : Memory} → with_sections h.sections g ≡ store_cell_shading N w h a j v
      → g.sections ≡ figures N g.a → freed ≡ zeros (store_cell_shading N w h a j v).a - zeros h.a → stuck ≡ cell_sticks N w h a j v
      → Worked N w (store_cell a j v) h (outcome_of 0 freed freed stuck) g
  cell_worked left listed counted told =
      let k : Memory = store_cell_shading N w h a j v in
      worked_freeing ((blocks_add_up N w h).store_cell_lem a j v) k
      (cell_answered ∙ ap {B = Answer} (λ t. freeing N h k (one t)) (sym told))
      counted
      (left_settled usable left (store_cell_aside N w (with_waiting h.waiting) h a j v) listed)
