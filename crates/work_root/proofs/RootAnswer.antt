-- The answer of a store in a root whose test is passed, and what came of the code's: memory, number of blocks freed, and whether an object
-- became stuck.
use mathlib.Core.Path.{◌≡◌, refl, sym, ap, ◌∙◌}
use mathlib.Core.Bool.{Bool}
use Prim.Native.Nat.{ℕ, ◌-◌}
use lib.ListN.{get_or}
use Rattle.bitmap.specs.Bit.{one, zeros}
use Rattle.rules.specs.Heap.{Memory, with_waiting, with_sections}
use Rattle.rules.specs.Sections.{figures}
use Rattle.rules_stores.specs.Store.{store_sticks}
use Rattle.rules_steps.specs.Steps.{store_root_shading}
use Rattle.rules_calls.specs.Calls.{store_root, Answer, freeing, outcome, answer}
use Rattle.rules_calls.proofs.Replies.{Passed}
use Rattle.rules_calls.proofs.Unread.{store_root_aside}
use Rattle.theory_memories.specs.Heaps.{Usable}
use Rattle.theory.specs.Usable.{outcome_of, Worked}
use Rattle.theory_memories.proofs.Memories.Fit.{Fit}
use Rattle.theory_memories.proofs.Memories.Accepted.{fit_accepted}
use Rattle.theory.proofs.EachCall.Balance.{blocks_add_up}
use Rattle.theory.proofs.Usable.UsableHeap.{usable_fit, left_settled}
use Rattle.theory.proofs.Usable.WorkDone.{worked_freeing}
use Rattle.test_arguments.proofs.ArgumentTests.{RootPassed}

-- whether the store makes an object stuck
abbrev pub root_sticks : (N w : ℕ) → Memory → (r v : ℕ) → Bool
root_sticks N w h r v = store_sticks N w h.counts (get_or h.roots r 0) v

module _ {N w : ℕ} {h : Memory} {r v : ℕ} (passed : RootPassed N h r v) where
  pub root_answered : Fit N w h → answer N w h (store_root r v) ≡ freeing N h (store_root_shading N w h r v) (one (root_sticks N w h r v))
  unfolding outcome Passed
  root_answered fit = fit_accepted N w h fit (store_root r v) refl (passed.place, passed.ref)

  pub root_worked :
      Usable N w h → {freed : ℕ} {stuck : Bool} {g : Memory} → with_sections h.sections g ≡ store_root_shading N w h r v
      → g.sections ≡ figures N g.a → freed ≡ zeros (store_root_shading N w h r v).a - zeros h.a → stuck ≡ root_sticks N w h r v
      → Worked N w (store_root r v) h (outcome_of 0 freed freed stuck) g
  root_worked usable left listed counted told =
      let k : Memory = store_root_shading N w h r v in
      worked_freeing ((blocks_add_up N w h).store_root_lem r v) k
      (root_answered (usable_fit usable) ∙ ap {B = Answer} (λ t. freeing N h k (one t)) (sym told))
      counted
      (left_settled usable left (store_root_aside N w (with_waiting h.waiting) h r v) listed)
