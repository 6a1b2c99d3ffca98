-- The calls that ask whether a collection is open (request U8), on an undamaged heap: refused, or made.
use mathlib.Core.Path.{◌≡◌}
use mathlib.Core.Bool.{true}
use mathlib.Core.List.{List}
use Prim.Native.Nat.{ℕ}
use Rattle.rules.specs.Heap.{Memory, with_marks, with_list}
use Rattle.rules_steps.specs.Steps.{is_open}
use Rattle.rules_calls.specs.Calls.{open_collection, take_steps}
use Rattle.rules_calls.specs.Promise.{Promise}
use Rattle.types.specs.declared.Reply.{Reply}
use Rattle.theory_memories.specs.Heaps.{Usable}
use Rattle.theory.proofs.Usable.UsableHeap.{usable_fit}
use Rattle.test_arguments.specs.Replies.{shut_test, open_test}
use Rattle.test_arguments.proofs.ArgumentTests.{own_refused, collect_tested, open_tested, step_tested, none_open, one_open}
use Rattle.work_open.specs.Opened.{Opened}
use Rattle.work_open.proofs.Opening.{open_promised}

module _ {N w : ℕ} {h : Memory} (usable : Usable N w h) {x : Reply} where
  -- an opening
  module _ (tested : x ≡ shut_test N h.list) where
    pub opening_refused : (x.number ≡ 0 → ⊥) → Promise N w open_collection h x h
    opening_refused = own_refused (open_tested tested) (usable_fit usable)

    pub opening_made :
        x.number ≡ 0 → {told : Reply} {marks list : List ℕ} → Opened N h.roots h.marks told marks list
        → Promise N w open_collection h told (with_marks marks (with_list list h))
    opening_made accepts = open_promised usable.undamaged (none_open (collect_tested {h = h} tested) accepts)

  -- steps
  module _ (tested : x ≡ open_test N h.list) where
    pub steps_refused : {budget : ℕ} → (x.number ≡ 0 → ⊥) → Promise N w (take_steps budget) h x h
    steps_refused = own_refused (step_tested tested) (usable_fit usable)

    pub steps_allowed : x.number ≡ 0 → Usable N w h × (is_open N h ≡ true)
    steps_allowed accepts = (usable, one_open {h = h} {budget = 0} (step_tested tested) accepts)
