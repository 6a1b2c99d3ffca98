-- Request U4: "every accepted call, format too, leaves the list true".
use mathlib.Core.Path.{◌≡◌, refl, sym, subst}
use mathlib.Core.Bool.{true}
use Prim.Native.Nat.{ℕ}
use Rattle.rules.specs.Heap.{Memory}
use Rattle.rules_stores.specs.Store.{formatted}
use Rattle.rules_steps.specs.Steps.{with_progress, opened}
use Rattle.rules_calls.specs.Calls.{Call, format, check, collect, free_blocks, allocate, store_root, store_cell, look, return_roots, open_collection, take_steps}
use Rattle.rules_calls.specs.Calls.{allocate_data, write_number, read_number, write_reason, write_shape, Answer}
use Rattle.rules_calls.specs.Calls.{copy_from, copy_into}
use Rattle.rules_calls.specs.Calls.{tests_heap, freeing, outcome, answer}
use Rattle.rules_calls.proofs.Replies.{answer_either, accepted_outcome}
use Rattle.theory.specs.Statements.{ListLeftTrue}
use Rattle.theory_memories.proofs.Memories.Fit.{Listed}
use Rattle.theory_memories.proofs.Memories.Accepted.{accepted_fit}

-- a list that a call tests is true where the call goes on; every other outcome makes it so
outcome_listed : (N w : ℕ) (h : Memory) (c : Call) → (tests_heap c ≡ true → Listed N h) → Listed N (outcome N w h c).1
unfolding outcome freeing formatted opened with_progress
outcome_listed N w h format listed = refl
outcome_listed N w h check listed = listed refl
outcome_listed N w h free_blocks listed = listed refl
outcome_listed N w h collect listed = refl
outcome_listed N w h (allocate n r) listed = refl
outcome_listed N w h (store_root r v) listed = refl
outcome_listed N w h (store_cell a j v) listed = refl
outcome_listed N w h (look a) listed = listed refl
outcome_listed N w h (return_roots chosen) listed = refl
outcome_listed N w h (allocate_data n r) listed = refl
outcome_listed N w h (write_number a j x) listed = listed refl
outcome_listed N w h (read_number a j) listed = listed refl
outcome_listed N w h (write_reason a room) listed = listed refl
outcome_listed N w h (write_shape room) listed = listed refl
outcome_listed N w h open_collection listed = listed refl
outcome_listed N w h (take_steps budget) listed = refl
outcome_listed N w h (copy_from K u first) listed = refl
outcome_listed N w h (copy_into M v second) listed = listed refl

-- a list that was true is true after every call, a refused one too
pub answer_listed : (N w : ℕ) (h : Memory) → Listed N h → (c : Call) → Listed N (answer N w h c).1
answer_listed N w h listed c =
    answer_either N w h c (λ x. Listed N x.1) (λ number nonzero. listed) (λ _. outcome_listed N w h c (λ _. listed))

pub list_left_true : ListLeftTrue
list_left_true N w h c e =
    subst (λ (x : Answer). Listed N x.1) (sym (accepted_outcome N w h c e))
    (outcome_listed N w h c (λ tests. (accepted_fit N w h c tests e).listed))
