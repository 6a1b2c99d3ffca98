-- `work_tested::allocate` meets its contract.
use mathlib.Core.Path.{◌≡◌, refl}
use mathlib.Core.Bool.{Bool, true, false}
use Prim.Native.Nat.{ℕ}
use native.Mathlib.Omega.{arith}
use lib.ListN.{length}
use Rattle.std.proofs.lemmas.Result.{err_from_is_err_and}
use Rattle.types.proofs.Refused.{number_ne0}
use Rattle.rules.specs.Heap.{Memory}
use Rattle.rules_calls.specs.Calls.{allocate_as}
use Rattle.rules_calls.specs.Promise.{Promise}
use Rattle.rules_calls.proofs.Replies.{allocation_alone}
use Rattle.types.specs.declared.Reply.{Reply}
use Rattle.rules.proofs.Shape.{shaped_blocks}
use Rattle.test_allocation.proofs.AllocationReply.{replied, allocate_accepts, allocate_refused, allocate_data_refused}
use Rattle.test_allocation.specs.Replies.{allocate_reply}
use Rattle.theory_memories.proofs.Memories.Fit.{Fit}
use Rattle.theory.proofs.Usable.UsableHeap.{usable_fit}
use Rattle.theory.proofs.Usable.WorkDone.{worked_refused}
use Rattle.work_tested.proofs.allocate.Goals as goal

-- an allocation of either kind is refused alike
refused-so :
    {N w : ℕ} {h : Memory} (asData : Bool) (n r : ℕ) {x : Reply} → x ≡ allocate_reply N h.a (length h.roots) n r → Fit N w h
    → (x.number ≡ 0 → ⊥) → Promise N w (allocate_as asData n r) h x h
refused-so true n r tested fit fails = allocate_data_refused tested fit fails
refused-so false n r tested fit fails = allocate_refused tested fit fails

pub allocate_reply-requires : goal.allocate_reply-requires
allocate_reply-requires c =
    let fit = usable_fit c.requires in
    let shape = fit.healthy.shape in
    (shaped_blocks _ _ _ shape, omega (arith, shape.length_a, shape.whole_bytes), fit.listed)

pub returns-in_err-at : goal.returns-in_err-at
returns-in_err-at c =
    let exit = err_from_is_err_and c.from_residual.result c.from_residual.ensures.1 in
    rw (exit.1, exit.2)
    (worked_refused c.requires (allocation_alone c.args.as_data c.args.n c.args.r) _
    (refused-so c.args.as_data c.args.n c.args.r c.in_err-at.ensures (usable_fit c.requires) (number_ne0 _)))

pub allocate-requires : goal.allocate-requires
allocate-requires c =
    (c.requires, allocate_accepts (replied c.in_ok-at.ensures) refl)
