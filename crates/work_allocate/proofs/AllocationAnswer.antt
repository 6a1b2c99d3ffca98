-- The answer of an allocation that found a place, and what came of the code's: memory, number of blocks freed, and whether the object became
-- stuck.
use mathlib.Core.Path.{◌≡◌, refl, sym, ap, ◌∙◌, subst}
use mathlib.Core.Bool.{Bool, true, false}
use mathlib.Core.Option.{Option, some, get_or}
use Prim.Native.Nat.{ℕ, ◌+◌}
use native.Mathlib.Omega.{arith}
use lib.ListN.{length}
use Rattle.bitmap.specs.Bit.{one, zeros}
use Rattle.rules.specs.Heap.{Memory, with_waiting, with_sections}
use Rattle.rules.specs.Sections.{figures}
use Rattle.rules_stores.specs.Store.{birth_sticks}
use Rattle.rules_steps.specs.Steps.{allocate_shading}
use Rattle.rules_calls.specs.Calls.{allocate, allocate_data, allocate_as, Answer, reply, allocated, settled, outcome, answer}
use Rattle.rules_calls.specs.Promise.{Promise}
use Rattle.types.specs.declared.Reply.{Reply}
use Rattle.rules_calls.proofs.Replies.{Passed}
use Rattle.rules_calls.proofs.Promised.{promised}
use Rattle.rules_calls.proofs.Unread.{allocate_aside}
use Rattle.theory.specs.Balance.{freed_blocks}
use Rattle.theory_memories.specs.Heaps.{Usable}
use Rattle.theory.specs.Usable.{outcome_of, Worked}
use Rattle.theory_memories.proofs.Memories.Fit.{Fit}
use Rattle.theory_memories.proofs.Memories.Accepted.{fit_accepted}
use Rattle.theory.proofs.EachCall.Balance.{blocks_add_up}
use Rattle.theory.proofs.Usable.UsableHeap.{usable_fit, left_settled}
use Rattle.test_allocation.proofs.AllocationReply.{AllocationPassed}

found_so : {o : Option ℕ} {at : ℕ} → o ≡ some at → o ≡ some (get_or o 0)
found_so e = e ∙ ap (λ (o : Option ℕ). some (get_or o 0)) (sym e)

module _ {N w : ℕ} {h : Memory} {n r at : ℕ} (free : AllocationPassed N h.a (length h.roots) n r at) where
  -- on a fit heap the call is accepted, whatever kind is asked for
  kind_answered : Fit N w h → (asData : Bool) → answer N w h (allocate_as asData n r) ≡ allocated N w asData h n r
  unfolding outcome Passed
  kind_answered fit true = fit_accepted N w h fit (allocate_data n r) refl (free.some_blocks, free.not_more, free.place, found_so free.lowest)
  kind_answered fit false = fit_accepted N w h fit (allocate n r) refl (free.some_blocks, free.not_more, free.place, found_so free.lowest)

  pub allocate_answered :
      Fit N w h → (asData : Bool)
      → answer N w h (allocate_as asData n r) ≡ (reply 0 at (one (birth_sticks w)), settled N (allocate_shading N w asData h n r at))
  allocate_answered fit asData =
      kind_answered fit asData
      ∙ ap {B = Answer} (λ o. let i = get_or o 0 in (reply 0 i (one (birth_sticks w)), settled N (allocate_shading N w asData h n r i)))
      free.lowest

  module _ (usable : Usable N w h) (asData : Bool) {stuck : Bool} {g : Memory}
      (left : with_sections h.sections g ≡ allocate_shading N w asData h n r at) (listed : g.sections ≡ figures N g.a)
      (told : stuck ≡ birth_sticks w) where
    allocate_promised : Promise N w (allocate_as asData n r) h (reply 0 at (one stuck)) g
    allocate_promised =
        promised N w h (allocate_as asData n r) (reply 0 at (one (birth_sticks w)), settled N (allocate_shading N w asData h n r at))
        (allocate_answered (usable_fit usable) asData) (reply 0 at (one stuck)) g
        (ap (λ (t : Bool). reply 0 at (one t)) told)
        (left_settled usable left (allocate_aside N w (with_waiting h.waiting) h asData n r at) listed)

    pub allocate_worked :
        {freed : ℕ} → zeros (allocate_shading N w asData h n r at).a + n ≡ zeros h.a + freed
        → Worked N w (allocate_as asData n r) h (outcome_of 0 at freed stuck) g
    allocate_worked counted =
        let even : zeros h.a + freed_blocks N h g ≡ zeros g.a + n =
        subst (λ (k : Memory). zeros h.a + freed_blocks N h k ≡ zeros k.a + n) (sym allocate_promised.after_is)
        ((blocks_add_up N w h).allocation asData n r (ap (λ (y : Reply). y.number) (sym allocate_promised.reply_is))) in
        record {
          promise = allocate_promised;
          freed_is = omega (arith, even, counted, ap (λ (k : Memory). zeros k.a) left);
        }
