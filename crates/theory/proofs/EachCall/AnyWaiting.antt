-- No answer depends on the waiting list: with another one of the same length each call, on whatever memory and arguments, gives the same
-- reply, and the same other lists.
use mathlib.Core.Path.{◌≡◌, refl, sym, ap, subst}
use mathlib.Core.Bool.{Bool, true, false}
use mathlib.Core.List.{List}
use mathlib.Core.Option
use Prim.Native.Nat.{ℕ, ◌+◌, ◌-◌, ◌*◌}
use lib.Dec.{eqb}
use lib.ListN.{length, get_or}
use Rattle.bitmap.specs.Bit.{one, zeros}
use Rattle.rules.specs.Heap.{Memory, with_waiting, shape, shaped, count_of, size_at, exponent, lowest_free}
use Rattle.rules.specs.Damage.{end_on_free, open_end, unaligned, bad_cell, bad_root, bad_count, stray_data, damage}
use Rattle.rules_stores.specs.Store.{birth_sticks}
use Rattle.rules_stores.specs.Collection.{collected}
use Rattle.rules_steps.specs.Steps.{is_listed, opened, StepsTaken, progress_of, steps_from, stepped}
use Rattle.rules_steps.specs.Steps.{store_root_shading, store_cell_shading, allocate_shading, return_shading}
use Rattle.rules_calls.specs.Calls.{Call, format, check, collect, free_blocks, allocate, store_root, store_cell, look, return_roots, open_collection, take_steps}
use Rattle.rules_calls.specs.Calls.{allocate_data, write_number, read_number, write_reason, write_shape, allocated, Answer}
use Rattle.rules_calls.specs.Calls.{reply, own_refusals, refusals, refused_with, refused, settled, freeing, outcome, answer}
use Rattle.rules_calls.specs.Calls.{copy_from, copy_into, damage_told}
use Rattle.types.specs.declared.Reply.{Reply}
use Rattle.rules_calls.proofs.Unread.{store_root_aside, store_cell_aside, return_aside, allocate_aside, collect_beside, open_aside, steps_aside}
use Rattle.rules_calls.proofs.Unread.{stepped_aside, sentence_aside, shape_aside, laid_aside, copied_aside}
use Rattle.theory_memories.specs.Words.{heap_of}
use Rattle.theory.specs.Statements.{WaitingUnread}
use Rattle.theory_memories.proofs.Memories.TidyHeap.{waiting_untidy}
use Rattle.theory_memories.proofs.Memories.SameShape.{same_shape, same_damage}

-- what is compared of two answers
record Alike (x y : Answer) : Type 0 where
  reply_is : x.0 ≡ y.0
  heap_is : heap_of x.1 ≡ heap_of y.1

module _ (N w : ℕ) (h : Memory) (x : List ℕ) (same_length : length x ≡ length h.waiting) where
  abbrev g : Memory
  g = with_waiting x h

  -- with the same reply, and nothing done
  unchanged_alike : (r : Reply) → Alike (r, g) (r, h)
  unchanged_alike r = record { reply_is = refl; heap_is = refl }

  same_own : (c : Call) → own_refusals N g c ≡ own_refusals N h c
  unfolding own_refusals
  same_own format = refl
  same_own check = refl
  same_own collect = refl
  same_own free_blocks = refl
  same_own (allocate n r) = refl
  same_own (store_root r v) = refl
  same_own (store_cell a j v) = refl
  same_own (look a) = refl
  same_own (return_roots chosen) = refl
  same_own (allocate_data n r) = refl
  same_own (write_number a j v) = refl
  same_own (read_number a j) = refl
  same_own (write_reason a room) = rw (sentence_aside N x h a)
  same_own (write_shape room) = rw (shape_aside N x h)
  same_own open_collection = refl
  same_own (take_steps budget) = refl
  same_own (copy_from K u first) = refl
  same_own (copy_into M v second) = rw (laid_aside N x h M)

  same_number : (c : Call) → refused_with N w g c ≡ refused_with N w h c
  unfolding refused_with refusals
  same_number c = rw (same_shape N w h x same_length, same_damage N w h x same_length, waiting_untidy N x h, same_own c)

  refused_alike : (c : Call) (number : ℕ) → Alike (refused (damage_told N w g c) g number) (refused (damage_told N w h c) h number)
  unfolding damage end_on_free open_end unaligned bad_cell bad_root bad_count stray_data
  refused_alike c number = record { reply_is = refl; heap_is = refl }

  freeing_alike : (p q : Memory) (second : ℕ) → p ≡ with_waiting x q → Alike (freeing N g p second) (freeing N h q second)
  unfolding freeing
  freeing_alike p q second e =
      subst (λ (k : Memory). Alike (freeing N g k second) (freeing N h q second)) (sym e) (record { reply_is = refl; heap_is = refl })

  allocation_alike : (asData : Bool) (n r : ℕ) → Alike (allocated N w asData g n r) (allocated N w asData h n r)
  allocation_alike asData n r =
      let i = Option.get_or (lowest_free N (exponent n) h.a) 0 in
      let said : Reply = reply 0 i (one (birth_sticks w)) in
      subst (λ (k : Memory). Alike (said, settled N k) (said, settled N (allocate_shading N w asData h n r i)))
      (sym (allocate_aside N w (with_waiting x) h asData n r i)) (record { reply_is = refl; heap_is = refl })

  outcome_alike : (c : Call) → Alike (outcome N w g c) (outcome N w h c)
  unfolding outcome progress_of is_listed
  outcome_alike format = record { reply_is = refl; heap_is = refl }
  outcome_alike (copy_into M v second) = record { reply_is = ap (λ (k : Memory). reply 0 (M - zeros k.a) 0) (copied_aside N x h M v); heap_is = refl }
  outcome_alike (copy_from K u first) = record { reply_is = refl; heap_is = refl }
  outcome_alike check = unchanged_alike (reply 0 0 0)
  outcome_alike free_blocks = unchanged_alike (reply 0 (zeros h.a) 0)
  outcome_alike collect = freeing_alike (collected N w g) (collected N w h) 0 (collect_beside N w (with_waiting x) h)
  outcome_alike (allocate n r) = allocation_alike false n r
  outcome_alike (allocate_data n r) = allocation_alike true n r
  outcome_alike (write_number a j v) = record { reply_is = refl; heap_is = refl }
  outcome_alike (read_number a j) = unchanged_alike (reply 0 (get_or h.cells (4 * a + j) 0) 0)
  outcome_alike (write_reason a room) = record { reply_is = rw (sentence_aside N x h a); heap_is = refl }
  outcome_alike (write_shape room) = record { reply_is = rw (shape_aside N x h); heap_is = refl }
  outcome_alike (store_root r v) =
      freeing_alike (store_root_shading N w g r v) (store_root_shading N w h r v) _ (store_root_aside N w (with_waiting x) h r v)
  outcome_alike (store_cell a j v) =
      freeing_alike (store_cell_shading N w g a j v) (store_cell_shading N w h a j v) _ (store_cell_aside N w (with_waiting x) h a j v)
  outcome_alike (look a) = unchanged_alike (reply 0 (size_at N h a) (count_of N w h a))
  outcome_alike (return_roots chosen) =
      freeing_alike (return_shading N w g chosen (length h.roots)) (return_shading N w h chosen (length h.roots)) 0
      (return_aside N w (with_waiting x) h chosen (length h.roots))
  outcome_alike open_collection =
      subst (λ (k : Memory). Alike (reply 0 0 0, k) (reply 0 0 0, opened N h)) (sym (open_aside N w (with_waiting x) h))
      (record { reply_is = refl; heap_is = refl })
  outcome_alike (take_steps budget) =
      let t : StepsTaken = steps_from budget N h (progress_of N h) in
      subst
      (λ (u : StepsTaken).
      let k : Memory = stepped N w g budget u.reached in
      Alike (reply 0 u.steps (zeros k.a - zeros h.a), settled N k) (outcome N w h (take_steps budget)))
      (sym (steps_aside N w (with_waiting x) h budget (progress_of N h)))
      (subst
      (λ (k : Memory). Alike (reply 0 t.steps (zeros k.a - zeros h.a), settled N k) (outcome N w h (take_steps budget)))
      (sym (stepped_aside N w (with_waiting x) h budget t.reached))
      (record { reply_is = refl; heap_is = refl }))

  answer_alike : (c : Call) → Alike (answer N w g c) (answer N w h c)
  unfolding answer
  answer_alike c =
      let number : ℕ = refused_with N w h c in
      subst (λ (k : ℕ). Alike (elim (eqb k 0) [ true ↦ outcome N w g c | false ↦ refused (damage_told N w g c) g k ]) (answer N w h c)) (sym (same_number c))
      (go (eqb number 0) number)
    where
      go :
          (t : Bool) (k : ℕ)
          → Alike (elim t [ true ↦ outcome N w g c | false ↦ refused (damage_told N w g c) g k ])
          (elim t [ true ↦ outcome N w h c | false ↦ refused (damage_told N w h c) h k ])
      go true k = outcome_alike c
      go false k = refused_alike c k

pub waiting_unread : WaitingUnread
waiting_unread N w h g same_heap same_length call =
    let alike : Alike (answer N w g call) (answer N w h call) =
    subst (λ (k : Memory). Alike (answer N w k call) (answer N w h call)) (ap (with_waiting g.waiting) same_heap)
    (answer_alike N w h g.waiting (sym same_length) call) in
    (sym alike.reply_is, sym alike.heap_is)
