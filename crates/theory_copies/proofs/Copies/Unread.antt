-- What a copy does not depend on: the first heap's waiting list, and all of the second heap but its shape.
use mathlib.Core.Path.{◌≡◌, refl, sym, ap, ◌∙◌}
use mathlib.Core.Bool.{true, false, not, ◌&&◌}
use mathlib.Core.List.{[], ◌∷◌}
use Prim.Native.Nat.{ℕ, ◌-◌}
use native.Mathlib.Decide.{ℕ_discrete}
use lib.Dec.{eqb}
use lib.ListN.{length}
use Rattle.bitmap.specs.Bit.{zeros}
use Rattle.rules.specs.Tools.{first_number}
use Rattle.rules.specs.Heap.{Memory, with_waiting, shaped}
use Rattle.rules.specs.Damage.{damage}
use Rattle.rules.specs.Sections.{stale_figures}
use Rattle.rules_steps.specs.Steps.{is_open, is_untidy}
use Rattle.rules_copy.specs.Copy.{lay_all, all_laid, copied}
use Rattle.rules_calls.specs.Calls.{Call, copy_from, Answer, reply, refusals, refused_with, own_refusals, refused, settled, outcome, answer}
use Rattle.rules_calls.proofs.Replies.{none_applies, one_applies, accepted_none}
use Rattle.rules_calls.proofs.Unread.{laid_aside, copied_aside}
use Rattle.theory_copies.specs.Copies.{FirstWaitingUnread, SecondHeapUnread}
use Rattle.theory_memories.proofs.Memories.TidyHeap.{waiting_untidy}
use Rattle.theory_memories.proofs.Memories.SameShape.{same_shape, same_damage}

-- first heaps that are tested and copied alike
module _ (N w : ℕ) (h : Memory) (K x : ℕ) (f : Memory) (M v : ℕ) (g : Memory) (kind : damage N w h ≡ damage K x f)
    (copy : copied N h M v ≡ copied K f M v) where
  pub alike_answered :
      shaped N w h ≡ shaped K x f → length h.roots ≡ length f.roots
      → stale_figures N h.a h.sections ≡ stale_figures K f.a f.sections → is_untidy N h ≡ is_untidy K f → is_open N h ≡ is_open K f
      → lay_all N h M ≡ lay_all K f M → answer M v g (copy_from N w h) ≡ answer M v g (copy_from K x f)
  unfolding answer refused_with refusals own_refusals outcome
  alike_answered shape roots list marks open-so laid =
      let number : refused_with M v g (copy_from N w h) ≡ refused_with M v g (copy_from K x f) =
      λ i.
      first_number
      ((1, not ((shape i && eqb (length g.roots) (roots i)) && shaped M v g)) ∷ (2, false) ∷ (11, false) ∷ (13, false)
      ∷ (2, not (eqb (kind i) 0)) ∷ (11, list i) ∷ (13, marks i) ∷ (14, open-so i) ∷ (17, not (all_laid (laid i))) ∷ []) in
      λ i.
      elim (eqb (number i) 0) as (λ _. Answer) [
        | true ↦ (reply 0 (M - zeros (settled M (copy i)).a) 0, settled M (copy i))
        | false ↦ refused (kind i) g (number i)
      ]

pub first_waiting_unread : FirstWaitingUnread
first_waiting_unread N w h f same_heap same_length M v g =
    let x = f.waiting in
    let long = sym same_length in
    sym
    (alike_answered N w (with_waiting x h) N w h M v g (same_damage N w h x long) (copied_aside N x h M v) (same_shape N w h x long) refl refl
    (waiting_untidy N x h) refl (laid_aside N x h M))
    ∙ ap (λ (k : Memory). answer M v g (copy_from N w k)) (ap (with_waiting x) same_heap)

module _ (N w : ℕ) (h : Memory) (M v : ℕ) (g k : Memory) (shape : shaped M v g ≡ shaped M v k) (roots : length g.roots ≡ length k.roots) where
  abbrev copy : Call
  copy = copy_from N w h

  second_number : refused_with M v g copy ≡ refused_with M v k copy
  unfolding refused_with refusals own_refusals
  second_number = λ i. first_number ((1, not ((shaped N w h && eqb (roots i) (length h.roots)) && shape i)) ∷ (2, false) ∷ (11, false) ∷ (13, false) ∷ own_refusals M g copy)

  -- what an accepted copy leaves does not depend on the second heap
  one_memory : refused_with M v g copy ≡ 0 → answer M v g copy ≡ answer M v k copy
  unfolding outcome
  one_memory e = none_applies M v g copy e ∙ sym (none_applies M v k copy (sym second_number ∙ e))

  one_reply : (answer M v g copy).0 ≡ (answer M v k copy).0
  one_reply = elim (ℕ_discrete (refused_with M v g copy) 0) [
    | yes e ↦ ap (λ (x : Answer). x.0) (one_memory e)
    | no n ↦
        ap (λ (x : Answer). x.0) (one_applies M v g copy n)
        ∙ ap (λ (number : ℕ). (refused (damage N w h) g number).0) second_number
        ∙ sym (ap (λ (x : Answer). x.0) (one_applies M v k copy (λ e. n (second_number ∙ e))))
  ]

pub second_heap_unread : SecondHeapUnread
second_heap_unread N w h M v g k shape roots =
    record {
      one_reply = one_reply N w h M v g k shape roots;
      one_memory = λ e. one_memory N w h M v g k shape roots (accepted_none M v g (copy_from N w h) e);
    }
