-- What an accepted copy leaves, that it stands in both heaps' lists, and that copies are a normal form.
use mathlib.Core.Path.{◌≡◌, refl, sym, ap, ◌∙◌, subst}
use Prim.Native.Nat.{ℕ}
use Rattle.rules.specs.Heap.{Memory}
use Rattle.rules_output.specs.Shape.{shape_of}
use Rattle.rules_calls.specs.Calls.{copy_from, Answer, reply, outcome, answer}
use Rattle.rules.proofs.Shape.{Shaped, shape_facts}
use Rattle.rules_calls.proofs.Promised.{copy_in_both}
use Rattle.rules_calls.proofs.Replies.{none_applies, accepted_none, accepted_outcome, CopyPassed, Passed, passed, passed_own, shape_passed, copy_number}
use Rattle.theory_memories.specs.Heaps.{Undamaged}
use Rattle.theory_memories.specs.Words.{in_use}
use Rattle.theory_copies.specs.Copies.{ExactCopy, CopiesExactly, OneCopyInBothLists, OneShapeOneCopy, EqualCopies, CopyOfCopy}
use Rattle.theory_walks.proofs.Walks.Reached.{intact_named}
use Rattle.theory_walks.proofs.Walks.Equal.{equal_alike}
use Rattle.theory_copies.proofs.Copies.Accepted.{copy_exact}
use Rattle.theory_copies.proofs.Copies.OneShape.{same_places, same_copied}
use Rattle.theory_copies.proofs.Copies.Unread.{alike_answered}

-- ---- what a copy leaves

module _ (M v : ℕ) (g : Memory) (N w : ℕ) (h : Memory) (e : (answer M v g (copy_from N w h)).0.number ≡ 0) where
  copy_passed : CopyPassed M g N w h
  unfolding Passed
  copy_passed = passed M v g (copy_from N w h) (accepted_none M v g (copy_from N w h) e)

  second_shaped : Shaped M v g
  second_shaped = shape_facts M v g (shape_passed M v g (copy_from N w h) (accepted_none M v g (copy_from N w h) e))

pub copies_exactly : CopiesExactly
unfolding outcome
copies_exactly M v g N w h e =
    subst (λ (x : Answer). (x.0 ≡ reply 0 (in_use M x.1) 0) × ExactCopy N h M v x.1) (sym (accepted_outcome M v g (copy_from N w h) e))
    (refl, copy_exact M v g (second_shaped M v g N w h e) N w h (copy_passed M v g N w h e))

-- ---- in both lists

pub one_copy_in_both_lists : OneCopyInBothLists
one_copy_in_both_lists N w h M v g =
    let both = copy_in_both N w h M v g in
    record { one_reply = ap (λ (x : Answer). x.0) both; only_read = ap (λ (x : Answer). x.1) both }

-- ---- copies are a normal form

pub one_shape_one_copy : OneShapeOneCopy
one_shape_one_copy N w h u shut K x f u' shut' same M v g =
    let alike = equal_alike N K h f same in
    let named = intact_named N w h u.intact in
    let named' = intact_named K x f u'.intact in
    alike_answered N w h K x f M v g (u.intact.no_damage ∙ sym u'.intact.no_damage) (same_copied N K h f named named' alike M v)
    (u.intact.right_shape ∙ sym u'.intact.right_shape) alike.number (u.true_list ∙ sym u'.true_list) (u.tidy ∙ sym u'.tidy)
    (shut ∙ sym shut') (same_places N K h f named named' alike M)

-- what an accepted copy was made from is undamaged
first_undamaged : (M v : ℕ) (g : Memory) (N w : ℕ) (h : Memory) → (answer M v g (copy_from N w h)).0.number ≡ 0 → Undamaged N w h
first_undamaged M v g N w h e =
    let p = copy_passed M v g N w h e in
    record { intact = record { right_shape = p.right_shape; no_damage = p.no_damage }; true_list = p.true_list; tidy = p.tidy }

pub equal_copies : EqualCopies
equal_copies M v g N w h K u f e e' = (
  λ same.
      (copies_exactly M v g N w h e).1.one_shape ∙ ap (shape_of M) same ∙ sym (copies_exactly M v g K u f e').1.one_shape,
  λ same.
      ap (λ (x : Answer). x.1)
      (one_shape_one_copy N w h (first_undamaged M v g N w h e) (copy_passed M v g N w h e).none_open
      K u f (first_undamaged M v g K u f e') (copy_passed M v g K u f e').none_open same M v g),
)

pub copy_of_copy : CopyOfCopy
unfolding outcome Passed
copy_of_copy M v g N w h e k shape as_many =
    let c = copy_from N w h in
    let p = copy_passed M v g N w h e in
    let left = (copies_exactly M v g N w h e).1 in
    let again : CopyPassed M k N w h =
    record {
      right_shape = p.right_shape;
      as_many = p.as_many ∙ sym as_many;
      no_damage = p.no_damage;
      true_list = p.true_list;
      tidy = p.tidy;
      none_open = p.none_open;
      room = p.room;
    } in
    one_shape_one_copy M v (answer M v g c).1 left.undamaged left.shut N w h (first_undamaged M v g N w h e) p.none_open (sym left.one_shape) M v k
    ∙ none_applies M v k c (copy_number M v k shape N w h again.right_shape again.as_many ∙ passed_own M k c again)
    ∙ sym (accepted_outcome M v g c e)
