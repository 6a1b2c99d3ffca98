-- Nothing wrong of the list is promised of a call with an output: it differs from what the rules give in the
-- answer or in the output.
use mathlib.Core.Path.{◌≡◌, refl, ap, subst, ◌∙◌}
use mathlib.Core.Bool.{Bool, true, ◌&&◌}
use mathlib.Core.List.{List, map}
use lib.ListN.{length}
use Rattle.rules_stores.specs.Store.{formatted}
use Rattle.rules_calls.specs.Calls.{answer}
use Rattle.rules_calls.specs.Promise.{output_after}
use Rattle.rules_calls.specs.Evidence.Forms.{fresh}
use Rattle.rules.specs.Evidence.SmallHeaps.{eight_blocks, cell_holding, root_holding}
use Rattle.rules_calls.specs.Evidence.WrongAnswers.{used, collecting, chained, cyclic}
use Rattle.rules_calls.specs.Evidence.Outputs.{call_of, text_of}
use Rattle.rules_calls.specs.Evidence.WrongOutputs.{Outcome, OutputQuestion, OutputPromisedTo, wrong_outputs}
use Rattle.types.specs.declared.Reply.{Reply}
use Rattle.rules_calls.proofs.Evidence.Computed.{computed}
use Rattle.rules.proofs.Tests.{Each}
use Rattle.rules_calls.proofs.Evidence.Questions.{none_is, wrong_differ, Tells, each_told}
use Rattle.rules_calls.proofs.Evidence.WrongAnswers.{same_numbers, same_reply, same_memory, same_answer, one_numbers, one_answer}

same_outcome : Outcome → Outcome → Bool
same_outcome x y = same_answer x.0 y.0 && same_numbers x.1 y.1

one_outcome : (x : Outcome) → same_outcome x x ≡ true
unfolding same_outcome
one_outcome x = rw (one_answer x.0, one_numbers x.1)

-- ---- one question

asked : OutputQuestion → Outcome
asked q =
    let x = answer 8 2 q.before (call_of q.asked (length q.out)) in
    (x, output_after x.0 (text_of 8 q.before q.asked) q.out)

-- what is promised is what the rules give, and this is promised
promised : (q : OutputQuestion) (x : Outcome) → OutputPromisedTo q x → x ≡ asked q
unfolding asked
promised q x p =
    let output = p.output_is ∙ ap (λ (r : Reply). output_after r (text_of 8 q.before q.asked) q.out) p.heap.reply_is in
    λ i. ((p.heap.reply_is i, p.heap.after_is i), output i)

answered : (q : OutputQuestion) (x : Outcome) → asked q ≡ x → OutputPromisedTo q x
unfolding asked
answered q x e =
    subst (λ (y : Outcome). OutputPromisedTo q y) e (record { heap = record { reply_is = refl; after_is = refl }; output_is = refl })

-- ---- all questions

-- what is right is promised and nothing that is wrong
abbrev pub OutputTold : OutputQuestion → Type 0
OutputTold q = Tells (λ (p : OutputQuestion). p.right) (λ p. p.wrong) OutputPromisedTo q

-- to unfold this is to open the list and its heaps
opened : List OutputQuestion
unfolding formatted fresh eight_blocks cell_holding root_holding used collecting chained cyclic wrong_outputs
opened = wrong_outputs

rights_hold : map asked wrong_outputs ≡ map (λ q. q.right) wrong_outputs
unfolding computed asked opened
rights_hold = refl

wrong_differ_lem : wrong_differ (λ (q : OutputQuestion). q.right) (λ q. q.wrong) same_outcome wrong_outputs ≡ true
unfolding computed same_numbers same_reply same_memory same_answer same_outcome none_is wrong_differ opened
wrong_differ_lem = refl

pub wrong_outputs_told : Each OutputTold wrong_outputs
wrong_outputs_told =
    each_told (λ (q : OutputQuestion). q.right) (λ q. q.wrong) same_outcome asked OutputPromisedTo one_outcome promised answered wrong_outputs
    rights_hold wrong_differ_lem
