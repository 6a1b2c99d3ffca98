-- No wrong answer of the list is promised: each differs from the rules' answer in a number of the reply or in
-- one of the ten lists.
use mathlib.Core.Path.{◌≡◌, refl, subst}
use mathlib.Core.Bool.{Bool, true, false, ◌&&◌}
use mathlib.Core.List.{List, [], ◌∷◌, map}
use Prim.Native.Nat.{ℕ}
use lib.Dec.{eqb}
use borrow.Author.Tests.{eq-eqb}
use Rattle.rules.specs.Heap.{Memory}
use Rattle.rules_stores.specs.Store.{formatted}
use Rattle.rules_calls.specs.Calls.{Answer, answer}
use Rattle.rules_calls.specs.Evidence.Forms.{fresh, fresh_but}
use Rattle.rules.specs.Evidence.SmallHeaps.{eight_blocks, cell_holding, root_holding}
use Rattle.rules_calls.specs.Evidence.WrongAnswers.{Question, PromisedTo, used, listed, collecting, chained, stale, shared, stuck, alone, cyclic, collected_cyclic}
use Rattle.rules_calls.specs.Evidence.WrongAnswers.{unreached, numeric, numeric_cells}
use Rattle.rules_calls.specs.Evidence.WrongAnswers.{allocated_two, allocated_three, allocated_over, wrong_answers}
use Rattle.rules_calls.specs.Evidence.CopyCases.{junk, junk_four, three_roots, stuck_one, plain_one, threefold, full, full_open, three_and_one, fragmented, with_data, tangled, nine}
use Rattle.rules_calls.specs.Evidence.CopyCases.{full_in_sixteen, copy_answers}
use Rattle.types.specs.declared.Reply.{Reply}
use Rattle.rules_calls.proofs.Evidence.Computed.{computed}
use Rattle.rules.proofs.Tests.{Each}
use Rattle.rules_calls.proofs.Evidence.Questions.{none_is, wrong_differ, Tells, each_told}

-- ---- tests of equality; all that is needed of them is that they pass where both sides are one

unfoldable pub same_numbers : List ℕ → List ℕ → Bool
same_numbers [] [] = true
same_numbers [] (y ∷ ys) = false
same_numbers (x ∷ xs) [] = false
same_numbers (x ∷ xs) (y ∷ ys) = eqb x y && same_numbers xs ys

unfoldable pub same_reply : Reply → Reply → Bool
same_reply r s = eqb r.number s.number && eqb r.value s.value && eqb r.second s.second

unfoldable pub same_memory : Memory → Memory → Bool
same_memory h g =
    same_numbers h.a g.a && same_numbers h.b g.b && same_numbers h.counts g.counts && same_numbers h.cells g.cells
    && same_numbers h.roots g.roots && same_numbers h.waiting g.waiting
    && same_numbers h.sections g.sections && same_numbers h.d g.d && same_numbers h.marks g.marks && same_numbers h.list g.list

unfoldable pub same_answer : Answer → Answer → Bool
same_answer x y = same_reply x.0 y.0 && same_memory x.1 y.1

pub one_numbers : (l : List ℕ) → same_numbers l l ≡ true
unfolding same_numbers
one_numbers [] = refl
one_numbers (x ∷ xs) = rw (eq-eqb x x refl, one_numbers xs)

pub one_answer : (x : Answer) → same_answer x x ≡ true
unfolding same_reply same_memory same_answer
one_answer (r, h) =
    rw (
      eq-eqb r.number r.number refl,
      eq-eqb r.value r.value refl,
      eq-eqb r.second r.second refl,
      one_numbers h.a,
      one_numbers h.b,
      one_numbers h.counts,
      one_numbers h.cells,
      one_numbers h.roots,
      one_numbers h.waiting,
      one_numbers h.sections,
      one_numbers h.d,
      one_numbers h.marks,
      one_numbers h.list,
    )

-- ---- one question

asked : Question → Answer
asked q = answer q.blocks q.width q.before q.call

-- what is promised is the rules' answer, and this is promised
promised : (q : Question) (x : Answer) → PromisedTo q x → x ≡ asked q
unfolding asked
promised q x p = λ i. (p.reply_is i, p.after_is i)

answered : (q : Question) (x : Answer) → asked q ≡ x → PromisedTo q x
unfolding asked
answered q x e = subst (λ (y : Answer). PromisedTo q y) e (record { reply_is = refl; after_is = refl })

-- ---- all questions

-- the right answer is promised and none of the wrong ones is
abbrev pub Told : Question → Type 0
Told q = Tells (λ (p : Question). p.right) (λ p. p.wrong) PromisedTo q

-- to unfold this is to open the list and its heaps
opened : List Question
unfolding formatted fresh fresh_but eight_blocks cell_holding root_holding used listed collecting chained stale unreached numeric numeric_cells shared stuck alone cyclic collected_cyclic allocated_two allocated_three allocated_over wrong_answers
opened = wrong_answers

rights_hold : map asked wrong_answers ≡ map (λ q. q.right) wrong_answers
unfolding computed asked opened
rights_hold = refl

wrong_differ_lem : wrong_differ (λ (q : Question). q.right) (λ q. q.wrong) same_answer wrong_answers ≡ true
unfolding computed same_numbers same_reply same_memory same_answer none_is wrong_differ opened
wrong_differ_lem = refl

-- of each question: the right answer is promised and none of the wrong ones is
pub wrong_answers_told : Each Told wrong_answers
wrong_answers_told =
    each_told (λ (q : Question). q.right) (λ q. q.wrong) same_answer asked PromisedTo one_answer promised answered wrong_answers rights_hold wrong_differ_lem

-- ---- request U14

opened_copies : List Question
unfolding opened junk junk_four three_roots stuck_one plain_one threefold full full_open three_and_one fragmented with_data tangled nine full_in_sixteen copy_answers
opened_copies = copy_answers

copies_right : map asked copy_answers ≡ map (λ q. q.right) copy_answers
unfolding computed asked opened_copies
copies_right = refl

copies_differ : wrong_differ (λ (q : Question). q.right) (λ q. q.wrong) same_answer copy_answers ≡ true
unfolding computed same_numbers same_reply same_memory same_answer none_is wrong_differ opened_copies
copies_differ = refl

pub copy_answers_told : Each Told copy_answers
copy_answers_told =
    each_told (λ (q : Question). q.right) (λ q. q.wrong) same_answer asked PromisedTo one_answer promised answered copy_answers copies_right copies_differ
