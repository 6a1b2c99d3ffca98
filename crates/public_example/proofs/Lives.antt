-- Calls that kept their promises, each on the memory that the one before it left, are a chain; behind an accepted format demand 3's claim
-- holds of it.
use mathlib.Core.Path.{◌≡◌, refl, ap, ◌∙◌}
use mathlib.Core.List.{List, [], ◌∷◌}
use Prim.Native.Nat.{ℕ}
use Rattle.rules.specs.Heap.{Memory}
use Rattle.rules_calls.specs.Calls.{Call, format, allocate, store_root, open_collection, take_steps, answer, run, last_memory}
use Rattle.rules_calls.specs.Promise.{Promise}
use Rattle.types.specs.declared.Reply.{Reply}
use Rattle.rules.proofs.Shape.{shape_facts}
use Rattle.theory.specs.CallWords.{Made}
use Rattle.theory.specs.Demand.{Chain}
use Rattle.theory_memories.specs.Heaps.{Undamaged}
use Rattle.theory.proofs.Theorems.{accepted_format_undamaged, promise_keeps_undamaged, claim_from_format}
use Rattle.public_example.specs.Session.{Life}

-- one call more in front
call_first :
    (N w : ℕ) (c : Call) (h : Memory) (x : Reply) (g : Memory) (rest : List Made) → Undamaged N w h → Promise N w c h x g → Chain N w g rest
    → Chain N w h (record { call = c; before = h; reply = x; after = g } ∷ rest)
call_first N w c h x g rest fine promise chain =
    Chain.next (record { same_heap = refl; space = (shape_facts N w h fine.intact.right_shape).length_waiting }) promise chain

pub life :
    {N w : ℕ} {h : Memory} {x : Reply} {start : Memory} → Promise N w format h x start → x.number ≡ 0
    → {y : Reply} {one : Memory} → Promise N w (allocate 1 0) start y one → {z : Reply} {two : Memory} → Promise N w open_collection one z two
    → {u : Reply} {three : Memory} → Promise N w (store_root 0 0) two u three → {v : Reply} {g : Memory} → Promise N w (take_steps 1) three v g
    → Life N w h x g
unfolding run last_memory
life {N} {w} {h} {x} {start} formatting taken {y} {one} first {z} {two} second {u} {three} third {v} {g} fourth =
    let fine = accepted_format_undamaged N w h x start formatting taken in
    let fine-one = promise_keeps_undamaged N w (allocate 1 0) start y one fine first in
    let fine-two = promise_keeps_undamaged N w open_collection one z two fine-one second in
    let fine-three = promise_keeps_undamaged N w (store_root 0 0) two u three fine-two third in
    let chain =
    call_first N w (allocate 1 0) start y one _ fine first
    (call_first N w open_collection one z two _ fine-one second
    (call_first N w (store_root 0 0) two u three _ fine-two third
    (call_first N w (take_steps 1) three v g [] fine-three fourth Chain.none))) in
    record {
      start = start;
      formatting = formatting;
      made = _;
      calls_are = refl;
      chain = chain;
      left_is = refl;
      after_is =
          fourth.after_is
          ∙ ap (λ (m : Memory). (answer N w m (take_steps 1)).1)
          (third.after_is
          ∙ ap (λ (m : Memory). (answer N w m (store_root 0 0)).1)
          (second.after_is ∙ ap (λ (m : Memory). (answer N w m open_collection).1) first.after_is));
      claim = claim_from_format N w h x start formatting taken _ chain;
    }
