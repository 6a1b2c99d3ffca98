-- Demand 3, from what is asked of one call: the induction over the list of calls. And that every list of calls can be made, so that the
-- claim is about every list.
use mathlib.Core.Path.{◌≡◌, refl, sym, ap, ap₂, ◌∙◌, subst}
use mathlib.Core.List.{List, [], ◌∷◌, ◌++◌}
use Prim.Native.Nat.{ℕ, ◌+◌, ◌/◌, ◌<◌}
use native.Mathlib.Decide.{dec_lt}
use native.Mathlib.Omega.{arith}
use Rattle.planes.proofs.Counts.{count_lt}
use Rattle.rules.specs.Heap.{Memory, with_waiting, capacity, count_of}
use Rattle.rules_calls.specs.Calls.{Call, Answer, answer, run, last_memory}
use Rattle.rules.proofs.Shape.{shape_facts}
use Rattle.theory_memories.specs.Words.{Object, heap_of}
use Rattle.theory.specs.CallWords.{Made, left_by, calls_of, answers_of, compared}
use Rattle.theory.specs.Stuck.{LivesOn, SomeWrote}
use Rattle.theory.specs.Demand.{Finds, Chain, Holds, Claim, Demand3}
use Rattle.theory.specs.Statements.{ChainsAppend, EveryListHasAChain}
use Rattle.theory_memories.specs.Words.{in_use}
use Rattle.theory.specs.Balance.{blocks_allocated, blocks_freed}
use Rattle.theory_memories.proofs.Memories.Fit.{Fit, formatted_fit}
use Rattle.theory_memories.proofs.Memories.Soundness.{healthy_sound}
use Rattle.theory.proofs.EachCall.AnyWaiting.{waiting_unread}
use Rattle.theory.proofs.EachCall.Balance.{answer_even}
use Rattle.theory.proofs.EachCall.Answers.{answer-fit}
use Rattle.theory.proofs.Calls.{finds_fit, serves, stays_fit}
use Rattle.theory.proofs.Collecting.{collected_in_steps}

-- ---- the plain machine

-- the calls as made are the plain machine's, whatever waiting lists they were lent
as_machine :
    (N w : ℕ) {h k : Memory} {made : List Made} → Fit N w h → Fit N w k → heap_of h ≡ heap_of k → Chain N w h made
    → compared (answers_of made) ≡ compared (run N w k (calls_of made))
unfolding run
as_machine N w sound right same Chain.none = refl
as_machine N w {h} {k} fit right same (Chain.next {m} {ms} finds promise rest) =
    let met : heap_of m.before ≡ heap_of k = finds.same_heap ∙ same in
    let alike =
    waiting_unread N w m.before k met (finds.space ∙ sym right.healthy.shape.length_waiting) m.call in
    let reply_is = promise.reply_is ∙ alike.0 in
    let heap_is = ap (λ (g : Memory). heap_of g) promise.after_is ∙ alike.1 in
    ap₂ {C = List Answer} (λ x xs. x ∷ xs) (λ i. (reply_is i, heap_is i))
    (as_machine N w (stays_fit N w fit m finds promise) (answer-fit N w k right m.call) heap_is rest)

-- ---- every moment and every call

holds : (N w : ℕ) {h : Memory} {made : List Made} → Fit N w h → Chain N w h made → Holds N w h made
holds N w {h} fit Chain.none = Holds.none (healthy_sound N w h fit.healthy fit.listed)
holds N w fit (Chain.next {h} {m} {ms} finds promise rest) =
    let s = serves N w fit m finds promise in
    Holds.next (healthy_sound N w h fit.healthy fit.listed) s.no_early_free s.collects
    (holds N w (stays_fit N w fit m finds promise) rest)

-- ---- an object that lives on

-- what a call finds is what the one before it left, but for the waiting list ..
as_left : (N : ℕ) {h g : Memory} → Finds N h g → h ≡ with_waiting h.waiting g
as_left N {h} finds = ap (with_waiting h.waiting) (sym finds.same_heap)

-- .. so it finds the objects
pub found : (N : ℕ) {h g : Memory} {b n : ℕ} → Finds N h g → Object N h b n → Object N g b n
found N {h} {g} {b} {n} finds was =
    let there = subst (λ (k : Memory). Object N k b n) (as_left N finds) was in
    record { first = there.first; size = there.size }

pub stands : (N : ℕ) {h : Memory} {b n : ℕ} {ms : List Made} → LivesOn N b n h ms → Object N h b n
stands N (LivesOn.none object) = object
stands N (LivesOn.next object living rest) = object

-- ---- request U2

-- calls that were made after others were made on the memory that those left
made_after :
    (N w : ℕ) {h : Memory} (earlier : List Made) {rest : List Made} → Fit N w h → Chain N w h (earlier ++ rest)
    → Fit N w (left_by h earlier) × Chain N w (left_by h earlier) rest
unfolding last_memory
made_after N w [] fit chain = (fit, chain)
made_after N w (m ∷ earlier) fit (Chain.next finds promise rest) = made_after N w earlier (stays_fit N w fit m finds promise) rest

-- the first of the calls after which the count is at the capacity wrote the reference
some_wrote :
    (N w b n : ℕ) {h : Memory} (between others : List Made) → Fit N w h → Chain N w h (between ++ others)
    → LivesOn N b n h between → count_of N w h b < capacity w → count_of N w (left_by h between) b ≡ capacity w → SomeWrote N w b between
unfolding last_memory
some_wrote N w b n [] others fit chain lives low top = absurd (omega arith)
some_wrote N w b n {h} (m ∷ between) others fit (Chain.next finds promise rest) (LivesOn.next was living lives) low top =
    let served = serves N w fit m finds promise in
    elim (dec_lt (count_of N w m.after b) (capacity w)) [
      | yes l ↦ SomeWrote.later (some_wrote N w b n between others (stays_fit N w fit m finds promise) rest lives l top)
      | no l ↦
          SomeWrote.here
          (served.sticks living b n (found N finds was) (stands N lives) still (omega (arith, count_lt (N / 8) w m.after.counts b)))
    ]
  where
    still : count_of N w m.before b < capacity w
    still = subst (λ (k : Memory). count_of N w k b < capacity w) (as_left N finds) low

-- ---- the claim

pub claim : (N w : ℕ) (h : Memory) → Fit N w h → (made : List Made) → Chain N w h made → Claim N w h made
claim N w h fit made chain =
    record {
      machine = as_machine N w fit fit refl chain;
      holds = holds N w fit chain;
      stuck = λ earlier between others e b n lives low top.
          let from = made_after N w earlier fit (subst (λ (l : List Made). Chain N w h l) e chain) in
          some_wrote N w b n between others from.0 from.1 lives low top;
      in_steps = λ earlier m later e.
          let from = made_after N w earlier fit (subst (λ (l : List Made). Chain N w h l) e chain) in
          collected_in_steps N w m later from.0 from.1;
    }

pub demand3 : Demand3
demand3 N w lent fits made chain = claim N w _ (formatted_fit N w lent (shape_facts N w lent fits)) made chain

-- ---- lists of calls

pub chains_append : ChainsAppend
unfolding last_memory
chains_append N w h [] more Chain.none chain = chain
chains_append N w h (m ∷ made) more (Chain.next finds promise rest) chain =
    Chain.next finds promise (chains_append N w m.after made more rest chain)

-- every list of calls can be made, each call on a waiting list of its own
pub every_list : EveryListHasAChain
every_list N w h [] = ([], refl, Chain.none)
every_list N w h ((c, (waiting, long)) ∷ lent) =
    let found : Memory = with_waiting waiting h in
    let x : Answer = answer N w found c in
    let rest = every_list N w x.1 lent in (
      record { call = c; before = found; reply = x.0; after = x.1 } ∷ rest.0,
      ap {B = List (Call × List ℕ)} (λ l. (c, waiting) ∷ l) rest.1,
      Chain.next (record { same_heap = refl; space = long }) (record { reply_is = refl; after_is = refl }) rest.2,
    )

-- ---- request U1

-- freed is what stood in the heap, whatever the waiting list
pub balance :
    (N w : ℕ) {h : Memory} {made : List Made} → Fit N w h → Chain N w h made
    → in_use N h + blocks_allocated made ≡ blocks_freed N made + in_use N (left_by h made)
unfolding blocks_allocated blocks_freed last_memory
balance N w fit Chain.none = omega arith
balance N w {h} fit (Chain.next {m} finds promise rest) =
    let even = rw (← promise.reply_is, ← promise.after_is) at (answer_even N w m.before (finds_fit N w finds fit) m.call).kept in
    let found : in_use N m.before ≡ in_use N h = ap (λ (g : Memory). in_use N g) finds.same_heap in
    omega (arith, even, found, balance N w (stays_fit N w fit m finds promise) rest)
