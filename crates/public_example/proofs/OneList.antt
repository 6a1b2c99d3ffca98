-- Public calls, a run of records and a replay, each on the memory that the one before it left, are one list of calls.
use mathlib.Core.Path.{◌≡◌, refl, sym, ap, ◌∙◌, subst}
use mathlib.Core.Bool.{true}
use mathlib.Core.List.{List, [], ◌∷◌, ◌++◌}
use Prim.Native.Nat.{ℕ}
use native.Mathlib.Decide.{ℕ_discrete}
use lib.ListN.{length, length-replicate}
use borrow.Author.Tests.{eq-eqb, ne_eqb}
use Rattle.rules.specs.Tools.{all}
use Rattle.rules.specs.Heap.{Memory, shaped}
use Rattle.rules_stores.specs.Store.{formatted}
use Rattle.rules_calls.specs.Calls.{Call, format, allocate, collect, answer, run, last_memory}
use Rattle.rules_calls.specs.Promise.{Promise}
use Rattle.types.specs.declared.Reply.{Reply}
use Rattle.rules.proofs.Shape.{shape_facts}
use Rattle.theory_memories.specs.Words.{heap_of}
use Rattle.theory.specs.CallWords.{Made, calls_of, left_by}
use Rattle.theory.specs.Demand.{Finds, Chain}
use Rattle.theory_memories.specs.Heaps.{Undamaged}
use Rattle.theory.proofs.Theorems.{accepted_format_undamaged, promise_keeps_undamaged, theory}
use Rattle.replay_words.specs.Encoding.{calls_in}
use Rattle.replay_words.proofs.Calls.{accepted_passed}
use Rattle.replay.specs.Replay.{Replayed}
use Rattle.replay.proofs.Theorems.{replay_theory}
use Rattle.history_figures.specs.declared.tally.Run.{Run}
use Rattle.history_figures.specs.Figures.{new_run, most_collections, in_range}
use Rattle.history_runs.specs.declared.Ran.{Ran}
use Rattle.history_records.specs.Records.{wide}
use Rattle.history_runs.specs.Runs.{ran}
use Rattle.history_runs.specs.Promised.{cleared, Promised}
use Rattle.history_runs.proofs.CallsMade.{left_append}
use Rattle.history_runs.proofs.Pieces.{undamaged_accepted}
use Rattle.history_runs.proofs.Theorems.{history_theory}
use Rattle.public_example.specs.Mixed.{replay_calls, Mixed}

calls_append : (made more : List Made) → calls_of (made ++ more) ≡ calls_of made ++ calls_of more
calls_append [] more = refl
calls_append (m ∷ made) more = ap (λ (l : List Call). m.call ∷ l) (calls_append made more)

-- ---- what a replay counts as, behind the calls that left a memory

record Behind (N w : ℕ) (left : Memory) (calls : List Call) (g : Memory) : Type 0 where
  made : List Made
  calls_are : calls_of made ≡ calls
  chain : Chain N w left made
  same_heap : heap_of g ≡ heap_of (left_by left made)
  space : length g.waiting ≡ N

-- the plain machine keeps a heap undamaged
machine_undamaged : (N w : ℕ) (h : Memory) → Undamaged N w h → (calls : List Call) → Undamaged N w (last_memory h (run N w h calls))
unfolding run last_memory
machine_undamaged N w h fine [] = fine
machine_undamaged N w h fine (c ∷ calls) = machine_undamaged N w (answer N w h c).1 (theory.calls_keep_undamaged N w h fine c) calls

module _ (N w : ℕ) (left found : Memory) (words replies : List ℕ) (x : Reply) (g : Memory) (replies' : List ℕ)
    (finds : Finds N left found) (done : Replayed N w found words replies x g replies') where
  replay_space : x.number ≡ 0 → length g.waiting ≡ N
  replay_space e =
      let fits : shaped N w found ≡ true =
      (accepted_passed (shaped N w found) words (length replies) (ap (λ (r : Reply). r.number) (sym done.reply_is) ∙ e)).right_shape in
      let fine : Undamaged N w g =
      subst (λ (m : Memory). Undamaged N w m) (sym (done.ran e).after_is)
      (machine_undamaged N w (formatted N w (length found.roots)) (theory.format_makes_undamaged N w found fits) (calls_in words)) in
      (shape_facts N w g fine.intact.right_shape).length_waiting

  replay_behind : Behind N w left (replay_calls x words) g
  unfolding replay_calls last_memory
  replay_behind = elim (ℕ_discrete x.number 0) [
    | yes e ↦
        let all = replay_theory.replay_is_calls N w left found words replies x g replies' finds done e in
        record {
          made = all.0;
          calls_are = all.1 ∙ sym (rw (eq-eqb x.number 0 e, replay_calls));
          chain = all.2;
          same_heap = ap (λ (m : Memory). heap_of m) all.3;
          space = replay_space e;
        }
    | no e ↦
        let kept = (done.refused e).0 in
        record {
          made = [];
          calls_are = sym (rw (ne_eqb x.number 0 e, replay_calls));
          chain = Chain.none;
          same_heap = ap (λ (m : Memory). heap_of m) kept ∙ finds.same_heap;
          space = ap (λ (m : Memory). length m.waiting) kept ∙ finds.space;
        }
  ]

-- ---- all of them

new_in_range : in_range new_run ≡ true
unfolding in_range most_collections all
new_in_range = refl

pub mixed :
    {N w : ℕ} {h : Memory} {x : Reply} {start : Memory} → Promise N w format h x start → x.number ≡ 0
    → {y : Reply} {one : Memory} → Promise N w (allocate 1 0) start y one
    → {bytes : List ℕ} {r : Run} {z : Ran} {two : Memory} → r ≡ new_run → Promised N w bytes one r z two
    → {words replies : List ℕ} {u : Reply} {three : Memory} {replies' : List ℕ} → Replayed N w two words replies u three replies'
    → {v : Reply} {g : Memory} → Promise N w collect three v g → Mixed N w h bytes words replies x g replies'
unfolding last_memory
mixed
    {N} {w} {h} {x} {start} formatting taken {y} {one} allocating {bytes} {r} {z} {two} new promised
    {words} {replies} {u} {three} {replies'} replaying {v} {g} collecting =
    let fine = accepted_format_undamaged N w h x start formatting taken in
    let next = promise_keeps_undamaged N w (allocate 1 0) start y one fine allocating in
    let running : Promised N w bytes one new_run z two = subst (λ (k : Run). Promised N w bytes one k z two) new promised in
    let accepts : z.reply.number ≡ 0 =
    ap (λ (k : Reply). k.number) (running.reply_is ∙ undamaged_accepted next new_run new_in_range) in
    let of-run =
    history_theory.run_is_calls N w one one bytes new_run z two
    (record { same_heap = refl; space = (shape_facts N w one next.intact.right_shape).length_waiting }) running accepts in
    let run_made : List Made = (ran wide N w bytes (cleared N one) new_run).made in
    let left : Memory = left_by one run_made in
    let finds : Finds N left two =
    record {
      same_heap = ap (λ (m : Memory). heap_of m) of-run.1;
      space = ap (λ (l : List ℕ). length l) (running.idle accepts) ∙ length-replicate N 0;
    } in
    let behind = replay_behind N w left two words replies u three replies' finds replaying in
    let front : List Made = record { call = allocate 1 0; before = start; reply = y; after = one } ∷ run_made in
    let last : List Made = record { call = collect; before = three; reply = v; after = g } ∷ [] in
    let both : List Made = front ++ behind.made in
    let left_both : left_by start both ≡ left_by left behind.made = left_append start front behind.made in
    let chain : Chain N w start (both ++ last) =
    theory.chains_append N w start both last
    (theory.chains_append N w start front behind.made
    (Chain.next (record { same_heap = refl; space = (shape_facts N w start fine.intact.right_shape).length_waiting }) allocating of-run.0)
    behind.chain)
    (Chain.next
    (record { same_heap = behind.same_heap ∙ ap (λ (m : Memory). heap_of m) (sym left_both); space = behind.space }) collecting Chain.none) in
    record {
      start = start;
      formatting = formatting;
      allocated = y;
      one = one;
      allocating = allocating;
      recorded = z;
      two = two;
      running = running;
      run_accepted = accepts;
      replayed = u;
      three = three;
      replaying = replaying;
      collected = v;
      collecting = collecting;
      made = both ++ last;
      calls_are =
          calls_append both last
          ∙ ap (λ (l : List Call). l ++ collect ∷ [])
          (calls_append front behind.made ∙ ap (λ (l : List Call). calls_of front ++ l) behind.calls_are);
      chain = chain;
      left_is = sym (left_append start both last);
      claim = theory.claim_from_format N w h x start formatting taken (both ++ last) chain;
    }
