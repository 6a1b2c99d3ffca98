-- A replay starts from a heap as format leaves it: the inner calls can use it. And demand 3 holds of every list that is run from an undamaged
-- heap.
use mathlib.Core.Path.{◌≡◌, refl, sym, ap, ◌∙◌, subst}
use mathlib.Core.Bool.{true}
use mathlib.Core.List.{List, [], ◌∷◌, ◌++◌}
use Prim.Native.Nat.{ℕ, ◌*◌, ◌/◌}
use lib.ListN.{length, drop}
use Rattle.rules.specs.Heap.{Memory, shaped}
use Rattle.rules_stores.specs.Store.{formatted}
use Rattle.rules_calls.specs.Calls.{Call, format, Answer, reply, accepted, outcome, answer, run, last_memory}
use Rattle.rules_calls.specs.Promise.{Promise}
use Rattle.theory.specs.CallWords.{Made, calls_of, answers_of}
use Rattle.theory.specs.Demand.{Chain}
use Rattle.theory_memories.specs.Heaps.{Undamaged}
use Rattle.types.specs.declared.Reply.{Reply}
use Rattle.rules_calls.proofs.Replies.{format_accepted}
use Rattle.rules.proofs.Shape.{shape_facts}
use Rattle.theory.proofs.Theorems.{calls_keep_undamaged, format_makes_undamaged, claim_from_undamaged}
use Rattle.theory_memories.specs.Heaps.{Usable}
use Rattle.replay_words.specs.Encoding.{calls_in, reply_words}
use Rattle.replay_run.specs.Run.{AsRun}
use Rattle.replay_words.proofs.Calls.{accepted_passed}
use Rattle.replay.specs.Replay.{Ran, ReplayIsCalls}

module _ (N w : ℕ) (lent : Memory) (fits : shaped N w lent ≡ true) where
  -- what an accepted format leaves
  format_leaves : {x : Reply} {g : Memory} → Promise N w format lent x g → g ≡ formatted N w (length lent.roots)
  unfolding outcome
  format_leaves promise = promise.after_is ∙ ap (λ (y : Answer). y.1) (format_accepted N w lent fits)

  formatted_usable : Usable N w (formatted N w (length lent.roots))
  unfolding formatted
  formatted_usable = record { undamaged = format_makes_undamaged N w lent fits; idle = refl }

  -- .. and it can be used by the inner calls
  pub started_usable : {x : Reply} {g : Memory} → Promise N w format lent x g → Usable N w g
  started_usable promise = subst (λ (g : Memory). Usable N w g) (sym (format_leaves promise)) formatted_usable

-- ---- the calls that were made

-- the calls as the plain machine makes them ..
made_by : (N w : ℕ) → Memory → List Call → List Made
made_by N w h [] = []
made_by N w h (c ∷ calls) =
    let x = answer N w h c in
    record { call = c; before = h; reply = x.0; after = x.1 } ∷ made_by N w x.1 calls

made_calls : (N w : ℕ) (h : Memory) (calls : List Call) → calls_of (made_by N w h calls) ≡ calls
unfolding made_by
made_calls N w h [] = refl
made_calls N w h (c ∷ calls) = ap (λ (l : List Call). c ∷ l) (made_calls N w (answer N w h c).1 calls)

made_answers : (N w : ℕ) (h : Memory) (calls : List Call) → run N w h calls ≡ answers_of (made_by N w h calls)
unfolding made_by run
made_answers N w h [] = refl
made_answers N w h (c ∷ calls) = ap (λ (l : List Answer). answer N w h c ∷ l) (made_answers N w (answer N w h c).1 calls)

-- .. are a chain
made_chain : (N w : ℕ) (h : Memory) → Undamaged N w h → (calls : List Call) → Chain N w h (made_by N w h calls)
unfolding made_by
made_chain N w h fine [] = Chain.none
made_chain N w h fine (c ∷ calls) =
    Chain.next (record { same_heap = refl; space = (shape_facts N w h fine.intact.right_shape).length_waiting })
    (record { reply_is = refl; after_is = refl })
    (made_chain N w (answer N w h c).1 (calls_keep_undamaged N w h fine c) calls)

-- calls that were run from an undamaged heap
pub ran_from_lem :
    {N w : ℕ} {start : Memory} {words replies : List ℕ} {after : Memory} {replies' : List ℕ} → Undamaged N w start
    → AsRun N w start words replies after replies' → Ran N w start words replies after replies'
ran_from_lem {N} {w} {start} {words} {replies} fine as-run =
    let all : List Made = made_by N w start (calls_in words) in
    let chain : Chain N w start all = made_chain N w start fine (calls_in words) in
    let machine : run N w start (calls_in words) ≡ answers_of all = made_answers N w start (calls_in words) in
    record {
      made = all;
      calls_are = made_calls N w start (calls_in words);
      chain = chain;
      left_is = as-run.after_is ∙ ap (last_memory start) machine;
      after_is = as-run.after_is;
      replies_are =
          as-run.replies_are ∙ ap (λ (l : List Answer). reply_words l ++ drop (3 * (length words / 4)) replies) machine;
      claim = claim_from_undamaged N w start fine all chain;
    }

-- an accepted replay, from what its format and its run promise
pub replayed :
    {N w : ℕ} {lent : Memory} {words replies : List ℕ} {x : Reply} {start after : Memory} {replies' : List ℕ} → shaped N w lent ≡ true
    → Promise N w format lent x start → AsRun N w start words replies after replies'
    → Ran N w (formatted N w (length lent.roots)) words replies after replies'
replayed {N} {w} {lent} {words} {replies} {x} {start} {after} {replies'} fits promise done =
    ran_from_lem (format_makes_undamaged N w lent fits)
    (subst (λ (g : Memory). AsRun N w g words replies after replies') (format_leaves N w lent fits promise) done)

-- ---- a replay in a list of public calls

pub replay_is_calls : ReplayIsCalls
unfolding outcome last_memory
replay_is_calls N w left h words replies x after replies' finds done taken =
    let ran = done.ran taken in
    let empty : Memory = formatted N w (length h.roots) in
    let fits : shaped N w h ≡ true =
    (accepted_passed (shaped N w h) words (length replies) (ap (λ (r : Reply). r.number) (sym done.reply_is) ∙ taken)).right_shape in
    let formatting : answer N w h format ≡ accepted empty 0 = format_accepted N w h fits in (
      record { call = format; before = h; reply = reply 0 0 0; after = empty } ∷ ran.made,
      ap (λ (l : List Call). format ∷ l) ran.calls_are,
      Chain.next finds
          (record { reply_is = ap (λ (y : Answer). y.0) (sym formatting); after_is = ap (λ (y : Answer). y.1) (sym formatting) })
          ran.chain,
      ran.left_is,
    )
