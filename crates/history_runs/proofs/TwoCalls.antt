-- Two calls on two pieces of a history, one after the other, promise what one call on both promises.
use mathlib.Core.Path.{◌≡◌, refl, sym, ap, ◌∙◌, subst}
use mathlib.Core.Bool.{true}
use mathlib.Core.List.{List, ◌++◌}
use Prim.Native.Nat.{ℕ, ◌%◌}
use lib.ListN.{length, replicate, length-replicate}
use Rattle.rules.specs.Heap.{Memory, with_waiting, shaped}
use Rattle.rules.specs.Damage.{damage, end_on_free, open_end, unaligned, bad_cell, bad_root, bad_count, stray_data}
use Rattle.rules_calls.specs.Calls.{reply}
use Rattle.types.specs.declared.Reply.{Reply}
use Rattle.rules.proofs.Shape.{shape_facts, shape_test}
use Rattle.theory_memories.specs.Heaps.{Undamaged}
use Rattle.theory.specs.Demand.{Finds}
use Rattle.theory_memories.proofs.Memories.ViewRelease.{reshaped}
use Rattle.theory_memories.proofs.Memories.TidyHeap.{waiting_untidy}
use Rattle.theory_memories.specs.Heaps.{Usable}
use Rattle.theory.proofs.Usable.UsableHeap.{cleared_usable, cleared_same}
use Rattle.history_records.specs.Records.{record_length, wide}
use Rattle.history_figures.specs.declared.tally.Run.{Run}
use Rattle.history_figures.specs.Figures.{in_range}
use Rattle.history_runs.specs.declared.Ran.{Ran}
use Rattle.history_runs.specs.Runs.{Came, came, ran}
use Rattle.history_runs.specs.Promised.{run_reply, cleared, Promised, CallsAreOne}
use Rattle.history_runs.proofs.CallsMade.{run_undamaged, runs_are_calls}
use Rattle.history_runs.proofs.Pieces.{Accepted, accepted, undamaged_accepted}
use Rattle.history_runs.proofs.WholeRecords.{pieces_are_whole}

-- ---- an accepted call

module _ (N w : ℕ) (bytes : List ℕ) (h : Memory) (r : Run) (x : Ran) (g : Memory) (promised : Promised N w bytes h r x g)
    (accepts : x.reply.number ≡ 0) where
  from : Accepted N w h r
  from = accepted promised.reply_is accepts

  -- the heap that it starts from
  start : Undamaged N w (cleared N h)
  start = (cleared_usable from.undamaged).undamaged

  answered : x.run ≡ (ran wide N w bytes (cleared N h) r).run
  answered = rw from.reply_is at promised.run_is

  pub left : g ≡ (ran wide N w bytes (cleared N h) r).memory
  left = rw from.reply_is at promised.after_is

  -- what it leaves is usable
  usable_left : Usable N w g
  usable_left =
      let undamaged = subst (λ (m : Memory). Undamaged N w m) (sym left) (run_undamaged N w bytes (cleared N h) start r) in
      record { undamaged = undamaged; idle = promised.idle accepts }

-- ---- a call that finds a usable heap, with a waiting list of its own

module _ (N w : ℕ) (g found : Memory) (usable : Usable N w g) (finds : Finds N g found) where
  cleared_found : cleared N found ≡ g
  cleared_found = ap (with_waiting (replicate N 0)) finds.same_heap ∙ cleared_same usable

  found_cleared : Undamaged N w (cleared N found)
  found_cleared = subst (λ (m : Memory). Undamaged N w m) (sym cleared_found) usable.undamaged

  found_shaped : shaped N w found ≡ true
  found_shaped =
      let facts = shape_facts N w (cleared N found) found_cleared.intact.right_shape in
      shape_test N w found
      (reshaped N w (cleared N found) found facts refl refl refl refl refl (finds.space ∙ sym (length-replicate N 0)) refl refl refl
      refl)

  found_undamaged : Undamaged N w found
  unfolding damage end_on_free open_end unaligned bad_cell bad_root bad_count stray_data
  found_undamaged =
      record {
        intact = record { right_shape = found_shaped; no_damage = found_cleared.intact.no_damage };
        true_list = found_cleared.true_list;
        tidy = sym (waiting_untidy N (replicate N 0) found) ∙ found_cleared.tidy;
      }

  found_accepted : (r : Run) → in_range r ≡ true → run_reply N w found r ≡ reply 0 0 0
  found_accepted r range = undamaged_accepted found_undamaged r range

-- ---- both

module _ (N w : ℕ) (first rest : List ℕ) (h found : Memory) (r : Run) (x y : Ran) (g k : Memory)
    (even : length first % record_length wide ≡ 0) (one : Promised N w first h r x g) (accepts : x.reply.number ≡ 0) (finds : Finds N g found)
    (two : Promised N w rest found x.run y k) where
  usable : Usable N w g
  usable = usable_left N w first h r x g one accepts

  second_accepted : run_reply N w found x.run ≡ reply 0 0 0
  second_accepted = found_accepted N w g found usable finds x.run (one.again accepts)

  -- what came of the first piece, and then of the second
  abbrev came_first : Came
  came_first = ran wide N w first (cleared N h) r

  abbrev came_second : Came
  came_second = ran wide N w rest came_first.memory came_first.run

  same_start : ran wide N w rest (cleared N found) x.run ≡ came_second
  same_start =
      ap (λ (m : Memory). ran wide N w rest m x.run) (cleared_found N w g found usable finds ∙ left N w first h r x g one accepts)
      ∙ ap (ran wide N w rest came_first.memory) (answered N w first h r x g one accepts)

  whole : ran wide N w (first ++ rest) (cleared N h) r ≡ came came_second.run came_second.memory (came_first.made ++ came_second.made)
  whole = pieces_are_whole N w first rest (cleared N h) r even

  both_promised : Promised N w (first ++ rest) h r y k
  both_promised =
      let start_accepted : run_reply N w h r ≡ reply 0 0 0 = (from N w first h r x g one accepts).reply_is in
      let number : y.reply.number ≡ 0 = ap (λ (v : Reply). v.number) (two.reply_is ∙ second_accepted) in
      let run_is : y.run ≡ (ran wide N w rest (cleared N found) x.run).run = rw second_accepted at two.run_is in
      let after_is : k ≡ (ran wide N w rest (cleared N found) x.run).memory = rw second_accepted at two.after_is in
      record {
        reply_is = two.reply_is ∙ second_accepted ∙ sym start_accepted;
        run_is = run_is ∙ ap (λ (z : Came). z.run) same_start ∙ ap (λ (z : Came). z.run) (sym whole) ∙ sym (rw start_accepted);
        after_is =
            after_is ∙ ap (λ (z : Came). z.memory) same_start ∙ ap (λ (z : Came). z.memory) (sym whole) ∙ sym (rw start_accepted);
        idle = λ _. two.idle number;
        listed = λ _. two.listed number;
        again = λ _. two.again number;
        calls = λ _. runs_are_calls N w (first ++ rest) (cleared N h) r (start N w first h r x g one accepts);
      }

pub calls_are_one : CallsAreOne
calls_are_one N w first rest h found r x y g k even one accepts finds two =
    both_promised N w first rest h found r x y g k even one accepts finds two
