-- What a list of calls on a heap as it stands promises: its reply, and that demand 3 holds of the calls it made, of which its replies and
-- buffers are.
use Rattle.std.specs.Prelude.{ℕ, ◌≡◌, true, false, List, eqb, length, replicate}
use Rattle.rules.specs.Heap.{Memory, with_waiting}
use Rattle.rules_calls.specs.Calls.{check, answer}
use Rattle.types.specs.declared.Reply.{Reply}
use Rattle.theory.specs.CallWords.{Made, calls_of, left_by}
use Rattle.theory.specs.Demand.{Finds, Chain}
use Rattle.theory_memories.specs.Heaps.{Undamaged}
use Rattle.theory_memories.specs.Heaps.{Usable}
use Rattle.replay_words.specs.Encoding.{calls_in}
use Rattle.replay.specs.Replay.{replay_reply, Ran}

-- "1 as before; 2 if the heap is damaged"; "11, the list doesn't match the maps, next after 2"; "13, .. next after
-- 11": as the check, with its damage kind; then as a replay, whose list and room for replies are tested alike
unfoldable pub batch_reply : ℕ → ℕ → Memory → List ℕ → (room : ℕ) → Reply
batch_reply N w h words room =
    let checked = (answer N w h check).0 in
    elim (eqb checked.number 0) [ true ↦ replay_reply N w h words room | false ↦ checked ]

-- "A run of many calls may check once and then rely on the proved fact that calls keep a heap undamaged." The reply is the one above. A
-- refusal changes nothing. Else the heap was undamaged, its waiting list was cleared, and the calls were run from there, with demand 3's
-- claim of them. What they leave is undamaged, with a cleared waiting list: a list of calls can follow.
pub record Batch (N w : ℕ) (h : Memory) (words replies : List ℕ) (reply : Reply) (after : Memory) (replies' : List ℕ) : Type 0 where
  pub reply_is : reply ≡ batch_reply N w h words (length replies)
  pub refused : (reply.number ≡ 0 → ⊥) → (after ≡ h) × (replies' ≡ replies)
  pub undamaged : reply.number ≡ 0 → Undamaged N w h
  pub ran : reply.number ≡ 0 → Ran N w (with_waiting (replicate N 0) h) words replies after replies'
  pub usable : reply.number ≡ 0 → Usable N w after

-- In a list of public calls an accepted batch counts as the calls it makes. The list so far left `left`; the batch found this heap, with a
-- waiting list of its own. Then its calls go on behind the list, and it left what they leave, the waiting list cleared. (A refused one
-- changes nothing, and counts as no call.)
abbrev pub BatchIsCalls : Type 0
BatchIsCalls =
    (N w : ℕ) (left h : Memory) (words replies : List ℕ) (x : Reply) (after : Memory) (replies' : List ℕ) → Finds N left h
    → Batch N w h words replies x after replies' → x.number ≡ 0
    → (made : List Made) × (calls_of made ≡ calls_in words) × Chain N w left made
    × (after ≡ with_waiting (replicate N 0) (left_by left made))
