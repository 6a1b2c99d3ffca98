-- What a run of records promises: its reply, the run it answers, and every lent number.
use Rattle.std.specs.Prelude.{ℕ, ◌%◌, ◌≡◌, true, false, List, ◌++◌, eqb, length, replicate}
use Rattle.rules.specs.Heap.{Memory, with_waiting}
use Rattle.rules.specs.Sections.{figures}
use Rattle.rules_calls.specs.Calls.{check, reply, answer}
use Rattle.types.specs.declared.Reply.{Reply}
use Rattle.theory.specs.CallWords.{left_by}
use Rattle.theory.specs.Demand.{Finds, Chain}
use Rattle.history_records.specs.Records.{record_length, wide}
use Rattle.history_figures.specs.declared.tally.Run.{Run}
use Rattle.history_figures.specs.Figures.{new_run, in_range}
use Rattle.history_runs.specs.declared.Ran.{Ran}
use Rattle.history_runs.specs.Runs.{ran}
use Rattle.history_runs.specs.Claims.{AsCalls}

-- "1 as before; 2 if the heap is damaged"; "11, the list doesn't match the maps, next after 2"; "13, .. next after
-- 11": as the check; then 19 for a run out of range: five bounds that every run keeps are tested, so a run within
-- them may still be one that no run leaves
unfoldable pub run_reply : ℕ → ℕ → Memory → Run → Reply
run_reply N w h r =
    let checked = (answer N w h check).0 in
    elim (eqb checked.number 0) [ true ↦ elim (in_range r) [ true ↦ reply 0 0 0 | false ↦ reply 19 0 0 ] | false ↦ checked ]

-- "any further value of a reply is 0 .. in every refusal": the run answered is all 0
abbrev pub refusal : Reply → Ran
refusal x = record { reply = x; run = new_run }

-- the heap with its waiting list cleared, all other lists as they stood: what an accepted run starts from
abbrev pub cleared : ℕ → Memory → Memory
cleared N h = with_waiting (replicate N 0) h

-- Accepted: the run goes on over the bytes, on the heap with its waiting list cleared, and where it stands then is answered. A
-- refusal changes no buffer. An accepted run leaves the waiting list cleared and the list of sections true. The run answered is in range, so
-- it can be handed in again. Demand 3 holds of the calls that the run made.
pub record Promised (N w : ℕ) (bytes : List ℕ) (h : Memory) (r : Run) (x : Ran) (g : Memory) : Type 0 where
  pub reply_is : x.reply ≡ run_reply N w h r
  pub run_is : x.run ≡ elim (eqb (run_reply N w h r).number 0) [ true ↦ (ran wide N w bytes (cleared N h) r).run | false ↦ new_run ]
  pub after_is : g ≡ elim (eqb (run_reply N w h r).number 0) [ true ↦ (ran wide N w bytes (cleared N h) r).memory | false ↦ h ]
  pub idle : x.reply.number ≡ 0 → g.waiting ≡ replicate N 0
  pub listed : x.reply.number ≡ 0 → g.sections ≡ figures N g.a
  pub again : x.reply.number ≡ 0 → in_range x.run ≡ true
  pub calls : x.reply.number ≡ 0 → AsCalls N w (cleared N h) r (ran wide N w bytes (cleared N h) r)

-- A history in pieces, over calls. A first call is accepted, on a piece of whole records; a second finds the heap that the first left, and
-- is handed the run that the first answered. Then it is accepted too, and keeps the promise of one call on both pieces.
abbrev pub CallsAreOne : Type 0
CallsAreOne =
    (N w : ℕ) (first rest : List ℕ) (h found : Memory) (r : Run) (x y : Ran) (g k : Memory) → length first % record_length wide ≡ 0
    → Promised N w first h r x g → x.reply.number ≡ 0 → Finds N g found → Promised N w rest found x.run y k
    → Promised N w (first ++ rest) h r y k

-- "a run of records counts as the calls it makes", in a list of public calls. The list so far left `left`; the run
-- found this heap, with a waiting list of its own, and was accepted. Then the calls that it made go on behind the
-- list (`ChainsAppend`, theory/specs/Statements.antt), and the run left what they leave, the waiting list cleared.
-- (A refused run changes nothing, and counts as no call.)
abbrev pub RunIsCalls : Type 0
RunIsCalls =
    (N w : ℕ) (left h : Memory) (bytes : List ℕ) (r : Run) (x : Ran) (after : Memory) → Finds N left h
    → Promised N w bytes h r x after → x.reply.number ≡ 0
    → let made = (ran wide N w bytes (cleared N h) r).made in
    Chain N w left made × (after ≡ cleared N (left_by left made))
