-- What public calls with a run of records and a replay between them come to: one list of calls, and demand 3's claim
-- of it.
use Rattle.std.specs.Prelude.{ℕ, ◌≡◌, true, false, List, [], ◌∷◌, ◌++◌, eqb}
use Rattle.rules.specs.Heap.{Memory}
use Rattle.rules_calls.specs.Calls.{Call, format, allocate, collect}
use Rattle.rules_calls.specs.Promise.{Promise}
use Rattle.types.specs.declared.Reply.{Reply}
use Rattle.theory.specs.CallWords.{Made, calls_of, left_by}
use Rattle.theory.specs.Demand.{Chain, Claim}
use Rattle.replay_words.specs.Encoding.{calls_in}
use Rattle.replay.specs.Replay.{Replayed}
use Rattle.history_figures.specs.Figures.{new_run}
use Rattle.history_runs.specs.declared.Ran.{Ran}
use Rattle.history_records.specs.Records.{wide}
use Rattle.history_runs.specs.Runs.{ran}
use Rattle.history_runs.specs.Promised.{cleared, Promised}

-- the calls that a run of all records of the bytes, found on memory h, counts as
abbrev pub run_calls : ℕ → ℕ → List ℕ → Memory → List Call
run_calls N w bytes h = calls_of (ran wide N w bytes (cleared N h) new_run).made

-- the calls that a replay with reply x counts as: a format and the calls of the list; a refused one counts as none
unfoldable pub replay_calls : Reply → List ℕ → List Call
replay_calls x words = elim (eqb x.number 0) [ true ↦ format ∷ calls_in words | false ↦ [] ]

-- The heap was formatted; an object was made in root 0; the records were run; the list was replayed; a collection
-- followed. Each kept its promise. And all are one list of calls, of which demand 3's claim holds.
pub record Mixed (N w : ℕ) (h : Memory) (bytes words replies : List ℕ) (x : Reply) (g : Memory) (replies' : List ℕ) : Type 0 where
  pub start : Memory
  pub formatting : Promise N w format h x start
  pub allocated : Reply
  pub one : Memory
  pub allocating : Promise N w (allocate 1 0) start allocated one
  pub recorded : Ran
  pub two : Memory
  pub running : Promised N w bytes one new_run recorded two
  pub run_accepted : recorded.reply.number ≡ 0
  pub replayed : Reply
  pub three : Memory
  pub replaying : Replayed N w two words replies replayed three replies'
  pub collected : Reply
  pub collecting : Promise N w collect three collected g
  pub made : List Made
  pub calls_are : calls_of made ≡ allocate 1 0 ∷ run_calls N w bytes one ++ replay_calls replayed words ++ collect ∷ []
  pub chain : Chain N w start made
  pub left_is : g ≡ left_by start made
  pub claim : Claim N w start made

-- a refused format changes nothing, and no other call is made
pub record MixedCalls (N w : ℕ) (h : Memory) (bytes words replies : List ℕ) (x : Reply) (g : Memory) (replies' : List ℕ) : Type 0 where
  pub refused : (x.number ≡ 0 → ⊥) → Promise N w format h x g × (replies' ≡ replies)
  pub accepted : x.number ≡ 0 → Mixed N w h bytes words replies x g replies'
