-- Demand 3: one claim about a whole list of calls. Its words are in CallWords.antt and, with what speaks of
-- heaps alone, in theory_memories/specs/Words.antt and Sound.antt; the parts that requests U2 and U8 added in Stuck.antt and Steps.antt.
use Rattle.std.specs.Prelude.{ℕ, ◌≡◌, true, List, [], ◌∷◌, length}
use Rattle.rules.specs.Heap.{Memory, shaped}
use Rattle.rules_stores.specs.Store.{formatted}
use Rattle.rules_calls.specs.Calls.{Call, collect, run}
use Rattle.rules_calls.specs.Promise.{Promise}
use Rattle.types.specs.declared.Reply.{Reply}
use Rattle.theory_memories.specs.Words.{Object, Leads, heap_of}
use Rattle.theory.specs.CallWords.{stored, Made, calls_of, answers_of, compared}
use Rattle.theory.specs.Stuck.{StuckByReferences}
use Rattle.theory.specs.Steps.{CollectedInSteps}
use Rattle.theory_memories.specs.Sound.{Sound, ExactCollection}

-- ---- at each call

-- "A call frees an object that stood before it if no object of that first block and size stands after it." No call frees what a root
-- still leads to.
abbrev pub NoEarlyFree : ℕ → Call → Memory → Reply → Memory → Type 0
NoEarlyFree N call h x g = (b n : ℕ) → Object N h b n → Leads N (stored h call x) b → Object N g b n

-- what an accepted collection leaves; of other calls this says nothing
abbrev pub Collects : ℕ → ℕ → Call → Memory → Reply → Memory → Type 0
Collects N w call h x g = call ≡ collect → x.number ≡ 0 → ExactCollection N w h g

-- ---- over a list of calls

-- A call finds the heap that the one before it left. The waiting list is working space and not kept between calls: each call may be lent one
-- of its own, of N numbers. "The waiting list may hold anything on entry."
pub record Finds (N : ℕ) (left found : Memory) : Type 0 where
  pub same_heap : heap_of found ≡ heap_of left
  pub space : length found.waiting ≡ N

-- each call of the list was made on the heap that the one before it left, and kept its promise; a refused one too
pub data Chain (N w : ℕ) : Memory → List Made → Type 0 where
  none : {h : Memory} → Chain N w h []
  next :
      {h : Memory} {m : Made} {ms : List Made} → Finds N h m.before → Promise N w m.call m.before m.reply m.after
      → Chain N w m.after ms → Chain N w h (m ∷ ms)

-- the heap is sound at every moment, no call frees what a root still leads to, and each accepted collection is exact
pub data Holds (N w : ℕ) : Memory → List Made → Type 0 where
  none : {h : Memory} → Sound N w h → Holds N w h []
  next :
      {h : Memory} {m : Made} {ms : List Made} → Sound N w h → NoEarlyFree N m.call m.before m.reply m.after
      → Collects N w m.call m.before m.reply m.after → Holds N w m.after ms → Holds N w h (m ∷ ms)

-- "The plain machine it is held against is the rules of demand 2, carried out from that heap on the list's calls alone: each call's
-- number and values, and every bit, cell and root after it, are equal to the machine's." What each call leaves in its waiting list is part of
-- its promise.
pub record Claim (N w : ℕ) (start : Memory) (made : List Made) : Type 0 where
  pub machine : compared (answers_of made) ≡ compared (run N w start (calls_of made))
  pub holds : Holds N w start made
  pub stuck : StuckByReferences N w start made
  pub in_steps : CollectedInSteps N made

-- "Demand 3 is a single claim about the whole list, and not one for each call. The list starts from a heap as an accepted format leaves
-- it, and may be empty."
abbrev pub Demand3 : Type 0
Demand3 =
    (N w : ℕ) (lent : Memory) → shaped N w lent ≡ true →
    let start = formatted N w (length lent.roots) in
    (made : List Made) → Chain N w start made → Claim N w start made
