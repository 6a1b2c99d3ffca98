-- What a record that stops the run leaves: request U1, and request U8 where a collection is open.
use Rattle.std.specs.Prelude.{ℕ, ◌≡◌, ◌⊎◌, true}
use Rattle.rules.specs.Heap.{Memory}
use Rattle.rules_steps.specs.Steps.{is_open}
use Rattle.rules_calls.specs.Calls.{Call, collect, answer}
use Rattle.theory_memories.specs.Heaps.{Undamaged}
use Rattle.history_plans.specs.Asked.{Asked, makes}
use Rattle.history_figures.specs.declared.tally.Run.{Run}
use Rattle.history_figures.specs.Figures.{run}
use Rattle.history_turns.specs.Turns.{Turn, turn_of, after_turn}

-- the record forced a collection: its call gave 5 on memory h, the collection of h was accepted, and g is what
-- the collection left
pub record Forced (N w : ℕ) (h : Memory) (x : Asked) (g : Memory) : Type 0 where
  pub call : Call
  pub asked : x ≡ makes call
  pub none_free : (answer N w h call).0.number ≡ 5
  pub accepted : (answer N w h collect).0.number ≡ 0
  pub left : g ≡ (answer N w h collect).1

-- "the heap stands as before that record, save a forced collection": after a record that stops the run the memory is
-- the one before it, or what the one collection that it forced left. No hypothesis: what is refused changes nothing.
abbrev pub StandsAsBefore : Type 0
StandsAsBefore =
    (N w : ℕ) (h : Memory) (x : Asked) → let y = turn_of N w h x in
    (y.number ≡ 0 → ⊥) → (y.after ≡ h) ⊎ Forced N w h x y.after

-- the record stops the run with this number, nothing changed and nothing counted
pub record JustStops (N : ℕ) (h : Memory) (number : ℕ) (y : Turn) : Type 0 where
  pub unchanged : y.after ≡ h
  pub uncounted : (r : Run) → after_turn N y r ≡ run number r.records r.tally

-- Request U8: "14, a step with none open, or an opening or full collection with one open". So on a heap with a
-- collection open a record that collects stops the run with 14. A collection that an allocation forces is refused
-- too: it frees nothing and isn't counted, and the second try's 5 stops the run.
pub record OpenStops (N w : ℕ) (h : Memory) : Type 0 where
  pub recorded : JustStops N h 14 (turn_of N w h (makes collect))
  pub forced : (call : Call) → (answer N w h call).0.number ≡ 5 → JustStops N h 5 (turn_of N w h (makes call))

abbrev pub StopsWhileOpen : Type 0
StopsWhileOpen = (N w : ℕ) (h : Memory) → Undamaged N w h → is_open N h ≡ true → OpenStops N w h
