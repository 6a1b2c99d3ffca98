-- Request U1: one record as it is run: the calls it makes on a heap, and the run after them.
use Rattle.std.specs.Prelude.{ℕ, ◌+◌, true, false, List, [], ◌∷◌, eqb}
use Rattle.rules.specs.Heap.{Memory}
use Rattle.rules_calls.specs.Calls.{Call, collect, answer}
use Rattle.theory.specs.CallWords.{Made}
use Rattle.theory_memories.specs.Words.{in_use}
use Rattle.history_plans.specs.Asked.{Asked, makes, stops}
use Rattle.history_figures.specs.declared.tally.Run.{Run}
use Rattle.history_figures.specs.Figures.{used, noted_all, run}

-- a call as the rules answer it on memory h
abbrev pub made_on : ℕ → ℕ → Memory → Call → Made
made_on N w h c = record { call = c; before = h; reply = (answer N w h c).0; after = (answer N w h c).1 }

-- a record as it was run: the number that stops the run there, or 0; the calls it made; the memory after them
pub record Turn : Type 0 where
  pub number : ℕ
  pub made : List Made
  pub after : Memory

abbrev pub turn : ℕ → List Made → Memory → Turn
turn number made after = record { number = number; made = made; after = after }

-- a collection, and the call tried once more
unfoldable pub tried_again : ℕ → ℕ → Memory → Call → Turn
tried_again N w h c =
    let forced = made_on N w h collect in
    let second = made_on N w forced.after c in
    turn second.reply.number (forced ∷ second ∷ []) second.after

-- "When allocation gives 5 the run collects and tries once more." 5 is given to allocations alone, those of data
-- among them (proved as `FiveToAllocations`, theory/specs/Statements.antt). While a collection is open (request
-- U8) the forced one is refused with 14 and changes nothing, and the second try gives 5 too (proved as
-- `StopsWhileOpen`, Stopped.antt).
unfoldable pub turn_of : ℕ → ℕ → Memory → Asked → Turn
turn_of N w h (stops number) = turn number [] h
turn_of N w h (makes c) =
    let first = made_on N w h c in
    let again = tried_again N w first.after c in
    elim (eqb first.reply.number 5) [
      | true ↦ turn again.number (first ∷ again.made) again.after
      | false ↦ turn first.reply.number (first ∷ []) first.after
    ]

-- the run after a record: the calls it made are noted and, where it was accepted, the record is counted and the blocks in use are noted
unfoldable pub after_turn : ℕ → Turn → Run → Run
after_turn N x r =
    let figures = noted_all x.made r.tally in
    elim (eqb x.number 0) [
      | true ↦ run 0 (r.records + 1) (used (in_use N x.after) figures)
      | false ↦ run x.number r.records figures
    ]
