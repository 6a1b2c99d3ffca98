-- Request U8, "Three things hold in every list of calls as in demand 3". The first, "Nothing reachable is
-- ever freed", is demand 3's own (`NoEarlyFree`, Demand.antt), for the calls that open and step too. Here are
-- the second and the third.
use Rattle.std.specs.Prelude.{ℕ, ◌+◌, ◌*◌, ◌≤◌, ◌<◌, ◌≡◌, ◌≢◌, Bool, true, false, List, [], ◌∷◌, ◌++◌, get_or, replicate, eqb}
use Rattle.bitmap.specs.Bit.{count_below}
use Rattle.rules.specs.Heap.{Memory, with_waiting, is_first, reference}
use Rattle.rules_stores.specs.Store.{is_chosen}
use Rattle.rules_steps.specs.Steps.{is_open, is_marked, is_listed}
use Rattle.rules_calls.specs.Calls.{Call, format, check, collect, free_blocks, allocate, store_root, store_cell, look, return_roots, open_collection, take_steps}
use Rattle.rules_calls.specs.Calls.{allocate_data, write_number, read_number, write_reason, write_shape, allocate_as, reply, answer}
use Rattle.rules_calls.specs.Calls.{copy_from, copy_into}
use Rattle.types.specs.declared.Reply.{Reply}
use Rattle.theory_memories.specs.Words.{Object, Leads}
use Rattle.theory.specs.CallWords.{written, Made, left_by}

-- the object at block a is the one at block b, or leads to it: as `Leads`, from an object instead of a root
pub data LeadsFrom (N : ℕ) (h : Memory) (a : ℕ) : ℕ → Type 0 where
  self : LeadsFrom N h a a
  cell :
      (b n c m j : ℕ) → Object N h b n → LeadsFrom N h a c → Object N h c m → j < 4 * m → reference N h (4 * c + j) ≡ 1 + b
      → LeadsFrom N h a b

-- the object at block b is an "owner, old or new object" of a store that an accepted call makes; h is the
-- memory before the call and x its reply. A store of the value present is none, nor is a number write
-- (request U6). A return is a store for each of its roots.
pub data Party (h : Memory) (x : Reply) : Call → ℕ → Type 0 where
  owner : (at j v : ℕ) → get_or h.cells (4 * at + j) 0 ≢ v → Party h x (store_cell at j v) at
  old_in_cell : (at j v b : ℕ) → get_or h.cells (4 * at + j) 0 ≢ v → get_or h.cells (4 * at + j) 0 ≡ 1 + b → Party h x (store_cell at j v) b
  new_in_cell : (at j v b : ℕ) → get_or h.cells (4 * at + j) 0 ≢ v → v ≡ 1 + b → Party h x (store_cell at j v) b
  old_in_root : (r v b : ℕ) → get_or h.roots r 0 ≢ v → get_or h.roots r 0 ≡ 1 + b → Party h x (store_root r v) b
  new_in_root : (r v b : ℕ) → get_or h.roots r 0 ≢ v → v ≡ 1 + b → Party h x (store_root r v) b
  old_of_allocation : (asData : Bool) (n r b : ℕ) → get_or h.roots r 0 ≡ 1 + b → Party h x (allocate_as asData n r) b
  new_of_allocation : (asData : Bool) (n r b : ℕ) → x.value ≡ b → Party h x (allocate_as asData n r) b
  old_of_return : (chosen r b : ℕ) → is_chosen chosen r ≡ true → get_or h.roots r 0 ≡ 1 + b → Party h x (return_roots chosen) b

-- the object at block b was such an object of the call, or one of them led to it "before that store let
-- anything go"
pub record Touched (N : ℕ) (m : Made) (b : ℕ) : Type 0 where
  pub accepted : m.reply.number ≡ 0
  pub party : ℕ
  pub is_party : Party m.before m.reply m.call party
  pub leads : LeadsFrom N (written m.before m.call m.reply) party b

-- no call of the list touches the object at block b
pub data Untouched (N b : ℕ) : List Made → Type 0 where
  none : Untouched N b []
  next : {m : Made} {ms : List Made} → ¬ Touched N m b → Untouched N b ms → Untouched N b (m ∷ ms)

-- of the calls after an opening those that belong to its collection: up to the first that leaves none open,
-- that one included
unfoldable pub until_closed : ℕ → List Made → List Made
until_closed N [] = []
until_closed N (m ∷ ms) = m ∷ elim (is_open N m.after) [ true ↦ until_closed N ms | false ↦ [] ]

-- the steps that a call took: "one for each object taken off the list"
unfoldable pub steps_of : Call → Reply → ℕ
steps_of (take_steps budget) x = elim (eqb x.number 0) [ true ↦ x.value | false ↦ 0 ]
steps_of format x = 0
steps_of check x = 0
steps_of collect x = 0
steps_of free_blocks x = 0
steps_of open_collection x = 0
steps_of (allocate n r) x = 0
steps_of (store_root r v) x = 0
steps_of (store_cell at j v) x = 0
steps_of (look at) x = 0
steps_of (return_roots chosen) x = 0
steps_of (allocate_data n r) x = 0
steps_of (write_number at j v) x = 0
steps_of (read_number at j) x = 0
steps_of (write_reason at room) x = 0
steps_of (write_shape room) x = 0
steps_of (copy_from K u first) x = 0
steps_of (copy_into M v second) x = 0

unfoldable pub steps_in : List Made → ℕ
steps_in [] = 0
steps_in (m ∷ ms) = steps_of m.call m.reply + steps_in ms

-- the last call of the list is an accepted one that takes steps and leaves none open: the close. A format
-- ends a collection too, and so does a copy into the heap (request U14); neither is a close.
pub data Closes (N : ℕ) : List Made → Type 0 where
  last : {m : Made} (budget : ℕ) → m.call ≡ take_steps budget → m.reply.number ≡ 0 → is_open N m.after ≡ false → Closes N (m ∷ [])
  later : {m : Made} {ms : List Made} → Closes N ms → Closes N (m ∷ ms)

-- what holds of the calls `later` that follow an accepted opening; h is the memory that the opening found
pub record Collecting (N : ℕ) (h : Memory) (later : List Made) : Type 0 where
  -- "The steps from open to close never exceed the objects present at the opening." Of any list of calls,
  -- closed or not.
  pub bounded : steps_in (until_closed N later) ≤ count_below (is_first N h) N
  -- "What no root led to at the opening, and no owner, old or new object of a later store was or led to
  -- before that store let anything go, is gone at the close"
  pub gone :
      Closes N (until_closed N later) → (b n : ℕ) → Object N h b n → ¬ Leads N h b → Untouched N b (until_closed N later)
      → ¬ Object N (left_by h (until_closed N later)) b n

-- "A call may take at most the given number of steps": with none given it takes none and changes no buffer
-- but the waiting list
abbrev pub NoStepsNoChange : Type 0
NoStepsNoChange =
    (N w : ℕ) (h : Memory) → let x = answer N w h (take_steps 0) in
    x.0.number ≡ 0 → (x.0 ≡ reply 0 0 0) × (x.1 ≡ with_waiting (replicate N 0) h)

-- "It replies with the steps taken, all of them unless the list ran out": they are never more than the given
-- number, and where they are fewer the list was left empty, so that the call is the close
abbrev pub AllUnlessRanOut : Type 0
AllUnlessRanOut =
    (N w : ℕ) (h : Memory) (budget : ℕ) → let x = answer N w h (take_steps budget) in
    x.0.number ≡ 0 → (x.0.value ≤ budget) × (x.0.value < budget → is_open N x.1 ≡ false)

-- the object at block b is marked, and not on the list
abbrev pub MarkedUnlisted : ℕ → Memory → ℕ → Type 0
MarkedUnlisted N h b = (is_marked h b ≡ true) × (is_listed N h b ≡ false)

-- "While open, objects are born marked", data too, and not listed: at the block that an accepted allocation
-- gives. No other hypothesis: only an undamaged heap is accepted.
abbrev pub BornMarked : Type 0
BornMarked =
    (N w : ℕ) (h : Memory) (asData : Bool) (n r : ℕ) → is_open N h ≡ true → let x = answer N w h (allocate_as asData n r) in
    x.0.number ≡ 0 → MarkedUnlisted N x.1 x.0.value

-- of every accepted opening in the list
abbrev pub CollectedInSteps : ℕ → List Made → Type 0
CollectedInSteps N made =
    (earlier : List Made) (m : Made) (later : List Made) → made ≡ earlier ++ (m ∷ later) → m.call ≡ open_collection
    → m.reply.number ≡ 0 → Collecting N m.before later
