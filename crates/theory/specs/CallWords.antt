-- Document 01, "The words of demand 3", those about calls: what a call stores, and a list of calls as made. Those about one heap are in
-- theory_memories/specs/Words.antt.
use Rattle.std.specs.Prelude.{ℕ, ◌+◌, ◌*◌, Bool, true, false, not, ◌&&◌, List, map, length, get_or, set, replicate, eqb}
use Rattle.std.proofs.Math.Option.{none, some}
use Rattle.rules.specs.Heap.{Memory, with_cells, with_roots}
use Rattle.rules_stores.specs.Store.{is_chosen}
use Rattle.rules.specs.Tools.{tabulate}
use Rattle.rules_calls.specs.Calls.{Call, format, check, collect, free_blocks, allocate, store_root, store_cell, look, return_roots, open_collection, take_steps, allocate_data, write_number, read_number, write_reason, write_shape, Answer, last_memory, copy_from, copy_into, tests_heap, other_heap}
use Rattle.types.specs.declared.Reply.{Reply}
use Rattle.theory_memories.specs.Words.{heap_of}

-- what a return stores (request U10): 0 in each root of the set
unfoldable pub roots_without : (chosen : ℕ) → List ℕ → List ℕ
roots_without chosen roots = tabulate (length roots) (λ r. elim (is_chosen chosen r) [ true ↦ 0 | false ↦ get_or roots r 0 ])

-- "0 everywhere"
abbrev pub emptied : Memory → Memory
emptied h = with_cells (replicate (length h.cells) 0) (with_roots (replicate (length h.roots) 0) h)

-- "the roots and cells as they stood before the call, with what the call itself stores written in (0 everywhere for a call that formats
-- the heap) and nothing let go yet". An allocation stores the reference to the block that its reply gives.
unfoldable pub written : Memory → Call → Reply → Memory
written h format x = emptied h
written h (allocate n r) x = with_roots (set h.roots r (1 + x.value)) h
written h (store_root r v) x = with_roots (set h.roots r v) h
written h (store_cell at j v) x = with_cells (set h.cells (4 * at + j) v) h
written h check x = h
written h collect x = h
written h free_blocks x = h
written h (look at) x = h
written h open_collection x = h
written h (take_steps budget) x = h
written h (return_roots chosen) x = with_roots (roots_without chosen h.roots) h
written h (allocate_data n r) x = with_roots (set h.roots r (1 + x.value)) h
written h (write_number at j v) x = with_cells (set h.cells (4 * at + j) v) h
written h (read_number at j) x = h
written h (write_reason at room) x = h
written h (write_shape room) x = h
written h (copy_from K u first) x = emptied h
written h (copy_into M v second) x = h

-- a refused call stores nothing
unfoldable pub stored : Memory → Call → Reply → Memory
stored h call x = elim (eqb x.number 0) [ true ↦ written h call x | false ↦ h ]

-- An accepted copy into the heap (request U14): "formatted by the call, so that nothing that stood there lives
-- on". What it makes is new, even where an object of its first block and size stood before.
abbrev pub copied_over : Call → Reply → Bool
copied_over call x = elim (other_heap call) [ none ↦ false | some other ↦ not (tests_heap call) && eqb x.number 0 ]

-- a call as it was made: what was called, the lent numbers that it found, its reply, and the lent numbers after it
pub record Made : Type 0 where
  pub call : Call
  pub before : Memory
  pub reply : Reply
  pub after : Memory

-- the calls of a list as made, and their replies and memories in the form of answers
abbrev pub calls_of : List Made → List Call
calls_of made = map (λ m. m.call) made

abbrev pub answers_of : List Made → List Answer
answers_of made = map (λ m. (m.reply, m.after)) made

-- what is compared of answers: "each call's number and values, and every bit, cell and root after it"
abbrev pub compared : List Answer → List Answer
compared answers = map (λ x. (x.0, heap_of x.1)) answers

-- the memory that a list of calls leaves
abbrev pub left_by : Memory → List Made → Memory
left_by h made = last_memory h (answers_of made)
