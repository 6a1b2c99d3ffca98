-- Requests U1 and U5: the six figures of a run, as they grow by each call as it was made and by each record.
use Rattle.std.specs.Prelude.{ℕ, ◌+◌, ◌*◌, max, Bool, true, false, List, [], ◌∷◌, eqb, leb}
use Rattle.rules.specs.Tools.{all}
use Rattle.rules.specs.Heap.{max_blocks}
use Rattle.rules_calls.specs.Calls.{
  Call,
  format,
  check,
  collect,
  free_blocks,
  allocate,
  store_root,
  store_cell,
  look,
  return_roots,
  allocate_data,
  write_number,
  read_number,
  open_collection,
  take_steps,
  write_reason,
  write_shape,
  copy_from,
  copy_into,
}
use Rattle.types.specs.declared.Reply.{Reply}
use Rattle.theory.specs.CallWords.{Made}
use Rattle.history_figures.specs.declared.tally.Tally.{Tally}
use Rattle.history_figures.specs.declared.tally.Run.{Run}

abbrev pub tally : (allocations blocks largest collections peak stuck : ℕ) → Tally
tally allocations blocks largest collections peak stuck =
    record { allocations = allocations; blocks = blocks; largest = largest; collections = collections; peak = peak; stuck = stuck }

-- "an empty file gives five zeros", and 0 for U5's figure
abbrev pub no_figures : Tally
no_figures = tally 0 0 0 0 0 0

-- "accepted allocations, blocks allocated in all, largest accepted size": one of n blocks more
abbrev pub allocated : (n : ℕ) → Tally → Tally
allocated n t = tally (t.allocations + 1) (t.blocks + n) (max t.largest n) t.collections t.peak t.stuck

-- "full collections forced or recorded": one more
abbrev pub collected : Tally → Tally
collected t = tally t.allocations t.blocks t.largest (t.collections + 1) t.peak t.stuck

-- n blocks more, by no allocation
abbrev pub copied : (n : ℕ) → Tally → Tally
copied n t = tally t.allocations (t.blocks + n) t.largest t.collections t.peak t.stuck

-- "most blocks in use after any record": n are in use after this one
abbrev pub used : (n : ℕ) → Tally → Tally
used n t = tally t.allocations t.blocks t.largest t.collections (max t.peak n) t.stuck

-- request U5: "the number of such moments": one more
abbrev pub became_stuck : Tally → Tally
became_stuck t = tally t.allocations t.blocks t.largest t.collections t.peak (t.stuck + 1)

-- what an accepted call adds; an allocation of data adds what another adds. A collection in small steps is no full one (request U8).
unfoldable pub counted_in : Call → Reply → Tally → Tally
counted_in (allocate n r) x t = allocated n t
counted_in collect x t = collected t
counted_in format x t = t
counted_in check x t = t
counted_in free_blocks x t = t
counted_in (store_root r v) x t = t
counted_in (store_cell at j v) x t = t
counted_in (look at) x t = t
counted_in (return_roots chosen) x t = t
counted_in (allocate_data n r) x t = allocated n t
counted_in (write_number at j v) x t = t
counted_in (read_number at j) x t = t
counted_in open_collection x t = t
counted_in (take_steps budget) x t = t
counted_in (write_reason at room) x t = t
counted_in (write_shape room) x t = t
-- no record makes a copy (request U14), which would allocate the blocks that it tells of
counted_in (copy_from K u first) x t = copied x.value t
counted_in (copy_into M v second) x t = t

-- "Every store and allocation passes the fact on": it is their second value
unfoldable pub told_stuck : Call → Reply → Bool
told_stuck (allocate n r) x = eqb x.second 1
told_stuck (store_root r v) x = eqb x.second 1
told_stuck (store_cell at j v) x = eqb x.second 1
told_stuck format x = false
told_stuck check x = false
told_stuck collect x = false
told_stuck free_blocks x = false
told_stuck (look at) x = false
told_stuck (return_roots chosen) x = false
told_stuck (allocate_data n r) x = eqb x.second 1
told_stuck (write_number at j y) x = false
told_stuck (read_number at j) x = false
told_stuck open_collection x = false
told_stuck (take_steps budget) x = false
told_stuck (write_reason at room) x = false
told_stuck (write_shape room) x = false
told_stuck (copy_from K u first) x = false
told_stuck (copy_into M v second) x = false

unfoldable pub moment_in : Bool → Tally → Tally
moment_in moment t = elim moment [ true ↦ became_stuck t | false ↦ t ]

-- what a call as made adds: a refused one nothing
unfoldable pub noted : Made → Tally → Tally
noted m t = elim (eqb m.reply.number 0) [ true ↦ moment_in (told_stuck m.call m.reply) (counted_in m.call m.reply t) | false ↦ t ]

unfoldable pub noted_all : List Made → Tally → Tally
noted_all [] t = t
noted_all (m ∷ ms) t = noted_all ms (noted m t)

-- ---- where a run stands

-- the number that stopped it, or 0; how many records were run, which is also the number of the one that stopped it, "counting from 0"; the
-- figures
abbrev pub run : (number records : ℕ) → Tally → Run
run number records t = record { number = number; records = records; tally = t }

abbrev pub new_run : Run
new_run = run 0 0 no_figures

-- "going on past 4,294,967,295 records"
abbrev pub most_records : ℕ
most_records = 4294967295

-- no more collections than records, or one more: the record that stopped the run may have forced one
unfoldable pub most_collections : Run → ℕ
most_collections r = elim (eqb r.number 0) [ true ↦ r.records | false ↦ r.records + 1 ]

-- A run in range: no more records than there can be, and no more allocations, blocks, collections and objects that became stuck than these
-- records can have made.
unfoldable pub in_range : Run → Bool
in_range r =
    all
    (leb r.records most_records
    ∷ leb r.tally.allocations r.records
    ∷ leb r.tally.blocks (max_blocks * r.records)
    ∷ leb r.tally.stuck r.records
    ∷ leb r.tally.collections (most_collections r)
    ∷ [])
