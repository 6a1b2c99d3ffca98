-- What came of a record's calls, as numbers, and the run with it noted: for contracts of inner functions.
use Rattle.std.specs.Prelude.{ℕ, ◌+◌, ◌-◌, ◌^◌, ◌≤◌, ◌<◌, Bool, true, false, eqb}
use Rattle.types.specs.Told.{Came}
use Rattle.history_figures.specs.declared.tally.Tally.{Tally}
use Rattle.history_figures.specs.declared.tally.Run.{Run}
use Rattle.history_figures.specs.Figures.{allocated, collected, used, moment_in, run}
use Rattle.history_turns.specs.declared.outcome.Done.{Done}
use Rattle.history_turns.specs.declared.noting.Running.{Running}

abbrev pub running : Run → (used : ℕ) → Running
running r used = record { run = r; used = used }

abbrev pub done : (number allocated : ℕ) → (collected : Bool) → (freed : ℕ) → (stuck : Bool) → Done
done number allocated collected freed stuck =
    record { number = number; allocated = allocated; collected = collected; freed = freed; stuck = stuck }

-- what came of a call that is neither an allocation nor a collection
abbrev pub done_by : Came → Done
done_by came = done came.number 0 false came.freed came.stuck

-- what came of an allocation of n blocks: of its last try, and of a collection before that, if one was made, which freed so many blocks
unfoldable pub done_after : Came → (n : ℕ) → (collected : Bool) → (freed : ℕ) → Done
done_after last n collected freed =
    elim (eqb last.number 0) [
      | true ↦ done 0 n collected (freed + last.freed) last.stuck
      | false ↦ done last.number 0 collected (freed + last.freed) false
    ]

-- figures with a collection more, where one was made; with an allocation of n blocks more, where n is not 0
unfoldable pub with_collection : Done → Tally → Tally
with_collection d t = elim d.collected [ true ↦ collected t | false ↦ t ]

unfoldable pub with_allocation : Done → Tally → Tally
with_allocation d t = elim (eqb d.allocated 0) [ true ↦ t | false ↦ allocated d.allocated t ]

-- .. and with an object more that became stuck, where one did
abbrev pub figures_of : Done → Tally → Tally
figures_of d t = moment_in d.stuck (with_allocation d (with_collection d t))

-- what came of a record can be noted: nothing wraps
pub record CanNote (d : Done) (now : Running) : Type 0 where
  pub collections_fit : now.run.tally.collections + 1 < 2 ^ 64
  pub allocations_fit : now.run.tally.allocations + 1 < 2 ^ 64
  pub blocks_fit : now.run.tally.blocks + d.allocated < 2 ^ 64
  pub stuck_fits : now.run.tally.stuck + 1 < 2 ^ 64
  pub records_fit : now.run.records + 1 < 2 ^ 64
  pub used_fits : now.used + d.allocated < 2 ^ 64
  pub freed_few : d.freed ≤ now.used + d.allocated

-- the run with what came of a record noted
unfoldable pub noted_by : Done → Running → Running
noted_by d now =
    let figures = figures_of d now.run.tally in
    let blocks = now.used + d.allocated - d.freed in
    elim (eqb d.number 0) [
      | true ↦ running (run 0 (now.run.records + 1) (used blocks figures)) blocks
      | false ↦ running (run d.number now.run.records figures) blocks
    ]
