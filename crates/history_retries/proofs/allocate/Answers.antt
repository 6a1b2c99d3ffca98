-- `allocate` meets its contract: one try, or a collection and a second one where no chunk was free.
use mathlib.Core.Path.{sym, ◌∙◌}
use mathlib.Core.Bool.{false≢true}
use Rattle.theory.proofs.Usable.UsableAfterCalls.{usable_kept}
use Rattle.history_turns.proofs.FirstTry.{allocation, acted_once}
use Rattle.history_turns.proofs.SecondTry.{freed_fits, acted_twice}
use Rattle.history_retries.proofs.allocate.Goals as goal

pub allocate-first-requires : goal.allocate-first-requires
allocate-first-requires c = c.requires

pub returns-then-not-found_no_chunk : goal.returns-then-not-found_no_chunk
returns-then-not-found_no_chunk c =
    rw c.done_after.ensures
    (acted_once c.requires (allocation c.args.as_data c.args.n c.args.r) c.allocate-first.ensures
    (λ five. false≢true (sym c.if-not-found_no_chunk.true ∙ c.found_no_chunk.ensures.1 five)))

pub collect-forced-requires : goal.collect-forced-requires
collect-forced-requires c =
    usable_kept c.requires c.allocate-first.ensures.promise

pub allocate-second-requires : goal.allocate-second-requires
allocate-second-requires c =
    usable_kept (usable_kept c.requires c.allocate-first.ensures.promise) c.collect-forced.ensures.promise

pub done_after_collection-requires : goal.done_after_collection-requires
done_after_collection-requires c =
    freed_fits c.requires (allocation c.args.as_data c.args.n c.args.r) c.allocate-first.ensures c.collect-forced.ensures c.allocate-second.ensures

pub returns : goal.returns
returns c =
    rw c.done_after_collection.ensures
    (acted_twice c.requires (allocation c.args.as_data c.args.n c.args.r) c.allocate-first.ensures c.collect-forced.ensures
    c.allocate-second.ensures (c.found_no_chunk.ensures.0 c.if-not-found_no_chunk.false))
