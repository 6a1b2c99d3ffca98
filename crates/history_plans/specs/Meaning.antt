-- What the code's plan of a record stands for. "Where an answer is an enum, a definition gives this paper's number and values for each of
-- its cases."
use Rattle.rules_calls.specs.Calls.{allocate_as, store_root, store_cell, collect, write_number}
use Rattle.history_plans.specs.declared.Plan.{Plan}
use Rattle.history_plans.specs.declared.Plan.TheVariants.{Stop, Allocate, StoreRoot, StoreCell, Collect, WriteNumber}
use Rattle.history_plans.specs.Asked.{Asked, makes, stops}

abbrev pub meaning : Plan → Asked
meaning (Stop number) = stops number
meaning (Allocate asData n r) = makes (allocate_as asData n r)
meaning (StoreRoot r v) = makes (store_root r v)
meaning (StoreCell at j v) = makes (store_cell at j v)
meaning Collect = makes collect
meaning (WriteNumber at j x) = makes (write_number at j x)
