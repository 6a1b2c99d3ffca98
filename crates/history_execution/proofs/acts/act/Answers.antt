-- `acts::act` meets its contract: each plan's call is the one made.
use Rattle.history_turns.proofs.Turns.{acted_plan}
use Rattle.history_turns.proofs.Stores.{acted_stop, acted_root, acted_cell, acted_number}
use Rattle.history_turns.proofs.Collections.{acted_collect}
use Rattle.history_execution.proofs.acts.act.Goals as goal

pub allocate-requires : goal.allocate-requires
allocate-requires c = c.requires

pub store_root-requires : goal.store_root-requires
store_root-requires c = c.requires

pub store_cell-requires : goal.store_cell-requires
store_cell-requires c = c.requires

pub collect-requires : goal.collect-requires
collect-requires c = c.requires

pub write_number-requires : goal.write_number-requires
write_number-requires c = c.requires

pub returns-in-Stop : goal.returns-in-Stop
returns-in-Stop c = acted_plan _ c.in-Stop.is (acted_stop _)

pub returns-in-Allocate : goal.returns-in-Allocate
returns-in-Allocate c =
    acted_plan _ c.in-Allocate.is c.allocate.ensures

pub returns-in-StoreRoot : goal.returns-in-StoreRoot
returns-in-StoreRoot c =
    acted_plan _ c.in-StoreRoot.is (rw c.into.ensures (acted_root c.requires c.store_root.ensures))

pub returns-in-StoreCell : goal.returns-in-StoreCell
returns-in-StoreCell c =
    acted_plan _ c.in-StoreCell.is (rw c.into-in-StoreCell.ensures (acted_cell c.requires c.store_cell.ensures))

pub returns-in-Collect : goal.returns-in-Collect
returns-in-Collect c =
    acted_plan _ c.in-Collect.is (rw c.done_by_collection.ensures (acted_collect c.requires c.collect.ensures))

pub returns-in-WriteNumber : goal.returns-in-WriteNumber
returns-in-WriteNumber c =
    acted_plan _ c.in-WriteNumber.is (rw c.into-in-WriteNumber.ensures (acted_number c.requires c.write_number.ensures))
