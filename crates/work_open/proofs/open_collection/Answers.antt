-- `work_open::open_collection` meets its contract.
use Prim.Native.Nat.{◌-◌}
use mathlib.Core.Path.{◌∙◌}
use Rattle.bitmap.proofs.Maps.{bytes_given}
use Rattle.work_open.proofs.Opening.{opened_by}
use Rattle.work_open.proofs.open_collection.Goals as goal

pub returns : goal.returns
returns c =
    opened_by c.args.blocks c.args.roots.now c.args.marks.now c.requires.0
    (bytes_given _ c.slice_known-1.given) c.requires.2
    (bytes_given _ c.slice_known-3-1.given) (c.name_all.auto.map ∙ c.requires.2) c.name_all.ensures
    c.write_list.ensures c.acceptance.ensures
