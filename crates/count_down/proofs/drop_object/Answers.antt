-- `count_down::drop_object` meets its contract: what the cells that name others named is marked, they are dropped, and those behind them,
-- all of data, cleared.
use native.Mathlib.Omega.{arith}
use Rattle.map_objects.proofs.Cells.{clear_rest}
use Rattle.count_down.proofs.drop_object.Goals as goal

pub drop_cells-top-requires : goal.drop_cells-top-requires
drop_cells-top-requires c =
    (c.requires.0, c.requires.1, omega (arith, c.requires.2, c.requires.4, c.end_kind-named.ensures.1), omega (arith, c.end_kind-named.ensures.3))

pub returns : goal.returns
returns c = (
  rw (← c.end_kind-named.ensures.0) c.drop_cells-top.ensures.0,
  clear_rest _ _ _ _ c.end_kind-named.ensures.1 c.drop_cells-top.ensures.1 c.clear_cells.ensures,
  c.end_kind-named.ensures.2,
  rw (← c.end_kind-named.ensures.0) c.shade_freed.ensures,
)
