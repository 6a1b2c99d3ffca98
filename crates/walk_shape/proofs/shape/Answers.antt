-- `walk_shape::shape` meets its contract.
use Rattle.walk_objects.proofs.Beginning.{walkable}
use Rattle.walk_shape.proofs.Bridge.{refused_short, accepted_long}
use Rattle.walk_shape.proofs.shape.Goals as goal

pub shape_in-requires : goal.shape_in-requires
shape_in-requires c = walkable c.requires

pub returns-in-None : goal.returns-in-None
returns-in-None c = refused_short c.requires _ c.in-None.ensures c.into.ensures

pub returns-in-Some : goal.returns-in-Some
returns-in-Some c = accepted_long c.requires _ c.in-Some.ensures c.acceptance.ensures
