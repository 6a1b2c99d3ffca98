-- `write_extent` meets its contract: the figures that may change are unknown.
use Rattle.section_extents.proofs.UnknownFigures.{coherent_filled, extent_inside, one_small}
use Rattle.section_extents.proofs.write_extent.Goals as goal

pub write_extent-requires : goal.write_extent-requires
write_extent-requires c = extent_inside _ c.args.b.now c.requires

pub returns : goal.returns
returns c =
    (c.write_extent.ensures.0, c.write_extent.ensures.1, coherent_filled (one_small c.args.used) c.requires.0 c.forget.ensures c.write_extent.ensures.0)
