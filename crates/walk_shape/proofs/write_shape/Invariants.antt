-- `walk_shape::write_shape` meets its contract.
use Rattle.text.specs.Text.{Put}
use Rattle.walk_shape.specs.Listing.{shape_up_to}
use Rattle.walk_shape.proofs.write_shape.Given as goal

abbrev pub invariant-loop-reference : goal.invariant-loop-reference
invariant-loop-reference l =
    Put l.fn.out 0 (shape_up_to l.blocks l.b l.d l.cells l.roots l.order l.numbers l.reference-index) l.out l.to
