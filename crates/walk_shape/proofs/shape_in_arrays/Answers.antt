-- `walk_shape::shape_in_arrays` meets its contract.
use mathlib.Core.Path.{◌≡◌, refl, ap, ◌∙◌}
use native.Mathlib.Omega.{arith}
use lib.ListN.{length}
use Rattle.rules_output.specs.Walk.{numbered}
use Rattle.rules_output.specs.Shape.{shape_of}
use Rattle.text.proofs.Writing.{put_as}
use Rattle.walk_objects.specs.Walking.{Walked, walked_heap}
use Rattle.walk_objects.proofs.Beginning.{trace_begins}
use Rattle.walk_objects.proofs.TracedHeap.{all_walked}
use Rattle.walk_shape.proofs.Bridge.{met_few, list_ready, shape_written}
use Rattle.walk_shape.proofs.shape_in_arrays.Goals.{After-trace_all-met, After-shape_length}
use Rattle.walk_shape.proofs.shape_in_arrays.Given as given
use Rattle.walk_shape.proofs.shape_in_arrays.Goals as goal

pub trace_all-met-requires : goal.trace_all-met-requires
trace_all-met-requires g c = (c.requires.0, trace_begins c.args.blocks g.row.PLACES c.requires.0.small c.requires.1)

-- what is met
met : (g : given.Over) (c : After-trace_all-met g) → Walked c.args.blocks (numbered c.args.blocks (walked_heap c.args.a.now c.args.b.now c.args.d.now c.args.cells.now c.args.roots.now))
    c.trace_all-met.new.order c.trace_all-met.new.numbers c.trace_all-met.result
met g c =
    all_walked c.args.blocks c.args.a.now c.args.b.now c.args.d.now c.args.cells.now c.args.roots.now c.requires.0.named
    _ _ _ _ _ c.trace_all-met.ensures

pub shared_whole_as_front-order : goal.shared_whole_as_front-order
shared_whole_as_front-order g c =
    (omega (arith, met_few c.requires.0 (met g (goal.at.shared_whole_as_front-order g c).After-trace_all-met)), omega arith)

pub shape_length-requires : goal.shape_length-requires
shape_length-requires g c =
    let list = list_ready c.requires.0 (met g (goal.at.shape_length-requires g c).After-trace_all-met) in
    (list.ordered, list.few_roots)

-- how long the list is
long : (g : given.Over) (c : After-shape_length g)
    → c.shape_length.result ≡ length (shape_of c.args.blocks (walked_heap c.args.a.now c.args.b.now c.args.d.now c.args.cells.now c.args.roots.now))
long g c =
    c.shape_length.ensures c.args.d.now c.args.cells.now c.trace_all-met.new.numbers ∙ ap length (shape_written c.requires.0 (met g (goal.at.After-shape_length g c).After-trace_all-met))

pub returns-then-out-shape_length : goal.returns-then-out-shape_length
returns-then-out-shape_length g c = (omega (arith, long g (goal.at.returns-then-out-shape_length g c).After-shape_length), refl)

pub write_shape-requires : goal.write_shape-requires
write_shape-requires g c = (
  list_ready c.requires.0 (met g (goal.at.write_shape-requires g c).After-trace_all-met),
  omega (arith, c.shape_length.ensures c.args.d.now c.args.cells.now c.trace_all-met.new.numbers),
)

pub returns : goal.returns
returns g c = (
  omega (arith, long g (goal.at.returns g c).After-shape_length),
  put_as (shape_written c.requires.0 (met g (goal.at.returns g c).After-trace_all-met)) refl c.write_shape.ensures,
)
