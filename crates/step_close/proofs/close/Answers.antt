-- `step_close::close` meets its contract.
use mathlib.Core.Path.{ap, ap₂, ◌∙◌}
use Prim.Native.Nat.{◌+◌}
use native.Mathlib.Omega.{arith}
use Rattle.step_close.specs.Close.{released, released_after}
use Rattle.step_close.proofs.close.Goals as goal

pub close_pass-pass-requires : goal.close_pass-pass-requires
close_pass-pass-requires c =
    (c.requires.0, c.requires.1, c.requires.2, c.requires.3, omega (arith, c.requires.4, c.requires.0.eighths))

pub release_all-more-requires : goal.release_all-more-requires
release_all-more-requires c =
    (c.close_pass-pass.ensures.3.planes, c.close_pass-pass.ensures.3.extents, c.close_pass-pass.ensures.3.stack, c.close_pass-pass.ensures.3.coherent, c.requires.4)

pub overflow_add-result : goal.overflow_add-result
overflow_add-result c =
    omega (arith, c.close_pass-pass.ensures.2, c.close_pass-pass.ensures.3.planes.most, c.release_all-more.ensures.5)

pub returns : goal.returns
unfolding released released_after
returns c = (
  c.release_all-more.ensures.0 ∙ ap (released c.args.blocks c.args.width) c.close_pass-pass.ensures.0,
  ap₂ ◌+◌ c.close_pass-pass.ensures.1 (c.release_all-more.ensures.1 ∙ ap (released_after c.args.blocks c.args.width) c.close_pass-pass.ensures.0),
  c.release_all-more.ensures.2,
  c.release_all-more.ensures.3.coherent,
)
