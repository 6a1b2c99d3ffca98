use native.Mathlib.Omega.{arith}
use Rattle.walk_objects.proofs.Linking.{link_more, link_end}
use Rattle.walk_objects.proofs.links_to.Goals as goal

pub loop-object-preserved : goal.loop-object-preserved
loop-object-preserved c =
    link_more _ _ _ _ _ _ c.loop-object-test.true (omega (arith, c.requires.3, c.loop-object.auto.links)) c.requires.4 c.loop-object.invariant

pub returns : goal.returns
returns c = link_end _ _ _ _ _ _ c.loop-object-test.false c.loop-object.invariant
