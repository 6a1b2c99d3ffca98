-- `of_halves` meets its contract: its tests are the definition's.
use native.Mathlib.Omega.{arith}
use borrow.Author.Tests.{lt-ltb, le-ltb, eq-eqb, ne_eqb}
use Rattle.section_halves.specs.Figures.{of_halves}
use Rattle.section_halves.proofs.of_halves.Goals as goal

pub returns-then-lower-upper : goal.returns-then-lower-upper
unfolding of_halves
returns-then-lower-upper c =
    rw (lt-ltb c.args.lower c.args.upper c.if-lower-upper.true, of_halves)

pub returns-then-upper-half : goal.returns-then-upper-half
unfolding of_halves
returns-then-upper-half c =
    rw (le-ltb c.args.lower c.args.upper (omega arith), eq-eqb c.args.upper c.args.half c.if-upper-half.true, of_halves)

pub returns-else-upper-half : goal.returns-else-upper-half
unfolding of_halves
returns-else-upper-half c =
    rw (le-ltb c.args.lower c.args.upper (omega arith), ne_eqb c.args.upper c.args.half c.if-upper-half.false, of_halves)
