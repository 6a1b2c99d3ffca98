-- `section_of` meets its contract: a heap of less than 256 blocks is one section.
use native.Mathlib.Omega.{arith}
use Rattle.section_extents.proofs.UnknownFigures.{only_section, long_section}
use Rattle.section_extents.proofs.section_of.Goals as goal

pub returns-then-blocks-lt-MAX_SECTION : goal.returns-then-blocks-lt-MAX_SECTION
returns-then-blocks-lt-MAX_SECTION c = only_section c.args.blocks c.args.i (omega arith) c.requires

pub returns-else-blocks-lt-MAX_SECTION : goal.returns-else-blocks-lt-MAX_SECTION
returns-else-blocks-lt-MAX_SECTION c = long_section c.args.blocks c.args.i (omega arith)
