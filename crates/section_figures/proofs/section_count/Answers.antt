-- `section_count` meets its contract: a heap of less than 256 blocks is one section.
use native.Mathlib.Omega.{arith}
use Rattle.section_figures.proofs.SectionPlaces.{small_count}
use Rattle.section_figures.proofs.section_count.Goals as goal

pub returns-then-blocks-lt-MAX_SECTION : goal.returns-then-blocks-lt-MAX_SECTION
returns-then-blocks-lt-MAX_SECTION c = small_count c.args.blocks c.requires (omega arith)
