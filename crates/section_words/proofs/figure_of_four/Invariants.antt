-- `figure_of_four` meets its contract: `chunks` has the free chunks of 2 ^ k blocks, and some are.
use Rattle.std.proofs.Common.{ℕ, List}
use Rattle.section_words.specs.Words.{FourChunks, NoneOfFour}
use Rattle.section_words.proofs.figure_of_four.Given as goal

abbrev pub invariant-loop-size : goal.invariant-loop-size
invariant-loop-size l = (NoneOfFour l.chunks → ⊥) × ((a : List ℕ) (i : ℕ) → FourChunks 0 a i l.fn.free → FourChunks l.size-index a i l.chunks)
